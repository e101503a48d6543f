-- Routing does not depend on where a line stands, nor on what follows.
use Rattle.std.proofs.Common.{◌≡◌, ℕ, ◌+◌, ◌-◌, ◌≤◌, List, [], ◌∷◌, ◌++◌, length, take, drop, refl, sym, ◌∙◌, ap, arith, length-drop}
use Rattle.std.specs.Prelude.{All}
use Rattle.std.proofs.lemmas.List.{take-take, take-append-le, drop-append-le, drop-drop, drop-take}
use Rattle.std.proofs.lemmas.List.Elements.{All-head, All-tail}
use Rattle.rv_text.specs.Places.{between}
use Rattle.rv_text.specs.Readings.{and_then}
use Rattle.rv_trace.specs.Lines.{LiesIn, moved_span, moved_line}
use Rattle.rv_trace.specs.declared.line.Span.{Span}
use Rattle.rv_trace.specs.declared.line.TraceLine.{TraceLine}
use Rattle.rv_bind.specs.declared.bindings.Monitor.{Monitor}
use Rattle.rv_bind.specs.RuleValues.{OnValue}
use Rattle.rv_route.specs.declared.asking.Ask.{Ask}
use Rattle.rv_route.specs.declared.asking.Ask.TheVariants as asks
use Rattle.rv_route.specs.Asking.{text_at, ask_of}
use Rattle.rv_route.specs.LineByLine.{Routes, answer, line_routes, routes_of}
use Rattle.rv_route.proofs.RoutingLemmas.{next-alike}

-- ---- pieces

-- a piece of a text is the same, whatever follows
piece-more : (text more : List ℕ) (span : Span) → span.from ≤ span.to → span.to ≤ length text → text_at (text ++ more) span ≡ text_at text span
piece-more text more span order within =
    let size : length (drop span.from text) ≡ length text - span.from = length-drop span.from text in
    ap (take (span.to - span.from)) (drop-append-le span.from text more (omega arith)) ∙ take-append-le (span.to - span.from) (drop span.from text) more (omega arith)

-- a piece of a line's own text is the same in a text that has the line in it
piece-moved : (text own : List ℕ) (by : ℕ) (span : Span) → own ≡ between text by (by + length own) → span.from ≤ span.to → span.to ≤ length own → text_at text (moved_span by span) ≡ text_at own span
piece-moved text own by span is order within =
    let size : by + length own - by ≡ span.from + (length own - span.from) = omega arith in
    let long : by + span.to - (by + span.from) ≡ span.to - span.from = omega arith in
    let rest : drop span.from own ≡ take (length own - span.from) (drop (by + span.from) text) =
    ap (drop span.from) (is ∙ ap (λ n. take n (drop by text)) size) ∙ drop-take span.from (length own - span.from) (drop by text) ∙ ap (take (length own - span.from)) (drop-drop span.from by text) in
    sym (ap (take (span.to - span.from)) rest ∙ take-take (span.to - span.from) (length own - span.from) (drop (by + span.from) text) (omega arith) ∙ ap (λ n. take n (drop (by + span.from) text)) (sym long))

-- ---- lines

-- a line whose pieces stand elsewhere
abbrev with_pieces : TraceLine → Span → Span → TraceLine
with_pieces line name fields = record line { name = name; fields = fields }

module _ (text other : List ℕ) (line : TraceLine) (name fields : Span) (same_name : text_at text name ≡ text_at other line.name) (same_fields : text_at text fields ≡ text_at other line.fields) (monitors : List Monitor) where
  -- a rule asks for the same where the pieces are the same bytes
  ask-alike : (rule : OnValue) → ask_of text (with_pieces line name fields) monitors rule ≡ ask_of other line monitors rule
  unfolding ask_of
  ask-alike rule = rw (same_name, same_fields) refl

  -- and it does the same
  answer-alike : (routes : Routes) (rule : OnValue) (ask : Ask) → answer routes (with_pieces line name fields) rule ask ≡ answer routes line rule ask
  answer-alike routes rule asks.Quiet = refl
  answer-alike routes rule (asks.Instance instance) = refl
  answer-alike routes rule (asks.Pid pid) = refl
  answer-alike routes rule asks.NoPid = refl

  -- so the line is routed alike
  line-alike : (rules : List OnValue) (routes : Routes) → line_routes text (with_pieces line name fields) monitors rules routes ≡ line_routes other line monitors rules routes
  unfolding line_routes
  line-alike [] routes = refl
  line-alike (rule ∷ rules) routes =
      let first : answer routes (with_pieces line name fields) rule (ask_of text (with_pieces line name fields) monitors rule) ≡ answer routes line rule (ask_of other line monitors rule) =
      answer-alike routes rule _ ∙ ap (answer routes line rule) (ask-alike rule) in
      ap (λ read. and_then read (line_routes text (with_pieces line name fields) monitors rules)) first ∙ next-alike _ _ _ (line-alike rules)

-- a line is routed alike by its own text and by a text that has it in it
pub line_routes-moved : (text own : List ℕ) (from : ℕ) (line : TraceLine) (monitors : List Monitor) (rules : List OnValue) (routes : Routes) → LiesIn own line → own ≡ between text from (from + length own) →
    line_routes text (moved_line from line) monitors rules routes ≡ line_routes own line monitors rules routes
line_routes-moved text own from line monitors rules routes lies is =
    line-alike text own line (moved_span from line.name) (moved_span from line.fields)
    (piece-moved text own from line.name is lies.name lies.name_end) (piece-moved text own from line.fields is lies.fields lies.fields_end)
    monitors rules routes

-- a line is routed alike, whatever follows its text
line_routes-more : (text more : List ℕ) (line : TraceLine) (monitors : List Monitor) (rules : List OnValue) (routes : Routes) → LiesIn text line →
    line_routes (text ++ more) line monitors rules routes ≡ line_routes text line monitors rules routes
line_routes-more text more line monitors rules routes lies =
    line-alike (text ++ more) text line line.name line.fields
    (piece-more text more line.name lies.name lies.name_end) (piece-more text more line.fields lies.fields lies.fields_end)
    monitors rules routes

-- and so are all lines
pub routes_of-more : (text more : List ℕ) (monitors : List Monitor) (rules : List OnValue) (lines : List TraceLine) (routes : Routes) → All (LiesIn text) lines →
    routes_of (text ++ more) monitors rules lines routes ≡ routes_of text monitors rules lines routes
unfolding routes_of
routes_of-more text more monitors rules [] routes lie = refl
routes_of-more text more monitors rules (line ∷ lines) routes lie =
    ap (λ read. and_then read (routes_of (text ++ more) monitors rules lines)) (line_routes-more text more line monitors rules routes (All-head (LiesIn text) line lines lie))
    ∙ next-alike _ _ _ (λ after. routes_of-more text more monitors rules lines after (All-tail (LiesIn text) line lines lie))
