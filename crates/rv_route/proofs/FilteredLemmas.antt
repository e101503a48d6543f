-- A line on which no rule fires is routed to nothing, so lines may be left out.
use Rattle.std.proofs.Common.{◌≡◌, ◌<◌, Bool, true, false, ◌||◌, List, ℕ, [], ◌∷◌, refl, sym, ap, ◌∙◌}
use Rattle.std.specs.Prelude.{Result, Ok, Err, filter}
use Rattle.std.proofs.lemmas.List.Kept.{AllPairs-filter}
use Rattle.rv_text.specs.declared.refusals.Refusal.{Refusal}
use Rattle.rv_text.specs.Readings.{and_then}
use Rattle.rv_trace.specs.declared.line.TraceLine.{TraceLine}
use Rattle.rv_bind.specs.declared.bindings.Monitor.{Monitor}
use Rattle.rv_bind.specs.RuleValues.{OnValue}
use Rattle.rv_route.specs.declared.asking.Ask.{Ask}
use Rattle.rv_route.specs.declared.asking.Ask.TheVariants as asks
use Rattle.rv_route.specs.Asking.{ask_of}
use Rattle.rv_route.specs.Laws.{is_fired_on, RoutedByFiredLines}
use Rattle.rv_route.specs.LineByLine.{Routes, answer, line_routes, routes_of, no_routes, routed_of}
use Rattle.rv_route.specs.Routing.{is_asked}
use Rattle.rv_route.proofs.FiredLemmas.{line_by_line}

-- neither of two tests holds
neither : (a b : Bool) → (a || b) ≡ false → (a ≡ false) × (b ≡ false)
neither true b e = absurd (let wrong : true ≡ false = e in cc)
neither false b e = (refl, e)

-- a rule that does not fire does nothing
quiet-answer : (routes : Routes) (line : TraceLine) (rule : OnValue) (ask : Ask) → is_asked ask ≡ false → answer routes line rule ask ≡ Ok routes
quiet-answer routes line rule asks.Quiet quiet = refl
quiet-answer routes line rule (asks.Instance i) quiet = absurd (let wrong : true ≡ false = quiet in cc)
quiet-answer routes line rule asks.NoPid quiet = absurd (let wrong : true ≡ false = quiet in cc)
quiet-answer routes line rule (asks.Pid pid) quiet = absurd (let wrong : true ≡ false = quiet in cc)

module _ (text : List ℕ) (monitors : List Monitor) where
  -- a line on which no rule fires does nothing
  quiet-line : (line : TraceLine) (rules : List OnValue) (routes : Routes) → is_fired_on monitors rules text line ≡ false → line_routes text line monitors rules routes ≡ Ok routes
  unfolding line_routes
  quiet-line line [] routes quiet = refl
  quiet-line line (rule ∷ rules) routes quiet =
      let both = neither (is_asked (ask_of text line monitors rule)) (is_fired_on monitors rules text line) quiet in
      ap (λ (r : Result Routes Refusal). and_then r (line_routes text line monitors rules)) (quiet-answer routes line rule (ask_of text line monitors rule) both.0) ∙ quiet-line line rules routes both.1

  module _ (rules : List OnValue) where
    -- what both go on with
    then-alike : (read : Result Routes Refusal) (f g : Routes → Result Routes Refusal) → ((routes : Routes) → f routes ≡ g routes) → and_then read f ≡ and_then read g
    then-alike (Ok routes) f g same = same routes
    then-alike (Err refusal) f g same = refl

    -- so such lines may be left out
    filtered : (lines : List TraceLine) (routes : Routes) → routes_of text monitors rules (filter (is_fired_on monitors rules text) lines) routes ≡ routes_of text monitors rules lines routes
    unfolding routes_of
    filtered [] routes = refl
    filtered (line ∷ lines) routes = go (is_fired_on monitors rules text line) refl (filtered lines)
      where
        go : (b : Bool) → is_fired_on monitors rules text line ≡ b → ((r : Routes) → routes_of text monitors rules (filter (is_fired_on monitors rules text) lines) r ≡ routes_of text monitors rules lines r)
            → routes_of text monitors rules (filter (is_fired_on monitors rules text) (line ∷ lines)) routes ≡ routes_of text monitors rules (line ∷ lines) routes
        go true fired rest = rw fired (then-alike (line_routes text line monitors rules routes) (routes_of text monitors rules (filter (is_fired_on monitors rules text) lines)) (routes_of text monitors rules lines) rest)
        go false quiet rest = rw quiet (rest routes ∙ ap (λ (r : Result Routes Refusal). and_then r (routes_of text monitors rules lines)) (sym (quiet-line line rules routes quiet)))

-- the lines on which rules fire are routed to what all lines are
pub routed_by_fired_lines : RoutedByFiredLines
routed_by_fired_lines text monitors rules lines ascend =
    line_by_line text monitors rules (filter (is_fired_on monitors rules text) lines) (AllPairs-filter (λ (l m : TraceLine). l.number < m.number) (is_fired_on monitors rules text) lines ascend)
    ∙ ap routed_of (filtered text monitors rules lines no_routes) ∙ sym (line_by_line text monitors rules lines ascend)
