-- The whole generated trace is read and routed, line after line.
use Rattle.std.proofs.Common.{◌≡◌, ℕ, zero, suc, ◌+◌, ◌-◌, ◌*◌, ◌/◌, ◌%◌, ◌<◌, ◌≤◌, List, [], ◌∷◌, ◌++◌, length, take, get_or, Ok, refl, sym, ◌∙◌, ap, ap₂, subst, arith}
use Rattle.std.specs.Prelude.{All, replicate}
use Rattle.std.proofs.lemmas.List.{drop_at, take_at}
use Rattle.std.proofs.lemmas.List.Elements.{All-nil}
use Rattle.rv_text.specs.Places.{between}
use Rattle.rv_text.specs.Readings.{and_then}
use Rattle.rv_text.specs.TextLines.{select, lines_at, lines_from, lines_of}
use Rattle.rv_model.specs.Numbers.{list_of}
use Rattle.rv_trace.specs.declared.line.TraceLine.{TraceLine}
use Rattle.rv_trace.specs.Lines.{moved_line}
use Rattle.rv_trace.specs.Streams.{StandsAt}
use Rattle.rv_trace.specs.Traces.{all_read, trace_of}
use Rattle.rv_trace.proofs.StreamLemmas.{stands-first}
use Rattle.rv_trace.proofs.TraceLemmas.{trace_of-lies}
use Rattle.rv_gen.proofs.LengthLemmas.{lines-short}
use Rattle.rv_route.specs.Asking.{ask_of}
use Rattle.rv_route.specs.LineByLine.{Routes, no_lane, no_routes, line_routes, routes_of}
use Rattle.rv_route.proofs.MoveLemmas.{routes_of-more, line_routes-moved}
use Rattle.rv_route.proofs.RoutingLemmas.{line-last}
use Rattle.rv_bind.specs.RuleValues.{OnValue}
use Rattle.rv_generated.specs.GeneratedBound.{generated_bound}
use Rattle.rv_generated.proofs.SaidLemmas.{Says}
use Rattle.rv_generated.proofs.TextLemmas.{HasDigits, has-digits, event_name, event_more, line_bytes, line-clean, line-is}
use Rattle.rv_generated.proofs.GrowLemmas.{no-end, stands-more, read-more, first_lines, lines-grow, line-says}
use Rattle.rv_generated.proofs.TaskLemmas.{no-task}
use Rattle.rv_generated.proofs.AskLemmas.{AskOwn, asked, asks-own}
use Rattle.rv_generated.proofs.OwnLemmas.{IsOwn, KeepsOwn, wider, rules-own}

-- a text of so many lines is read and routed, each delivery where it belongs
pub record IsReached (text : List ℕ) (k : ℕ) : Type 0 where
  pub lines : List TraceLine
  pub routes : Routes
  pub stands : StandsAt text (k + 1)
  pub read : trace_of text ≡ Ok lines
  pub routed : routes_of text generated_bound.monitors generated_bound.rules lines no_routes ≡ Ok routes
  pub own : KeepsOwn (3 * k) routes

-- nothing is routed yet
none-own : KeepsOwn 0 no_routes
unfolding no_routes
none-own = record { count = omega arith; tasks = no-task; many = refl; lanes = λ cpu. none cpu 64 cpu }
  where
    none : (cpu n place : ℕ) → All (IsOwn [] cpu) (get_or (replicate n no_lane) place no_lane).deliveries
    none cpu zero place = All-nil (IsOwn [] cpu)
    none cpu (suc n) zero = All-nil (IsOwn [] cpu)
    none cpu (suc n) (suc place) = none cpu n place

-- no line is read
none-reached : IsReached (first_lines 0) 0
unfolding list_of trace_of lines_of lines_from lines_at select all_read routes_of
none-reached = record { lines = []; routes = no_routes; stands = stands-first; read = refl; routed = refl; own = none-own }

module _ (text : List ℕ) (k : ℕ) (few : k < 1000000) (has : HasDigits (k % 8)) (reached : IsReached text k) where
  -- the bytes of the next line
  abbrev bytes : List ℕ
  bytes = line_bytes (k % 8) has k (k / 8 % 8)

  -- they stand behind the lines before
  piece : bytes ≡ between (text ++ (bytes ++ 10 ∷ [])) (length text) (length text + length bytes)
  piece =
      let count : length text + length bytes - length text ≡ length bytes = omega arith in
      sym (ap₂ (λ n rest. take n rest) count (drop_at text (bytes ++ 10 ∷ []) (length text) refl) ∙ take_at bytes (10 ∷ []) (length bytes) refl)

  -- what the line says
  said : Says bytes (k + 1) (has.last - 48) (event_name (k / 8 % 8)) (32 ∷ event_more has (k / 8 % 8))
  said = line-says k (k % 8) (k / 8 % 8) (k + 1) has

  -- the line is of its CPU
  own-cpu : said.line.cpu ≡ k % 8
  own-cpu = said.cpu_is ∙ has.number

  -- what the rules ask for on it
  asks-are : (rule : OnValue) → ask_of bytes said.line generated_bound.monitors rule ≡ asked (k % 8) (omega arith) has said.line own-cpu (k / 8 % 8) rule
  unfolding ask_of
  asks-are rule = rw (said.name_is, said.fields_are) refl

  -- one more line is read and routed
  next-reached : length (text ++ (bytes ++ 10 ∷ [])) ≤ 134217728 → IsReached (text ++ (bytes ++ 10 ∷ [])) (suc k)
  next-reached short =
      let none = no-end bytes (line-clean (k % 8) has k (k / 8 % 8)) in
      let low : said.line.cpu < 8 = omega (arith, own-cpu) in
      let read = read-more text bytes (k + 1) reached.stands none (omega arith) short said.line said.says reached.lines reached.read in
      let own : KeepsOwn (3 * k) reached.routes = reached.own in
      let done = rules-own bytes said.line generated_bound.monitors low (asked (k % 8) (omega arith) has said.line own-cpu (k / 8 % 8)) asks-are generated_bound.rules 3 (3 * k) reached.routes (omega arith)
      (subst (λ (c : ℕ). AskOwn c (asked (k % 8) (omega arith) has said.line own-cpu (k / 8 % 8)) 3 generated_bound.rules) (sym own-cpu) (asks-own (k % 8) (omega arith) has said.line own-cpu (k / 8 % 8))) own in
      record {
        lines = reached.lines ++ moved_line (length text) said.line ∷ [];
        routes = done.0;
        stands = (let next : k + 1 + 1 ≡ suc k + 1 = omega arith in subst (StandsAt (text ++ (bytes ++ 10 ∷ []))) next (stands-more text bytes (k + 1) reached.stands none (omega arith)));
        read = read;
        routed = line-last (text ++ (bytes ++ 10 ∷ [])) generated_bound.monitors generated_bound.rules reached.lines (moved_line (length text) said.line) no_routes
            ∙ ap (λ r. and_then r (line_routes (text ++ (bytes ++ 10 ∷ [])) (moved_line (length text) said.line) generated_bound.monitors generated_bound.rules))
            (routes_of-more text (bytes ++ 10 ∷ []) generated_bound.monitors generated_bound.rules reached.lines no_routes (trace_of-lies text reached.lines reached.read) ∙ reached.routed)
            ∙ line_routes-moved (text ++ (bytes ++ 10 ∷ [])) bytes (length text) said.line generated_bound.monitors generated_bound.rules reached.routes said.lies piece
            ∙ done.1;
        own = wider (3 * k + 3) (3 * suc k) done.0 (omega arith) done.2;
      }

-- so many lines are read and routed
pub lines-reached : (k : ℕ) → k ≤ 1000000 → IsReached (first_lines k) k
lines-reached zero few = none-reached
lines-reached (suc k) few =
    let has : HasDigits (k % 8) = has-digits (k % 8) (omega arith) in
    let same : first_lines (suc k) ≡ first_lines k ++ (line_bytes (k % 8) has k (k / 8 % 8) ++ 10 ∷ []) = lines-grow k ∙ ap (λ line. first_lines k ++ line) (line-is k has) in
    let short : length (first_lines k ++ (line_bytes (k % 8) has k (k / 8 % 8) ++ 10 ∷ [])) ≤ 134217728 = omega (arith, ap length same, lines-short (suc k)) in
    subst (λ text. IsReached text (suc k)) (sym same) (next-reached (first_lines k) k (omega arith) has (lines-reached k (omega arith)) short)
