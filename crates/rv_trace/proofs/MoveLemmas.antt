-- A line says the same wherever it stands in a text.
use Rattle.std.proofs.Common.{◌≡◌, ℕ, ◌+◌, Bool, true, false, cond, List, length, Option, Some, None, Result, Ok, Err, refl, sym, ◌∙◌, ap, arith}
use Rattle.std.specs.Option.{ok_or}
use Rattle.rv_text.specs.Readings.{and_then}
use Rattle.rv_text.specs.declared.numbers.TheConstants.{TRACE_SYNTAX, LOST_EVENTS, TOO_MANY_CPUS}
use Rattle.rv_text.specs.declared.refusals.Refusal.{Refusal}
use Rattle.rv_trace.specs.declared.parts.LinePart.{LinePart}
use Rattle.rv_trace.specs.declared.parts.Parts.{Parts}
use Rattle.rv_trace.specs.declared.line.TraceLine.{TraceLine}
use Rattle.rv_trace.specs.Lines.{is_skipped, is_lost, parts_of, head_pid, cpu_of, line_with, said, line_of, moved_line, moved}

-- under a choice
pub moved-cond : (by : ℕ) (b : Bool) (x y : Result (Option TraceLine) Refusal) → moved by (cond b x y) ≡ cond b (moved by x) (moved by y)
moved-cond by true x y = refl
moved-cond by false x y = refl

-- what a line with its numbers says, where either may be missing
both-moved : (by : ℕ) (pid cpu : Option ℕ) (no_pid no_cpu : Refusal) (here there : ℕ → ℕ → TraceLine) → ((p c : ℕ) → here p c ≡ moved_line by (there p c)) →
    and_then (and_then (ok_or pid no_pid) (λ p. and_then (ok_or cpu no_cpu) (λ c. Ok (here p c)))) (λ line. Ok (Some line))
    ≡ moved by (and_then (and_then (ok_or pid no_pid) (λ p. and_then (ok_or cpu no_cpu) (λ c. Ok (there p c)))) (λ line. Ok (Some line)))
both-moved by None cpu no_pid no_cpu here there same = refl
both-moved by (Some p) None no_pid no_cpu here there same = refl
both-moved by (Some p) (Some c) no_pid no_cpu here there same = ap (λ line. Ok (Some line)) (same p c)

-- a line with its numbers
line_with-moved : (text : List ℕ) (from number : ℕ) (name : LinePart) (pid cpu : ℕ) → line_with text from number name pid cpu ≡ moved_line from (line_with text 0 number name pid cpu)
line_with-moved text from number part pid cpu =
    let name : from + (0 + part.from) ≡ from + part.from = omega arith in
    let name_end : from + (0 + part.to) ≡ from + part.to = omega arith in
    let fields : from + (0 + (part.to + 1)) ≡ from + (part.to + 1) = omega arith in
    let end : from + (0 + length text) ≡ from + length text = omega arith in
    rw (name, name_end, fields, end) refl

-- what the parts say
parts-moved : (text : List ℕ) (from number : ℕ) (parts : Option Parts) (fault : Refusal) →
    and_then (ok_or parts fault) (λ p. and_then (said text from number p) (λ line. Ok (Some line)))
    ≡ moved from (and_then (ok_or parts fault) (λ p. and_then (said text 0 number p) (λ line. Ok (Some line))))
unfolding said
parts-moved text from number None fault = refl
parts-moved text from number (Some p) fault =
    both-moved from (head_pid text p.head) (cpu_of text p.head) (record { number = TRACE_SYNTAX; line = number }) (record { number = TOO_MANY_CPUS; line = number })
    (line_with text from number p.name) (line_with text 0 number p.name) (line_with-moved text from number p.name)

-- a line says the same wherever it stands
pub line_of-moved : (text : List ℕ) (from number : ℕ) → line_of text from number ≡ moved from (line_of text 0 number)
unfolding line_of
line_of-moved text from number =
    sym (moved-cond from (is_skipped text) _ _
    ∙ ap (cond (is_skipped text) (Ok None))
    (moved-cond from (is_lost text) _ _
    ∙ ap (cond (is_lost text) (Err (record { number = LOST_EVENTS; line = number })))
    (sym (parts-moved text from number (parts_of text) (record { number = TRACE_SYNTAX; line = number })))))
