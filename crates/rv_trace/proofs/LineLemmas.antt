-- What a line says, by the numbers that stand for those of its head.
use Rattle.std.proofs.Common.{◌≡◌, ℕ, ◌<◌, ◌≤◌, inl, inr, cond, List, Option, Some, None, Ok, Err, Result, refl, sym, ◌∙◌, ap, ap₂, arith}
use Rattle.std.specs.Option.{ok_or}
use Rattle.std.proofs.lemmas.Bool.{le-leb, lt-leb}
use Rattle.rv_text.specs.Decimal.{number_of}
use Rattle.rv_text.specs.Readings.{and_then}
use Rattle.rv_text.specs.declared.numbers.TheConstants.{TRACE_SYNTAX, TOO_MANY_CPUS}
use Rattle.rv_text.specs.declared.refusals.Refusal.{Refusal}
use Rattle.rv_trace.specs.declared.line.TheConstants.{LAST_PID}
use Rattle.rv_trace.specs.declared.line.TraceLine.{TraceLine}
use Rattle.rv_trace.specs.declared.parts.Parts.{Parts}
use Rattle.rv_trace.specs.inner.Runs.{CountsAs}
use Rattle.rv_trace.specs.Lines.{number_up_to, head_pid, cpu_of, line_with, said}

module _ (digits : List ℕ) (n limit : ℕ) (is : CountsAs n (number_of digits)) (small : limit ≤ LAST_PID) where
  -- a number up to the limit is the number
  pub up_to-within : n ≤ limit → Some n ≡ number_up_to digits limit
  unfolding number_up_to
  up_to-within within =
      let same : n ≡ number_of digits = elim is [ inl same ↦ same | inr large ↦ absurd (omega (arith, large.0)) ] in
      ap Some same ∙ sym (ap (λ b. cond b (Some (number_of digits)) None) (le-leb (number_of digits) limit (omega arith)))

  -- a number above the limit is none
  pub up_to-above : limit < n → None ≡ number_up_to digits limit
  unfolding number_up_to
  up_to-above above =
      let past : limit < number_of digits = elim is [ inl same ↦ omega arith | inr large ↦ omega (arith, large.1) ] in
      sym (ap (λ b. cond b (Some (number_of digits)) None) (lt-leb (number_of digits) limit past))

-- what is read of a line whose numbers may be missing
abbrev pub read_with : List ℕ → ℕ → ℕ → Parts → Option ℕ → Option ℕ → Result (Option TraceLine) Refusal
read_with text from number parts pid cpu =
    and_then (and_then (ok_or pid (record { number = TRACE_SYNTAX; line = number })) (λ p.
    and_then (ok_or cpu (record { number = TOO_MANY_CPUS; line = number })) (λ c. Ok (line_with text from number parts.name p c)))) (λ line. Ok (Some line))

module _ (text : List ℕ) (from number : ℕ) (parts : Parts) where
  -- what a line with these parts says
  abbrev pub read : Result (Option TraceLine) Refusal
  read = and_then (said text from number parts) (λ line. Ok (Some line))

  -- with the numbers of its head, what is read is what the line says
  read-with : (pid cpu : Option ℕ) → pid ≡ head_pid text parts.head → cpu ≡ cpu_of text parts.head → read_with text from number parts pid cpu ≡ read
  unfolding said
  read-with pid cpu is has = ap₂ (read_with text from number parts) is has

  -- no PID stands in the head
  pub read-no_pid : (refusal : Refusal) → refusal ≡ record { number = TRACE_SYNTAX; line = number } → None ≡ head_pid text parts.head → Err refusal ≡ read
  read-no_pid refusal same none = ap Err same ∙ read-with None (cpu_of text parts.head) none refl

  -- no CPU does
  pub read-no_cpu : (refusal : Refusal) (pid : ℕ) → refusal ≡ record { number = TOO_MANY_CPUS; line = number } → Some pid ≡ head_pid text parts.head → None ≡ cpu_of text parts.head → Err refusal ≡ read
  read-no_cpu refusal pid same is none = ap Err same ∙ read-with (Some pid) None is none

  -- both stand there
  pub read-line : (pid cpu : ℕ) → Some pid ≡ head_pid text parts.head → Some cpu ≡ cpu_of text parts.head → Ok (Some (line_with text from number parts.name pid cpu)) ≡ read
  read-line pid cpu is has = read-with (Some pid) (Some cpu) is has
