-- Two timestamps of one form: as many bytes, and at each place the same byte or two digits.
use Rattle.std.proofs.Common.{◌≡◌, ℕ, ◌+◌, ◌-◌, ◌*◌, ◌<◌, ◌≤◌, ◌⊎◌, inl, inr, true, false, List, length, get_or, sym, ap, ◌∙◌, subst, arith}
use Rattle.std.proofs.lemmas.Bool.{cases_lt, lt-ltb, ltb-true}
use Rattle.rv_text.specs.declared.runs.ByteClass.TheVariants as kinds
use Rattle.rv_text.specs.Places.{is_digit}
use Rattle.rv_text.proofs.LeastLemmas.{run_end-is, run_end-stop}
use Rattle.rv_matches.specs.declared.short_times.TheConstants.{SHORT}
use Rattle.rv_matches.specs.declared.words.TheConstants.{LONGEST}
use Rattle.rv_matches.specs.Times.{is_time, point_in, time_of}
use Rattle.rv_matches.specs.inner.Times.{digit_at}
use Rattle.rv_matches.proofs.ShortLemmas.{parts_time, whole_time}
use Rattle.rv_matches.proofs.SpelledLemmas.{before_by}
use Rattle.rv_matches.proofs.TimeLemmas.{before_digit, digit-low, digit_read, each_digit, point_high, zeros_before}

-- no digit stands at the point
pub point_no_digit : (stamp : List ℕ) → point_in stamp < length stamp → is_digit (get_or stamp (point_in stamp) 0) ≡ false
point_no_digit stamp inside = run_end-stop kinds.Digit stamp 0 (omega arith) inside

module _ (old new : List ℕ) (short : length old ≤ SHORT) (long : length new ≡ length old) (time : is_time old ≡ true)
    (kept : (k : ℕ) → k < length old → is_digit (get_or old k 0) ≡ false → get_or new k 0 ≡ get_or old k 0)
    (digits : (k : ℕ) → k < length old → is_digit (get_or old k 0) ≡ true → is_digit (get_or new k 0) ≡ true) where
  -- the point stands at the same place
  same_point : point_in new ≡ point_in old
  same_point = run_end-is kinds.Digit new 0 (point_in old) (omega arith) (omega (arith, long, point_high old))
      (λ k low high. digits k (omega (arith, point_high old)) (before_digit old k high))
      (λ inside.
      let within : point_in old < length old = omega (arith, long) in
      let other = point_no_digit old within in
      ap is_digit (kept (point_in old) within other) ∙ other)

  -- so it can be compared too
  pub like_time : is_time new ≡ true
  like_time = elim (cases_lt (point_in old) (length old)) [
    | inl within ↦ parts_time new (omega (arith, long)) (run_end-is kinds.Digit new (point_in new + 1) (length new) (omega (arith, long, same_point)) (omega arith)
        (λ k low high. digits k (omega (arith, long)) (each_digit old time k (omega (arith, long)) (λ e. absurd (omega (arith, same_point)))))
        (λ h. absurd (omega arith)))
    | inr past ↦ whole_time new (omega (arith, long)) (omega (arith, long, same_point, point_high old))
  ]

  module _ (at place : ℕ) (inside : at < length old) (before : (k : ℕ) → k < at → get_or new k 0 ≡ get_or old k 0) (here : LONGEST ≤ point_in old + place)
      (side : ((at ≡ point_in old + place - LONGEST) × (at < point_in old)) ⊎ ((at ≡ point_in old + place - LONGEST + 1) × (point_in old < at))) where
    -- the digits before the place are the same
    digits_before : (k : ℕ) → k < place → digit_at old k ≡ digit_at new k
    digits_before k low = elim (cases_lt (point_in old + k) LONGEST) [
      | inl zero ↦ zeros_before old k zero ∙ sym (zeros_before new k (omega (arith, same_point)))
      | inr some ↦ elim (cases_lt (point_in old + k - LONGEST) (point_in old)) [
        | inl front ↦ same k (point_in old + k - LONGEST) some (inl (omega arith, front)) (elim side [ inl s ↦ omega (arith, s.0) | inr s ↦ omega (arith, s.0, s.1) ])
        | inr behind ↦ same k (point_in old + k - LONGEST + 1) some (inr (omega arith, omega arith)) (elim side [ inl s ↦ absurd (omega (arith, s.0, s.1)) | inr s ↦ omega (arith, s.0) ])
      ]
    ]
      where
        same : (k j : ℕ) → LONGEST ≤ point_in old + k → ((j ≡ point_in old + k - LONGEST) × (j < point_in old)) ⊎ ((j ≡ point_in old + k - LONGEST + 1) × (point_in old < j)) → j < at → digit_at old k ≡ digit_at new k
        same k j some its low =
            sym (digit_read old k j some its) ∙ ap (λ (b : ℕ). b - 48) (sym (before j low))
            ∙ digit_read new k j (omega (arith, same_point)) (subst (λ p. ((j ≡ p + k - LONGEST) × (j < p)) ⊎ ((j ≡ p + k - LONGEST + 1) × (p < j))) (sym same_point) its)

    -- a larger digit there is that of a later time
    pub like_later : get_or old at 0 < get_or new at 0 → is_digit (get_or old at 0) ≡ true → time_of old < time_of new
    like_later less digit =
        let one : get_or old at 0 - 48 ≡ digit_at old place = digit_read old place at here side in
        let other : get_or new at 0 - 48 ≡ digit_at new place = digit_read new place at (omega (arith, same_point)) (subst (λ p. ((at ≡ p + place - LONGEST) × (at < p)) ⊎ ((at ≡ p + place - LONGEST + 1) × (p < at))) (sym same_point) side) in
        let low : 48 ≤ get_or old at 0 = digit-low (get_or old at 0) digit in
        let larger : digit_at old place < digit_at new place = omega (arith, one, other) in
        let within : place < 2 * LONGEST = elim side [ inl s ↦ omega (arith, s.0) | inr s ↦ omega (arith, s.0) ] in
        ltb-true (time_of old) (time_of new) (sym (before_by old new time like_time place within digits_before (λ e. absurd (omega (arith, e)))) ∙ lt-ltb (digit_at old place) (digit_at new place) larger)
