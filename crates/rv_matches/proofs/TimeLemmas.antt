-- Timestamps by their digits: where each stands, and which bytes they are.
use Rattle.std.proofs.Common.{◌≡◌, ◌≢◌, ℕ, ◌+◌, ◌-◌, ◌<◌, ◌≤◌, ◌⊎◌, inl, inr, Bool, true, false, cond, eqb, leb, List, ◌++◌, length, get_or, take, drop, sym, ap, ap₂, ◌∙◌, subst, arith}
use Rattle.std.proofs.lemmas.Bool.{and_parts, cases_Bool, cases_eq, cases_lt, eq-eqb, le-ltb, leb-true, lt-ltb, ne_eqb}
use Rattle.std.proofs.lemmas.List.{get_or-drop, get_or-take, get_or_append_left, get_or_past, length-append, length-drop, length-take-le}
use Rattle.std.proofs.lemmas.Slice.{between_from_start, between_to_end}
use Rattle.std.proofs.Math.Seq.{get_or-append_right}
use Rattle.rv_text.specs.Decimal.{all_digits}
use Rattle.rv_text.specs.declared.runs.ByteClass.TheVariants as kinds
use Rattle.rv_text.specs.Places.{is_digit, run_end}
use Rattle.rv_text.proofs.DecimalLemmas.{all_digits-not, all_digits-each}
use Rattle.rv_text.proofs.LeastLemmas.{run_end-each, run_end-high, run_end-low, run_end-stop}
use Rattle.rv_matches.specs.declared.words.TheConstants.{LONGEST}
use Rattle.rv_matches.specs.Times.{decimals_in, digits_in, is_time, point_in}
use Rattle.rv_matches.specs.inner.Times.{digit_at}

-- digits at every place
digits-at : (text : List ℕ) (i : ℕ) → all_digits text ≡ true → i < length text → is_digit (get_or text i 0) ≡ true
digits-at text i all inside =
    elim (cases_Bool (is_digit (get_or text i 0))) [
      | inl so_it_is ↦ so_it_is
      | inr it_is_not ↦ let not : all_digits text ≡ false = all_digits-not text i inside it_is_not in cc
    ]

-- a digit is no more than 9
pub digit-high : (byte : ℕ) → is_digit byte ≡ true → byte - 48 ≤ 9
digit-high byte is = omega (arith, leb-true byte 57 (and_parts (leb 48 byte) (leb byte 57) is).1)

-- and no less than that of 0
pub digit-low : (byte : ℕ) → is_digit byte ≡ true → 48 ≤ byte
digit-low byte is = leb-true 48 byte (and_parts (leb 48 byte) (leb byte 57) is).0

-- what can be compared has only digits
time_digits : (stamp : List ℕ) → is_time stamp ≡ true → all_digits (digits_in stamp) ≡ true
time_digits stamp time = (and_parts (leb (length stamp) LONGEST) (all_digits (digits_in stamp)) time).1

module _ (stamp : List ℕ) where
  -- the digits before the point end in the timestamp
  pub point_high : point_in stamp ≤ length stamp
  point_high = run_end-high kinds.Digit stamp 0 (omega arith)

  -- the digits are those before the point and those behind it
  digits_are : digits_in stamp ≡ take (point_in stamp) stamp ++ drop (point_in stamp + 1) stamp
  digits_are = ap₂ (λ (a b : List ℕ). a ++ b) (between_from_start stamp (point_in stamp)) (between_to_end stamp (point_in stamp + 1) (length stamp) (omega arith))

  -- as many stand before the point
  whole_length : length (take (point_in stamp) stamp) ≡ point_in stamp
  whole_length = length-take-le (point_in stamp) stamp point_high

  -- how many digits there are
  pub digits_length : length (digits_in stamp) ≡ point_in stamp + decimals_in stamp
  digits_length =
      let both : length (digits_in stamp) ≡ length (take (point_in stamp) stamp) + length (drop (point_in stamp + 1) stamp) = ap length digits_are ∙ length-append (take (point_in stamp) stamp) (drop (point_in stamp + 1) stamp) in
      omega (arith, whole_length, length-drop (point_in stamp + 1) stamp)

  -- a digit before the point
  pub digit_before : (k : ℕ) → k < point_in stamp → get_or (digits_in stamp) k 0 ≡ get_or stamp k 0
  digit_before k inside =
      let within : k < length (take (point_in stamp) stamp) = omega (arith, whole_length) in
      ap (λ (ds : List ℕ). get_or ds k 0) digits_are
      ∙ get_or_append_left (take (point_in stamp) stamp) (drop (point_in stamp + 1) stamp) 0 k within
      ∙ get_or-take (point_in stamp) stamp k 0 inside

  -- a digit behind the point
  pub digit_behind : (k : ℕ) → point_in stamp ≤ k → get_or (digits_in stamp) k 0 ≡ get_or stamp (k + 1) 0
  digit_behind k behind =
      let past : length (take (point_in stamp) stamp) ≤ k = omega (arith, whole_length) in
      let place : point_in stamp + 1 + (k - length (take (point_in stamp) stamp)) ≡ k + 1 = omega (arith, whole_length) in
      ap (λ (ds : List ℕ). get_or ds k 0) digits_are
      ∙ get_or-append_right (take (point_in stamp) stamp) (drop (point_in stamp + 1) stamp) k 0 past
      ∙ get_or-drop (point_in stamp + 1) stamp (k - length (take (point_in stamp) stamp)) 0
      ∙ ap (λ (j : ℕ). get_or stamp j 0) place

  -- the bytes before the point are digits
  pub before_digit : (k : ℕ) → k < point_in stamp → is_digit (get_or stamp k 0) ≡ true
  before_digit k inside = run_end-each kinds.Digit stamp 0 k (omega arith) inside

  -- each byte but the point is a digit
  pub each_digit : is_time stamp ≡ true → (k : ℕ) → k < length stamp → k ≢ point_in stamp → is_digit (get_or stamp k 0) ≡ true
  each_digit time k inside other =
      elim (cases_lt k (point_in stamp)) [
        | inl before ↦ before_digit k before
        | inr behind ↦
            let within : k - 1 < length (digits_in stamp) = omega (arith, digits_length, other) in
            let digit : is_digit (get_or (digits_in stamp) (k - 1) 0) ≡ true = digits-at (digits_in stamp) (k - 1) (time_digits stamp time) within in
            let place : k - 1 + 1 ≡ k = omega (arith, other) in
            let there : get_or (digits_in stamp) (k - 1) 0 ≡ get_or stamp k 0 = digit_behind (k - 1) (omega (arith, other)) ∙ ap (λ (j : ℕ). get_or stamp j 0) place in
            subst (λ (b : ℕ). is_digit b ≡ true) there digit
      ]

  -- all are digits where nothing stands behind the point
  pub whole_digits : point_in stamp ≡ length stamp → all_digits (digits_in stamp) ≡ true
  whole_digits end = all_digits-each (digits_in stamp) (λ k inside.
      let before : k < point_in stamp = omega (arith, digits_length) in
      subst (λ (b : ℕ). is_digit b ≡ true) (sym (digit_before k before)) (before_digit k before))

  -- and where a run of digits goes from the point to the end
  pub part_digits : run_end kinds.Digit stamp (point_in stamp + 1) ≡ length stamp → all_digits (digits_in stamp) ≡ true
  part_digits end = all_digits-each (digits_in stamp) (λ k inside. elim (cases_lt k (point_in stamp)) [
    | inl before ↦ subst (λ (b : ℕ). is_digit b ≡ true) (sym (digit_before k before)) (before_digit k before)
    | inr behind ↦ subst (λ (b : ℕ). is_digit b ≡ true) (sym (digit_behind k behind)) (run_end-each kinds.Digit stamp (point_in stamp + 1) (k + 1) (omega arith) (omega (arith, digits_length)))
  ])

  -- and not where it ends before
  pub part_other : point_in stamp < length stamp → run_end kinds.Digit stamp (point_in stamp + 1) < length stamp → all_digits (digits_in stamp) ≡ false
  part_other some before =
      let stop = run_end kinds.Digit stamp (point_in stamp + 1) in
      let low : point_in stamp + 1 ≤ stop = run_end-low kinds.Digit stamp (point_in stamp + 1) in
      let other : is_digit (get_or stamp stop 0) ≡ false = run_end-stop kinds.Digit stamp (point_in stamp + 1) (omega arith) before in
      let place : stop - 1 + 1 ≡ stop = omega (arith, low) in
      let there : get_or (digits_in stamp) (stop - 1) 0 ≡ get_or stamp stop 0 = digit_behind (stop - 1) (omega (arith, low)) ∙ ap (λ (j : ℕ). get_or stamp j 0) place in
      all_digits-not (digits_in stamp) (stop - 1) (omega (arith, digits_length, low, before)) (subst (λ (b : ℕ). is_digit b ≡ false) (sym there) other)

  -- so the run tells whether all are digits
  pub part_is : point_in stamp < length stamp → eqb (run_end kinds.Digit stamp (point_in stamp + 1)) (length stamp) ≡ all_digits (digits_in stamp)
  part_is some =
      let high : run_end kinds.Digit stamp (point_in stamp + 1) ≤ length stamp = run_end-high kinds.Digit stamp (point_in stamp + 1) (omega arith) in
      elim (cases_eq (run_end kinds.Digit stamp (point_in stamp + 1)) (length stamp)) [
        | inl end ↦ eq-eqb (run_end kinds.Digit stamp (point_in stamp + 1)) (length stamp) end ∙ sym (part_digits end)
        | inr other ↦ ne_eqb (run_end kinds.Digit stamp (point_in stamp + 1)) (length stamp) other ∙ sym (part_other some (omega arith))
      ]

  -- zeros stand before all digits
  pub zeros_before : (place : ℕ) → point_in stamp + place < LONGEST → digit_at stamp place ≡ 0
  unfolding digit_at
  zeros_before place before = ap (λ (b : Bool). cond b 0 (get_or (digits_in stamp) (point_in stamp + place - LONGEST) 0 - 48)) (lt-ltb (point_in stamp + place) LONGEST before)

  -- and then comes digit after digit
  pub digit_here : (place : ℕ) → LONGEST ≤ point_in stamp + place → digit_at stamp place ≡ get_or (digits_in stamp) (point_in stamp + place - LONGEST) 0 - 48
  unfolding digit_at
  digit_here place here = ap (λ (b : Bool). cond b 0 (get_or (digits_in stamp) (point_in stamp + place - LONGEST) 0 - 48)) (le-ltb (point_in stamp + place) LONGEST here)

  -- where a digit is read in the timestamp
  pub digit_read : (place at : ℕ) → LONGEST ≤ point_in stamp + place → ((at ≡ point_in stamp + place - LONGEST) × (at < point_in stamp)) ⊎ ((at ≡ point_in stamp + place - LONGEST + 1) × (point_in stamp < at)) → get_or stamp at 0 - 48 ≡ digit_at stamp place
  digit_read place at here (inl before) =
      ap (λ (b : ℕ). b - 48) (sym (digit_before at before.1) ∙ ap (λ (k : ℕ). get_or (digits_in stamp) k 0) before.0) ∙ sym (digit_here place here)
  digit_read place at here (inr behind) =
      let low : point_in stamp ≤ point_in stamp + place - LONGEST = omega (arith, behind.0, behind.1) in
      ap (λ (b : ℕ). b - 48) (ap (λ (k : ℕ). get_or stamp k 0) behind.0 ∙ sym (digit_behind (point_in stamp + place - LONGEST) low)) ∙ sym (digit_here place here)

  -- and zeros behind them
  pub zeros_behind : (place : ℕ) → LONGEST + (length stamp - point_in stamp) ≤ place → digit_at stamp place ≡ 0
  zeros_behind place behind =
      let past : length (digits_in stamp) ≤ point_in stamp + place - LONGEST = omega (arith, digits_length, point_high, behind) in
      digit_here place (omega (arith, behind)) ∙ ap (λ (b : ℕ). b - 48) (get_or_past (digits_in stamp) (point_in stamp + place - LONGEST) 0 past)

  -- each is a digit
  pub digit_small : is_time stamp ≡ true → (place : ℕ) → digit_at stamp place ≤ 9
  digit_small time place =
      elim (cases_lt (point_in stamp + place) LONGEST) [
        | inl before ↦ omega (arith, zeros_before place before)
        | inr here ↦ elim (cases_lt (point_in stamp + place - LONGEST) (length (digits_in stamp))) [
          | inl inside ↦
              let digit = digits-at (digits_in stamp) (point_in stamp + place - LONGEST) (time_digits stamp time) inside in
              omega (arith, digit_here place here, digit-high (get_or (digits_in stamp) (point_in stamp + place - LONGEST) 0) digit)
          | inr past ↦ omega (arith, digit_here place here, get_or_past (digits_in stamp) (point_in stamp + place - LONGEST) 0 past)
        ]
      ]
