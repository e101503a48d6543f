-- What digits spell: a timestamp's digits spell its time, and the first digits that differ tell which is before.
use Rattle.std.proofs.Common.{◌≡◌, ◌≢◌, ℕ, zero, suc, ◌+◌, ◌-◌, ◌*◌, ◌^◌, ◌<◌, ◌≤◌, inl, inr, true, false, leb, ltb, List, length, get_or, take, refl, sym, ap, ap₂, ◌∙◌, subst, add-zero, mul-one, arith}
use Rattle.std.proofs.lemmas.Bool.{and_parts, cases_lt, le-ltb, leb-true, lt-ltb}
use Rattle.std.proofs.lemmas.List.{get_or_past, take_all}
use Rattle.std.proofs.Math.Nat.{pow-suc, mul_assoc}
use Rattle.rv_text.specs.Decimal.{all_digits, number_of}
use Rattle.rv_text.proofs.DecimalLemmas.{number-more}
use Rattle.rv_matches.specs.declared.words.TheConstants.{LONGEST}
use Rattle.rv_matches.specs.Times.{decimals_in, digits_in, is_time, point_in, time_of}
use Rattle.rv_matches.specs.inner.Times.{digit_at}
use Rattle.rv_matches.proofs.TimeLemmas.{digit_here, digit_small, digits_length, point_high, zeros_before, zeros_behind}

-- the number that so many digits spell
abbrev spelled : (ℕ → ℕ) → ℕ → ℕ
spelled f zero = 0
spelled f (suc n) = spelled f n * 10 + f n

-- zeros spell none
spelled_zeros : (f : ℕ → ℕ) (n : ℕ) → ((k : ℕ) → k < n → f k ≡ 0) → spelled f n ≡ 0
spelled_zeros f zero zeros = refl
spelled_zeros f (suc n) zeros = omega (arith, spelled_zeros f n (λ k h. zeros k (omega arith)), zeros n (omega arith))

-- the same digits spell the same
spelled_same : (f g : ℕ → ℕ) (n : ℕ) → ((k : ℕ) → k < n → f k ≡ g k) → spelled f n ≡ spelled g n
spelled_same f g zero same = refl
spelled_same f g (suc n) same = ap₂ (λ a b. a * 10 + b) (spelled_same f g n (λ k h. same k (omega arith))) (same n (omega arith))

-- what is less stays so whatever digits follow
spelled_less : (f g : ℕ → ℕ) (n more : ℕ) → ((k : ℕ) → f k ≤ 9) → spelled f n < spelled g n → spelled f (n + more) < spelled g (n + more)
spelled_less f g n zero small less = subst (λ (m : ℕ). spelled f m < spelled g m) (let e : n ≡ n + zero = omega arith in e) less
spelled_less f g n (suc more) small less =
    let before : spelled f (n + more) < spelled g (n + more) = spelled_less f g n more small less in
    let last : f (n + more) ≤ 9 = small (n + more) in
    let here : spelled f (suc (n + more)) < spelled g (suc (n + more)) = omega arith in
    subst (λ (m : ℕ). spelled f m < spelled g m) (let e : suc (n + more) ≡ n + suc more = omega arith in e) here

-- the first digits that differ tell which is less
spelled_differs : (f g : ℕ → ℕ) (n all : ℕ) → ((k : ℕ) → f k ≤ 9) → ((k : ℕ) → k < n → f k ≡ g k) → n < all → f n < g n → spelled f all < spelled g all
spelled_differs f g n all small same inside less =
    let front : spelled f n ≡ spelled g n = spelled_same f g n same in
    let here : spelled f (suc n) < spelled g (suc n) = omega arith in
    let rest : suc n + (all - suc n) ≡ all = omega arith in
    subst (λ (m : ℕ). spelled f m < spelled g m) rest (spelled_less f g (suc n) (all - suc n) small here)

-- an order stays for what is equal
carried : (a b x y : ℕ) → a ≡ x → b ≡ y → a < b → x < y
carried a b x y first second less = omega arith

module _ (stamp : List ℕ) (time : is_time stamp ≡ true) where
  -- it is no longer than what is compared
  pub time_short : length stamp ≤ LONGEST
  time_short = leb-true (length stamp) LONGEST (and_parts (leb (length stamp) LONGEST) (all_digits (digits_in stamp)) time).0

  -- the digits spell the number that they are
  spelled_front : (many : ℕ) → many ≤ length (digits_in stamp) → spelled (digit_at stamp) (LONGEST - point_in stamp + many) ≡ number_of (take many (digits_in stamp))
  unfolding number_of
  spelled_front zero few =
      ap (spelled (digit_at stamp)) (let e : LONGEST - point_in stamp + zero ≡ LONGEST - point_in stamp = omega arith in e)
      ∙ spelled_zeros (digit_at stamp) (LONGEST - point_in stamp) (λ k h. zeros_before stamp k (omega arith))
  spelled_front (suc many) few =
      let place = LONGEST - point_in stamp + many in
      let digit : point_in stamp + place - LONGEST ≡ many = omega (arith, point_high stamp, time_short) in
      let here : digit_at stamp place ≡ get_or (digits_in stamp) many 0 - 48 = digit_here stamp place (omega (arith, point_high stamp, time_short)) ∙ ap (λ (j : ℕ). get_or (digits_in stamp) j 0 - 48) digit in
      ap (spelled (digit_at stamp)) (let e : LONGEST - point_in stamp + suc many ≡ suc place = omega arith in e)
      ∙ ap₂ (λ a b. a * 10 + b) (spelled_front many (omega arith)) here
      ∙ sym (number-more (digits_in stamp) many (omega arith))
      ∙ ap (λ (n : ℕ). number_of (take n (digits_in stamp))) (let e : many + 1 ≡ suc many = omega arith in e)

  -- zeros behind them are parts of ten
  spelled_behind : (more : ℕ) → spelled (digit_at stamp) (LONGEST - point_in stamp + length (digits_in stamp) + more) ≡ number_of (digits_in stamp) * 10 ^ more
  spelled_behind zero =
      ap (spelled (digit_at stamp)) (let e : LONGEST - point_in stamp + length (digits_in stamp) + zero ≡ LONGEST - point_in stamp + length (digits_in stamp) = omega arith in e)
      ∙ spelled_front (length (digits_in stamp)) (omega arith)
      ∙ ap number_of (take_all (length (digits_in stamp)) (digits_in stamp) (omega arith))
      ∙ sym (mul-one (number_of (digits_in stamp)))
  spelled_behind (suc more) =
      let place = LONGEST - point_in stamp + length (digits_in stamp) + more in
      let past : length (digits_in stamp) ≤ point_in stamp + place - LONGEST = omega (arith, point_high stamp, time_short) in
      let none : digit_at stamp place ≡ 0 = digit_here stamp place (omega (arith, point_high stamp, time_short)) ∙ ap (λ (b : ℕ). b - 48) (get_or_past (digits_in stamp) (point_in stamp + place - LONGEST) 0 past) in
      ap (spelled (digit_at stamp)) (let e : LONGEST - point_in stamp + length (digits_in stamp) + suc more ≡ suc place = omega arith in e)
      ∙ ap₂ (λ a b. a * 10 + b) (spelled_behind more) none
      ∙ add-zero (number_of (digits_in stamp) * 10 ^ more * 10)
      ∙ mul_assoc (number_of (digits_in stamp)) (10 ^ more) 10
      ∙ ap (λ (n : ℕ). number_of (digits_in stamp) * n) (sym (pow-suc 10 more))

  -- all digits spell the time
  time_spelled : spelled (digit_at stamp) (2 * LONGEST) ≡ time_of stamp
  time_spelled =
      let all : LONGEST - point_in stamp + length (digits_in stamp) + (LONGEST - decimals_in stamp) ≡ 2 * LONGEST = omega (arith, digits_length stamp, point_high stamp, time_short) in
      ap (spelled (digit_at stamp)) (sym all) ∙ spelled_behind (LONGEST - decimals_in stamp)

module _ (one other : List ℕ) (is : is_time one ≡ true) (is' : is_time other ≡ true) where
  -- the first digits that differ tell which time is before
  pub before_by : (place : ℕ) → place < 2 * LONGEST → ((k : ℕ) → k < place → digit_at one k ≡ digit_at other k) → digit_at one place ≢ digit_at other place → ltb (digit_at one place) (digit_at other place) ≡ ltb (time_of one) (time_of other)
  before_by place inside same differ =
      elim (cases_lt (digit_at one place) (digit_at other place)) [
        | inl less ↦
            let before : time_of one < time_of other = carried _ _ _ _ (time_spelled one is) (time_spelled other is') (spelled_differs (digit_at one) (digit_at other) place (2 * LONGEST) (digit_small one is) same inside less) in
            lt-ltb (digit_at one place) (digit_at other place) less ∙ sym (lt-ltb (time_of one) (time_of other) before)
        | inr more ↦
            let less : digit_at other place < digit_at one place = omega (arith, differ) in
            let behind : time_of other < time_of one = carried _ _ _ _ (time_spelled other is') (time_spelled one is) (spelled_differs (digit_at other) (digit_at one) place (2 * LONGEST) (digit_small other is') (λ k h. sym (same k h)) inside less) in
            le-ltb (digit_at one place) (digit_at other place) more ∙ sym (le-ltb (time_of one) (time_of other) (omega arith))
      ]

  -- where none differs, none is before
  pub before_none : (last : ℕ) → LONGEST + (length one - point_in one) ≤ last → LONGEST + (length other - point_in other) ≤ last → ((k : ℕ) → k < last → digit_at one k ≡ digit_at other k) → false ≡ ltb (time_of one) (time_of other)
  before_none last high high' same =
      let all : (k : ℕ) → k < 2 * LONGEST → digit_at one k ≡ digit_at other k = λ k h. elim (cases_lt k last) [
        | inl inside ↦ same k inside
        | inr past ↦ zeros_behind one k (omega arith) ∙ sym (zeros_behind other k (omega arith))
      ] in
      let times : time_of one ≡ time_of other = sym (time_spelled one is) ∙ spelled_same (digit_at one) (digit_at other) (2 * LONGEST) all ∙ time_spelled other is' in
      sym (le-ltb (time_of one) (time_of other) (omega arith))
