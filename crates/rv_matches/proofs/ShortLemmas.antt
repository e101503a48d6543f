-- Short timestamps: the number that their digits spell, and how it orders them.
use Rattle.std.proofs.Common.{◌≡◌, ℕ, suc, ◌+◌, ◌-◌, ◌*◌, ◌^◌, ◌<◌, ◌≤◌, inl, inr, true, ltb, List, [], ◌∷◌, ◌++◌, length, get_or, map, take, drop, sym, ap, ◌∙◌, arith}
use Rattle.std.proofs.lemmas.Bool.{and_from, cases_lt, le-leb, le-ltb, lt-ltb}
use Rattle.std.proofs.lemmas.List.{append-nil, get_or-drop, length-drop, map_push, map-append, take_more}
use Rattle.std.proofs.lemmas.Int.Digits.{number_after_append}
use Rattle.std.proofs.Math.Nat.{mul-le-mul_right, mul-lt-mul_of_pos_right, one-le-pow, pow-le-pow_right, pow-suc}
use Rattle.std.specs.Int.Digits.{number_from_digits_after}
use Rattle.rv_text.specs.Decimal.{digit_of, number_of}
use Rattle.rv_text.specs.declared.runs.ByteClass.TheVariants as kinds
use Rattle.rv_text.specs.Places.{between, run_end}
use Rattle.rv_matches.specs.declared.short_times.ShortTime.{ShortTime}
use Rattle.rv_matches.specs.declared.short_times.TheConstants.{SHORT}
use Rattle.rv_matches.specs.declared.words.TheConstants.{LONGEST}
use Rattle.rv_matches.specs.inner.ShortTimes.{IsShortTime}
use Rattle.rv_matches.specs.Times.{decimals_in, digits_in, is_time, point_in, time_of}
use Rattle.rv_matches.proofs.TimeLemmas.{part_digits, whole_digits}

-- ---- one more digit

-- one more byte
between_more : (text : List ℕ) (from end : ℕ) → from ≤ end → end < length text → between text from (end + 1) ≡ between text from end ++ get_or text end 0 ∷ []
between_more text from end low inside =
    let count : end + 1 - from ≡ end - from + 1 = omega arith in
    let within : end - from < length (drop from text) = omega (arith, length-drop from text) in
    let place : from + (end - from) ≡ end = omega arith in
    ap (λ n. take n (drop from text)) count
    ∙ take_more (drop from text) (end - from) 0 within
    ∙ ap (λ b. take (end - from) (drop from text) ++ b ∷ []) (get_or-drop from text (end - from) 0 ∙ ap (λ j. get_or text j 0) place)

-- one more digit
pub digit_more : (text : List ℕ) (from end before number : ℕ) → from ≤ end → end < length text → number ≡ number_from_digits_after 10 before (map digit_of (between text from end))
    → number * 10 + (get_or text end 0 - 48) ≡ number_from_digits_after 10 before (map digit_of (between text from (end + 1)))
digit_more text from end before number low inside is =
    let byte = get_or text end 0 in
    let front = between text from end in
    ap (λ n. n * 10 + (byte - 48)) is
    ∙ sym (number_after_append 10 before (map digit_of front) (digit_of byte ∷ []))
    ∙ ap (number_from_digits_after 10 before) (sym (ap (map digit_of) (between_more text from end low inside) ∙ map_push digit_of front byte))

-- so many digits spell less than the next power of ten
pub power_more : (number digit end : ℕ) → number < 10 ^ end → digit ≤ 9 → number * 10 + digit < 10 ^ (end + 1)
power_more number digit end small few =
    let next : 10 ^ (end + 1) ≡ 10 ^ end * 10 = ap (λ n. 10 ^ n) (let e : end + 1 ≡ suc end = omega arith in e) ∙ pow-suc 10 end in
    omega arith

-- and they fit
pub power_fits : (number end : ℕ) → number < 10 ^ end → end < SHORT → number < 1000000000000000000
power_fits number end small short =
    let most : 10 ^ end ≤ 10 ^ 18 = pow-le-pow_right {n = 10} (omega arith) {i = end} {j = 18} (omega arith) in
    omega arith

-- ---- the whole number

-- all digits, where there is no point
pub whole_number : (stamp : List ℕ) (number : ℕ) → point_in stamp ≡ length stamp → number ≡ number_from_digits_after 10 0 (map digit_of (between stamp 0 (length stamp))) → number ≡ number_of (digits_in stamp)
unfolding number_of
whole_number stamp number end is =
    let none : between stamp (length stamp + 1) (length stamp) ≡ [] = ap (λ n. take n (drop (length stamp + 1) stamp)) (let e : length stamp - (length stamp + 1) ≡ 0 = omega arith in e) in
    let all : digits_in stamp ≡ between stamp 0 (length stamp) =
    ap (λ p. between stamp 0 p ++ between stamp (p + 1) (length stamp)) end ∙ ap (λ ds. between stamp 0 (length stamp) ++ ds) none ∙ append-nil (between stamp 0 (length stamp)) in
    is ∙ ap (λ ds. number_from_digits_after 10 0 (map digit_of ds)) (sym all)

-- and where there is one
pub parts_number : (stamp : List ℕ) (front number : ℕ) → front ≡ number_from_digits_after 10 0 (map digit_of (between stamp 0 (point_in stamp)))
    → number ≡ number_from_digits_after 10 front (map digit_of (between stamp (point_in stamp + 1) (length stamp))) → number ≡ number_of (digits_in stamp)
unfolding number_of
parts_number stamp front number begun is =
    let whole = between stamp 0 (point_in stamp) in
    let part = between stamp (point_in stamp + 1) (length stamp) in
    is ∙ ap (λ n. number_from_digits_after 10 n (map digit_of part)) begun
    ∙ sym (number_after_append 10 0 (map digit_of whole) (map digit_of part))
    ∙ ap (number_from_digits_after 10 0) (sym (map-append digit_of whole part))

-- short digits without a point can be compared
pub whole_time : (stamp : List ℕ) → length stamp ≤ SHORT → point_in stamp ≡ length stamp → is_time stamp ≡ true
whole_time stamp short end = and_from _ _ (le-leb (length stamp) LONGEST (omega arith)) (whole_digits stamp end)

-- and with one, if only digits follow it
pub parts_time : (stamp : List ℕ) → length stamp ≤ SHORT → run_end kinds.Digit stamp (point_in stamp + 1) ≡ length stamp → is_time stamp ≡ true
parts_time stamp short end = and_from _ _ (le-leb (length stamp) LONGEST (omega arith)) (part_digits stamp end)

-- ---- the order

-- the numbers of times with as many decimals tell which is before
pub earlier_by : (one other : List ℕ) (a b : ShortTime) → IsShortTime one a → IsShortTime other b → a.decimals ≡ b.decimals → ltb a.number b.number ≡ ltb (time_of one) (time_of other)
earlier_by one other a b is is' same =
    let power = 10 ^ (LONGEST - decimals_in one) in
    let some : 0 < power = one-le-pow (LONGEST - decimals_in one) 10 (omega arith) in
    let first : time_of one ≡ a.number * power = ap (λ n. n * power) (sym is.number) in
    let second : time_of other ≡ b.number * power = ap (λ d. number_of (digits_in other) * 10 ^ (LONGEST - d)) (sym is'.decimals ∙ sym same ∙ is.decimals) ∙ ap (λ n. n * power) (sym is'.number) in
    elim (cases_lt a.number b.number) [
      | inl less ↦
          let before : a.number * power < b.number * power = mul-lt-mul_of_pos_right less some in
          lt-ltb a.number b.number less ∙ sym (lt-ltb (time_of one) (time_of other) (omega arith))
      | inr more ↦
          let behind : b.number * power ≤ a.number * power = mul-le-mul_right power more in
          le-ltb a.number b.number more ∙ sym (le-ltb (time_of one) (time_of other) (omega arith))
    ]
