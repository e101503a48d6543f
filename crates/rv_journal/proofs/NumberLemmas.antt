-- The word of a number, and the number of a word.
use Rattle.std.proofs.Common.{◌≡◌, inl, inr, ℕ, ◌^◌, ◌<◌, ◌≤◌, Bool, true, false, ◌&&◌, cond, List, ◌∷◌, length, get_or, map, Option, Some, None, refl, sym, ap, ◌∙◌, arith, rules}
use Rattle.std.specs.Prelude.{nat_le, nat_lt, bytes_eq, decimal}
use Rattle.std.specs.Int.Digits.{number_from_digits_after}
use Rattle.std.specs.Option.{option_and_then, option_map}
use Rattle.std.proofs.lemmas.Bool.{and_from, cases_lt}
use Rattle.std.proofs.lemmas.Bool.Decides.{nat_tests}
use Rattle.std.proofs.lemmas.Slice.Eq.{bytes_eq-Decides}
use Rattle.std.proofs.lemmas.Str.Parse.{IsNumeralModel, numerals_by_fold, not_in_digits}
use Rattle.std.proofs.lemmas.Fmt.{digits_decimal, digits_value-decimal, decimal-digits_value, decimal_nonempty, first_decimal, decimal_digit}
use Rattle.rv_text.specs.Decimal.{all_digits, digit_of, number_of, decimal_of}
use Rattle.rv_text.proofs.DecimalLemmas.{decimal-some}
use Rattle.rv_journal.specs.inner.PieceReadings.{number_in, number_from}
use Rattle.rv_journal.proofs.PieceLemmas.{all_above, above-each}
use Rattle.rv_journal.proofs.ThenLemmas.{first-some}

-- the digits that a text has so far, and the number behind them
abbrev folded : ℕ → List ℕ → ℕ
folded n ds = number_from_digits_after 10 n (map digit_of ds)

-- digits and their number are those of std
own : IsNumeralModel (λ ds. all_digits ds ≡ true) number_of
unfolding number_of
own = numerals_by_fold (λ ds. all_digits ds ≡ true) (search rules) folded (search rules)

-- the word of a number is read as that number
decimal-read : (n : ℕ) → n < 2 ^ 64 → decimal_of (decimal n) ≡ Some n
decimal-read n low =
    let value : number_of (decimal n) ≡ n = digits_value-decimal own n low in
    sym (decimal-some (decimal n) (decimal_nonempty n low) (digits_decimal own n low) (omega arith)) ∙ ap Some value

-- what is read as a number has its digits
record IsRead (word : List ℕ) (n : ℕ) : Type 0 where
  some : 0 < length word
  digits : all_digits word ≡ true
  fits : n < 2 ^ 64
  value : number_of word ≡ n

-- a word that is read as a number has digits, and they make that number
decimal-parts : (word : List ℕ) (n : ℕ) → decimal_of word ≡ Some n → IsRead word n
unfolding decimal_of
decimal-parts word n = on (nat_lt 0 (length word)) (all_digits word) (nat_lt (number_of word) (2 ^ 64)) refl refl refl
  where
    on : (a b c : Bool) → nat_lt 0 (length word) ≡ a → all_digits word ≡ b → nat_lt (number_of word) (2 ^ 64) ≡ c → cond (a && b && c) (Some (number_of word)) None ≡ Some n → IsRead word n
    on true true true p q r is = let same : number_of word ≡ n = cc in record { some = grind (arith, nat_tests); digits = q; fits = let l : number_of word < 2 ^ 64 = grind (arith, nat_tests) in omega arith; value = same }
    on true true false p q r is = absurd (cc)
    on true false c p q r is = absurd (cc)
    on false b c p q r is = absurd (cc)

-- the number that has this word
abbrev tested : ℕ → List ℕ → ℕ → Option ℕ
tested most word n = cond (nat_le n most && bytes_eq (decimal n) word) (Some n) None

-- the word of a number that is not too large
pub number_in-decimal : (most n : ℕ) → n ≤ most → most < 2 ^ 64 → number_in most (decimal n) ≡ Some n
unfolding number_in
number_in-decimal most n low fits =
    let within : nat_le n most ≡ true = grind (arith, nat_tests) in
    let same : bytes_eq (decimal n) (decimal n) ≡ true = (bytes_eq-Decides (decimal n) (decimal n)).1 refl in
    ap (option_and_then (tested most (decimal n))) (decimal-read n (omega arith)) ∙ ap (λ b. cond b (Some n) None) (and_from _ _ within same)

-- the number that is read from a word has it
pub number_in-some : (most : ℕ) (word : List ℕ) (n : ℕ) → number_in most word ≡ Some n → (decimal n ≡ word) × (n ≤ most)
unfolding number_in
number_in-some most word n = on (decimal_of word)
  where
    test : (m : ℕ) (a b : Bool) → nat_le m most ≡ a → bytes_eq (decimal m) word ≡ b → cond (a && b) (Some m) None ≡ Some n → (decimal n ≡ word) × (n ≤ most)
    test m true true p q is =
        let same : m ≡ n = cc in
        let low : m ≤ most = grind (arith, nat_tests) in
        (ap decimal (sym same) ∙ (bytes_eq-Decides (decimal m) word).0 q, omega arith)
    test m true false p q is = absurd (cc)
    test m false b p q is = absurd (cc)

    on : (read : Option ℕ) → option_and_then (tested most word) read ≡ Some n → (decimal n ≡ word) × (n ≤ most)
    on None is = absurd (cc)
    on (Some m) is = test m (nat_le m most) (bytes_eq (decimal m) word) refl refl is

-- ---- what the code tests

-- a zero stands in front of no other digit
zero-first : (n : ℕ) → n < 2 ^ 64 → get_or (decimal n) 0 0 ≡ 48 → length (decimal n) ≡ 1
zero-first n low first = elim (cases_lt 0 n) [
  | inl some ↦ absurd (omega (arith, first_decimal n some low))
  | inr none ↦ (let zero : n ≡ 0 = omega arith in ap (λ (k : ℕ). length (decimal k)) zero ∙ ap length (decimal_digit 0 (omega arith)))
]

-- a word of two digits or more with a zero in front is that of no number
pub number_in-zero : (most : ℕ) (word : List ℕ) → 1 < length word → get_or word 0 0 ≡ 48 → number_in most word ≡ None
unfolding number_in
number_in-zero most word two first = on (decimal_of word) refl
  where
    test : (m : ℕ) (a b : Bool) → decimal_of word ≡ Some m → bytes_eq (decimal m) word ≡ b → cond (a && b) (Some m) None ≡ None
    test m true true r q =
        let same : decimal m ≡ word = (bytes_eq-Decides (decimal m) word).0 q in
        let one : length (decimal m) ≡ 1 = zero-first m ((decimal-parts word m r).fits) (ap (λ (w : List ℕ). get_or w 0 0) same ∙ first) in
        let long : length (decimal m) ≡ length word = ap length same in
        absurd (omega arith)
    test m true false r q = refl
    test m false b r q = refl

    on : (read : Option ℕ) → decimal_of word ≡ read → option_and_then (tested most word) read ≡ None
    on None is = refl
    on (Some m) is = test m (nat_le m most) (bytes_eq (decimal m) word) is refl

-- nor is one that is read as no number
pub number_in-none : (most : ℕ) (word : List ℕ) → decimal_of word ≡ None → number_in most word ≡ None
unfolding number_in
number_in-none most word none = ap (option_and_then (tested most word)) none

-- nor one of a number that is too large
pub number_in-large : (most : ℕ) (word : List ℕ) (n : ℕ) → decimal_of word ≡ Some n → most < n → number_in most word ≡ None
unfolding number_in
number_in-large most word n read large =
    let past : nat_le n most ≡ false = grind (arith, nat_tests) in
    ap (option_and_then (tested most word)) read ∙ ap (λ b. cond (b && bytes_eq (decimal n) word) (Some n) None) past

-- every other is the word of its number
pub number_in-read : (most : ℕ) (word : List ℕ) (n : ℕ) → decimal_of word ≡ Some n → n ≤ most → (get_or word 0 0 ≡ 48 → length word ≤ 1) → number_in most word ≡ Some n
unfolding number_in
number_in-read most word n read low no_zero =
    let r = decimal-parts word n read in
    let some = r.some in
    let value : number_of word ≡ n = r.value in
    let fits : number_of word < 2 ^ 64 = omega (arith, r.fits) in
    let back : decimal (number_of word) ≡ word = decimal-digits_value own word r.digits r.some (λ zero. let one = no_zero zero in omega arith) fits in
    let same : bytes_eq (decimal n) word ≡ true = (bytes_eq-Decides (decimal n) word).1 (ap decimal (sym value) ∙ back) in
    let within : nat_le n most ≡ true = grind (arith, nat_tests) in
    ap (option_and_then (tested most word)) read ∙ ap (λ b. cond b (Some n) None) (and_from _ _ within same)

-- ---- words of numbers among words

-- the word of a number is above the blank
pub decimal-word : (n : ℕ) → n < 2 ^ 64 → all_above 32 (decimal n) ≡ true
decimal-word n low =
    above-each 32 (decimal n) (λ k l. elim (cases_lt 32 (get_or (decimal n) k 0)) [
      | inl past ↦ past
      | inr before ↦ absurd (not_in_digits own (decimal n) (get_or (decimal n) k 0) (digits_decimal own n low) (λ r. absurd (omega arith)) k l refl)
    ])

-- the word of a number is read
pub number_from-decimal : (most n : ℕ) (words : List (List ℕ)) → n ≤ most → most < 2 ^ 64 → number_from most (decimal n ∷ words) ≡ Some (n, words)
number_from-decimal most n words low fits = ap (option_map (λ (m : ℕ). (m, words))) (number_in-decimal most n low fits)

-- the number that is read has the first word
pub number_from-some : (most : ℕ) (words : List (List ℕ)) (n : ℕ) (rest : List (List ℕ)) → number_from most words ≡ Some (n, rest) → words ≡ decimal n ∷ rest
number_from-some most words n rest is =
    let f = first-some (number_in most) words n rest is in
    f.1 ∙ ap (λ (w : List ℕ). w ∷ rest) (sym (number_in-some most f.0 n f.2).0)

-- and is not too large
pub number_from-low : (most : ℕ) (words : List (List ℕ)) (n : ℕ) (rest : List (List ℕ)) → number_from most words ≡ Some (n, rest) → n ≤ most
number_from-low most words n rest is = let f = first-some (number_in most) words n rest is in (number_in-some most f.0 n f.2).1
