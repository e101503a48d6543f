-- A run goes on from any of its places.
use Rattle.std.proofs.Common.{◌≡◌, ℕ, ◌+◌, ◌-◌, ◌*◌, ◌<◌, ◌≤◌, inl, inr, true, false, not, cond, ◌/◌, ◌%◌, ◌^◌, List, length, get_or, take, drop, sym, ◌∙◌, ap, subst, arith, take-take}
use Rattle.std.proofs.lemmas.Bool.{cases_lt, false≢true, and_parts, leb-true, not-false, not-true}
use Rattle.std.proofs.lemmas.List.{get_or_past, get_or-drop, length-drop}
use Rattle.std.specs.Int.{bit_at}
use Rattle.std.proofs.lemmas.Nat.{shr-shr}
use Rattle.std.proofs.lemmas.Nat.Bits.{bit_at-zero}
use Rattle.rv_trace.specs.Masks.{IsMask}
use Rattle.rv_trace.proofs.BitLemmas.{zero_false, one_true}
use Rattle.rv_text.specs.Places.{is_digit, is_blank, has_class, run_end, between}
use Rattle.rv_text.specs.Decimal.{number_of}
use Rattle.rv_text.specs.declared.runs.ByteClass.{ByteClass}
use Rattle.rv_text.specs.declared.runs.ByteClass.TheVariants as kinds
use Rattle.rv_text.proofs.DecimalLemmas.{number-more, number-front}
use Rattle.rv_text.proofs.LeastLemmas.{run_end-is, run_end-low, run_end-high, run_end-each, run_end-stop}

-- the bytes from one place up to another are of the kind
abbrev pub AreOf : ByteClass → List ℕ → ℕ → ℕ → Type 0
AreOf kind text from to = (k : ℕ) → from ≤ k → k < to → has_class kind (get_or text k 0) ≡ true

-- and from there on
pub AreOf-then : (kind : ByteClass) (text : List ℕ) (from place to : ℕ) → AreOf kind text from place → AreOf kind text place to → AreOf kind text from to
AreOf-then kind text from place to front back k low high =
    elim (cases_lt k place) [
      | inl before ↦ front k low before
      | inr on ↦ back k on high
    ]

-- and one more
pub AreOf-more : (kind : ByteClass) (text : List ℕ) (from place : ℕ) → AreOf kind text from place → has_class kind (get_or text place 0) ≡ true → AreOf kind text from (place + 1)
AreOf-more kind text from place front one =
    AreOf-then kind text from place (place + 1) front (λ k low high.
    subst (λ (n : ℕ). has_class kind (get_or text n 0) ≡ true) (let e : place ≡ k = omega arith in e) one)

-- a run ends where it ends from one of its places on
pub run_end-on : (kind : ByteClass) (text : List ℕ) (from place : ℕ) → from ≤ place → place ≤ length text → AreOf kind text from place → run_end kind text from ≡ run_end kind text place
run_end-on kind text from place low high each =
    run_end-is kind text from (run_end kind text place) (omega (arith, run_end-low kind text place)) (run_end-high kind text place high)
    (λ k l h. elim (cases_lt k place) [
      | inl before ↦ each k l before
      | inr on ↦ run_end-each kind text place k on h
    ]) (λ h. run_end-stop kind text place high h)

-- a run that has a byte goes on
pub run_end-past : (kind : ByteClass) (text : List ℕ) (from : ℕ) → from < length text → has_class kind (get_or text from 0) ≡ true → from < run_end kind text from
run_end-past kind text from inside one =
    elim (cases_lt from (run_end kind text from)) [
      | inl past ↦ past
      | inr here ↦ (let same : run_end kind text from ≡ from = omega (arith, run_end-low kind text from) in
          absurd (false≢true (sym (run_end-stop kind text from (omega arith) (omega (arith, same))) ∙ ap (λ n. has_class kind (get_or text n 0)) same ∙ one)))
    ]

-- one blank is a run of blanks
pub blank_one : (text : List ℕ) (from : ℕ) → from ≤ length text → has_class kinds.Blank (get_or text from 0) ≡ true → has_class kinds.Blank (get_or text (from + 1) 0) ≡ false → run_end kinds.Blank text from ≡ from + 1
blank_one text from inside blank other =
    elim (cases_lt from (length text)) [
      | inl within ↦ run_end-is kinds.Blank text from (from + 1) (omega arith) (omega arith)
          (λ k l h. subst (λ (n : ℕ). has_class kinds.Blank (get_or text n 0) ≡ true) (let e : from ≡ k = omega arith in e) blank) (λ _. other)
      | inr past ↦ absurd (false≢true (ap (has_class kinds.Blank) (sym (get_or_past text from 0 past)) ∙ blank))
    ]

-- the largest digit is 9
pub digit-most : (byte : ℕ) → is_digit byte ≡ true → byte ≤ 57
digit-most byte is = leb-true byte 57 (and_parts _ _ is).1

-- no digits spell 0
pub number-start : (text : List ℕ) (from : ℕ) → number_of (between text from from) ≡ 0
unfolding number_of
number-start text from = let none : from - from ≡ 0 = omega arith in ap (λ n. number_of (take n (drop from text))) none

-- one more digit
pub number-on : (text : List ℕ) (from end : ℕ) → from ≤ end → end < length text → number_of (between text from (end + 1)) ≡ number_of (between text from end) * 10 + (get_or text end 0 - 48)
number-on text from end low inside =
    let more : end + 1 - from ≡ end - from + 1 = omega arith in
    let here : from + (end - from) ≡ end = omega arith in
    ap (λ n. number_of (take n (drop from text))) more
    ∙ number-more (drop from text) (end - from) (omega (arith, length-drop from text))
    ∙ ap (λ b. number_of (take (end - from) (drop from text)) * 10 + (b - 48)) (get_or-drop from text (end - from) 0 ∙ ap (λ n. get_or text n 0) here)

-- more digits do not make a number smaller
pub number-longer : (text : List ℕ) (from end to : ℕ) → end ≤ to → number_of (between text from end) ≤ number_of (between text from to)
number-longer text from end to more =
    let front : take (end - from) (take (to - from) (drop from text)) ≡ take (end - from) (drop from text) = take-take (end - from) (to - from) (drop from text) (omega arith) in
    omega (arith, ap number_of front, number-front (between text from to) (end - from))

-- three digits, and then another byte
module _ (text : List ℕ) (from : ℕ) (inside : from + 3 < length text) (first : is_digit (get_or text from 0) ≡ true) (second : is_digit (get_or text (from + 1) 0) ≡ true)
    (third : is_digit (get_or text (from + 2) 0) ≡ true) where
  three : AreOf kinds.Digit text from (from + 3)
  three =
      let one = AreOf-more kinds.Digit text from from (λ k low high. absurd (omega arith)) first in
      let two = AreOf-more kinds.Digit text from (from + 1) one second in
      λ k low high. AreOf-more kinds.Digit text from (from + 2) (λ j l h. two j l (omega arith)) third k low (omega arith)

  -- they end there
  pub three-end : is_digit (get_or text (from + 3) 0) ≡ false → from + 3 ≡ run_end kinds.Digit text from
  three-end other = sym (run_end-is kinds.Digit text from (from + 3) (omega arith) (omega arith) three (λ _. other))

  -- and spell their number
  pub three-number : ((get_or text from 0 - 48) * 10 + (get_or text (from + 1) 0 - 48)) * 10 + (get_or text (from + 2) 0 - 48) ≡ number_of (between text from (from + 3))
  three-number =
      let none = number-start text from in
      let one = number-on text from from (omega arith) (omega arith) in
      let two = number-on text from (from + 1) (omega arith) (omega arith) in
      let all = number-on text from (from + 2) (omega arith) (omega arith) in
      omega (
        arith,
        none,
        one,
        two,
        all,
        ap (λ n. number_of (between text from n)) (let e : from + 1 + 1 ≡ from + 2 = omega arith in e),
        ap (λ n. number_of (between text from n)) (let e : from + 2 + 1 ≡ from + 3 = omega arith in e),
      )

-- the bits of the last load, from a place on
module _ (text : List ℕ) (place blanks : ℕ) (low : place ≤ length text) (high : length text < place + 16) (room : 16 ≤ length text) (mask : IsMask is_blank text (length text - 16) 16 blanks) where
  -- the bits of the load without those before the place
  abbrev pub rest_bits : ℕ
  rest_bits = blanks / 2 ^ (place - (length text - 16))

  -- each of them is set just where a blank stands
  rest-bit : (k : ℕ) → place + k < length text → bit_at rest_bits k ≡ cond (is_blank (get_or text (place + k) 0)) 1 0
  rest-bit k inside =
      let here : length text - 16 + (place - (length text - 16) + k) ≡ place + k = omega arith in
      ap (λ n. n % 2) (shr-shr blanks (place - (length text - 16)) k)
      ∙ mask.bits (place - (length text - 16) + k) (omega arith)
      ∙ ap {B = ℕ} (λ n. cond (is_blank (get_or text n 0)) 1 0) here

  -- a place whose bit is not set is of the word
  rest-word : (k : ℕ) → place ≤ k → k < length text → bit_at rest_bits (k - place) ≡ 0 → has_class kinds.Word (get_or text k 0) ≡ true
  rest-word k from inside clear =
      let here : place + (k - place) ≡ k = omega arith in
      ap (λ n. has_class kinds.Word (get_or text n 0)) (sym here) ∙ ap not (zero_false _ (sym (rest-bit (k - place) (omega arith)) ∙ clear))

  -- no blank is left
  pub rest-none : rest_bits ≡ 0 → run_end kinds.Word text place ≡ length text
  rest-none none =
      run_end-is kinds.Word text place (length text) low (omega arith)
      (λ k from inside. rest-word k from inside (ap (λ m. bit_at m (k - place)) none ∙ bit_at-zero (k - place))) (λ h. absurd (omega arith))

  -- a set bit stands for a place of the text
  pub rest-inside : (k : ℕ) → bit_at rest_bits k ≡ 1 → place + k < length text
  rest-inside k set =
      elim (cases_lt (place + k) (length text)) [
        | inl inside ↦ inside
        | inr past ↦ absurd (omega (arith, mask.within (place - (length text - 16) + k) (omega arith), ap {B = ℕ} (λ n. n % 2) (shr-shr blanks (place - (length text - 16)) k)))
      ]

  -- the lowest bit is the first blank
  pub rest-first : (k : ℕ) → bit_at rest_bits k ≡ 1 → ((j : ℕ) → j < k → bit_at rest_bits j ≡ 0) → run_end kinds.Word text place ≡ place + k
  rest-first k set below =
      let inside : place + k < length text = rest-inside k set in
      run_end-is kinds.Word text place (place + k) (omega arith) (omega arith)
      (λ j from to. rest-word j from (omega arith) (below (j - place) (omega arith)))
      (λ _. ap not (one_true _ (sym (rest-bit k inside) ∙ set)))

-- the bits of the bytes of a load that are no digits
module _ (text : List ℕ) (from others : ℕ) (room : from + 16 ≤ length text) (mask : IsMask (λ byte. not (is_digit byte)) text from 16 others) where
  -- the lowest of those from a place on stands for the end of the digits there
  module _ (place : ℕ) (low : from ≤ place) (bits : ℕ → ℕ) (from_place : (k : ℕ) → bits k ≡ bit_at others (place - from + k)) (k : ℕ) (set : bits k ≡ 1) (below : (j : ℕ) → j < k → bits j ≡ 0) where
    -- it lies in the load
    pub other-inside : place + k < from + 16
    other-inside =
        elim (cases_lt (place - from + k) 16) [
          | inl inside ↦ omega arith
          | inr past ↦ absurd (omega (arith, from_place k, set, mask.within (place - from + k) past))
        ]

    -- those before it are digits, and it is none
    pub other-end : run_end kinds.Digit text place ≡ place + k
    other-end =
        run_end-is kinds.Digit text place (place + k) (omega arith) (omega (arith, other-inside))
        (λ j first last.
        let here : from + (place - from + (j - place)) ≡ j = omega arith in
        let clear = sym (mask.bits (place - from + (j - place)) (omega (arith, other-inside))) ∙ sym (from_place (j - place)) ∙ below (j - place) (omega arith) in
        ap (λ n. is_digit (get_or text n 0)) (sym here) ∙ not-false _ (zero_false _ clear))
        (λ _.
        let here : from + (place - from + k) ≡ place + k = omega arith in
        ap (λ n. is_digit (get_or text n 0)) (sym here) ∙ not-true _ (one_true _ (sym (mask.bits (place - from + k) (omega (arith, other-inside))) ∙ sym (from_place k) ∙ set)))
