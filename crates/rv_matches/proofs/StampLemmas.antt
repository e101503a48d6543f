-- The last word of a text, as it is found from the end.
use Rattle.std.proofs.Common.{◌≡◌, ℕ, zero, suc, ◌+◌, ◌-◌, ◌<◌, ◌≤◌, inl, inr, Bool, true, false, not, cond, ◌||◌, eqb, List, [], ◌∷◌, ◌++◌, map, length, get_or, take, drop, sym, ◌∙◌, ap, arith}
use Rattle.std.proofs.lemmas.Bool.{false≢true, and_from, and_left, and_right, cases_lt, eq-eqb, ne_eqb, not-false, not-true, or_from, or_right}
use Rattle.std.proofs.lemmas.List.{drop-take, get_or-drop, get_or-take, length-drop, length-take-le, map_push, take-take}
use Rattle.std.proofs.lemmas.List.Sums.{fold_push}
use Rattle.std.proofs.lemmas.Slice.{between_from_start}
use Rattle.rv_text.specs.Places.{between, has_class, is_blank, run_end}
use Rattle.rv_text.specs.declared.runs.ByteClass.TheVariants as kinds
use Rattle.rv_text.specs.TextLines.{select}
use Rattle.rv_text.specs.Words.{is_word_start, word_from, words_from, words_of}
use Rattle.rv_text.proofs.LeastLemmas.{run_end-is}
use Rattle.rv_text.proofs.SelectLemmas.{select-first, select-none, select-skip}
use Rattle.rv_matches.specs.LineEvents.{stamp_before, without_last}
use Rattle.rv_matches.specs.Words.{last_of}

-- places in two parts
select_parts : (test : ℕ → Bool) (from a b : ℕ) → select test from (a + b) ≡ select test from a ++ select test (from + a) b
unfolding select
select_parts test from zero b =
    ap (select test from) (let e : zero + b ≡ b = omega arith in e) ∙ ap (λ n. select test n b) (let e : from ≡ from + zero = omega arith in e)
select_parts test from (suc a) b =
    let rest : select test (from + 1) (a + b) ≡ select test (from + 1) a ++ select test (from + suc a) b =
    select_parts test (from + 1) a b ∙ ap (λ n. select test (from + 1) a ++ select test n b) (let e : from + 1 + a ≡ from + suc a = omega arith in e) in
    ap (select test from) (let e : suc a + b ≡ suc (a + b) = omega arith in e) ∙ go (test from) rest
  where
    go : (is : Bool) → select test (from + 1) (a + b) ≡ select test (from + 1) a ++ select test (from + suc a) b
        → cond is (from ∷ select test (from + 1) (a + b)) (select test (from + 1) (a + b)) ≡ cond is (from ∷ select test (from + 1) a) (select test (from + 1) a) ++ select test (from + suc a) b
    go true rest = ap (λ ps. from ∷ ps) rest
    go false rest = rest

module _ (text : List ℕ) (from to : ℕ) (low : from ≤ to) (high : to ≤ length text)
    (blank : (k : ℕ) → to ≤ k → k < length text → has_class kinds.Blank (get_or text k 0) ≡ true)
    (word : (k : ℕ) → from ≤ k → k < to → has_class kinds.Word (get_or text k 0) ≡ true)
    (before : 0 < from → has_class kinds.Word (get_or text (from - 1) 0) ≡ false)
    (end : 0 < to → has_class kinds.Blank (get_or text (to - 1) 0) ≡ false) where
  -- no word starts behind the first byte of the word
  no_later : (k : ℕ) → from + 1 ≤ k → k < length text → is_word_start text k ≡ false
  no_later k behind inside = elim (cases_lt k to) [
    | inl within ↦ and_right _ _ (or_from (eqb k 0) (is_blank (get_or text (k - 1) 0)) (ne_eqb k 0 (omega arith)) (not-true _ (word (k - 1) (omega arith) (omega arith))))
    | inr past ↦ and_left _ _ (ap not (blank k past inside))
  ]

  -- one starts there
  starts : from < to → is_word_start text from ≡ true
  starts some = and_from _ _ (word from (omega arith) some) (elim (cases_lt 0 from) [
    | inl later ↦ or_right _ _ (not-false _ (before later))
    | inr first ↦ ap (λ b. b || is_blank (get_or text (from - 1) 0)) (eq-eqb from 0 (omega arith))
  ])

  -- the last word, where there is one
  last_some : from < to → last_of (words_of text) ≡ between text from to
  unfolding words_of words_from
  last_some some =
      let behind : List ℕ = select (is_word_start text) (from + 1) (length text - from - 1) in
      let front : List (List ℕ) = map (word_from text) (select (is_word_start text) 0 from) in
      let none : behind ≡ [] =
      select-skip (is_word_start text) (from + 1) (length text - from - 1) (length text) (omega arith) (λ k l h g. no_later k l (omega arith))
      ∙ select-none (is_word_start text) (length text) (from + 1 + (length text - from - 1) - length text) (omega arith) in
      let all : select (is_word_start text) 0 (length text - 0) ≡ select (is_word_start text) 0 from ++ from ∷ [] =
      ap (select (is_word_start text) 0) (let e : length text - 0 ≡ from + (length text - from) = omega arith in e)
      ∙ select_parts (is_word_start text) 0 from (length text - from)
      ∙ ap (λ ps. select (is_word_start text) 0 from ++ ps) (ap (λ n. select (is_word_start text) n (length text - from)) (let e : 0 + from ≡ from = omega arith in e)
      ∙ select-first (is_word_start text) from (length text - from) (omega arith) (starts some)
      ∙ ap (λ ps. from ∷ ps) none) in
      let stop : run_end kinds.Word text from ≡ to = run_end-is kinds.Word text from to low high word (λ h. ap not (blank to (omega arith) h)) in
      ap (λ ps. last_of (map (word_from text) ps)) all
      ∙ ap last_of (map_push (word_from text) (select (is_word_start text) 0 from) from)
      ∙ fold_push (λ last word. word) [] front (word_from text from)
      ∙ ap (between text from) stop

  -- or none
  last_none : to ≤ from → last_of (words_of text) ≡ between text from to
  unfolding words_of words_from
  last_none none =
      let first : to ≡ 0 = elim (cases_lt 0 to) [
        | inl some ↦
            let same : from ≡ to = omega arith in
            let there : has_class kinds.Blank (get_or text (to - 1) 0) ≡ true = ap (λ (n : ℕ). has_class kinds.Blank (get_or text (n - 1) 0)) (sym same) ∙ not-false _ (before (omega arith)) in
            absurd (false≢true (sym (end some) ∙ there))
        | inr empty ↦ omega arith
      ] in
      let nothing : select (is_word_start text) 0 (length text - 0) ≡ [] =
      select-skip (is_word_start text) 0 (length text - 0) (length text) (omega arith) (λ k l h g. and_left _ _ (ap not (blank k (omega arith) h)))
      ∙ select-none (is_word_start text) (length text) (0 + (length text - 0) - length text) (omega arith) in
      ap (λ ps. last_of (map (word_from text) ps)) nothing
      ∙ sym (ap (between text from) first ∙ ap (λ n. take n (drop from text)) (let e : 0 - from ≡ 0 = omega arith in e))

  -- the word from there is the last
  pub last_word : last_of (words_of text) ≡ between text from to
  last_word = elim (cases_lt from to) [
    | inl some ↦ last_some some
    | inr none ↦ last_none none
  ]

-- ---- without its last byte

module _ (text : List ℕ) (end from to : ℕ) (inside : end ≤ length text) (low : from ≤ to) (high : to ≤ end) where
  -- the word in the front of a text is that in the text
  word_in_text : between (take end text) from to ≡ between text from to
  word_in_text =
      let front : drop from (take end text) ≡ take (end - from) (drop from text) = ap (λ n. drop from (take n text)) (let e : end ≡ from + (end - from) = omega arith in e) ∙ drop-take from (end - from) text in
      ap (take (to - from)) front ∙ take-take (to - from) (end - from) (drop from text) (omega arith)

  -- and without its last byte it is what stands up to a place before
  without_last_at : (place : ℕ) → place - from ≡ to - from - 1 → between text from place ≡ without_last (between (take end text) from to)
  without_last_at place before =
      let word = between (take end text) from to in
      let long : length word ≡ to - from = ap length word_in_text ∙ length-take-le (to - from) (drop from text) (omega (arith, length-drop from text)) in
      ap (λ n. take n (drop from text)) before
      ∙ sym (take-take (to - from - 1) (to - from) (drop from text) (omega arith))
      ∙ ap (take (to - from - 1)) (sym word_in_text)
      ∙ ap (λ n. take (n - 1) word) (sym long)

  -- so the last word of the front is found in the text
  pub last_without_last : ((k : ℕ) → to ≤ k → k < end → has_class kinds.Blank (get_or (take end text) k 0) ≡ true)
      → ((k : ℕ) → from ≤ k → k < to → has_class kinds.Word (get_or (take end text) k 0) ≡ true)
      → (0 < from → has_class kinds.Word (get_or (take end text) (from - 1) 0) ≡ false)
      → (0 < to → has_class kinds.Blank (get_or (take end text) (to - 1) 0) ≡ false)
      → (place : ℕ) → place - from ≡ to - from - 1 → between text from place ≡ without_last (last_of (words_of (between text 0 end)))
  last_without_last blank word before solid place is =
      let front = take end text in
      let long : length front ≡ end = length-take-le end text inside in
      without_last_at place is
      ∙ ap without_last (sym (ap (λ t. last_of (words_of t)) (between_from_start text end) ∙ last_word front from to low (omega (arith, long)) (λ k l h. blank k l (omega (arith, long))) word before solid))

-- a word that is found by the bytes before and behind it
module _ (text : List ℕ) (name end : ℕ) (inside : name ≤ length text) (room : end + 3 ≤ name)
    (front : get_or text (name - end - 3) 0 ≡ 32) (colon : get_or text (name - 2) 0 ≡ 58) (behind : get_or text (name - 1) 0 ≡ 32)
    (word : (k : ℕ) → k < end → has_class kinds.Word (get_or (between text (name - end - 2) (length text)) k 0) ≡ true) where
  -- a byte before the name
  byte_is : (k other byte : ℕ) → k < name → k ≡ other → get_or text other 0 ≡ byte → get_or (take name text) k 0 ≡ byte
  byte_is k other byte before same is = get_or-take name text k 0 before ∙ ap (λ (j : ℕ). get_or text j 0) same ∙ is

  -- a byte of the word
  word_byte : (k : ℕ) → name - end - 2 ≤ k → k < name - 2 → has_class kinds.Word (get_or (take name text) k 0) ≡ true
  word_byte k low high =
      let from = name - end - 2 in
      let there : get_or (between text from (length text)) (k - from) 0 ≡ get_or text k 0 =
      get_or-take (length text - from) (drop from text) (k - from) 0 (omega arith) ∙ get_or-drop from text (k - from) 0 ∙ ap (λ (j : ℕ). get_or text j 0) (let e : from + (k - from) ≡ k = omega arith in e) in
      ap (has_class kinds.Word) (get_or-take name text k 0 (omega arith) ∙ sym there) ∙ word (k - from) (omega arith)

  -- it is the last word before the name, without its colon
  pub stamp_found : take end (between text (name - end - 2) (length text)) ≡ stamp_before text name
  stamp_found =
      let from = name - end - 2 in
      take-take end (length text - from) (drop from text) (omega arith)
      ∙ ap (λ n. take n (drop from text)) (let e : end ≡ name - 2 - from = omega arith in e)
      ∙ last_without_last text name from (name - 1) inside (omega arith) (omega arith)
      (λ k low high. ap (has_class kinds.Blank) (byte_is k (name - 1) 32 high (omega arith) behind))
      (λ k low high. elim (cases_lt k (name - 2)) [
        | inl before ↦ word_byte k low before
        | inr last ↦ ap (has_class kinds.Word) (byte_is k (name - 2) 58 (omega arith) (omega arith) colon)
      ])
      (λ some. ap (has_class kinds.Word) (byte_is (from - 1) (name - end - 3) 32 (omega arith) (omega arith) front))
      (λ some. ap (has_class kinds.Blank) (byte_is (name - 1 - 1) (name - 2) 58 (omega arith) (omega arith) colon))
      (name - 2) (omega arith)
