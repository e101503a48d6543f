-- From one word of a line to the next.
use Rattle.std.proofs.Common.{◌≡◌, ℕ, ◌+◌, ◌-◌, ◌<◌, ◌≤◌, inl, inr, true, false, not, ◌||◌, eqb, List, [], ◌∷◌, map, length, get_or, sym, ◌∙◌, ap, subst, arith}
use Rattle.std.proofs.lemmas.Bool.{false≢true, and_from, and_parts, or_from, or_right, and_left, and_right, or_cases, ne_eqb, not-true, not-false, cases_lt}
use Rattle.rv_text.specs.Places.{run_end, is_blank, has_class}
use Rattle.rv_text.specs.declared.runs.ByteClass.{ByteClass}
use Rattle.rv_text.specs.declared.runs.ByteClass.TheVariants as kinds
use Rattle.rv_text.specs.TextLines.{select}
use Rattle.rv_text.specs.Words.{is_word_start, word_from, words_from}
use Rattle.rv_text.proofs.LeastLemmas.{run_end-low, run_end-high, run_end-each, run_end-stop}
use Rattle.rv_text.proofs.SelectLemmas.{select-skip, select-first, select-none}

-- a run has its first byte
pub run_end-more : (kind : ByteClass) (text : List ℕ) (from : ℕ) → from < length text → has_class kind (get_or text from 0) ≡ true → from < run_end kind text from
run_end-more kind text from inside is =
    elim (cases_lt from (run_end kind text from)) [
      | inl more ↦ more
      | inr none ↦ (let here : run_end kind text from ≡ from = omega (arith, run_end-low kind text from) in
          absurd (false≢true (sym (subst (λ (k : ℕ). has_class kind (get_or text k 0) ≡ false) here (run_end-stop kind text from (omega arith) (omega arith))) ∙ is)))
    ]

module _ (text : List ℕ) (place : ℕ) where
  -- no word starts in a run of blanks
  no_start : (k : ℕ) → place ≤ k → k < run_end kinds.Blank text place → is_word_start text k ≡ false
  no_start k low high = and_left _ _ (ap not (run_end-each kinds.Blank text place k low high))

  -- only blanks are left
  pub words_from-end : place ≤ length text → run_end kinds.Blank text place ≡ length text → words_from text place ≡ []
  unfolding words_from
  words_from-end low all =
      ap (map (word_from text))
      (select-skip (is_word_start text) place (length text - place) (length text) low (λ k l h g. no_start k l (omega arith))
      ∙ select-none (is_word_start text) (length text) (place + (length text - place) - length text) (omega arith))

  -- a word starts behind the blanks
  starts : place ≤ length text → (place < length text → (is_blank (get_or text place 0) || is_word_start text place) ≡ true) → run_end kinds.Blank text place < length text → is_word_start text (run_end kinds.Blank text place) ≡ true
  starts low kept inside =
      let stop : is_blank (get_or text (run_end kinds.Blank text place) 0) ≡ false = run_end-stop kinds.Blank text place low inside in
      elim (cases_lt place (run_end kinds.Blank text place)) [
        | inl later ↦ and_from _ _ (ap not stop) (or_right _ _ (run_end-each kinds.Blank text place (run_end kinds.Blank text place - 1) (omega arith) (omega arith)))
        | inr here ↦ (let same : run_end kinds.Blank text place ≡ place = omega (arith, run_end-low kinds.Blank text place) in
            elim (or_cases _ _ (kept (omega arith))) [
              | inl blank ↦ absurd (false≢true (sym stop ∙ subst (λ (k : ℕ). is_blank (get_or text k 0) ≡ true) (sym same) blank))
              | inr word ↦ subst (λ (k : ℕ). is_word_start text k ≡ true) (sym same) word
            ])
      ]

-- no word starts inside a word
inside_word : (text : List ℕ) (from k : ℕ) → from + 1 ≤ k → k < run_end kinds.Word text from → is_word_start text k ≡ false
inside_word text from k low high =
    and_right _ _ (or_from (eqb k 0) (is_blank (get_or text (k - 1) 0)) (ne_eqb k 0 (omega arith)) (not-true _ (run_end-each kinds.Word text from (k - 1) (omega arith) (omega arith))))

-- the word that starts here comes first
words_from-start : (text : List ℕ) (from : ℕ) → from < length text → is_word_start text from ≡ true → words_from text from ≡ word_from text from ∷ words_from text (run_end kinds.Word text from)
unfolding words_from
words_from-start text from inside start =
    let more : from < run_end kinds.Word text from = run_end-more kinds.Word text from inside ((and_parts _ _ start).0) in
    let count : from + 1 + (length text - from - 1) - run_end kinds.Word text from ≡ length text - run_end kinds.Word text from = omega (arith, run_end-high kinds.Word text from (omega arith)) in
    ap (map (word_from text))
    (select-first (is_word_start text) from (length text - from) (omega arith) start
    ∙ ap (λ places. from ∷ places)
    (select-skip (is_word_start text) (from + 1) (length text - from - 1) (run_end kinds.Word text from) (omega arith) (λ k l h g. inside_word text from k l h)
    ∙ ap (select (is_word_start text) (run_end kinds.Word text from)) count))

-- the words from a place on start behind its blanks
words_from-blanks : (text : List ℕ) (place : ℕ) → place ≤ length text → words_from text place ≡ words_from text (run_end kinds.Blank text place)
unfolding words_from
words_from-blanks text place low =
    let count : place + (length text - place) - run_end kinds.Blank text place ≡ length text - run_end kinds.Blank text place = omega arith in
    ap (map (word_from text))
    (select-skip (is_word_start text) place (length text - place) (run_end kinds.Blank text place) (run_end-low kinds.Blank text place) (λ k l h g. no_start text place k l h)
    ∙ ap (select (is_word_start text) (run_end kinds.Blank text place)) count)

-- the first word, and those behind it
pub words_from-next : (text : List ℕ) (place : ℕ) → place ≤ length text → (place < length text → (is_blank (get_or text place 0) || is_word_start text place) ≡ true) → run_end kinds.Blank text place < length text →
    words_from text place ≡ word_from text (run_end kinds.Blank text place) ∷ words_from text (run_end kinds.Word text (run_end kinds.Blank text place))
words_from-next text place low kept inside =
    words_from-blanks text place low ∙ words_from-start text (run_end kinds.Blank text place) inside (starts text place low kept inside)

-- behind a word stands a blank, or nothing
pub blank-behind : (text : List ℕ) (from : ℕ) → from ≤ length text → run_end kinds.Word text from < length text → (is_blank (get_or text (run_end kinds.Word text from) 0) || is_word_start text (run_end kinds.Word text from)) ≡ true
blank-behind text from low inside = ap (λ b. b || is_word_start text (run_end kinds.Word text from)) (not-false _ (run_end-stop kinds.Word text from low inside))

-- from the end on no word starts
pub words_from-past : (text : List ℕ) (place : ℕ) → length text ≤ place → words_from text place ≡ []
unfolding words_from
words_from-past text place past = ap (map (word_from text)) (select-none (is_word_start text) place (length text - place) (omega arith))
