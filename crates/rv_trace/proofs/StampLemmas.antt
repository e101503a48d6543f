-- A timestamp by its places, in both directions.
use Rattle.std.proofs.Common.{◌≡◌, ℕ, suc, ◌+◌, ◌<◌, ◌≤◌, ◌||◌, ◌==◌, inl, inr, true, false, not, cond, List, length, get_or, Some, None, refl, sym, ◌∙◌, ap, subst, arith}
use Rattle.std.proofs.lemmas.Bool.{false≢true, not-false, and_parts, and_from, or_cases, or_left, or_right, ltb-true, eqb-true, eq-eqb, ne_eqb, lt-ltb, cases_lt, cases_order}
use Rattle.std.proofs.lemmas.List.{get_or_past}
use Rattle.rv_text.specs.Places.{is_digit, is_blank, has_class, run_end}
use Rattle.rv_text.specs.declared.runs.ByteClass.TheVariants as kinds
use Rattle.rv_text.proofs.LeastLemmas.{run_end-is, run_end-each, run_end-stop}
use Rattle.rv_trace.specs.declared.parts.LinePart.{LinePart}
use Rattle.rv_trace.specs.Lines.{is_stamp, word_at, stamp_end}
use Rattle.rv_trace.specs.inner.LineParts.{word_part, end_from}
use Rattle.rv_trace.specs.Stamps.{AreDigits, IsStampTo, IsStamp}

-- a run of digits that has one is digits
run-digits : (text : List ℕ) (from : ℕ) → from < run_end kinds.Digit text from → AreDigits text from (run_end kinds.Digit text from)
run-digits text from some = record {
  some = some;
  each = λ k l h. run_end-each kinds.Digit text from k l h;
}

-- a byte that is not 0 stands in the text
inside : (text : List ℕ) (place byte : ℕ) → get_or text place 0 ≡ suc byte → place < length text
inside text place byte is =
    elim (cases_lt place (length text)) [
      | inl within ↦ within
      | inr past ↦ absurd (let none : 0 ≡ suc byte = sym (get_or_past text place 0 past) ∙ is in omega arith)
    ]

-- digits up to a byte that is none are a whole run
digits-run : (text : List ℕ) (from to : ℕ) → AreDigits text from to → to ≤ length text → is_digit (get_or text to 0) ≡ false → run_end kinds.Digit text from ≡ to
digits-run text from to digits high other = run_end-is kinds.Digit text from to (omega (arith, digits.some)) high digits.each (λ _. other)

-- what passes the test is a timestamp by its places
pub stamp-places : (text : List ℕ) (word : LinePart) → is_stamp text word ≡ true → IsStamp text word
unfolding is_stamp
stamp-places text word is =
    let whole : ℕ = run_end kinds.Digit text word.from in
    let parts = and_parts _ _ is in
    let some : word.from < run_end kinds.Digit text word.from = ltb-true _ _ parts.0 in
    elim (or_cases _ _ parts.1) [
      | inl short ↦ (let two = and_parts _ _ short in
          (run_end kinds.Digit text word.from, record { last = eqb-true _ _ two.1; mark = eqb-true _ _ two.0; digits = inl (run-digits text word.from some) }))
      | inr long ↦ (let three = and_parts _ _ long in
          let two = and_parts _ _ three.0 in
          let one = and_parts _ _ two.0 in (
            run_end kinds.Digit text (run_end kinds.Digit text word.from + 1),
            record {
              last = eqb-true _ _ three.1;
              mark = eqb-true _ _ two.1;
              digits = inr (
                run_end kinds.Digit text word.from,
                record {
                  whole = run-digits text word.from some;
                  mark = eqb-true _ _ one.0;
                  part = run-digits text (run_end kinds.Digit text word.from + 1) (ltb-true _ _ one.1);
                },
              );
            },
          ))
    ]

-- what is a timestamp by its places passes the test
pub places-stamp : (text : List ℕ) (word : LinePart) (colon : ℕ) → IsStampTo text word colon → is_stamp text word ≡ true
unfolding is_stamp
places-stamp text word colon is =
    let within : colon < length text = inside text colon 57 is.mark in
    elim is.digits [
      | inl digits ↦ (let whole : run_end kinds.Digit text word.from ≡ colon = digits-run text word.from colon digits (omega arith) (ap is_digit is.mark) in
          rw whole (and_from _ _ (lt-ltb _ _ digits.some) (or_left _ _ (and_from _ _ (eq-eqb _ _ is.mark) (eq-eqb _ _ is.last)))))
      | inr pointed ↦ (let point = pointed.0 in
          let has = pointed.1 in
          let whole : run_end kinds.Digit text word.from ≡ pointed.0 = digits-run text word.from pointed.0 has.whole (omega (arith, inside text pointed.0 45 has.mark)) (ap is_digit has.mark) in
          let part : run_end kinds.Digit text (pointed.0 + 1) ≡ colon = digits-run text (pointed.0 + 1) colon has.part (omega arith) (ap is_digit is.mark) in
          rw (whole, part) (and_from _ _ (lt-ltb _ _ has.whole.some) (or_right _ _
          (and_from _ _ (and_from _ _ (and_from _ _ (eq-eqb _ _ has.mark) (lt-ltb _ _ has.part.some)) (eq-eqb _ _ is.mark)) (eq-eqb _ _ is.last)))))
    ]

-- a digit is no blank
digit-word : (byte : ℕ) → is_digit byte ≡ true → has_class kinds.Word byte ≡ true
digit-word byte digit =
    elim (is_blank byte) as (λ b. is_blank byte ≡ b → not b ≡ true) [
      | true ↦ (λ blank. absurd (false≢true (sym (elim (or_cases _ _ blank) [
        | inl space ↦ ap is_digit (eqb-true byte 32 space)
        | inr tab ↦ ap is_digit (eqb-true byte 9 tab)
      ]) ∙ digit)))
      | false ↦ (λ _. refl)
    ] refl

-- this byte stands there, and it is no blank
marked-word : (text : List ℕ) (place k byte : ℕ) → place ≡ k → get_or text place 0 ≡ byte → has_class kinds.Word byte ≡ true → has_class kinds.Word (get_or text k 0) ≡ true
marked-word text place k byte same is word = subst (λ (n : ℕ). has_class kinds.Word (get_or text n 0) ≡ true) same (ap (has_class kinds.Word) is ∙ word)

-- no blank stands in a timestamp
stamp-word : (text : List ℕ) (word : LinePart) (colon : ℕ) → IsStampTo text word colon → (k : ℕ) → word.from ≤ k → k < word.to → has_class kinds.Word (get_or text k 0) ≡ true
stamp-word text word colon is k low high =
    elim (cases_lt k colon) [
      | inl before ↦ elim is.digits [
        | inl digits ↦ digit-word (get_or text k 0) (digits.each k low before)
        | inr pointed ↦ (let has = pointed.1 in
            elim (cases_order k pointed.0) [
              | inl same ↦ marked-word text pointed.0 k 46 (sym same) has.mark refl
              | inr sides ↦ elim sides [
                | inl less ↦ digit-word (get_or text k 0) (has.whole.each k low less)
                | inr more ↦ digit-word (get_or text k 0) (has.part.each k (omega arith) before)
              ]
            ])
      ]
      | inr on ↦ marked-word text colon k 58 (omega (arith, is.last)) is.mark refl
    ]

module _ (text : List ℕ) (from end : ℕ) (within : end ≤ length text) where
  -- what begins at this place is a timestamp just where it ends at this end
  abbrev pub stands : Type 0
  stands = (to : ℕ) → is_stamp text (record { from = from; to = to }) ≡ (end == to)

  -- a timestamp with no more of a word behind it is the word
  pub stamp-whole : stands → (end == length text || is_blank (get_or text end 0)) ≡ true → run_end kinds.Word text from ≡ end
  stamp-whole is behind =
      let some = stamp-places text (record { from = from; to = end }) (is end ∙ eq-eqb end end refl) in
      let stamp = some.1 in
      let low : from ≤ end = elim stamp.digits [
        | inl digits ↦ omega (arith, digits.some, stamp.last)
        | inr pointed ↦ omega (arith, pointed.1.whole.some, pointed.1.part.some, stamp.last)
      ] in
      run_end-is kinds.Word text from end low within (stamp-word text (record { from = from; to = end }) some.0 stamp)
      (λ more. elim (or_cases _ _ behind) [
        | inl last ↦ absurd (let e : end ≡ length text = eqb-true _ _ last in omega arith)
        | inr blank ↦ ap not blank
      ])

  -- so the word that begins there is a timestamp with this end
  pub stamp-is : stands → (end == length text || is_blank (get_or text end 0)) ≡ true → Some end ≡ cond (is_stamp text (word_part text from)) (Some (run_end kinds.Word text from)) None
  stamp-is is behind =
      let whole = stamp-whole is behind in
      sym (ap (λ b. cond b (Some (run_end kinds.Word text from)) None) (is (run_end kinds.Word text from) ∙ eq-eqb _ _ (sym whole)) ∙ ap Some whole)

  -- a word that goes on does not end here
  goes_on : from ≤ length text → (end == length text || is_blank (get_or text end 0)) ≡ false → end ≡ run_end kinds.Word text from → ⊥
  goes_on inside_text behind last =
      elim (cases_lt end (length text)) [
        | inl before ↦ (
            let stop = run_end-stop kinds.Word text from inside_text (omega arith) in
            let blank : is_blank (get_or text end 0) ≡ true = subst (λ (n : ℕ). is_blank (get_or text n 0) ≡ true) (sym last) (not-false _ stop) in
            false≢true (sym behind ∙ or_right _ _ blank))
        | inr past ↦ false≢true (sym behind ∙ or_left _ _ (eq-eqb _ _ (let e : end ≡ length text = omega arith in e)))
      ]

  -- a word that goes on is none
  pub stamp-is_not : from ≤ length text → stands → (end == length text || is_blank (get_or text end 0)) ≡ false → None ≡ cond (is_stamp text (word_part text from)) (Some (run_end kinds.Word text from)) None
  stamp-is_not inside_text is behind =
      sym (ap (λ b. cond b (Some (run_end kinds.Word text from)) None) (is (run_end kinds.Word text from) ∙ ne_eqb _ _ (goes_on inside_text behind)))

module _ (text : List ℕ) (place : ℕ) where
  -- where the first word from the place on begins
  abbrev pub first : ℕ
  first = run_end kinds.Blank text place

  -- where the second one begins
  abbrev pub second : ℕ
  second = run_end kinds.Blank text (run_end kinds.Word text first)

  -- the first word is a timestamp
  pub first-end : (end : ℕ) → Some end ≡ end_from text first → Some end ≡ stamp_end text place
  unfolding stamp_end word_at
  first-end end =
      elim (is_stamp text (word_part text first)) as (λ b. Some end ≡ cond b (Some (run_end kinds.Word text first)) None → Some end ≡ cond b (Some (run_end kinds.Word text first)) (end_from text second)) [
        | true ↦ (λ is. is)
        | false ↦ (λ is. absurd cc)
      ]

  -- or else the second one
  pub second-end : None ≡ end_from text first → end_from text second ≡ stamp_end text place
  unfolding stamp_end word_at
  second-end =
      elim (is_stamp text (word_part text first)) as (λ b. None ≡ cond b (Some (run_end kinds.Word text first)) None → end_from text second ≡ cond b (Some (run_end kinds.Word text first)) (end_from text second)) [
        | true ↦ (λ is. absurd cc)
        | false ↦ (λ is. refl)
      ]
