-- Up to the first line that ends past a limit, the lines of a text are those of its front.
use Rattle.std.proofs.Common.{◌≡◌, ℕ, zero, suc, ◌+◌, ◌-◌, ◌<◌, ◌≤◌, ◌⊎◌, inl, inr, true, ◌||◌, eqb, List, [], ◌∷◌, ◌++◌, length, get_or, take, drop, refl, sym, ◌∙◌, ap, subst, arith, length-append}
use Rattle.std.proofs.Math.ListN.{get_or-append}
use Rattle.std.proofs.Math.Path.{subst₂}
use Rattle.std.proofs.lemmas.Bool.{cases_lt}
use Rattle.std.proofs.lemmas.List.{take-append-drop, take_all, length-take-le}
use Rattle.rv_text.specs.TextLines.{LineText, is_line_start, line_end, line_here, lines_from, lines_of, next_number}
use Rattle.rv_text.proofs.TextLineLemmas.{line_end-low, line_end-other, line_end-byte, lines_from-next, start-behind, line_here-append}

-- the lines are the same up to the first that ends past the limit, which has one number in both
abbrev pub AreAlikeWithin : ℕ → List LineText → List LineText → Type 0
AreAlikeWithin limit [] [] = Unit {0}
AreAlikeWithin limit [] (other ∷ others) = ⊥
AreAlikeWithin limit (line ∷ lines) [] = ⊥
AreAlikeWithin limit (line ∷ lines) (other ∷ others) = ((line ≡ other) × AreAlikeWithin limit lines others) ⊎ ((line.number ≡ other.number) × (limit < line.end) × (limit < other.end))

-- lines are as they are
same-lines : (limit : ℕ) (lines : List LineText) → AreAlikeWithin limit lines lines
same-lines limit [] = tt
same-lines limit (line ∷ lines) = inl (refl, same-lines limit lines)

module _ (front more : List ℕ) (limit : ℕ) (size : length front ≡ limit + 1) where
  -- the text that goes on behind the front
  abbrev whole : List ℕ
  whole = front ++ more

  -- a byte of the front
  byte-whole : (place : ℕ) → place < length front → get_or whole place 0 ≡ get_or front place 0
  byte-whole place inside = get_or-append front more 0 place inside

  -- where a line of the front starts, one of the text does
  start-whole : (from : ℕ) → from < length front → is_line_start front from ≡ true → is_line_start whole from ≡ true
  start-whole from inside start = ap (λ byte. eqb from 0 || eqb byte 10) (byte-whole (from - 1) (omega arith)) ∙ start

  -- a line that ends past the limit in the front does so in the text
  ends-past : (number from : ℕ) → from ≤ limit → limit ≤ line_end front from → limit < (line_here whole number from).end
  ends-past number from low past =
      let long : length whole ≡ length front + length more = length-append front more in
      elim (cases_lt (line_end whole from) limit) [
        | inl below ↦ absurd (line_end-other front from (line_end whole from) (line_end-low whole from) (omega arith)
            (sym (byte-whole (line_end whole from) (omega arith)) ∙ line_end-byte whole from (omega arith) (omega arith)))
        | inr behind ↦ omega arith
      ]

  -- the lines from a place on
  alike-from : (fuel number from : ℕ) → limit < from + fuel → from ≤ limit → is_line_start front from ≡ true → AreAlikeWithin limit (lines_from whole number from) (lines_from front number from)
  alike-from zero number from some low start = absurd (omega arith)
  alike-from (suc fuel) number from some low start =
      let long : length whole ≡ length front + length more = length-append front more in
      let in_whole : lines_from whole number from ≡ line_here whole number from ∷ lines_from whole (next_number number) (line_here whole number from).end = lines_from-next whole number from (omega arith) (start-whole from (omega arith) start) in
      let in_front : lines_from front number from ≡ line_here front number from ∷ lines_from front (next_number number) (line_here front number from).end = lines_from-next front number from (omega arith) start in
      subst₂ (AreAlikeWithin limit) (sym in_whole) (sym in_front) (elim (cases_lt (line_end front from) limit) [
        | inl within ↦ (
            let same : line_here whole number from ≡ line_here front number from = line_here-append front more number from (omega arith) in
            let later : ℕ = (line_here front number from).end in
            let behind : from < later = omega (arith, line_end-low front from) in
            inl (
              same,
              subst (λ (place : ℕ). AreAlikeWithin limit (lines_from whole (next_number number) place) (lines_from front (next_number number) later)) (sym (ap (λ (line : LineText). line.end) same))
                  (alike-from fuel (next_number number) later (omega arith) (omega arith) (start-behind front from (omega arith) (omega arith))),
            ))
        | inr past ↦ inr (refl, ends-past number from low past, omega arith)
      ])

-- all lines of a text, and those of its front that is one byte longer than the limit
pub lines_of-alike : (text : List ℕ) (limit : ℕ) → AreAlikeWithin limit (lines_of text) (lines_of (take (limit + 1) text))
unfolding lines_of
lines_of-alike text limit =
    elim (cases_lt (limit + 1) (length text)) [
      | inl longer ↦ subst (λ (t : List ℕ). AreAlikeWithin limit (lines_from t 1 0) (lines_from (take (limit + 1) text) 1 0)) (take-append-drop (limit + 1) text)
          (alike-from (take (limit + 1) text) (drop (limit + 1) text) limit (length-take-le (limit + 1) text (omega arith)) (limit + 1) 1 0 (omega arith) (omega arith) refl)
      | inr short ↦ subst (λ (t : List ℕ). AreAlikeWithin limit (lines_from text 1 0) (lines_from t 1 0)) (sym (take_all (limit + 1) text (omega arith))) (same-lines limit (lines_from text 1 0))
    ]
