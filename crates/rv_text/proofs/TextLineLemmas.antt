-- From one line of a text to the next.
use Rattle.std.proofs.Common.{◌≡◌, ◌≢◌, ℕ, ◌+◌, ◌-◌, ◌<◌, ◌≤◌, inl, inr, true, eqb, List, [], ◌∷◌, length, get_or, drop, min, sym, ◌∙◌, ap, subst, arith, ◌++◌, take, length-append, length-drop, refl}
use Rattle.std.proofs.lemmas.Bool.{or_from, or_right, ne_eqb, eq-eqb, eqb-true, eqb-false, cases_lt}
use Rattle.std.proofs.Math.ListN.{get_or-append}
use Rattle.std.proofs.lemmas.List.{drop-append-le, take-append-le, get_or-take, get_or-drop}
use Rattle.std.specs.List.{slice_range}
use Rattle.rv_text.proofs.LeastLemmas.{least-is, least-before, least-at, least-low, least-high}
use Rattle.rv_text.proofs.SelectLemmas.{select-skip, select-first, select-none}
use Rattle.rv_text.specs.TextLines.{select, is_line_start, line_end, next_number, line_here, lines_at, lines_from}

-- a byte of the rest
pub rest-reads : (text : List ℕ) (from k : ℕ) → from + k < length text → get_or (slice_range text from (length text)) k 0 ≡ get_or text (from + k) 0
rest-reads text from k inside = get_or-take (length text - from) (drop from text) k 0 (omega arith) ∙ get_or-drop from text k 0

-- a byte that stands nowhere in the front of the rest stands nowhere there in the text
pub none-before : (text : List ℕ) (byte from offset : ℕ) → from + offset ≤ length text → ((k : ℕ) → 0 ≤ k → k < offset → ¬ (eqb (get_or (slice_range text from (length text)) k 0) byte ≡ true)) → (k : ℕ) → from ≤ k → k < from + offset → get_or text k 0 ≢ byte
none-before text byte from offset inside other k low high is =
    let here : from + (k - from) ≡ k = omega arith in
    other (k - from) (omega arith) (omega arith) (eq-eqb _ _ (rest-reads text from (k - from) (omega arith) ∙ ap (λ n. get_or text n 0) here ∙ is))

-- where a line ends
pub line_end-is : (text : List ℕ) (from place : ℕ) → from ≤ place → place ≤ length text → ((k : ℕ) → from ≤ k → k < place → get_or text k 0 ≢ 10) → (place < length text → get_or text place 0 ≡ 10) → line_end text from ≡ place
unfolding line_end
line_end-is text from place low high other at =
    least-is (λ k. eqb (get_or text k 0) 10) from (length text - from) place low (omega arith) (λ k l h. ne_eqb _ _ (other k l h)) (λ h. eq-eqb _ _ (at (omega arith)))

-- it lies from the line's start on, and not past the end
pub line_end-low : (text : List ℕ) (from : ℕ) → from ≤ line_end text from
unfolding line_end
line_end-low text from = least-low (λ k. eqb (get_or text k 0) 10) from (length text - from)

-- it does not lie past the end of the text
pub line_end-high : (text : List ℕ) (from : ℕ) → from ≤ length text → line_end text from ≤ length text
unfolding line_end
line_end-high text from inside = omega (arith, least-high (λ k. eqb (get_or text k 0) 10) from (length text - from))

-- no line end stands before it, and one stands there
pub line_end-other : (text : List ℕ) (from k : ℕ) → from ≤ k → k < line_end text from → get_or text k 0 ≢ 10
unfolding line_end
line_end-other text from k low high = eqb-false _ _ (least-before (λ n. eqb (get_or text n 0) 10) from (length text - from) k low high)

-- where it is not the end of the text, a line end stands there
pub line_end-byte : (text : List ℕ) (from : ℕ) → from ≤ length text → line_end text from < length text → get_or text (line_end text from) 0 ≡ 10
unfolding line_end
line_end-byte text from low ended = eqb-true _ _ (least-at (λ n. eqb (get_or text n 0) 10) from (length text - from) (omega arith))

module _ (text : List ℕ) (from : ℕ) where
  -- a line starts here, and the next one behind its end
  pub next_start : from < length text → is_line_start text from ≡ true → select (is_line_start text) from (length text - from) ≡ from ∷ select (is_line_start text) (line_end text from + 1) (length text - (line_end text from + 1))
  unfolding line_end
  next_start inside start =
      let rest : from + 1 + (length text - from - 1) - (line_end text from + 1) ≡ length text - (line_end text from + 1) = omega arith in
      select-first (is_line_start text) from (length text - from) (omega arith) start
      ∙ ap (λ places. from ∷ places)
      (select-skip (is_line_start text) (from + 1) (length text - from - 1) (line_end text from + 1)
      (omega (arith, least-low (λ k. eqb (get_or text k 0) 10) from (length text - from)))
      (λ k l h g. or_from (eqb k 0) (eqb (get_or text (k - 1) 0) 10) (ne_eqb _ _ (omega arith))
      (least-before (λ n. eqb (get_or text n 0) 10) from (length text - from) (k - 1) (omega arith) (omega arith)))
      ∙ ap (select (is_line_start text) (line_end text from + 1)) rest)

  -- behind a line end a line starts
  pub start-next : from ≤ length text → line_end text from + 1 < length text → is_line_start text (line_end text from + 1) ≡ true
  unfolding line_end
  start-next low inside =
      let last : line_end text from ≡ line_end text from + 1 - 1 = omega arith in
      or_right (eqb (line_end text from + 1) 0) (eqb (get_or text (line_end text from + 1 - 1) 0) 10)
      (subst (λ (n : ℕ). eqb (get_or text n 0) 10 ≡ true) last (least-at (λ k. eqb (get_or text k 0) 10) from (length text - from) (omega arith)))

-- no line starts from the end on
pub lines_from-end : (text : List ℕ) (number from : ℕ) → length text ≤ from → lines_from text number from ≡ []
unfolding lines_from lines_at
lines_from-end text number from past = ap (lines_at text number) (select-none (is_line_start text) from (length text - from) (omega arith))

-- the first line and those behind it
pub lines_from-first : (text : List ℕ) (number from : ℕ) → from < length text → is_line_start text from ≡ true → lines_from text number from ≡ line_here text number from ∷ lines_from text (next_number number) (line_end text from + 1)
unfolding lines_from lines_at
lines_from-first text number from inside start = ap (lines_at text number) (next_start text from inside start)

-- the same by where the first line ends, its line end included
pub lines_from-next : (text : List ℕ) (number from : ℕ) → from < length text → is_line_start text from ≡ true → lines_from text number from ≡ line_here text number from ∷ lines_from text (next_number number) (min (line_end text from + 1) (length text))
lines_from-next text number from inside start =
    lines_from-first text number from inside start
    ∙ ap (λ lines. line_here text number from ∷ lines) (elim (cases_lt (line_end text from) (length text)) [
      | inl ended ↦ (let same : line_end text from + 1 ≡ min (line_end text from + 1) (length text) = omega arith in ap (lines_from text (next_number number)) same)
      | inr past ↦ lines_from-end text (next_number number) (line_end text from + 1) (omega arith) ∙ sym (lines_from-end text (next_number number) (min (line_end text from + 1) (length text)) (omega arith))
    ])

-- where the first line ends, a line starts, or nothing does
pub start-behind : (text : List ℕ) (from : ℕ) → from < length text → min (line_end text from + 1) (length text) < length text → is_line_start text (min (line_end text from + 1) (length text)) ≡ true
start-behind text from inside more =
    let same : line_end text from + 1 ≡ min (line_end text from + 1) (length text) = omega arith in
    subst (λ (n : ℕ). is_line_start text n ≡ true) same (start-next text from (omega arith) (omega arith))

-- a line that has its line end is the same, whatever follows
module _ (text more : List ℕ) (number from : ℕ) where
  -- it ends at the same place
  line_end-append : line_end text from < length text → line_end (text ++ more) from ≡ line_end text from
  line_end-append ended =
      let low : from ≤ line_end text from = line_end-low text from in
      line_end-is (text ++ more) from (line_end text from) low (omega (arith, length-append text more))
      (λ k l h e. line_end-other text from k l h (sym (get_or-append text more 0 k (omega arith)) ∙ e))
      (λ h. get_or-append text more 0 (line_end text from) ended ∙ line_end-byte text from (omega arith) ended)

  -- and has the same bytes
  pub line_here-append : line_end text from < length text → line_here (text ++ more) number from ≡ line_here text number from
  line_here-append ended =
      let low : from ≤ line_end text from = line_end-low text from in
      let end : line_end (text ++ more) from ≡ line_end text from = line_end-append ended in
      let size : min (line_end text from + 1) (length (text ++ more)) ≡ min (line_end text from + 1) (length text) = omega (arith, length-append text more) in
      let front : drop from (text ++ more) ≡ drop from text ++ more = drop-append-le from text more (omega arith) in
      let piece : take (line_end text from - from) (drop from text ++ more) ≡ take (line_end text from - from) (drop from text) = take-append-le (line_end text from - from) (drop from text) more (omega (arith, length-drop from text)) in
      rw (end, size, front, piece) refl
