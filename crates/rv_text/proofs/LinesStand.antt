-- Each line of a text stands in it.
use Rattle.std.proofs.Common.{◌≡◌, ℕ, zero, suc, ◌+◌, ◌-◌, ◌<◌, ◌≤◌, Bool, true, false, cond, List, [], ◌∷◌, length, sym, ap, arith}
use Rattle.std.specs.List.{All}
use Rattle.std.proofs.lemmas.List.Elements.{All-nil, All-cons, All-head, All-tail}
use Rattle.std.proofs.lemmas.List.Edits.{length-between}
use Rattle.rv_text.specs.Places.{between}
use Rattle.rv_text.specs.TextLines.{select, is_line_start, line_end, line_here, lines_at, lines_from, lines_of, next_number}
use Rattle.rv_text.specs.inner.LinePlaces.{StandsIn}
use Rattle.rv_text.proofs.TextLineLemmas.{line_end-low, line_end-high}

-- the places that pass lie among the places
select-below : (test : ℕ → Bool) (from count limit : ℕ) → from + count ≤ limit → All (λ place. place < limit) (select test from count)
unfolding select
select-below test from zero limit fits = All-nil (λ place. place < limit)
select-below test from (suc count) limit fits =
    let later : All (λ place. place < limit) (select test (from + 1) count) = select-below test (from + 1) count limit (omega arith) in
    elim (test from) as (λ b. All (λ place. place < limit) (cond b (from ∷ select test (from + 1) count) (select test (from + 1) count))) [
      | true ↦ All-cons (λ place. place < limit) from (select test (from + 1) count) (omega arith) later
      | false ↦ later
    ]

-- the line that starts at a place of the text
line_here-stands : (text : List ℕ) (number from : ℕ) → from < length text → StandsIn text (line_here text number from)
line_here-stands text number from inside =
    let high : line_end text from ≤ length text = line_end-high text from (omega arith) in
    let size : length (between text from (line_end text from)) ≡ line_end text from - from = length-between text from (line_end text from) high in
    let end : from + length (between text from (line_end text from)) ≡ line_end text from = omega (arith, line_end-low text from) in
    record {
      bytes = ap (between text from) (sym end);
      ended = omega arith;
      within = omega arith;
    }

-- the lines that start at places of the text stand in it
lines_at-stand : (text : List ℕ) (number : ℕ) (places : List ℕ) → All (λ place. place < length text) places → All (StandsIn text) (lines_at text number places)
unfolding lines_at
lines_at-stand text number [] below = All-nil (StandsIn text)
lines_at-stand text number (from ∷ later) below =
    All-cons (StandsIn text) (line_here text number from) (lines_at text (next_number number) later)
    (line_here-stands text number from (All-head (λ place. place < length text) from later below))
    (lines_at-stand text (next_number number) later (All-tail (λ place. place < length text) from later below))

-- all lines of a text stand in it
pub lines_of-stand : (text : List ℕ) → All (StandsIn text) (lines_of text)
unfolding lines_of lines_from
lines_of-stand text =
    lines_at-stand text 1 (select (is_line_start text) 0 (length text - 0)) (select-below (is_line_start text) 0 (length text - 0) (length text) (omega arith))
