-- From one line of a trace to the next.
use Rattle.std.proofs.Common.{◌≡◌, ℕ, ◌+◌, ◌≤◌, inl, inr, List, [], ◌∷◌, ◌++◌, length, Option, Some, None, Result, Ok, Err, ap, subst, arith, append-nil}
use Rattle.std.specs.List.{All}
use Rattle.std.proofs.lemmas.List.Elements.{All-nil, All-cons, All-append, All-head, All-tail}
use Rattle.std.specs.Prelude.{option_to_list}
use Rattle.rv_text.specs.Readings.{and_then, onto}
use Rattle.rv_text.specs.TextLines.{LineText, lines_of}
use Rattle.rv_text.specs.inner.LinePlaces.{StandsIn}
use Rattle.rv_text.specs.declared.refusals.Refusal.{Refusal}
use Rattle.rv_text.proofs.LinesStand.{lines_of-stand}
use Rattle.rv_text.proofs.ReadingLaws.{and_then_ok, chosen}
use Rattle.rv_trace.specs.declared.line.TraceLine.{TraceLine}
use Rattle.rv_trace.specs.Lines.{LiesIn}
use Rattle.rv_trace.specs.Traces.{is_too_long, reading_of, all_read, trace_of}
use Rattle.rv_trace.proofs.LiesLemmas.{refused_none, line_of-lies}

-- nothing behind changes nothing
pub all_read-none : (lines : List TraceLine) → onto lines (all_read []) ≡ Ok lines
unfolding all_read
all_read-none lines = ap Ok (append-nil lines)

-- a line that was read, before the others
pub all_read-ok : (line : LineText) (later : List LineText) (read : Option TraceLine) → reading_of line ≡ Ok read → all_read (line ∷ later) ≡ onto (option_to_list read) (all_read later)
unfolding all_read
all_read-ok line later read is = ap (λ r. and_then r (λ o. onto (option_to_list o) (all_read later))) is

-- a line that is refused, before the others
pub all_read-err : (line : LineText) (later : List LineText) (lines : List TraceLine) (refusal : Refusal) → reading_of line ≡ Err refusal → onto lines (all_read (line ∷ later)) ≡ Err refusal
unfolding all_read
all_read-err line later lines refusal is = ap (λ r. onto lines (and_then r (λ o. onto (option_to_list o) (all_read later)))) is

-- a list is one list
ok_list : (x y : List TraceLine) → ◌≡◌ {A = Result (List TraceLine) Refusal} (Ok x) (Ok y) → x ≡ y
ok_list x y is = cc

-- what a line says lies in a text that has its bytes at its place
pub reading-lies : (text : List ℕ) (line : LineText) (found : TraceLine) → line.from + length line.bytes ≤ length text → reading_of line ≡ Ok (Some found) → LiesIn text found
unfolding reading_of
reading-lies text line found inside is =
    elim (chosen (is_too_long line) _ _ _ is) [
      | inl long ↦ absurd (refused_none _ found long.1)
      | inr short ↦ line_of-lies text line.bytes line.from line.number found inside short.1
    ]

-- what a line adds lies in the text that it stands in
added-lies : (text : List ℕ) (line : LineText) (read : Option TraceLine) → StandsIn text line → reading_of line ≡ Ok read → All (LiesIn text) (option_to_list read)
added-lies text line None stands is = All-nil (LiesIn text)
added-lies text line (Some found) stands is =
    All-cons (LiesIn text) found [] (reading-lies text line found (omega (arith, stands.ended, stands.within)) is) (All-nil (LiesIn text))

-- all that was read of lines of a text lies in it
all_read-lie : (text : List ℕ) (lines : List LineText) (read : List TraceLine) → All (StandsIn text) lines → all_read lines ≡ Ok read → All (LiesIn text) read
unfolding all_read
all_read-lie text [] read stand is = subst (λ (found : List TraceLine). All (LiesIn text) found) (ok_list [] read is) (All-nil (LiesIn text))
all_read-lie text (line ∷ later) read stand is =
    let first = and_then_ok (reading_of line) (λ o. onto (option_to_list o) (all_read later)) read is in
    let more = and_then_ok (all_read later) (λ found. Ok (option_to_list first.0 ++ found)) read first.2 in
    subst (λ (found : List TraceLine). All (LiesIn text) found) (ok_list (option_to_list first.0 ++ more.0) read more.2)
    (All-append (LiesIn text) (option_to_list first.0) more.0
    (added-lies text line first.0 (All-head (StandsIn text) line later stand) first.1)
    (all_read-lie text later more.0 (All-tail (StandsIn text) line later stand) more.1))

-- the lines of a trace lie in its text
pub trace_of-lies : (text : List ℕ) (lines : List TraceLine) → trace_of text ≡ Ok lines → All (LiesIn text) lines
unfolding trace_of
trace_of-lies text lines is = all_read-lie text (lines_of text) lines (lines_of-stand text) is
