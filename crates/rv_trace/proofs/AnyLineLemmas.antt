-- A line of a stream that is taken, skipped or not.
use Rattle.std.proofs.Common.{◌≡◌, ℕ, ◌+◌, ◌≤◌, inl, inr, Bool, ◌||◌, ltb, min, List, [], ◌∷◌, ◌++◌, length, take, Option, Some, None, Result, Ok, Err, sym, ◌∙◌, ap, subst, append_assoc}
use Rattle.std.specs.Prelude.{IfSome}
use Rattle.rv_text.specs.Places.{between}
use Rattle.rv_text.specs.TextLines.{LineText, lines_of}
use Rattle.rv_text.specs.declared.refusals.Refusal.{Refusal}
use Rattle.rv_text.proofs.ReadingLaws.{chosen}
use Rattle.rv_trace.specs.declared.line.TraceLine.{TraceLine}
use Rattle.rv_trace.specs.declared.trace.TheConstants.{MAX_BYTES}
use Rattle.rv_trace.specs.AnyLines.{TakesAny}
use Rattle.rv_trace.specs.Held.{IsPieceOf}
use Rattle.rv_trace.specs.inner.Seeking.{EndsAt}
use Rattle.rv_trace.specs.Lines.{LiesIn, line_of, moved}
use Rattle.rv_trace.specs.Streams.{IsPassed, part_read}
use Rattle.rv_trace.specs.Traces.{is_too_long, reading_of}
use Rattle.rv_trace.proofs.AddLemmas.{reading-moved}
use Rattle.rv_trace.proofs.SeekLemmas.{moves}
use Rattle.rv_trace.proofs.TraceLemmas.{reading-lies}

-- a refusal is no reading
not_read : (refusal : Refusal) (found : Option TraceLine) → ◌≡◌ {A = Result (Option TraceLine) Refusal} (Err refusal) (Ok found) → ⊥
not_read refusal found is = cc

-- what was read of a line is what its bytes say
pub reading-says : (line : LineText) (found : Option TraceLine) → reading_of line ≡ Ok found → line_of line.bytes line.from line.number ≡ Ok found
unfolding reading_of
reading-says line found is =
    elim (chosen (is_too_long line) _ _ _ is) [
      | inl long ↦ absurd (not_read _ found long.1)
      | inr short ↦ short.1
    ]

-- its spans lie in a text that has these bytes at its place
pub found-lies : (text : List ℕ) (line : LineText) (found : Option TraceLine) → line.from + length line.bytes ≤ length text → reading_of line ≡ Ok found → IfSome found (LiesIn text)
found-lies text line None inside is = tt
found-lies text line (Some here) inside is = reading-lies text line here inside is

module _ (fed held : List ℕ) (passed from number : ℕ) (closed : Bool) (piece : IsPieceOf fed held passed) (within : from ≤ length held) (to : ℕ)
    (ends : EndsAt held from (closed || ltb MAX_BYTES (passed + length held)) to) (stands : IsPassed fed closed (passed + from) number)
    (end : ℕ) (behind : end ≡ min (to + 1) (length held)) where
  -- the bytes of the line that ends here, and what was passed before it
  abbrev bytes : List ℕ
  bytes = between held from to

  abbrev done : List ℕ
  done = take (passed + from) fed

  -- the line that ends here is the next one
  pub takes-any : (found : Option TraceLine) → reading_of (record { number = number; from = 0; bytes = bytes; end = passed + end }) ≡ Ok found
      → TakesAny done (take (passed + end) fed) (part_read closed fed) bytes (record { number = number; found = found })
  takes-any found is =
      let move = moves fed held passed from number closed piece within to ends stands in
      let read : reading_of (record { number = number; from = 0; bytes = bytes; end = passed + min (to + 1) (length held) }) ≡ Ok found =
      ap (λ n. reading_of (record { number = number; from = 0; bytes = bytes; end = passed + n })) (sym behind) ∙ is in
      subst (λ (n : ℕ). TakesAny done (take (passed + n) fed) (part_read closed fed) bytes (record { number = number; found = found })) (sym behind) (record {
        last = move.line;
        adds = move.steps.only;
        later = move.steps.later;
        next = move.steps.next ∙ sym (append_assoc (lines_of done) (move.line ∷ []) move.steps.later) ∙ ap (λ front. front ++ move.steps.later) (sym move.steps.only);
        is = record {
          number = ap (λ (l : LineText). l.number) move.is;
          bytes = ap (λ (l : LineText). l.bytes) move.is;
          says =
              ap reading_of move.is
              ∙ reading-moved number (passed + from) (passed + min (to + 1) (length held)) bytes
              ∙ ap (moved (passed + from)) read
              ∙ ap (λ (l : LineText). moved l.from (Ok found)) (sym move.is);
        };
      })
