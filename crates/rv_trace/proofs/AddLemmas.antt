-- Lines of a stream that are read, or skipped, one after another.
use Rattle.std.proofs.Common.{◌≡◌, ℕ, ◌≤◌, inl, inr, Bool, cond, List, [], ◌∷◌, ◌++◌, Option, Result, Ok, Err, sym, ◌∙◌, ap, append_assoc, append-nil}
use Rattle.std.proofs.lemmas.Bool.{cases_lt, false≢true, or_right, lt-ltb}
use Rattle.std.proofs.lemmas.List.Elements.{All-nil, All-cons, All-append}
use Rattle.rv_text.specs.TextLines.{LineText, lines_of, next_number}
use Rattle.rv_text.specs.Readings.{refused_at}
use Rattle.rv_text.proofs.ReadingLaws.{chosen}
use Rattle.rv_text.specs.declared.numbers.TheConstants.{TOO_LONG}
use Rattle.rv_text.specs.declared.refusals.Refusal.{Refusal}
use Rattle.rv_trace.specs.declared.line.TraceLine.{TraceLine}
use Rattle.rv_trace.specs.declared.trace.TheConstants.{MAX_BYTES}
use Rattle.rv_trace.specs.Lines.{line_of, moved}
use Rattle.rv_trace.specs.Traces.{is_too_long, reading_of}
use Rattle.rv_trace.specs.Streams.{IsSkipped, Adds, IsPassed}
use Rattle.rv_trace.proofs.MoveLemmas.{moved-cond, line_of-moved}
use Rattle.rv_trace.proofs.StreamLemmas.{Steps}

-- a line that stands at a place of the stream says what it says at the first place, moved
pub reading-moved : (number from end : ℕ) (bytes : List ℕ) → reading_of (record { number = number; from = from; bytes = bytes; end = end }) ≡ moved from (reading_of (record { number = number; from = 0; bytes = bytes; end = end }))
unfolding reading_of
reading-moved number from end bytes =
    let line : LineText = record { number = number; from = 0; bytes = bytes; end = end } in
    sym (moved-cond from (is_too_long line) (refused_at TOO_LONG number) (line_of bytes 0 number)
    ∙ ap (cond (is_too_long line) (refused_at TOO_LONG number)) (sym (line_of-moved bytes from number)))

-- a refusal is no reading
ok_not : {X : Type 0} (refusal : Refusal) (x : X) → ◌≡◌ {A = Result X Refusal} (Err refusal) (Ok x) → ⊥
ok_not refusal x is = cc

-- what was read is not too long
pub reading-fits : (line : LineText) (found : Option TraceLine) → reading_of line ≡ Ok found → line.end ≤ MAX_BYTES
unfolding reading_of
reading-fits line found is =
    elim (chosen (is_too_long line) _ _ _ is) [
      | inl long ↦ absurd (ok_not _ found long.1)
      | inr short ↦ elim (cases_lt MAX_BYTES line.end) [
        | inl past ↦ absurd (false≢true (sym short.0 ∙ or_right _ _ (lt-ltb _ _ past)))
        | inr within ↦ within
      ]
    ]

-- no lines come
pub adds-none : (text : List ℕ) → Adds text text []
adds-none text = record {
  skipped = [];
  each = All-nil IsSkipped;
  are = sym (append-nil (lines_of text));
}

-- a line comes behind lines that are skipped
pub adds-line : (before middle after : List ℕ) (line : LineText) → Adds before middle [] → lines_of after ≡ lines_of middle ++ line ∷ [] → Adds before after (line ∷ [])
adds-line before middle after line adds only = record {
  skipped = adds.skipped;
  each = adds.each;
  are = only ∙ ap (λ front. front ++ line ∷ []) (adds.are ∙ ap (λ lines. lines_of before ++ lines) (append-nil adds.skipped)) ∙ append_assoc (lines_of before) adds.skipped (line ∷ []);
}

-- it is skipped too
pub adds-skip : (before middle after : List ℕ) (line : LineText) → Adds before middle [] → lines_of after ≡ lines_of middle ++ line ∷ [] → IsSkipped line → Adds before after []
unfolding adds-line
adds-skip before middle after line adds only skip = record {
  skipped = adds.skipped ++ line ∷ [];
  each = All-append IsSkipped adds.skipped (line ∷ []) adds.each (All-cons IsSkipped line [] skip (All-nil IsSkipped));
  are = (adds-line before middle after line adds only).are ∙ ap (λ lines. lines_of before ++ lines) (sym (append-nil (adds.skipped ++ line ∷ [])));
}

-- what a line that ends here is in the stream
pub record Moves (fed : List ℕ) (closed : Bool) (done after bytes : List ℕ) (place end number next : ℕ) : Type 0 where
  pub line : LineText
  pub is : line ≡ record { number = number; from = place; bytes = bytes; end = end }
  pub steps : Steps closed fed done after line
  pub passes : end ≤ MAX_BYTES → IsPassed fed closed next (next_number number)
