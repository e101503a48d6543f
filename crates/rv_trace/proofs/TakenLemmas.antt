-- What is taken of a stream is its trace.
use Rattle.std.proofs.Common.{◌≡◌, ℕ, List, [], ◌∷◌, ◌++◌, Option, Some, None, Result, Ok, Err, refl, sym, ◌∙◌, ap}
use Rattle.std.specs.List.{All}
use Rattle.std.proofs.lemmas.List.Elements.{All-head, All-tail}
use Rattle.std.specs.Prelude.{option_to_list}
use Rattle.rv_text.specs.TextLines.{LineText, lines_of}
use Rattle.rv_text.specs.declared.refusals.Refusal.{Refusal}
use Rattle.rv_text.specs.Readings.{and_then, onto}
use Rattle.rv_trace.specs.declared.line.TraceLine.{TraceLine}
use Rattle.rv_trace.specs.Lines.{moved_line}
use Rattle.rv_trace.specs.Traces.{reading_of, all_read, trace_of}
use Rattle.rv_trace.specs.Streams.{IsSkipped, Adds, TakesLine, IsRefused}
use Rattle.rv_trace.proofs.TraceLemmas.{all_read-none, all_read-ok, all_read-err}
use Rattle.rv_text.proofs.ReadingLaws.{onto-none, onto-onto}

-- a reading before two others
joined : (read : Result (Option TraceLine) Refusal) (first second : Result (List TraceLine) Refusal) →
    and_then read (λ r. onto (option_to_list r) (and_then first (λ lines. onto lines second))) ≡ and_then (and_then read (λ r. onto (option_to_list r) first)) (λ lines. onto lines second)
joined (Err refusal) first second = refl
joined (Ok r) (Err refusal) second = refl
joined (Ok r) (Ok lines) second = onto-onto (option_to_list r) lines second

-- lines that are read one after the other
pub all_read-append : (front back : List LineText) → all_read (front ++ back) ≡ and_then (all_read front) (λ lines. onto lines (all_read back))
unfolding all_read
all_read-append [] back = onto-none (all_read back)
all_read-append (line ∷ front) back =
    ap (λ later. and_then (reading_of line) (λ read. onto (option_to_list read) later)) (all_read-append front back) ∙ joined (reading_of line) (all_read front) (all_read back)

-- lines that are skipped add nothing
skipped-nothing : (skipped back : List LineText) → All IsSkipped skipped → all_read (skipped ++ back) ≡ all_read back
skipped-nothing [] back each = refl
skipped-nothing (line ∷ skipped) back each =
    all_read-ok line (skipped ++ back) None (All-head IsSkipped line skipped each)
    ∙ ap (onto []) (skipped-nothing skipped back (All-tail IsSkipped line skipped each))
    ∙ sym (onto-none (all_read back))

-- the lines that come are read behind those before them
adds-read : (before after : List ℕ) (lines : List LineText) (given : List TraceLine) → Adds before after lines → trace_of before ≡ Ok given → trace_of after ≡ onto given (all_read lines)
unfolding trace_of
adds-read before after lines given adds is =
    ap all_read adds.are ∙ all_read-append (lines_of before) (adds.skipped ++ lines)
    ∙ ap (λ read. and_then read (λ first. onto first (all_read (adds.skipped ++ lines)))) is
    ∙ ap (onto given) (skipped-nothing adds.skipped lines adds.each)

-- no line comes
pub adds-nothing : (before after : List ℕ) (given : List TraceLine) → Adds before after [] → trace_of before ≡ Ok given → trace_of after ≡ Ok given
adds-nothing before after given adds is = adds-read before after [] given adds is ∙ all_read-none given

-- a line comes
pub takes-read : (before after whole text : List ℕ) (line : TraceLine) (given : List TraceLine) (taken : TakesLine before after whole text line) → trace_of before ≡ Ok given → trace_of after ≡ Ok (given ++ moved_line taken.last.from line ∷ [])
unfolding all_read
takes-read before after whole text line given taken is =
    adds-read before after (taken.last ∷ []) given taken.adds is ∙ ap (onto given) (all_read-ok taken.last [] (Some (moved_line taken.last.from line)) taken.says)

-- a line comes that is refused
pub refused-read : (before after whole : List ℕ) (refusal : Refusal) (given : List TraceLine) → IsRefused before after whole refusal → trace_of before ≡ Ok given → trace_of whole ≡ Err refusal
unfolding trace_of
refused-read before after whole refusal given refused is =
    ap all_read refused.next ∙ all_read-append (lines_of after) (refused.last ∷ refused.later)
    ∙ ap (λ read. and_then read (λ first. onto first (all_read (refused.last ∷ refused.later)))) (adds-nothing before after given refused.adds is)
    ∙ all_read-err refused.last refused.later given refusal refused.says
