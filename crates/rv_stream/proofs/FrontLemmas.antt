-- A refusal of a front of a text, and of a file.
use Rattle.std.proofs.Common.{◌≡◌, ℕ, List, ◌++◌, take, drop, refl, sym, ap, ◌∙◌, subst, take-append-drop}
use Rattle.std.specs.Prelude.{Result, Ok, Err, Bool, false}
use Rattle.rv_text.specs.declared.refusals.Refusal.{Refusal}
use Rattle.rv_text.specs.Readings.{and_then}
use Rattle.rv_trace.specs.Streams.{part_read}
use Rattle.rv_trace.specs.Traces.{trace_of}
use Rattle.rv_bind.specs.Outcomes.{reading, of_file}
use Rattle.rv_trace.proofs.FrontLemmas.{read-refused}

-- a refusal of what was fed of a text is the text's
pub front_refused : (text fed : List ℕ) (ended : Bool) (end : ℕ) (refusal : Refusal) → fed ≡ take end text → ended ≡ false → trace_of (part_read ended fed) ≡ Err refusal → trace_of text ≡ Err refusal
front_refused text fed ended end refusal is open_is e =
    sym (ap trace_of (ap (λ (t : List ℕ). t ++ drop end text) is ∙ take-append-drop end text)) ∙ read-refused fed (drop end text) refusal (subst (λ (b : Bool). trace_of (part_read b fed) ≡ Err refusal) open_is e)

-- in a file's words
pub of_file-and_then : {X Y : Type 0} (file : List ℕ) (read : Result X Refusal) (next : X → Result Y Refusal) → of_file file (and_then read next) ≡ reading (of_file file read) (λ x. of_file file (next x))
of_file-and_then file (Ok x) next = refl
of_file-and_then file (Err refusal) next = refl
