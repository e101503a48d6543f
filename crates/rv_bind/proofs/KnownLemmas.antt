-- What known files come to may come on any store.
use Rattle.std.proofs.Common.{ℕ, List, [], ◌∷◌, refl}
use Rattle.std.specs.Prelude.{Option, Some, None, Result, Ok, Err, option_map}
use Rattle.rv_text.specs.TextLines.{LineText, lines_of}
use Rattle.rv_io.specs.Files.{Files, front_read}
use Rattle.rv_bind.specs.Values.{BoundValue}
use Rattle.rv_bind.specs.Forms.{FormValue, skipped, container, monitor, on, react, off, begin}
use Rattle.rv_bind.specs.Bound.{compiled_by, compiled_in, form_by, form_in, line_bound, lines_bound, bound_of, nothing_bound}
use Rattle.rv_bind.specs.Outcomes.{Outcome, accepted, refused, missing, reading, of_line, of_text}
use Rattle.rv_bind.specs.Possible.{MayFind, MayFollow, MayLine, MayLines, MayBound}

module _ (files : Files) (here : List ℕ) where
  -- a form reads one file at most
  form_known : (line : ℕ) (bound : BoundValue) (form : FormValue) → MayFind (λ text. form_by (compiled_by text) here line bound form) (form_by (compiled_in files) here line bound form)
  form_known line bound skipped = (None, refl)
  form_known line bound (container name) = (None, refl)
  form_known line bound (monitor name scope kind file holder) = (option_map front_read (files file), refl)
  form_known line bound (on name event by tests mode words) = (None, refl)
  form_known line bound (react name reactor) = (None, refl)
  form_known line bound (off name) = (None, refl)
  form_known line bound (begin name atom) = (None, refl)

  -- and so does a line
  line_known : (bound : BoundValue) (line : LineText) → MayLine here bound line (line_bound files here bound line)
  line_known bound line = go (form_in line)
    where
      go : (read : Result FormValue ℕ) → MayFind (λ text. reading (of_line here line.number read) (form_by (compiled_by text) here line.number bound)) (reading (of_line here line.number read) (form_by (compiled_in files) here line.number bound))
      go (Ok form) = form_known line.number bound form
      go (Err number) = (None, refl)

  -- what follows an outcome is what is read on from it
  follows : {X Y : Type 0} (o : Outcome X) (next : X → Outcome Y) (May : X → Outcome Y → Type 0) → ((x : X) → May x (next x)) → MayFollow o May (reading o next)
  follows (accepted x) next May each = each x
  follows (refused file refusal) next May each = refl
  follows (missing file) next May each = refl

  -- the lines
  lines_known : (lines : List LineText) (bound : BoundValue) → MayLines here bound lines (lines_bound files here bound lines)
  lines_known [] bound = refl
  lines_known (line ∷ lines) bound = (
    line_bound files here bound line,
    line_known bound line,
    follows (line_bound files here bound line) (λ next. lines_bound files here next lines) (λ next. MayLines here next lines) (λ next. lines_known lines next),
  )

  -- the bindings
  pub bound_known : MayBound here (bound_of files here)
  bound_known = go (option_map front_read (files here))
    where
      go : (text : Option (List ℕ)) → MayBound here (of_text here text (λ text. lines_bound files here nothing_bound (lines_of text)))
      go None = (missing here, (None, refl), refl)
      go (Some text) = (accepted text, (Some text, refl), lines_known (lines_of text) nothing_bound)
