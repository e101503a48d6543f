-- Bindings with the text that they were read of, by one reading of their file.
use Rattle.std.specs.Prelude.{List, ℕ}
use Rattle.rv_text.specs.TextLines.{lines_of}
use Rattle.rv_io.specs.Files.{Files}
use Rattle.rv_bind.specs.declared.bindings.BoundText.{BoundText}
use Rattle.rv_bind.specs.Values.{BoundValue}
use Rattle.rv_bind.specs.Bound.{lines_bound, nothing_bound}
use Rattle.rv_bind.specs.BoundViews.{bound_value}
use Rattle.rv_bind.specs.Outcomes.{Outcome, accepted, reading, of_name}
use Rattle.rv_bind.specs.Possible.{MayLines, MayRead, MayThen, Only}

-- a text, and the bindings that its lines make
pub record BoundTextValue : Type 0 where
  pub text : List ℕ
  pub bound : BoundValue

-- the program's pair as one plain value
abbrev pub bound_text_value : BoundText → BoundTextValue
bound_text_value b = record { text = b.text.items; bound = bound_value b.bound }

-- a text comes with the bindings that its lines make, or to the first refusal or missing file
abbrev pub text_bound : Files → List ℕ → List ℕ → Outcome BoundTextValue
text_bound files here text = reading (lines_bound files here nothing_bound (lines_of text)) (λ bound. accepted (record { text = text; bound = bound }))

-- the text of a file and its bindings, or the first refusal or missing file
abbrev pub bound_text_of : Files → List ℕ → Outcome BoundTextValue
bound_text_of files here = of_name files here (text_bound files here)

-- what the text and the bindings of this name may come to: one text is chosen, and the bindings are what its lines may
-- come to
abbrev pub MayBoundText : List ℕ → Outcome BoundTextValue → Type 0
MayBoundText here = MayThen (MayRead here accepted) (λ text. MayThen (MayLines here nothing_bound (lines_of text)) (λ bound. Only (accepted (record { text = text; bound = bound }))))
