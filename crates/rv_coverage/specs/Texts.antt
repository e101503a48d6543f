-- What the two files of a run come to: their texts, and the input that these make.
use Rattle.std.specs.Prelude.{ℕ, List, []}
use Rattle.rv_io.specs.Files.{Files}
use Rattle.rv_bind.specs.BoundTexts.{BoundTextValue, MayBoundText, bound_text_of}
use Rattle.rv_bind.specs.Outcomes.{Outcome, accepted, of_name, reading}
use Rattle.rv_bind.specs.Possible.{MayRead, MayThen}
use Rattle.rv_bind.specs.WellFormed.{IsWellFormed}
use Rattle.rv_stream.specs.RoutedTraces.{routed_text}
use Rattle.rv_tool.specs.Inputs.{InputValue}
use Rattle.rv_tool.specs.Possible.{AreWorksOf, Keeping}

-- the text of the bindings, that of the trace, and the input of the run that they make
pub record RunTexts : Type 0 where
  pub bindings : List ℕ
  pub trace : List ℕ
  pub input : InputValue

-- what a text of the trace comes to under bindings: the trace by lines, then the routing by lines
abbrev pub texts_by : List ℕ → BoundTextValue → List ℕ → Outcome RunTexts
texts_by trace bound text =
    reading (routed_text trace bound.bound text) (λ routed. accepted (record { bindings = bound.text; trace = text; input = record { bound = bound.bound; routed = routed; changes = [] } }))

-- the bindings with each specification as its line is reached, and then the trace; each file is read once
abbrev pub texts_in : Files → List ℕ → List ℕ → Outcome RunTexts
texts_in files bindings trace = reading (bound_text_of files bindings) (λ bound. of_name files trace (texts_by trace bound))

-- what the bindings may come to on any store; those that are accepted are well formed
abbrev pub MayBindText : List ℕ → Outcome BoundTextValue → Type 0
MayBindText bindings = Keeping (λ bound. IsWellFormed bound.bound) (MayBoundText bindings)

-- what the two names may come to on any store; the works fit the bindings and come of their rules
abbrev pub MayTexts : List ℕ → List ℕ → Outcome RunTexts → Type 0
MayTexts bindings trace = MayThen (MayBindText bindings) (λ bound. Keeping (λ texts. AreWorksOf bound.bound texts.input.routed) (MayRead trace (texts_by trace bound)))
