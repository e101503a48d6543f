-- What an observer is told of the lines of a trace, and what it makes of them.
use Rattle.std.specs.Prelude.{◌≡◌, ℕ, List, [], ◌∷◌, ◌++◌, Option, Some}
use Rattle.rv_io.specs.Files.{Files}
use Rattle.rv_text.specs.TextLines.{LineText, lines_of}
use Rattle.rv_trace.specs.AnyLines.{IsTakenLine}
use Rattle.rv_trace.specs.declared.taken.TakenLine.{TakenLine}
use Rattle.rv_bind.specs.Outcomes.{accepted, of_name}
use Rattle.rv_bind.specs.Values.{BoundValue}
use Rattle.rv_route.specs.Routing.{RoutedValue}
use Rattle.rv_stream.specs.RoutedTraces.{routed_text}

-- `observed lines o` says that `o` is what it has to be of a trace that begins with the lines
module _ {O : Type 0} (observed : List LineText → O → Type 0) where
  -- what was observed of the lines so far becomes what is observed with this line behind them
  abbrev pub ObservesLine : List ℕ → TakenLine → O → O → Type 0
  ObservesLine text taken o o' = (lines : List LineText) (last : LineText) → IsTakenLine text taken last → observed lines o → observed (lines ++ last ∷ []) o'

  -- the trace was routed to this, and all its lines were observed, the skipped ones too; where the store tells its files, they are those of the trace's file
  pub record ObservesTrace (told : Option Files) (trace : List ℕ) (bound : BoundValue) (value : RoutedValue) (o : O) : Type 0 where
    pub text : List ℕ
    pub routes : routed_text trace bound text ≡ accepted value
    pub lines : observed (lines_of text) o
    pub whole : (files : Files) → told ≡ Some files → of_name files trace accepted ≡ accepted text
