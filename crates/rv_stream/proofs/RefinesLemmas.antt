-- From what a store tells to what a reading comes to.
use Rattle.std.proofs.Common.{◌≡◌, ℕ, List, inl, inr, ap, ◌∙◌, subst}
use Rattle.std.specs.Prelude.{Option, Some, Result, Ok, Err}
use Rattle.rv_io.specs.Files.{Files}
use Rattle.rv_bind.specs.declared.fault.BindFault.{BindFault}
use Rattle.rv_bind.specs.declared.fault.BindFault.TheVariants as faults
use Rattle.rv_bind.specs.Values.{BoundValue}
use Rattle.rv_bind.specs.FilePieces.{FaultRefines}
use Rattle.rv_bind.specs.Possible.{IsUnread}
use Rattle.rv_bind.specs.Outcomes.{Outcome, accepted, reading, of_name, Refines}
use Rattle.rv_bind.proofs.OutcomeLemmas.{of_name-reading}
use Rattle.rv_route.specs.Routing.{RoutedValue}
use Rattle.rv_stream.specs.inner.Faults.{IsOutcome}
use Rattle.rv_stream.specs.RoutedTraces.{routed_text, routed_in}

-- what a text comes to is what the files come to
pub tells_comes : {X Y : Type 0} (told : Option Files) (view : X → Y) (before now : ℕ) (whole : Files → Outcome Y) (text : Outcome Y) → ((files : Files) → told ≡ Some files → whole files ≡ text)
    → (result : Result X BindFault) → IsOutcome view result text → Refines view told before now result whole
tells_comes told view before now whole text is (Ok x) tells = λ files known. is files known ∙ tells
tells_comes told view before now whole text is (Err faults.Memory) tells = tt
tells_comes told view before now whole text is (Err (faults.Refused file refusal)) tells = (tells.0, λ files known. is files known ∙ tells.1)
tells_comes told view before now whole text is (Err (faults.Unread file)) tells = absurd tells

module _ (told : Option Files) (trace text : List ℕ) (bound : BoundValue) (read : (files : Files) → told ≡ Some files → of_name files trace accepted ≡ accepted text) where
  -- the trace's file comes to what the text that was read comes to
  whole_text : (files : Files) → told ≡ Some files → routed_in files trace bound ≡ routed_text trace bound text
  whole_text files known = of_name-reading files trace (routed_text trace bound) ∙ ap (λ o. reading o (routed_text trace bound)) (read files known)

  -- what the text comes to is what the file comes to
  pub routed_comes : {X : Type 0} (view : X → RoutedValue) (before now : ℕ) (result : Result X BindFault) → IsOutcome view result (routed_text trace bound text) → Refines view told before now result (λ files. routed_in files trace bound)
  routed_comes view before now result tells = tells_comes told view before now (λ files. routed_in files trace bound) (routed_text trace bound text) whole_text result tells

-- an unread file is unread for whatever is read of its text
pub unread_comes : {Y : Type 0} (told : Option Files) (trace : List ℕ) (read : List ℕ → Outcome Y) (before now : ℕ) (fault : BindFault) → IsUnread trace fault → FaultRefines told before now fault (λ files. of_name files trace accepted) → FaultRefines told before now fault (λ files. of_name files trace read)
unread_comes {Y} told trace read before now fault (inr is) refines = rw is tt
unread_comes {Y} told trace read before now fault (inl is) refines = rw is (go (subst (λ (f : BindFault). FaultRefines told before now f (λ files. of_name files trace accepted)) is refines))
  where
    go : FaultRefines told before now (faults.Unread trace) (λ files. of_name files trace accepted) → FaultRefines told before now (faults.Unread trace) (λ files. of_name files trace read)
    go (inl w) = inl (w.0, w.1, of_name-reading w.0 trace read ∙ ap (λ (o : Outcome (List ℕ)). reading o read) w.2)
    go (inr rose) = inr rose
