-- What was read may come of some texts.
use Rattle.std.proofs.Common.{◌≡◌, ℕ, List, [], length, refl, ap}
use Rattle.std.specs.Prelude.{Result, Ok, Err}
use Rattle.rv_model.specs.declared.kind.SpecKind.{SpecKind}
use Rattle.rv_model.specs.declared.work.Change.{Change}
use Rattle.rv_bind.specs.declared.fault.BindFault.{BindFault}
use Rattle.rv_bind.specs.declared.fault.BindFault.TheVariants as faults
use Rattle.rv_bind.specs.Outcomes.{Outcome, accepted, refused, missing, of_file}
use Rattle.rv_bind.specs.Possible.{Only, MayRead, MayThen, MayBound, IsUnread, MayFault, MayCome}
use Rattle.rv_bind.specs.Values.{BoundValue}
use Rattle.rv_bind.specs.WellFormed.{IsWellFormed, kinds_of}
use Rattle.rv_control.specs.Trees.{ControlValue}
use Rattle.rv_route.specs.Fitting.{WorksFit, FromRules}
use Rattle.rv_route.specs.Routing.{RoutedValue}
use Rattle.rv_tool.specs.Changes.{changes_text}
use Rattle.rv_tool.specs.HeaderFiles.{header_of_text}
use Rattle.rv_stream.specs.inner.Faults.{IsOutcome}
use Rattle.rv_stream.proofs.PossibleLemmas.{file_unread, tells_may}
use Rattle.rv_stream.specs.RoutedTraces.{routed_text}
use Rattle.rv_tool.specs.Inputs.{InputValue}
use Rattle.rv_tool.specs.Possible.{Keeping, AreWorksOf, MayBind, MayRoute, MayInput, MayRunBeside, MayCheck, MayTable, MayHeader, MayControl}
use Rattle.rv_tool.specs.Sessions.{Printed, control_value, session_text}
use Rattle.rv_tool.specs.Tables.{table_text}

-- ---- specifications

-- the table of a specification
pub table_unread : (kind : SpecKind) (file : List ℕ) (fault : BindFault) → IsUnread file fault → MayFault fault (MayTable kind file)
table_unread kind file fault is = file_unread file (λ bytes. of_file file (table_text kind bytes)) fault is

pub table_may : {X : Type 0} (view : X → List ℕ) (kind : SpecKind) (file text : List ℕ) (result : Result X BindFault) → IsOutcome view result (of_file file (table_text kind text)) → MayCome view result (MayTable kind file)
table_may view kind file text result tells = tells_may view file text (λ bytes. of_file file (table_text kind bytes)) result tells

-- the C tables of an automaton
pub header_unread : (name file : List ℕ) (fault : BindFault) → IsUnread file fault → MayFault fault (MayHeader name file)
header_unread name file fault is = file_unread file (λ bytes. of_file file (header_of_text name bytes)) fault is

pub header_may : {X : Type 0} (view : X → List ℕ) (name file text : List ℕ) (result : Result X BindFault) → IsOutcome view result (of_file file (header_of_text name text)) → MayCome view result (MayHeader name file)
header_may view name file text result tells = tells_may view file text (λ bytes. of_file file (header_of_text name bytes)) result tells

-- ---- one file after another

module _ {X Y : Type 0} (first : Outcome X → Type 0) (next : X → Outcome Y → Type 0) where
  -- what is first has a fault
  pub first_fails : (fault : BindFault) → MayFault fault first → MayFault fault (MayThen first next)
  first_fails faults.Memory may = tt
  first_fails (faults.Refused file refusal) may = (refused file refusal, may, refl)
  first_fails (faults.Unread file) may = (missing file, may, refl)

  module _ (x : X) (one : first (accepted x)) where
    -- what comes next has a fault
    pub next_fails : (fault : BindFault) → MayFault fault (next x) → MayFault fault (MayThen first next)
    next_fails faults.Memory may = tt
    next_fails (faults.Refused file refusal) may = (accepted x, one, may)
    next_fails (faults.Unread file) may = (accepted x, one, may)

    -- what comes next was read
    pub next_comes : {Z : Type 0} (view : Z → Y) (result : Result Z BindFault) → MayCome view result (next x) → MayCome view result (MayThen first next)
    next_comes view (Ok z) may = (accepted x, one, may)
    next_comes view (Err fault) may = next_fails fault may

-- a fault has no value
pub keeping_fails : {Y : Type 0} (Is : Y → Type 0) (May : Outcome Y → Type 0) (fault : BindFault) → MayFault fault May → MayFault fault (Keeping Is May)
keeping_fails Is May faults.Memory may = tt
keeping_fails Is May (faults.Refused file refusal) may = may
keeping_fails Is May (faults.Unread file) may = may

-- ---- the bindings and the trace

-- what a trace is routed to under the bindings
abbrev made : BoundValue → RoutedValue → Outcome InputValue → Type 0
made bound routed = Only (accepted (record { bound = bound; routed = routed; changes = [] }))

module _ (bindings trace : List ℕ) where
  -- the bindings have a fault
  pub input_unbound : (fault : BindFault) → MayFault fault (MayBound bindings) → MayFault fault (MayInput bindings trace)
  input_unbound fault may = first_fails (MayBind bindings) (λ bound. MayThen (MayRoute trace bound) (made bound)) fault (keeping_fails IsWellFormed (MayBound bindings) fault may)

  module _ (bound : BoundValue) (may : MayBound bindings (accepted bound)) (formed : IsWellFormed bound) where
    -- the trace has a fault
    pub input_unrouted : (fault : BindFault) → MayFault fault (MayRead trace (routed_text trace bound)) → MayFault fault (MayInput bindings trace)
    input_unrouted fault routed =
        next_fails (MayBind bindings) (λ bound. MayThen (MayRoute trace bound) (made bound)) bound (may, formed) fault (first_fails (MayRoute trace bound) (made bound) fault (keeping_fails (AreWorksOf bound) (MayRead trace (routed_text trace bound)) fault routed))

    -- both were read
    pub input_may : (routed : RoutedValue) (i : InputValue) → i ≡ record { bound = bound; routed = routed; changes = [] } → MayRead trace (routed_text trace bound) (accepted routed)
        → WorksFit (kinds_of bound.monitors) (length routed.tasks) routed.works → FromRules bound.rules routed.works → MayInput bindings trace (accepted i)
    input_may routed i is some fit rules = (accepted bound, (may, formed), (accepted routed, (some, record { fit = fit; rules = rules }), ap (λ (x : InputValue). accepted x) is))

-- ---- what is read besides

-- a run with the changes of a script
abbrev pub changed : List ℕ → InputValue → Outcome InputValue → Type 0
changed script i = MayThen (MayRead script (changes_text script (control_value i.bound))) (λ (changes : List Change). Only (accepted (record i { changes = changes })))

module _ (bindings trace script : List ℕ) (i : InputValue) (may : MayInput bindings trace (accepted i)) where
  -- the script was read
  pub beside_may : (changes : List Change) → MayRead script (changes_text script (control_value i.bound)) (accepted changes) → MayRunBeside bindings trace script (accepted (record i { changes = changes }))
  beside_may changes some = (accepted i, may, (accepted changes, some, refl))

  -- the script has a fault
  pub beside_fails : (fault : BindFault) → MayFault fault (MayRead script (changes_text script (control_value i.bound))) → MayFault fault (MayRunBeside bindings trace script)
  beside_fails fault some =
      next_fails (MayInput bindings trace) (changed script) i may fault
      (first_fails (MayRead script (changes_text script (control_value i.bound))) (λ (changes : List Change). Only (accepted (record i { changes = changes }))) fault some)

-- an unread journal
pub journal_unread : (bindings trace journal : List ℕ) (i : InputValue) → MayInput bindings trace (accepted i) → (fault : BindFault) → IsUnread journal fault → MayFault fault (MayCheck bindings trace journal)
journal_unread bindings trace journal i may fault is =
    next_fails (MayInput bindings trace) (λ input. MayRead journal (λ text. accepted (record { input = input; journal = text }))) i may fault (file_unread journal (λ text. accepted (record { input = i; journal = text })) fault is)

-- ---- scripts

-- an unread script
pub session_unread : (script : List ℕ) (bound : BoundValue) (fault : BindFault) → IsUnread script fault → MayFault fault (MayRead script (session_text script bound))
session_unread script bound fault is = file_unread script (session_text script bound) fault is

-- a script
pub session_may : {X : Type 0} (view : X → Printed) (script : List ℕ) (bound : BoundValue) (text : List ℕ) (result : Result X BindFault) → IsOutcome view result (session_text script bound text) → MayCome view result (MayRead script (session_text script bound))
session_may view script bound text result tells = tells_may view script text (session_text script bound) result tells

-- an unread script of changes
pub script_unread : (script : List ℕ) (tree : ControlValue) (fault : BindFault) → IsUnread script fault → MayFault fault (MayRead script (changes_text script tree))
script_unread script tree fault is = file_unread script (changes_text script tree) fault is

-- a script of changes
pub script_may : {X : Type 0} (view : X → List Change) (script : List ℕ) (tree : ControlValue) (text : List ℕ) (result : Result X BindFault) → IsOutcome view result (changes_text script tree text) → MayCome view result (MayRead script (changes_text script tree))
script_may view script tree text result tells = tells_may view script text (changes_text script tree) result tells

-- the bindings have a fault
pub control_unbound : (bindings script : List ℕ) (fault : BindFault) → MayFault fault (MayBound bindings) → MayFault fault (MayControl bindings script)
control_unbound bindings script fault may = first_fails (MayBind bindings) (λ bound. MayRead script (session_text script bound)) fault (keeping_fails IsWellFormed (MayBound bindings) fault may)

-- the bindings and a script
pub control_may : {X : Type 0} (view : X → Printed) (bindings script : List ℕ) (bound : BoundValue) (result : Result X BindFault) → MayBound bindings (accepted bound) → IsWellFormed bound → MayCome view result (MayRead script (session_text script bound))
    → MayCome view result (MayControl bindings script)
control_may view bindings script bound result may formed some = next_comes (MayBind bindings) (λ bound. MayRead script (session_text script bound)) bound (may, formed) view result some
