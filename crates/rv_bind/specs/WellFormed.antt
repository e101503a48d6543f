-- What accepted bindings keep, on any store.
use Rattle.std.specs.Prelude.{◌≡◌, ◌≢◌, ℕ, ◌^◌, ◌<◌, ◌≤◌, true, List, [], ◌∷◌, ◌++◌, map, length, All, MatchBool, IsTrue, false, Option, Some, None, slice_get, bytes_eq}
use Rattle.std.specs.List.{AllByRecursion, list_all}
use Rattle.rv_model.specs.declared.hit.Hit.{Hit}
use Rattle.rv_model.specs.declared.hit.Mode.TheVariants as modes
use Rattle.rv_model.specs.declared.hit.What.{What}
use Rattle.rv_model.specs.declared.hit.What.TheVariants as whats
use Rattle.rv_model.specs.declared.work.Scope.{Scope}
use Rattle.rv_model.specs.declared.formula.Spec.{Spec}
use Rattle.rv_model.specs.declared.formula.Spec.TheVariants as specs
use Rattle.rv_model.specs.Scripts.{is_end}
use Rattle.rv_model.specs.Table.{Table}
use Rattle.rv_bind.specs.declared.bindings.Monitor.{Monitor}
use Rattle.rv_bind.specs.declared.bindings.Item.{Item}
use Rattle.rv_bind.specs.declared.bindings.Item.TheVariants as items
use Rattle.rv_bind.specs.Values.{OnValue, BoundValue}
use Rattle.rv_bind.specs.Compiling.{Compiles}
use Rattle.rv_bind.specs.LineWords.{is_name}
use Rattle.rv_bind.specs.MonitorLines.{allows_by}

-- what the table and the rules of a monitor have to fit
pub record MonitorKind : Type 0 where
  pub scope : Scope
  pub spec : Spec
  pub starting : ℕ

-- the scope, the specification and the starting value of a monitor
abbrev pub kind_of : Monitor → MonitorKind
kind_of m = record { scope = m.scope; spec = m.spec; starting = m.starting }

-- the kinds of all monitors, in order
abbrev pub kinds_of : List Monitor → List MonitorKind
kinds_of monitors = map kind_of monitors

-- the hit brings an event, one of the first `count`
abbrev pub FitsEvents : ℕ → What → Type 0
FitsEvents count (whats.Da event) = event < count
FitsEvents count (whats.Ltl on off pulse) = ⊥
FitsEvents count whats.Nothing = ⊥

-- the hit brings sets of atoms, all among the first `count`
abbrev pub FitsAtoms : ℕ → What → Type 0
FitsAtoms count (whats.Da event) = ⊥
FitsAtoms count whats.Nothing = ⊥
FitsAtoms count (whats.Ltl on off pulse) = (on < 2 ^ count) × (off < 2 ^ count) × (pulse < 2 ^ count)

-- the hit brings what the specification takes, in range; a start that does not run its event is an automaton's alone
abbrev pub FitsSpec : Spec → Hit → Type 0
FitsSpec (specs.Da automaton) hit = FitsEvents (length automaton.events) hit.what
FitsSpec (specs.Ltl rule) hit = (hit.mode ≢ modes.Start) × FitsAtoms (length rule.atoms) hit.what

-- an end brings nothing, and any other hit fits the specification
abbrev pub FitsRule : Spec → Hit → Type 0
FitsRule spec hit = MatchBool (is_end hit.mode) (hit.what ≡ whats.Nothing) (FitsSpec spec hit)

-- an automaton's starting value is 0, and a rule's is a set of its atoms
abbrev pub StartsIn : Spec → ℕ → Type 0
StartsIn (specs.Da automaton) starting = starting ≡ 0
StartsIn (specs.Ltl rule) starting = starting < 2 ^ length rule.atoms

-- the table is the one of the specification and means it, and the starting value fits the specification
pub record HasTable (kind : MonitorKind) (t : Table) : Type 0 where
  pub compiles : Compiles kind.spec t
  pub starting : StartsIn kind.spec kind.starting

-- each kind has its table, in order, and there is no further table
abbrev pub HaveTables : List MonitorKind → List Table → Type 0
HaveTables [] [] = Unit {0}
HaveTables [] (t ∷ tables) = ⊥
HaveTables (kind ∷ kinds) [] = ⊥
HaveTables (kind ∷ kinds) (t ∷ tables) = HasTable kind t × HaveTables kinds tables

-- the rule is of a monitor that there is, its hit fits the monitor, and a field with a pid is named for a task monitor
-- alone
pub record FitsKind (kinds : List MonitorKind) (r : OnValue) : Type 0 where
  pub kind : MonitorKind
  pub there : slice_get kinds r.monitor ≡ Some kind
  pub hit : FitsRule kind.spec r.hit
  pub by : allows_by kind.scope r.by ≡ true

-- the index of each monitor's container, or none where it has none
abbrev pub holders_of : List Monitor → List (Option ℕ)
holders_of monitors = map (λ m. m.container) monitors

-- the index of a container, if there is one, is below their number
abbrev pub IsHolder : ℕ → Option ℕ → Type 0
IsHolder containers None = Unit {0}
IsHolder containers (Some place) = place < containers

-- the index of the item is below the number of monitors, or of containers
abbrev pub IsItem : ℕ → ℕ → Item → Type 0
IsItem monitors containers (items.Monitor place) = place < monitors
IsItem monitors containers (items.Container place) = place < containers

-- no name is one of those after it
abbrev pub NamesDiffer : List (List ℕ) → Type 0
NamesDiffer [] = Unit {0}
NamesDiffer (name ∷ names) = AllByRecursion (λ other. bytes_eq name other ≡ false) names × NamesDiffer names

-- the names of the containers, and then those of the monitors
abbrev pub all_names : BoundValue → List (List ℕ)
all_names b = b.containers ++ map (λ m. m.name) b.monitors

-- no list is too long, each monitor has its table, and the rules, containers and items fit what there is; no two
-- containers or monitors have one name, and each name is of the bytes of names
pub record IsWellFormed (b : BoundValue) : Type 0 where
  pub few_containers : length b.containers ≤ 32
  pub few_monitors : length b.monitors ≤ 32
  pub few_rules : length b.rules ≤ 256
  pub tables : HaveTables (kinds_of b.monitors) b.tables
  pub rules : All (FitsKind (kinds_of b.monitors)) b.rules
  pub holders : All (IsHolder (length b.containers)) (holders_of b.monitors)
  pub items : All (IsItem (length b.monitors) (length b.containers)) b.items
  pub distinct : NamesDiffer (all_names b)
  pub named : IsTrue (list_all is_name (all_names b))
