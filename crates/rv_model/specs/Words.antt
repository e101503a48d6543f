-- The words for the kinds of specifications and for scopes (this project's choice: docs/FORMATS.md, "Bindings", "Control files").
use Rattle.std.specs.Prelude.{ℕ, List, [], ◌∷◌, find, bytes_eq, codes, Option}
use Rattle.rv_model.specs.declared.formula.Spec.{Spec}
use Rattle.rv_model.specs.declared.formula.Spec.TheVariants as specs
use Rattle.rv_model.specs.declared.kind.SpecKind.{SpecKind}
use Rattle.rv_model.specs.declared.kind.SpecKind.TheVariants as kinds
use Rattle.rv_model.specs.declared.work.Scope.{Scope}
use Rattle.rv_model.specs.declared.work.Scope.TheVariants as scopes

-- ---- kinds of specifications

-- an automaton or a rule
abbrev pub spec_kind : Spec → SpecKind
spec_kind (specs.Da automaton) = kinds.Da
spec_kind (specs.Ltl rule) = kinds.Ltl

-- how a kind is written
abbrev pub kind_name : SpecKind → List ℕ
kind_name kinds.Da = codes "da"
kind_name kinds.Ltl = codes "ltl"

-- the kind that is written so
abbrev pub kind_named : List ℕ → Option SpecKind
kind_named word = find (λ kind. bytes_eq (kind_name kind) word) (kinds.Da ∷ kinds.Ltl ∷ [])

-- ---- scopes

-- how a scope is written
abbrev pub scope_name : Scope → List ℕ
scope_name scopes.Global = codes "global"
scope_name scopes.Cpu = codes "cpu"
scope_name scopes.Task = codes "task"

-- the scope that is written so
abbrev pub scope_named : List ℕ → Option Scope
scope_named word = find (λ scope. bytes_eq (scope_name scope) word) (scopes.Global ∷ scopes.Cpu ∷ scopes.Task ∷ [])
