-- What the parts of the reader answer, between the definitions and the rule.
use Rattle.std.specs.Prelude.{◌≡◌, ◌≤◌, ◌<◌, ℕ, List, length, Some, Result, Ok, Err, Vec}
use Rattle.std.specs.List.{AllByRecursion}
use Rattle.std.specs.declared.alloc.Global.{Global}
use Rattle.rv_text.specs.declared.numbers.TheConstants.{LTL_SYNTAX}
use Rattle.rv_text.specs.declared.refusals.Refused.{Refused}
use Rattle.rv_text.specs.declared.refusals.Refused.TheVariants as refuseds
use Rattle.rv_text.specs.Readings.{Refuses}
use Rattle.rv_ltl.specs.declared.definitions.Definition.{Definition}
use Rattle.rv_text.specs.declared.unread.Unread.{Unread}
use Rattle.rv_text.specs.declared.unread.Unread.TheVariants.{Memory, Syntax}
use Rattle.rv_text.specs.inner.Unreads.{Fails}
use Rattle.rv_ltl.specs.Grammar.{Expr}
use Rattle.rv_ltl.specs.File.{Def}
use Rattle.rv_ltl.specs.Reach.{Mentions}
use Rattle.rv_ltl.specs.Replace.{value_of}
use Rattle.rv_ltl.specs.Atoms.{Has}
use Rattle.rv_ltl.specs.inner.Weights.{def_at}
use Rattle.rv_ltl.specs.inner.Machine.{defs, AllCoded}
use Rattle.rv_ltl.specs.RuleFile.{atoms_of, formula_of, definitions_of}

-- a definition mentions the name
abbrev pub IsMentioned : List Def → ℕ → Type 0
IsMentioned ds y = (i : ℕ) × (i < length ds) × Mentions (def_at ds i).body y

-- the atoms of the formula that root stands for, or the first refusal; each is mentioned by a definition
abbrev pub GivesAtoms : List Def → ℕ → Result (Vec ℕ Global) Refused → Type 0
GivesAtoms ds root (Ok v) = (f : Expr) × (formula_of ds root ≡ Ok f) × (value_of ds (length ds) root ≡ Some f) × (v.items ≡ atoms_of f) × (length v.items ≤ 32) × ((y : ℕ) → Has v.items y → IsMentioned ds y)
GivesAtoms ds root (Err refused) = Refuses refused (formula_of ds root)

-- the formulas mention only the first n names
abbrev pub AllNamed : ℕ → List Def → Type 0
AllNamed n = AllByRecursion (λ d. (x : ℕ) → Mentions d.body x → x < n)

-- the definitions that pieces with n names spell, as code
abbrev pub ReadsDefinitions : List (List ℕ) → ℕ → Result (Vec Definition Global) Unread → Type 0
ReadsDefinitions pieces n (Ok v) = (definitions_of pieces ≡ Some (defs v.items)) × AllCoded v.items × AllNamed n (defs v.items)
ReadsDefinitions pieces n (Err unread) = Fails unread (definitions_of pieces)

-- a text that is not of the grammar is refused as a whole
abbrev pub of_unread : Unread → Refused
of_unread Memory = refuseds.Memory
of_unread Syntax = refuseds.Because (record { number = LTL_SYNTAX; line = 0 })
