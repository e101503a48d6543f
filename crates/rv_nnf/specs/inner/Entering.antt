-- The same numbering as the code makes it: parts are entered one by one, and the 65th is refused.
use Rattle.std.specs.Prelude.{ℕ, Bool, true, false, cond, List, length, nat_lt, Result, Ok}
use native.Mathlib.Decide.{ℕ_discrete}
use Rattle.rv_text.specs.declared.refusals.Refusal.{Refusal}
use Rattle.rv_text.specs.declared.numbers.TheConstants.{TOO_MANY_PARTS}
use Rattle.rv_text.specs.Readings.{refused_with, and_then}
use Rattle.rv_model.specs.Ltl.{Ltl-discrete}
use Rattle.rv_nnf.specs.declared.numbers.Joint.{Joint}
use Rattle.rv_nnf.specs.declared.numbers.Joint.TheVariants as joints
use Rattle.rv_nnf.specs.Lists.{decided, place, with_new}
use Rattle.rv_nnf.specs.Parts.{PartValue, PartValue-discrete}
use Rattle.rv_nnf.specs.Tree.{Tree, Label, Next, And, Or, Until, Release}

-- whether the two parts are the same
abbrev pub same_part : PartValue → PartValue → Bool
same_part a b = decided (PartValue-discrete (Ltl-discrete ℕ_discrete) ℕ_discrete a b)

-- the parts so far, and the number of the last one entered
abbrev pub Entered : Type 0
Entered = List PartValue × ℕ

-- the part is entered at the end, where it is not there yet
abbrev pub enter : List PartValue → PartValue → Entered
enter ps p = let qs = with_new same_part ps p in (qs, place same_part qs p)

-- the same, unless there are then more than 64
abbrev pub try_enter : List PartValue → PartValue → Result Entered Refusal
try_enter ps p = let r = enter ps p in cond (nat_lt 64 (length r.0)) (refused_with TOO_MANY_PARTS) (Ok r)

-- the parts of a tree: those of the operands, then the part itself
abbrev pub numbers : List PartValue → Tree → Result Entered Refusal
numbers ps (Label f) = try_enter ps (PartValue.Label f)
numbers ps (Next a) = and_then (numbers ps a) (λ r. try_enter r.0 (PartValue.Next r.1))
numbers ps (And a b) = and_then (numbers ps a) (λ r. and_then (numbers r.0 b) (λ q. try_enter q.0 (PartValue.And r.1 q.1)))
numbers ps (Or a b) = and_then (numbers ps a) (λ r. and_then (numbers r.0 b) (λ q. try_enter q.0 (PartValue.Or r.1 q.1)))
numbers ps (Until a b) = and_then (numbers ps a) (λ r. and_then (numbers r.0 b) (λ q. try_enter q.0 (PartValue.Until r.1 q.1)))
numbers ps (Release a b) = and_then (numbers ps a) (λ r. and_then (numbers r.0 b) (λ q. try_enter q.0 (PartValue.Release r.1 q.1)))

-- an `and` at true, and an `or` at false
abbrev pub and_or_of : Bool → Joint
and_or_of true = joints.And
and_or_of false = joints.Or

-- an until at true, and a release at false
abbrev pub until_release_of : Bool → Joint
until_release_of true = joints.Until
until_release_of false = joints.Release

-- the part that joins its operands so
abbrev pub part_of : Joint → ℕ → ℕ → PartValue
part_of joints.And i j = PartValue.And i j
part_of joints.Or i j = PartValue.Or i j
part_of joints.Until i j = PartValue.Until i j
part_of joints.Release i j = PartValue.Release i j

-- the tree that joins its operands so
abbrev pub tree_joined : Joint → Tree → Tree → Tree
tree_joined joints.And a b = And a b
tree_joined joints.Or a b = Or a b
tree_joined joints.Until a b = Until a b
tree_joined joints.Release a b = Release a b
