-- The parts of a formula's normal form, numbered by first use; this project's choice: at most 64.
use Rattle.std.specs.Prelude.{Bool, List, [], ◌∷◌, ◌++◌, length, map, Result, Ok, nat_lt, if◌then◌else◌, true}
use native.Mathlib.Decide.{ℕ_discrete}
use Rattle.rv_text.specs.declared.refusals.Refusal.{Refusal}
use Rattle.rv_text.specs.declared.numbers.TheConstants.{TOO_MANY_PARTS}
use Rattle.rv_text.specs.Readings.{refused_with}
use Rattle.rv_model.specs.Ltl.{Ltl, Ltl-discrete}
use Rattle.rv_nnf.specs.Lists.{decided, place, firsts}
use Rattle.rv_nnf.specs.Parts.{PartValue}
use Rattle.rv_nnf.specs.Tree.{Tree, Label, Next, And, Or, Until, Release, Tree-discrete, tree_of}

-- whether the two trees are the same
abbrev pub same_tree : Tree → Tree → Bool
same_tree a b = decided (Tree-discrete (Ltl-discrete ℕ_discrete) a b)

-- all subtrees: those of the left operand, those of the right operand, then the tree itself
abbrev pub walk : Tree → List Tree
walk (Label f) = Label f ∷ []
walk (Next a) = walk a ++ Next a ∷ []
walk (And a b) = walk a ++ (walk b ++ And a b ∷ [])
walk (Or a b) = walk a ++ (walk b ++ Or a b ∷ [])
walk (Until a b) = walk a ++ (walk b ++ Until a b ∷ [])
walk (Release a b) = walk a ++ (walk b ++ Release a b ∷ [])

-- the distinct subtrees in the order of their first use
abbrev pub parts_of : Tree → List Tree
parts_of t = firsts same_tree [] (walk t)

-- a subtree as a part, whose operands are named by their places in the list
abbrev pub part_value_of : List Tree → Tree → PartValue
part_value_of ts (Label f) = PartValue.Label f
part_value_of ts (Next a) = PartValue.Next (place same_tree ts a)
part_value_of ts (And a b) = PartValue.And (place same_tree ts a) (place same_tree ts b)
part_value_of ts (Or a b) = PartValue.Or (place same_tree ts a) (place same_tree ts b)
part_value_of ts (Until a b) = PartValue.Until (place same_tree ts a) (place same_tree ts b)
part_value_of ts (Release a b) = PartValue.Release (place same_tree ts a) (place same_tree ts b)

-- the list of subtrees as parts
abbrev pub numbered_parts : List Tree → List PartValue
numbered_parts ts = map (part_value_of ts) ts

-- the parts of the formula's normal form, or the refusal where there are more than 64
abbrev pub normal_of : Ltl → Result (List PartValue) Refusal
normal_of f = let ts = parts_of (tree_of f true) in if nat_lt 64 (length ts) then refused_with TOO_MANY_PARTS else Ok (numbered_parts ts)
