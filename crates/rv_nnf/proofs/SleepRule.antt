-- A worked example: the eleven parts of the sleep rule.
use Rattle.std.proofs.Common.{◌≡◌, List, [], ◌∷◌, Ok, refl}
use native.Mathlib.Decide.{ℕ_discrete}
use Rattle.rv_model.specs.Ltl.{Ltl, False, Atom, Not, Always, And, Or, Imply, Until}
use Rattle.rv_nnf.specs.NormalForm.{normal_of}
use Rattle.rv_nnf.specs.Parts.{PartValue, Label, Release}

-- whoever sleeps in real time has a good reason and is woken well, or is on the list of exceptions
abbrev pub sleep_rule : Ltl
sleep_rule = Always (Imply (And (Atom 0) (Atom 1)) (Or (And (Or (Atom 2) (Atom 3)) (Until (Not (Atom 4)) (Atom 5))) (Atom 6)))

-- its parts
abbrev pub sleep_parts : List PartValue
sleep_parts =
    Label False ∷ Label (Not (And (Atom 0) (Atom 1))) ∷ Label (Or (Atom 2) (Atom 3)) ∷ Label (Not (Atom 4)) ∷ Label (Atom 5)
    ∷ PartValue.Until 3 4 ∷ PartValue.And 2 5 ∷ Label (Atom 6) ∷ PartValue.Or 6 7 ∷ PartValue.Or 1 8 ∷ Release 0 9 ∷ []

-- they are its normal form
pub sleep_normal : normal_of sleep_rule ≡ Ok sleep_parts
unfolding ℕ_discrete
sleep_normal = refl
