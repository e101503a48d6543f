-- Worked examples: the nine nodes of the sleep rule, the table of `eventually A`, and a chain of `next` that is refused.
use Rattle.std.proofs.Common.{◌≡◌, ℕ, zero, suc, List, [], ◌∷◌, Ok, refl}
use Rattle.rv_text.specs.declared.numbers.TheConstants.{TOO_MANY_NODES}
use Rattle.rv_text.specs.Readings.{refused_with}
use Rattle.rv_model.specs.Ltl.{Ltl, True, Atom, Not, And, Or}
use Rattle.rv_model.specs.Table.{Node, of_labels}
use Rattle.rv_nnf.specs.Parts.{PartValue, Label, Next, Until}
use Rattle.rv_nnf.proofs.SleepRule.{sleep_parts}
use Rattle.rv_tableau.specs.Cover.{part_cover}
use Rattle.rv_tableau.specs.Branches.{part_branches, branch_number}
use Rattle.rv_tableau.specs.Nodes.{nodes_of, nodes_from}
use Rattle.rv_tableau.specs.Rows.{tableau_of}

-- a row of labels and of the set of its next rows
abbrev row : List Ltl → ℕ → Node
row labels next = record { labels = labels; next = next }

-- the sleep rule has four branches
sleep_branches : branch_number sleep_parts 1024 ≡ 4
unfolding part_branches
sleep_branches = refl

-- the labels of the sleep rule: nobody sleeps in real time; a good reason; not woken; woken well; on the list of exceptions
abbrev awake : Ltl
awake = Not (And (Atom 0) (Atom 1))

-- a good reason
abbrev reason : Ltl
reason = Or (Atom 2) (Atom 3)

-- not woken
abbrev asleep : Ltl
asleep = Not (Atom 4)

-- the table of the sleep rule: rows 1 to 4 come next to rows 0, 1, 3, 4, 6 and 9, and rows 2, 3 and 5 to 9 to the others
sleep_table : tableau_of sleep_parts ≡ Ok (of_labels
    (row [] 30 ∷ row (awake ∷ []) 30 ∷ row (reason ∷ asleep ∷ []) 1004 ∷ row (reason ∷ Atom 5 ∷ []) 30 ∷ row (Atom 6 ∷ []) 30
    ∷ row (awake ∷ asleep ∷ []) 1004 ∷ row (awake ∷ Atom 5 ∷ []) 30 ∷ row (reason ∷ asleep ∷ Atom 5 ∷ []) 1004
    ∷ row (asleep ∷ Atom 6 ∷ []) 1004 ∷ row (Atom 5 ∷ Atom 6 ∷ []) 30 ∷ []))
unfolding part_branches part_cover nodes_of nodes_from
sleep_table = refl

-- `eventually A`: rows 1 and 2 come next to rows 0 and 1, and row 3 to rows 2 and 3
eventually_table : tableau_of (Label True ∷ Label (Atom 0) ∷ Until 0 1 ∷ []) ≡ Ok (of_labels (row [] 6 ∷ row [] 6 ∷ row (Atom 0 ∷ []) 8 ∷ row [] 8 ∷ []))
unfolding part_branches part_cover nodes_of nodes_from
eventually_table = refl

-- n times `next`, the first before part k
abbrev nexts : ℕ → ℕ → List PartValue
nexts zero k = []
nexts (suc n) k = Next k ∷ nexts n (suc k)

-- 30 times `next` before A has 32 nodes
too_many_nodes : tableau_of (Label (Atom 0) ∷ nexts 30 0) ≡ refused_with TOO_MANY_NODES
unfolding part_branches part_cover nodes_of nodes_from
too_many_nodes = refl
