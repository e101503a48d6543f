-- Rows reached by letters, and which rows were tried.
use Rattle.std.proofs.Common.{◌≡◌, ℕ, ◌+◌, ◌<◌, true, inl, inr, List, [], ◌∷◌, arith}
use Rattle.rv_model.specs.declared.hit.Letter.{Letter}
use Rattle.rv_model.specs.Language.{IsPath}
use Rattle.rv_model.specs.Table.{Table, follows, Follows, end_of}
use Rattle.rv_model.proofs.NumberLemmas.{nat_lt_or}
use Rattle.rv_reference.specs.inner.PlainParts.{BelowCount}

-- the letters lead from one row to another
abbrev pub LeadsTo : Table → ℕ → List Letter → ℕ → Type 0
LeadsTo t from letters row = (path : List ℕ) × IsPath (Follows t) from path letters × (end_of from path ≡ row)

-- no row below the number follows by the letter and leads on by the rest
abbrev pub NoRowBefore : Table → ℕ → Letter → List Letter → ℕ → ℕ → Type 0
NoRowBefore t from x rest row n = (next : ℕ) → next < n → follows t from x next ≡ true → LeadsTo t next rest row → ⊥

-- without letters a row leads to itself
pub leads-empty : (t : Table) (from row : ℕ) → from ≡ row → LeadsTo t from [] row
leads-empty t from row same = ([], tt, same)

-- without letters a row leads to no other row
pub leads-nowhere : (t : Table) (from row : ℕ) → LeadsTo t from [] row → from ≡ row
leads-nowhere t from row ([], p, same) = same
leads-nowhere t from row (to ∷ path, p, same) = absurd p

-- where a row follows by the letter and leads on by the rest, all the letters lead there
pub leads-here : (t : Table) (from : ℕ) (x : Letter) (rest : List Letter) (row next : ℕ) → follows t from x next ≡ true → LeadsTo t next rest row → LeadsTo t from (x ∷ rest) row
leads-here t from x rest row next f (path, p, same) = (next ∷ path, (f, p), same)

-- where no row follows by the letter and leads on by the rest, the letters do not lead there
pub leads-none : (t : Table) (from : ℕ) (x : Letter) (rest : List Letter) (row count : ℕ) → BelowCount t count → NoRowBefore t from x rest row count → LeadsTo t from (x ∷ rest) row → ⊥
leads-none t from x rest row count below none ([], p, same) = p
leads-none t from x rest row count below none (to ∷ path, p, same) = none to (below from x to p.0) p.0 (path, p.1, same)

-- one more row that does not follow or does not lead on
pub rows-next : (t : Table) (from : ℕ) (x : Letter) (rest : List Letter) (row n : ℕ) → NoRowBefore t from x rest row n → (follows t from x n ≡ true → LeadsTo t n rest row → ⊥) → NoRowBefore t from x rest row (n + 1)
rows-next t from x rest row n none here k lt =
    elim (nat_lt_or k n (omega arith)) [
      | inl below ↦ none k below
      | inr same ↦ rw same here
    ]
