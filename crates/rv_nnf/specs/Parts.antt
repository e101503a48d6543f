-- A normal form as a numbered list of parts, each of which names its operands by their numbers.
use Rattle.std.specs.Prelude.{◌≡◌, ℕ, zero, suc, ◌<◌, ◌≤◌, List, length, slice_index_or}
use Rattle.rv_model.specs.Ltl.{Ltl, False}
use Rattle.rv_model.specs.Labels.{IsLabel}
use Rattle.rv_model.specs.Meaning.{Meaning, meaning, and_m, or_m, next_m, until_m, release_m}

-- a part, named as in a tree
pub data PartValue : Type 0 where
  Label : Ltl → PartValue
  Next : ℕ → PartValue
  And Or Until Release : ℕ → ℕ → PartValue
  deriving Discrete as PartValue-discrete

-- the value at a number, from the values at smaller numbers: n turns serve the numbers below n
abbrev pub by_number : {A : Type 0} → A → ((ℕ → A) → ℕ → A) → ℕ → ℕ → A
by_number d step zero k = d
by_number d step (suc n) k = step (by_number d step n) k

-- the part of a number
abbrev pub part_value_at : List PartValue → ℕ → PartValue
part_value_at ps k = slice_index_or ps k (Label False)

-- what a part says, from what its operands say
abbrev pub part_value_meaning : (ℕ → Meaning) → PartValue → Meaning
part_value_meaning m (Label f) = meaning f
part_value_meaning m (Next i) = next_m (m i)
part_value_meaning m (And i j) = and_m (m i) (m j)
part_value_meaning m (Or i j) = or_m (m i) (m j)
part_value_meaning m (Until i j) = until_m (m i) (m j)
part_value_meaning m (Release i j) = release_m (m i) (m j)

-- what the part of a number says
unfoldable pub part_meaning : List PartValue → ℕ → Meaning
part_meaning ps k = by_number (meaning False) (λ m k. part_value_meaning m (part_value_at ps k)) (suc k) k

-- the operands have smaller numbers
abbrev pub OperandsBelow : ℕ → PartValue → Type 0
OperandsBelow k (Label f) = Unit {0}
OperandsBelow k (Next i) = i < k
OperandsBelow k (And i j) = (i < k) × (j < k)
OperandsBelow k (Or i j) = (i < k) × (j < k)
OperandsBelow k (Until i j) = (i < k) × (j < k)
OperandsBelow k (Release i j) = (i < k) × (j < k)

-- a part that is a label is a proper one
abbrev pub HasLabel : PartValue → Type 0
HasLabel (Label f) = IsLabel f
HasLabel p = Unit {0}

-- one to 64 parts, all distinct, each after its operands
pub record IsNormal (ps : List PartValue) : Type 0 where
  pub some : 1 ≤ length ps
  pub few : length ps ≤ 64
  pub below : (k : ℕ) → OperandsBelow k (part_value_at ps k)
  pub labels : (k : ℕ) → HasLabel (part_value_at ps k)
  pub distinct : (j k : ℕ) → j < length ps → k < length ps → part_value_at ps j ≡ part_value_at ps k → j ≡ k
