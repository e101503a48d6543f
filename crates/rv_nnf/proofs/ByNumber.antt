-- A value by numbers is what its step says.
use Rattle.std.proofs.Common.{◌≡◌, ℕ, zero, suc, ◌<◌, List, refl, ap, arith}
use mathlib.Core.Path.{ap₂}
use Rattle.rv_model.specs.Ltl.{False}
use Rattle.rv_model.specs.Meaning.{Meaning, meaning, and_m, or_m, next_m, until_m, release_m}
use Rattle.rv_nnf.specs.Parts.{PartValue, Label, Next, And, Or, Until, Release, by_number, part_value_at, part_value_meaning, part_meaning, OperandsBelow, IsNormal}

-- the step at a number looks at smaller numbers alone
abbrev pub Local : {A : Type 0} → ((ℕ → A) → ℕ → A) → Type 0
Local {A} step = (f g : ℕ → A) (k : ℕ) → ((i : ℕ) → i < k → f i ≡ g i) → step f k ≡ step g k

-- more turns than the number needs give the same value
pub enough : {A : Type 0} (d : A) (step : (ℕ → A) → ℕ → A) → Local step → (n m k : ℕ) → k < n → k < m → by_number d step n k ≡ by_number d step m k
enough d step loc zero m k h l = absurd (omega arith)
enough d step loc (suc n) zero k h l = absurd (omega arith)
enough d step loc (suc n) (suc m) k h l = loc _ _ k (λ i s. enough d step loc n m i (omega arith) (omega arith))

-- the value at a number is its step on the values
pub by_number_is : {A : Type 0} (d : A) (step : (ℕ → A) → ℕ → A) → Local step → (k : ℕ) → by_number d step (suc k) k ≡ step (λ i. by_number d step (suc i) i) k
by_number_is d step loc k = loc _ _ k (λ i s. enough d step loc k (suc i) i s (omega arith))

-- what a part says rests on its operands alone
same_piece : (f g : ℕ → Meaning) (k : ℕ) (p : PartValue) → OperandsBelow k p → ((i : ℕ) → i < k → f i ≡ g i) → part_value_meaning f p ≡ part_value_meaning g p
same_piece f g k (Label x) b h = refl
same_piece f g k (Next i) b h = ap next_m (h i b)
same_piece f g k (And i j) b h = ap₂ and_m (h i b.0) (h j b.1)
same_piece f g k (Or i j) b h = ap₂ or_m (h i b.0) (h j b.1)
same_piece f g k (Until i j) b h = ap₂ until_m (h i b.0) (h j b.1)
same_piece f g k (Release i j) b h = ap₂ release_m (h i b.0) (h j b.1)

-- a part says what its operands make
pub part_meaning_by : (ps : List PartValue) → ((k : ℕ) → OperandsBelow k (part_value_at ps k)) → (k : ℕ) → part_meaning ps k ≡ part_value_meaning (part_meaning ps) (part_value_at ps k)
unfolding part_meaning
part_meaning_by ps below k = by_number_is (meaning False) (λ m k. part_value_meaning m (part_value_at ps k)) (λ f g k h. same_piece f g k (part_value_at ps k) (below k) h) k

-- the same of a normal form
pub part_meaning_is : (ps : List PartValue) → IsNormal ps → (k : ℕ) → part_meaning ps k ≡ part_value_meaning (part_meaning ps) (part_value_at ps k)
part_meaning_is ps n k = part_meaning_by ps n.below k
