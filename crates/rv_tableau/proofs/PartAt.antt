-- What is known of a part that was read.
use Rattle.std.proofs.Common.{◌≡◌, ℕ, ◌<◌, List, length, get_or, Option, Some, None, refl, sym, ap, ◌∙◌, subst}
use Rattle.std.proofs.lemmas.List.{get_or-map}
use Rattle.rv_model.specs.Ltl.{False}
use Rattle.rv_nnf.specs.Parts.{PartValue, Label, Next, And, Or, Until, Release, part_value_at, OperandsBelow}
use Rattle.rv_nnf.specs.Views.{part_value, part_values}
use Rattle.rv_nnf.specs.declared.parts.Part.{Part}
use Rattle.rv_tableau.specs.declared.pairs.Pair.{Pair}
use Rattle.rv_tableau.specs.Cover.{part_cover, piece_cover}
use Rattle.rv_tableau.specs.inner.Covering.{operands_of, cover_from, cover_alone}
use Rattle.rv_tableau.proofs.CoverSays.{cover_by}

-- the operands of each part have smaller numbers
abbrev pub AllBelow : List Part → Type 0
AllBelow parts = (k : ℕ) → OperandsBelow k (part_value_at (part_values parts) k)

-- the part as plain data
pub part_value_is : (parts : List Part) (k : ℕ) (p q : Part) → p ≡ get_or parts k p → p ≡ q → k < length parts → part_value_at (part_values parts) k ≡ part_value q
part_value_is parts k p q e f h = get_or-map part_value parts k p (Label False) h ∙ ap part_value (sym e ∙ f)

-- its operands are below it
pub operands_at : (parts : List Part) (k : ℕ) (p q : Part) → p ≡ get_or parts k p → p ≡ q → k < length parts → AllBelow parts → OperandsBelow k (part_value q)
operands_at parts k p q e f h b = subst (OperandsBelow k) (part_value_is parts k p q e f h) (b k)

-- its cover is what its operands make
pub cover_at : (parts : List Part) (k : ℕ) (p q : Part) → p ≡ get_or parts k p → p ≡ q → k < length parts → AllBelow parts → part_cover (part_values parts) k ≡ piece_cover (part_cover (part_values parts)) k (part_value q)
cover_at parts k p q e f h b = cover_by (part_values parts) b k ∙ ap (piece_cover (part_cover (part_values parts)) k) (part_value_is parts k p q e f h)

-- a part's operands, and 0 twice where it has not two
pair_of : Option (ℕ × ℕ) → ℕ × ℕ
pair_of None = (0, 0)
pair_of (Some both) = both

-- two operands are below the part
pub both_below : (k : ℕ) (p : PartValue) (i j : ℕ) → operands_of p ≡ Some (i, j) → OperandsBelow k p → (i < k) × (j < k)
unfolding pair_of
both_below k p i j e below = subst (λ o. ((pair_of o).0 < k) × ((pair_of o).1 < k)) e (own p e below)
  where
    own : (p : PartValue) → operands_of p ≡ Some (i, j) → OperandsBelow k p → ((pair_of (operands_of p)).0 < k) × ((pair_of (operands_of p)).1 < k)
    own (Label f) e below = absurd (cc)
    own (Next i) e below = absurd (cc)
    own (And i j) e below = below
    own (Or i j) e below = below
    own (Until i j) e below = below
    own (Release i j) e below = below

-- the cover of a part with two operands is made from theirs
pub from_both : (c : ℕ → List Pair) (k : ℕ) (p : PartValue) (i j : ℕ) → operands_of p ≡ Some (i, j) → piece_cover c k p ≡ cover_from k p (c i) (c j)
unfolding pair_of
from_both c k p i j e = own p e ∙ ap (λ o. cover_from k p (c (pair_of o).0) (c (pair_of o).1)) e
  where
    own : (p : PartValue) → operands_of p ≡ Some (i, j) → piece_cover c k p ≡ cover_from k p (c (pair_of (operands_of p)).0) (c (pair_of (operands_of p)).1)
    own (Label f) e = absurd (cc)
    own (Next i) e = absurd (cc)
    own (And i j) e = refl
    own (Or i j) e = refl
    own (Until i j) e = refl
    own (Release i j) e = refl

-- and that of another part is its own
pub from_none : (c : ℕ → List Pair) (k : ℕ) (p : PartValue) → operands_of p ≡ None → piece_cover c k p ≡ cover_alone k p
from_none c k (Label f) e = refl
from_none c k (Next i) e = refl
from_none c k (And i j) e = absurd (cc)
from_none c k (Or i j) e = absurd (cc)
from_none c k (Until i j) e = absurd (cc)
from_none c k (Release i j) e = absurd (cc)
