-- Where a row passes: no label that is false on the letter has it.
use Rattle.std.proofs.Common.{◌≡◌, ℕ, zero, suc, ◌<◌, ◌&&◌, ◌||◌, not, Bool, true, false, List, [], ◌∷◌, length, get_or, slice_set, arith, refl, sym, ap, ◌∙◌}
use Rattle.std.proofs.Math.Bool.{and_assoc}
use Rattle.rv_model.specs.Ltl.{Ltl}
use Rattle.rv_model.specs.Meaning.{true_on}
use Rattle.rv_model.specs.Numbers.{has_bit}
use Rattle.rv_table.specs.declared.label.Label.{Label}
use Rattle.rv_table.specs.inner.Numbered.{row_passes, label_at}

-- a row is put into a label's set
put : (had is holds rest : Bool) → ((not (had || is) || holds) && rest) ≡ (((not had || holds) && rest) && (not is || holds))
put true true true true = refl
put true true true false = refl
put true true false rest = refl
put true false true true = refl
put true false true false = refl
put true false false rest = refl
put false true true true = refl
put false true true false = refl
put false true false true = refl
put false true false false = refl
put false false true true = refl
put false false true false = refl
put false false false true = refl
put false false false false = refl

-- a row that is put into the set of one label passes where it did, and where the label is true
pub row_passes-put : (labels : List Label) (number : ℕ) (found read : Label) (rows : ℕ) (is : Bool) (q letter : ℕ) (f : Ltl) → number < length labels
    → found ≡ get_or labels number found → read ≡ get_or labels number read → label_at labels number ≡ f
    → has_bit rows q ≡ (has_bit read.rows q || is)
    → row_passes (slice_set labels number (record { masks = found.masks; rows = rows })) q letter ≡ (row_passes labels q letter && (not is || true_on letter f))
row_passes-put [] number found read rows is q letter f lt found_is read_is names bit = absurd (omega arith)
row_passes-put (first ∷ labels) zero found read rows is q letter f lt found_is read_is names bit =
    ap (λ b. (not b || true_on letter found.masks) && row_passes labels q letter) (bit ∙ ap (λ (l : Label). has_bit l.rows q || is) read_is)
    ∙ ap (λ g. (not (has_bit first.rows q || is) || true_on letter g) && row_passes labels q letter) (ap (λ (l : Label). l.masks) found_is ∙ names)
    ∙ put (has_bit first.rows q) is (true_on letter f) (row_passes labels q letter)
    ∙ ap (λ g. ((not (has_bit first.rows q) || true_on letter g) && row_passes labels q letter) && (not is || true_on letter f)) (sym names)
row_passes-put (first ∷ labels) (suc number) found read rows is q letter f lt found_is read_is names bit =
    ap (λ b. (not (has_bit first.rows q) || true_on letter first.masks) && b) (row_passes-put labels number found read rows is q letter f (omega arith) found_is read_is names bit)
    ∙ sym (and_assoc (not (has_bit first.rows q) || true_on letter first.masks) (row_passes labels q letter) (not is || true_on letter f))
