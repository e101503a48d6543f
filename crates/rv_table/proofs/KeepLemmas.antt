-- Labels keep their numbers while more labels are numbered.
use Rattle.std.proofs.Common.{◌≡◌, ◌≢◌, ℕ, suc, ◌<◌, ◌⊎◌, inl, inr, List, [], ◌∷◌, length, map, get_or, slice_set, arith, refl, sym, ap, ◌∙◌}
use Rattle.std.specs.List.{All}
use Rattle.std.proofs.lemmas.List.{get_or_default, get_or-set_same, get_or-set_other, length-set}
use Rattle.rv_model.specs.Ltl.{True}
use Rattle.rv_table.specs.declared.label.Label.{Label}
use Rattle.rv_table.specs.inner.Numbered.{AreNumbers, AreDistinct, KeepsNumbers, label_at}

-- what stands for no label
abbrev no_label : Label
no_label = record { masks = True; rows = 0 }

-- labels that are the same stand once if they did
once-same : (old new : List Label) → length new ≡ length old → ((number : ℕ) → number < length old → label_at new number ≡ label_at old number) → AreDistinct old → AreDistinct new
once-same old new long same distinct number other lt within =
    let below : other < length old = omega arith in
    λ e. distinct number other lt below (sym (same number (omega arith)) ∙ e ∙ same other below)

-- two numbers are the same or not
same_or_not : (a b : ℕ) → (a ≡ b) ⊎ (a ≢ b)
same_or_not a b = grind arith

-- a label has other rows
pub Keeps-set : (labels : List Label) (number : ℕ) (found : Label) (rows : ℕ) → number < length labels → found ≡ get_or labels number found
    → KeepsNumbers labels (slice_set labels number (record { masks = found.masks; rows = rows }))
Keeps-set labels number found rows lt is = record { longer = omega (arith, long); same = λ other below. same other (same_or_not other number); once = once-same labels new long (λ other below. same other (same_or_not other number)) }
  where
    new : List Label
    new = slice_set labels number (record { masks = found.masks; rows = rows })

    long : length new ≡ length labels
    long = length-set labels number (record { masks = found.masks; rows = rows })

    same : (other : ℕ) → (other ≡ number) ⊎ (other ≢ number) → label_at new other ≡ label_at labels other
    same other (inl e) =
        ap (λ k. label_at new k) e
        ∙ ap (λ (l : Label). l.masks) (get_or-set_same labels number (record { masks = found.masks; rows = rows }) no_label lt)
        ∙ ap (λ (l : Label). l.masks) (is ∙ get_or_default labels number found no_label lt)
        ∙ ap (λ k. label_at labels k) (sym e)
    same other (inr n) = ap (λ (l : Label). l.masks) (get_or-set_other labels number other (record { masks = found.masks; rows = rows }) no_label n)

-- one change after another
pub Keeps-trans : (a b c : List Label) → KeepsNumbers a b → KeepsNumbers b c → KeepsNumbers a c
Keeps-trans a b c first second =
    let longer = first.longer in
    let more = second.longer in
    record { longer = omega arith; same = λ number lt. second.same number (omega arith) ∙ first.same number lt; once = λ distinct. second.once (first.once distinct) }

-- numbers stay numbers
pub AreNumbers-kept : (old new : List Label) (numbers : List ℕ) → KeepsNumbers old new → AreNumbers old numbers → AreNumbers new numbers
AreNumbers-kept old new numbers keeps within = λ i d lt. let at = within i d lt in let longer = keeps.longer in omega arith

-- the rest of the numbers
rest : (P : ℕ → Type 0) (number : ℕ) (numbers : List ℕ) → All P (number ∷ numbers) → All P numbers
rest P number numbers all = λ i d lt. all (suc i) d (omega arith)

-- they name the same labels
pub labels-kept : (old new : List Label) (numbers : List ℕ) → KeepsNumbers old new → AreNumbers old numbers → map (label_at new) numbers ≡ map (label_at old) numbers
labels-kept old new [] keeps within = refl
labels-kept old new (number ∷ numbers) keeps within =
    ap (λ f. f ∷ map (label_at new) numbers) (keeps.same number (within 0 0 (omega arith)))
    ∙ ap (λ fs. label_at old number ∷ fs) (labels-kept old new numbers keeps (rest (λ n. n < length old) number numbers within))
