-- Texts that grow by one piece after another.
use Rattle.std.proofs.Common.{◌≡◌, ℕ, ◌+◌, ◌<◌, List, [], ◌∷◌, ◌++◌, length, drop, flat_map, refl, sym, ap, ◌∙◌, arith, append_assoc, add-one}
use Rattle.std.specs.Prelude.{slice_index_or}
use Rattle.std.proofs.lemmas.List.{drop_more, flat_map_more, append-nil}
use Rattle.rv_model.specs.Ltl.{Ltl, True}
use Rattle.rv_model.specs.Numbers.{list_of}
use Rattle.rv_report.specs.FormulaTexts.{formula_text, further_text, labels_text}

-- none of the numbered pieces so far
pub none_numbered : (f : ℕ → List ℕ) (o : List ℕ) → o ≡ o ++ flat_map f (list_of (λ i. i) 0)
unfolding list_of
none_numbered f o = sym (append-nil o)

-- one numbered piece more
pub more_numbered : (f : ℕ → List ℕ) (o m n : List ℕ) (k : ℕ) → m ≡ o ++ flat_map f (list_of (λ i. i) k) → n ≡ m ++ f k → n ≡ o ++ flat_map f (list_of (λ i. i) (k + 1))
unfolding list_of
more_numbered f o m n k so_far grown = grown ∙ ap (λ (z : List ℕ). z ++ f k) so_far ∙ flat_map_more f o (list_of (λ i. i) k) k ∙ ap (λ (z : List ℕ). o ++ flat_map f z) (rw (add-one k) refl)

module _ (atoms : List (List ℕ)) where
  -- the first label stands alone
  pub first_label : (labels : List Ltl) (o m : List ℕ) → 0 < length labels → m ≡ o ++ formula_text atoms (slice_index_or labels 0 True) → m ++ flat_map (further_text atoms) (drop 1 labels) ≡ o ++ labels_text atoms labels
  first_label [] o m some is = let none : ⊥ = omega arith in absurd none
  first_label (f ∷ labels) o m some is = ap (λ (z : List ℕ). z ++ flat_map (further_text atoms) labels) is ∙ append_assoc o (formula_text atoms f) (flat_map (further_text atoms) labels)

  -- one label more
  pub more_labels : (labels : List Ltl) (place : ℕ) (m n total : List ℕ) → place < length labels → m ++ flat_map (further_text atoms) (drop place labels) ≡ total → n ≡ m ++ further_text atoms (slice_index_or labels place True)
      → n ++ flat_map (further_text atoms) (drop (place + 1) labels) ≡ total
  more_labels labels place m n total lt so_far grown =
      let rest : List ℕ = flat_map (further_text atoms) (drop (place + 1) labels) in
      ap (λ (z : List ℕ). z ++ rest) grown ∙ append_assoc m (further_text atoms (slice_index_or labels place True)) rest
      ∙ ap (λ (z : List Ltl). m ++ flat_map (further_text atoms) z) (sym (drop_more labels place True lt)) ∙ so_far
