-- A text that grows line by line.
use Rattle.std.proofs.Common.{◌≡◌, ℕ, ◌+◌, List, ◌++◌, flat_map, refl, sym, ap, ◌∙◌, add-one}
use Rattle.std.proofs.lemmas.List.{flat_map_more, append-nil}
use Rattle.rv_model.specs.Numbers.{list_of}

-- no line yet
pub no_line : (f : ℕ → List ℕ) (o : List ℕ) → o ≡ o ++ flat_map f (list_of (λ i. i) 0)
unfolding list_of
no_line f o = sym (append-nil o)

-- one line more
pub more_lines : (f : ℕ → List ℕ) (o m n : List ℕ) (k : ℕ) → m ≡ o ++ flat_map f (list_of (λ i. i) k) → n ≡ m ++ f k → n ≡ o ++ flat_map f (list_of (λ i. i) (k + 1))
unfolding list_of
more_lines f o m n k so_far grown = grown ∙ ap (λ (z : List ℕ). z ++ f k) so_far ∙ flat_map_more f o (list_of (λ i. i) k) k ∙ ap (λ (z : List ℕ). o ++ flat_map f z) (rw (add-one k) refl)
