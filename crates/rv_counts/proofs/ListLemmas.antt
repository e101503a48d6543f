-- Lists that are taken apart from the front, and lists that grow at the end.
use Rattle.std.proofs.Common.{◌≡◌, ◌≢◌, ◌⊎◌, inl, inr, ℕ, ◌+◌, ◌-◌, ◌<◌, ◌≤◌, List, [], ◌∷◌, ◌++◌, length, get_or, drop, sym, ap, ◌∙◌, subst, arith}
use Rattle.std.proofs.lemmas.List.{drop_more, get_or_append_left, get_or_push, length-drop}

module _ {X : Type 0} (xs : List X) (n : ℕ) where
  -- what is left and not empty begins with the item at the place
  pub left-inside : (x : X) (rest : List X) → drop n xs ≡ x ∷ rest → n < length xs
  left-inside x rest left =
      let many : length xs - n ≡ length (x ∷ rest) = sym (length-drop n xs) ∙ ap length left in
      omega arith

  pub left-item : (x d : X) (rest : List X) → drop n xs ≡ x ∷ rest → get_or xs n d ≡ x
  left-item x d rest left =
      let more : drop n xs ≡ get_or xs n d ∷ drop (n + 1) xs = drop_more xs n d (left-inside x rest left) in
      cc

  pub left-rest : (x : X) (rest : List X) → drop n xs ≡ x ∷ rest → drop (n + 1) xs ≡ rest
  left-rest x rest left =
      let more : drop n xs ≡ get_or xs n x ∷ drop (n + 1) xs = drop_more xs n x (left-inside x rest left) in
      cc

  -- where nothing is left, all items were taken
  pub left-none : drop n xs ≡ [] → length xs ≤ n
  left-none left =
      let many : length xs - n ≡ 0 = sym (length-drop n xs) ∙ ap length left in
      omega arith

-- two numbers are the same or not
same_or_not : (a b : ℕ) → (a ≡ b) ⊎ (a ≢ b)
same_or_not a b = grind arith

-- what holds of each item at its place, and of the next
pub each_push : {X : Type 0} (P : ℕ → X → Type 0) (xs : List X) (next : X) → ((k : ℕ) (x : X) → k < length xs → P k (get_or xs k x)) → P (length xs) next → (k : ℕ) (x : X) → k < length xs + 1 → P k (get_or (xs ++ next ∷ []) k x)
each_push P xs next each here k x lt = elim (same_or_not k (length xs)) [
  | inl e ↦ subst (P k) (sym (get_or_push xs next x k (sym e))) (subst (λ (j : ℕ). P j next) (sym e) here)
  | inr ne ↦ subst (P k) (sym (get_or_append_left xs (next ∷ []) x k (omega arith))) (each k x (omega arith))
]
