-- Labels: their pieces one after the other, and how much of a text is kept.
use Rattle.std.proofs.Common.{◌≡◌, ℕ, zero, suc, ◌+◌, ◌<◌, ◌≤◌, Bool, true, false, eqb, List, [], ◌∷◌, ◌++◌, length, take, get_or, Some, None, cond, refl, sym, ap, ◌∙◌, arith, append_assoc}
use Rattle.std.specs.Prelude.{◌&&◌, ◌==◌}
use Rattle.std.proofs.lemmas.Bool.Decides.{nat_tests}
use Rattle.std.proofs.lemmas.List.{take_more, length-take-le}
use Rattle.rv_text.specs.Places.{is_blank}
use Rattle.rv_dot.specs.Labels.{kept_len, trimmed, piece_of, pieces_within}

-- no more is kept than there is
kept_few : (bytes : List ℕ) → kept_len bytes ≤ length bytes
unfolding kept_len
kept_few [] = omega arith
kept_few (b ∷ bytes) = go (is_blank b && kept_len bytes == 0) (kept_few bytes)
  where
    go : (t : Bool) → kept_len bytes ≤ length bytes → cond t 0 (kept_len bytes + 1) ≤ length (b ∷ bytes)
    go true h = omega arith
    go false h = omega arith

-- one byte more at the end
pub kept_len-push : (bytes : List ℕ) (b : ℕ) → kept_len (bytes ++ b ∷ []) ≡ cond (is_blank b) (kept_len bytes) (length bytes + 1)
unfolding kept_len
kept_len-push [] b = go (is_blank b)
  where
    go : (t : Bool) → cond (t && eqb 0 0) 0 (0 + 1) ≡ cond t 0 (0 + 1)
    go true = refl
    go false = refl
kept_len-push (c ∷ bytes) b = rw (kept_len-push bytes b) (go (is_blank b) (is_blank c))
  where
    go : (t u : Bool) → cond (u && eqb (cond t (kept_len bytes) (length bytes + 1)) 0) 0 (cond t (kept_len bytes) (length bytes + 1) + 1) ≡ cond t (cond (u && eqb (kept_len bytes) 0) 0 (kept_len bytes + 1)) (length (c ∷ bytes) + 1)
    go true u = refl
    go false true = let some : eqb (length bytes + 1) 0 ≡ false = grind (arith, nat_tests) in rw some (omega arith)
    go false false = omega arith

-- up to one place further
pub kept_more : (bytes : List ℕ) (i : ℕ) (d : ℕ) → i < length bytes → kept_len (take (i + 1) bytes) ≡ cond (is_blank (get_or bytes i d)) (kept_len (take i bytes)) (i + 1)
kept_more bytes i d lt = ap kept_len (take_more bytes i d lt) ∙ kept_len-push (take i bytes) (get_or bytes i d) ∙ ap (λ (n : ℕ). cond (is_blank (get_or bytes i d)) (kept_len (take i bytes)) (n + 1)) (long bytes i lt)
  where
    long : (bytes : List ℕ) (i : ℕ) → i < length bytes → length (take i bytes) ≡ i
    long bytes i lt = length-take-le i bytes (omega arith)

-- of nothing, nothing is kept
pub kept_none : kept_len [] ≡ 0
unfolding kept_len
kept_none = refl

-- what is kept stays within the place
pub kept_within : (t : Bool) (kept place : ℕ) → kept ≤ place → cond t kept (place + 1) ≤ place + 1
kept_within true kept place h = omega arith
kept_within false kept place h = omega arith

-- one piece more
pub pieces_more : (front : List (List ℕ)) (n : ℕ) (rest first after : List ℕ) (total : List (List ℕ)) → Some (first, after) ≡ piece_of rest → length after < length rest → length rest ≤ n → front ++ pieces_within n rest ≡ total
    → (m : ℕ) × (length after ≤ m) × ((front ++ first ∷ []) ++ pieces_within m after ≡ total)
unfolding pieces_within
pieces_more front zero rest first after total is shorter small so_far = absurd (omega arith)
pieces_more front (suc m) rest first after total is shorter small so_far =
    let step : front ++ pieces_within (suc m) rest ≡ (front ++ first ∷ []) ++ pieces_within m after = rw (← is) (sym (append_assoc front (first ∷ []) (pieces_within m after))) in
    (m, omega arith, sym step ∙ so_far)

-- the last piece
pub pieces_end : (front : List (List ℕ)) (n : ℕ) (rest : List ℕ) (total : List (List ℕ)) → None ≡ piece_of rest → front ++ pieces_within n rest ≡ total → front ++ trimmed rest ∷ [] ≡ total
unfolding pieces_within
pieces_end front zero rest total is so_far = so_far
pieces_end front (suc m) rest total is so_far =
    let step : front ++ pieces_within (suc m) rest ≡ front ++ trimmed rest ∷ [] = rw (← is) refl in
    sym step ∙ so_far
