-- Reading tokens one after the other, as a loop does.
use Rattle.std.proofs.Common.{◌≡◌, ℕ, zero, suc, ◌≤◌, ◌<◌, get_or, Bool, eqb, List, [], ◌∷◌, ◌++◌, length, Option, Some, None, refl, sym, ap, ◌∙◌, append_assoc, arith}
use Rattle.std.specs.Option.{option_to_list}
use Rattle.std.proofs.lemmas.List.{append-nil}
use Rattle.rv_dot.specs.Tokens.{Lexeme, ◌>>=◌, front_of, tokens_within}
use Rattle.rv_dot.proofs.Scans.{with_front}

-- the front grows
regroup : {A : Type 0} (front more : List A) (read : Option (List A)) → with_front front (read >>= (λ others. Some (more ++ others))) ≡ with_front (front ++ more) read
regroup front more None = refl
regroup front more (Some others) = ap Some (sym (append_assoc front more others))

-- one more token
pub goes_on : (front : List Lexeme) (n : ℕ) (starts : Bool) (bytes : List ℕ) (token : Option Lexeme) (after : List ℕ) (total : Option (List Lexeme))
    → 1 ≤ length bytes → length bytes ≤ n → Some (token, after) ≡ front_of starts bytes → length after < length bytes
    → with_front front (tokens_within n starts bytes) ≡ total
    → (m : ℕ) × (length after ≤ m) × (with_front (front ++ option_to_list token) (tokens_within m (eqb (get_or bytes 0 0) 10) after) ≡ total)
unfolding tokens_within
goes_on front n starts [] token after total some few read shorter so_far = absurd (omega arith)
goes_on front zero starts (b ∷ rest) token after total some few read shorter so_far = absurd (omega arith)
goes_on front (suc m) starts (b ∷ rest) token after total some few read shorter so_far =
    let step : with_front front (tokens_within (suc m) starts (b ∷ rest)) ≡ with_front (front ++ option_to_list token) (tokens_within m (eqb b 10) after) = rw (← read) (regroup front (option_to_list token) (tokens_within m (eqb b 10) after)) in
    (m, omega arith, sym step ∙ so_far)

-- a fault ends the reading
pub ends : (front : List Lexeme) (n : ℕ) (starts : Bool) (bytes : List ℕ) (total : Option (List Lexeme))
    → 1 ≤ length bytes → None ≡ front_of starts bytes → with_front front (tokens_within n starts bytes) ≡ total → total ≡ None
unfolding tokens_within
ends front n starts [] total some read so_far = absurd (omega arith)
ends front zero starts (b ∷ rest) total some read so_far = sym so_far
ends front (suc m) starts (b ∷ rest) total some read so_far =
    let step : with_front front (tokens_within (suc m) starts (b ∷ rest)) ≡ None = rw (← read) refl in
    sym so_far ∙ step

-- at the end all is read
pub is_done : (front : List Lexeme) (n : ℕ) (starts : Bool) (bytes : List ℕ) (total : Option (List Lexeme)) → length bytes < 1 → with_front front (tokens_within n starts bytes) ≡ total → total ≡ Some front
unfolding tokens_within
is_done front zero starts [] total none so_far = sym so_far ∙ ap Some (append-nil front)
is_done front (suc n) starts [] total none so_far = sym so_far ∙ ap Some (append-nil front)
is_done front n starts (b ∷ bytes) total none so_far = absurd (omega arith)

-- nothing was read before
pub from_nothing : {A : Type 0} (read : Option (List A)) → with_front [] read ≡ read
from_nothing None = refl
from_nothing (Some more) = refl
