-- The last value of a key, with one attribute more.
use Rattle.std.proofs.Common.{◌≡◌, ℕ, Bool, true, false, List, [], ◌∷◌, ◌++◌, Option, Some, None, cond, refl, ap, ◌∙◌}
use Rattle.std.specs.Option.{option_or}
use Rattle.std.specs.Str.{bytes_eq}
use Rattle.rv_dot.specs.Tokens.{Lexeme}
use Rattle.rv_dot.specs.Lists.{Attribute, last_value}

-- the last attribute decides, where it has the key
pub last_value-push : (key : List ℕ) (front : List Attribute) (a : Attribute) → last_value key (front ++ a ∷ []) ≡ cond (bytes_eq a.key key) (Some a.value) (last_value key front)
unfolding last_value
last_value-push key [] a = refl
last_value-push key (b ∷ front) a = ap (λ (o : Option Lexeme). option_or o (cond (bytes_eq b.key key) (Some b.value) None)) (last_value-push key front a) ∙ chosen (bytes_eq a.key key)
  where
    chosen : (t : Bool) → option_or (cond t (Some a.value) (last_value key front)) (cond (bytes_eq b.key key) (Some b.value) None) ≡ cond t (Some a.value) (option_or (last_value key front) (cond (bytes_eq b.key key) (Some b.value) None))
    chosen true = refl
    chosen false = refl

-- of no attributes there is none
pub last_value-nil : (key : List ℕ) → last_value key [] ≡ None
unfolding last_value
last_value-nil key = refl
