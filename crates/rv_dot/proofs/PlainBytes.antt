-- Names of bytes of words alone are read as they are.
use Rattle.std.proofs.Common.{◌≡◌, ℕ, Bool, true, false, List, [], ◌∷◌, refl, sym, ap, ◌∙◌, arith}
use Rattle.std.specs.Prelude.{map, ◌==◌}
use Rattle.std.specs.List.{AllByRecursion}
use Rattle.std.proofs.lemmas.Bool.Decides.{nat_tests}
use Rattle.rv_dot.specs.Runs.{is_word_byte}
use Rattle.rv_dot.specs.Names.{name_byte}
use Rattle.rv_dot.specs.Pieces.{IsString}

-- bytes of words alone
abbrev pub IsPlain : List ℕ → Type 0
IsPlain name = AllByRecursion (λ b. is_word_byte b ≡ true) name

-- a byte of a word is none of another kind
pub other_byte : (b c : ℕ) → is_word_byte b ≡ true → is_word_byte c ≡ false → (b == c) ≡ false
other_byte b c h k = go (b == c) refl
  where
    go : (t : Bool) → (b == c) ≡ t → t ≡ false
    go true e = let same : b ≡ c = grind (arith, nat_tests) in let both : true ≡ false = sym h ∙ ap is_word_byte same ∙ k in absurd (cc)
    go false e = refl

-- such a name is a string as it is
pub plain_string : (before : ℕ) (name : List ℕ) → (before == 92) ≡ false → IsPlain name → IsString before name
plain_string before [] h k = h
plain_string before (b ∷ name) h k =
    (other_byte b 10 k.0 refl, (λ quote. absurd (let both : true ≡ false = sym quote ∙ other_byte b 34 k.0 refl in cc)), plain_string b name (other_byte b 92 k.0 refl) k.1)

-- and a name as it is
pub plain_name : (name : List ℕ) → IsPlain name → map name_byte name ≡ name
plain_name [] k = refl
plain_name (b ∷ name) k = rw (other_byte b 44 k.0 refl) (ap (λ (bs : List ℕ). b ∷ bs) (plain_name name k.1))
