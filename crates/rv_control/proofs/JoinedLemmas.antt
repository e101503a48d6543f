-- A text that is two texts with a colon between them.
use Rattle.std.proofs.Common.{◌≡◌, ℕ, ◌-◌, ◌<◌, ◌≤◌, Bool, true, false, ◌&&◌, eqb, List, [], ◌∷◌, ◌++◌, length, take, drop, refl, sym, ap, ◌∙◌, arith, append_assoc}
use Rattle.std.specs.Prelude.{bytes_eq, codes}
use Rattle.std.proofs.lemmas.List.{take_rest}

-- of three tests it is the same which two are joined first
and_assoc : (a b c : Bool) → a && (b && c) ≡ (a && b) && c
and_assoc true b c = refl
and_assoc false b c = refl

-- where the text is long enough, it is compared part by part
apart : (text front back : List ℕ) → length front ≤ length text → bytes_eq (front ++ back) text ≡ (bytes_eq front (take (length front) text) && bytes_eq back (drop (length front) text))
apart text [] back long = refl
apart [] (first ∷ front) back long = absurd (omega arith)
apart (byte ∷ text) (first ∷ front) back long = ap (λ b. eqb first byte && b) (apart text front back (omega arith)) ∙ and_assoc (eqb first byte) _ _

module _ (text front back : List ℕ) where
  -- where the text is long enough, it is the joined text exactly where both its parts are
  parts : length front ≤ length text → (bytes_eq front (take (length front) text) && bytes_eq (codes ":" ++ back) (drop (length front) text)) ≡ bytes_eq (front ++ codes ":" ++ back) text
  parts long = sym (apart text front (codes ":" ++ back) long) ∙ ap (λ (z : List ℕ). bytes_eq z text) (sym (append_assoc front (codes ":") back))

  -- a text that begins otherwise is another
  pub joined-other : length front ≤ length text → bytes_eq front (take (length front) text) ≡ false → false ≡ bytes_eq (front ++ codes ":" ++ back) text
  joined-other long other = sym (ap (λ b. b && bytes_eq (codes ":" ++ back) (drop (length front) text)) other) ∙ parts long

  -- one that begins so is told by the rest
  pub joined-same : length front ≤ length text → bytes_eq front (take (length front) text) ≡ true → bytes_eq (codes ":" ++ back) (take (length text - length front) (drop (length front) text)) ≡ bytes_eq (front ++ codes ":" ++ back) text
  joined-same long same =
      ap (bytes_eq (codes ":" ++ back)) (take_rest text (length front))
      ∙ sym (ap (λ b. b && bytes_eq (codes ":" ++ back) (drop (length front) text)) same) ∙ parts long
