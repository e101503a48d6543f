-- The first of some and how many they are, as one more comes.
use Rattle.std.proofs.Common.{◌≡◌, true, false, ◌+◌, List, [], ◌∷◌, ◌++◌, length, Option, Some, None, refl, sym, ◌∙◌}
use Rattle.std.specs.Prelude.{slice_get, is_none}
use Rattle.std.specs.Option.{option_or}
use Rattle.std.proofs.lemmas.List.{length-append}
use Rattle.rv_matches.specs.TextFacts.{FirstOf, first_of}

module _ {X : Type 0} where
  -- the first of two lists is that of the first list, if it has one
  pub first_append : (xs ys : List X) → slice_get (xs ++ ys) 0 ≡ option_or (slice_get xs 0) (slice_get ys 0)
  first_append [] ys = refl
  first_append (x ∷ xs) ys = refl

  -- where the first list has none it is the other
  pub none_first : (o p : Option X) → is_none o ≡ true → p ≡ option_or o p
  none_first None p is = refl
  none_first (Some x) p is = cc

  -- and where it has one it is that
  pub some_first : (o p : Option X) → is_none o ≡ false → o ≡ option_or o p
  some_first None p is = cc
  some_first (Some x) p is = refl

  -- both parts are the same
  pub same_first : (a b : FirstOf X) → a.first ≡ b.first → a.count ≡ b.count → a ≡ b
  same_first a b first count = λ j. record { first = first j; count = count j }

  -- one more
  pub first_push : (xs : List X) (x : X) (new : FirstOf X) → new.first ≡ option_or (slice_get xs 0) (Some x) → new.count ≡ length xs + 1 → new ≡ first_of (xs ++ x ∷ [])
  first_push xs x new first count =
      same_first new (first_of (xs ++ x ∷ [])) (first ∙ sym (first_append xs (x ∷ []))) (count ∙ sym (length-append xs (x ∷ [])))
