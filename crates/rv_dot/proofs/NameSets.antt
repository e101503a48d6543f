-- Sets of names ascend, have the names as members, and are the only such lists.
use Rattle.std.proofs.Common.{◌≡◌, ℕ, List, [], ◌∷◌, refl, ◌⊎◌, inl, inr, arith}
use Rattle.std.specs.Prelude.{◌↔◌}
use Rattle.std.specs.Cmp.Lexicographic.{slice_cmp, nat_list_cmp_total}
use Rattle.std.specs.Ordering.{nat_cmp, ordering_then}
use Rattle.std.specs.declared.cmp.Ordering.{Ordering}
use Rattle.std.specs.declared.cmp.Ordering.TheVariants.{Less, Equal, Greater}
use Rattle.std.proofs.lemmas.Bool.Decides.{nat_tests}
use Rattle.rv_text.specs.inner.Ascending.{Ascends}
use Rattle.rv_dot.specs.Members.{IsMember}
use Rattle.rv_dot.specs.Sets.{ascending}
use Rattle.rv_dot.proofs.SetOrder.{fold_ascends, fold_members, members_fold, one_list}

-- names that compare as equal are equal
pub same_name : (x y : List ℕ) → slice_cmp nat_cmp x y ≡ Equal → x ≡ y
same_name [] [] h = refl
same_name [] (y ∷ ys) h = absurd (cc)
same_name (x ∷ xs) [] h = absurd (cc)
same_name (x ∷ xs) (y ∷ ys) h = go (nat_cmp x y) refl h (same_name xs ys)
  where
    go : (o : Ordering) → nat_cmp x y ≡ o → ordering_then o (slice_cmp nat_cmp xs ys) ≡ Equal → (slice_cmp nat_cmp xs ys ≡ Equal → xs ≡ ys) → x ∷ xs ≡ y ∷ ys
    go Less e h later = absurd (cc)
    go Equal e h later = let same : x ≡ y = grind (arith, nat_tests) in let tails = later h in cc
    go Greater e h later = absurd (cc)

-- the part that can be
either : {A B : Type 0} → A ⊎ B → (B → ⊥) → A
either (inl a) none = a
either (inr b) none = absurd (none b)

-- a set ascends
pub set_ascends : (names : List (List ℕ)) → Ascends (slice_cmp nat_cmp) (ascending names)
unfolding ascending
set_ascends names = fold_ascends (slice_cmp nat_cmp) nat_list_cmp_total same_name names [] tt

-- its members are the names
pub set_members : (names : List (List ℕ)) (name : List ℕ) → IsMember name (ascending names) ↔ IsMember name names
unfolding ascending
set_members names name = (
  (λ m. either (fold_members (slice_cmp nat_cmp) nat_list_cmp_total same_name names [] name m) (λ none. none)),
  (λ m. members_fold (slice_cmp nat_cmp) nat_list_cmp_total same_name names [] name (inl m)),
)

-- no other list is so
pub set_is_only : (names found : List (List ℕ)) → Ascends (slice_cmp nat_cmp) found → ((name : List ℕ) → IsMember name found ↔ IsMember name names) → found ≡ ascending names
set_is_only names found up members =
    one_list (slice_cmp nat_cmp) nat_list_cmp_total same_name found (ascending names) up (set_ascends names)
    (λ z m. (set_members names z).1 ((members z).0 m)) (λ z m. (members z).1 ((set_members names z).0 m))
