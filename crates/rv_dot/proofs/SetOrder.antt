-- What a set of keys has: order, members, and no other list has the same.
use Rattle.std.proofs.Common.{◌≡◌, List, [], ◌∷◌, refl, sym, ap, ◌∙◌, subst, ◌⊎◌, inl, inr}
use Rattle.std.specs.List.{AllByRecursion, fold}
use Rattle.std.specs.BTreeSet.{insert_key}
use Rattle.std.specs.Cmp.{IsTotalOrder}
use Rattle.std.specs.Ordering.{match_ordering}
use Rattle.std.specs.declared.cmp.Ordering.{Ordering}
use Rattle.std.specs.declared.cmp.Ordering.TheVariants.{Less, Equal, Greater}
use Rattle.rv_text.specs.inner.Ascending.{Ascends}
use Rattle.rv_text.proofs.AscendingLemmas.{insert_ascends, irreflexive}
use Rattle.rv_dot.specs.Members.{IsMember}

-- what holds of members holds of all
pub all_from_members : {K : Type 0} (P : K → Type 0) (xs : List K) → ((x : K) → IsMember x xs → P x) → AllByRecursion P xs
all_from_members P [] h = tt
all_from_members P (x ∷ xs) h = (h x (inl refl), all_from_members P xs (λ y m. h y (inr m)))

-- what holds of all holds of a member
pub member_of_all : {K : Type 0} (P : K → Type 0) (x : K) (xs : List K) → AllByRecursion P xs → IsMember x xs → P x
member_of_all P x [] all m = absurd m
member_of_all P x (y ∷ ys) all m = elim m [ inl e ↦ subst P e all.0 | inr n ↦ member_of_all P x ys all.1 n ]

module _ {K : Type 0} (cmp : K → K → Ordering) (o : IsTotalOrder cmp) (same : (x y : K) → cmp x y ≡ Equal → x ≡ y) where
  -- a member of the set with one key more is a member of the set, or the key
  pub insert_members : (k x : K) (ks : List K) → IsMember x (insert_key cmp ks k) → (k ≡ x) ⊎ IsMember x ks
  insert_members k x [] m = m
  insert_members k x (y ∷ ys) m = go (cmp k y) refl m (insert_members k x ys)
    where
      go : (t : Ordering) → cmp k y ≡ t → IsMember x (match_ordering t (k ∷ y ∷ ys) (y ∷ ys) (y ∷ insert_key cmp ys k)) → (IsMember x (insert_key cmp ys k) → (k ≡ x) ⊎ IsMember x ys) → (k ≡ x) ⊎ IsMember x (y ∷ ys)
      go Less e m later = m
      go Equal e m later = inr m
      go Greater e m later = elim m [ inl f ↦ inr (inl f) | inr n ↦ elim (later n) [ inl f ↦ inl f | inr q ↦ inr (inr q) ] ]

  -- the key and each member of the set are members of it
  pub members_insert : (k x : K) (ks : List K) → (k ≡ x) ⊎ IsMember x ks → IsMember x (insert_key cmp ks k)
  members_insert k x [] m = m
  members_insert k x (y ∷ ys) m = go (cmp k y) refl m (members_insert k x ys)
    where
      go : (t : Ordering) → cmp k y ≡ t → (k ≡ x) ⊎ IsMember x (y ∷ ys) → ((k ≡ x) ⊎ IsMember x ys → IsMember x (insert_key cmp ys k)) → IsMember x (match_ordering t (k ∷ y ∷ ys) (y ∷ ys) (y ∷ insert_key cmp ys k))
      go Less e m later = m
      go Equal e m later = elim m [ inl f ↦ inl (sym (same k y e) ∙ f) | inr n ↦ n ]
      go Greater e m later = elim m [ inl f ↦ inr (later (inl f)) | inr n ↦ elim n [ inl f ↦ inl f | inr q ↦ inr (later (inr q)) ] ]

  -- a set ascends
  pub fold_ascends : (names ks : List K) → Ascends cmp ks → Ascends cmp (fold (insert_key cmp) ks names)
  fold_ascends [] ks h = h
  fold_ascends (n ∷ names) ks h = fold_ascends names (insert_key cmp ks n) (insert_ascends cmp o n ks h)

  -- its members were given
  pub fold_members : (names ks : List K) (x : K) → IsMember x (fold (insert_key cmp) ks names) → IsMember x names ⊎ IsMember x ks
  fold_members [] ks x m = inr m
  fold_members (n ∷ names) ks x m =
      elim (fold_members names (insert_key cmp ks n) x m) [
        | inl p ↦ inl (inr p)
        | inr q ↦ elim (insert_members n x ks q) [ inl e ↦ inl (inl e) | inr r ↦ inr r ]
      ]

  -- what was given is a member
  pub members_fold : (names ks : List K) (x : K) → IsMember x names ⊎ IsMember x ks → IsMember x (fold (insert_key cmp) ks names)
  members_fold [] ks x m = elim m [ inl p ↦ absurd p | inr q ↦ q ]
  members_fold (n ∷ names) ks x m =
      members_fold names (insert_key cmp ks n) x
      (elim m [ inl p ↦ elim p [ inl e ↦ inr (members_insert n x ks (inl e)) | inr q ↦ inl q ] | inr q ↦ inr (members_insert n x ks (inr q)) ])

  -- members behind the heads
  rest : (a b : K) (as' bs : List K) → b ≡ a → AllByRecursion (λ y. cmp a y ≡ Less) as' → ((z : K) → IsMember z (a ∷ as') → IsMember z (b ∷ bs)) → (z : K) → IsMember z as' → IsMember z bs
  rest a b as' bs e above f z m =
      elim (f z (inr m)) [
        | inl k ↦ absurd (irreflexive cmp o a (subst (λ w. cmp a w ≡ Less) (sym k ∙ e) (member_of_all (λ y. cmp a y ≡ Less) z as' above m)))
        | inr n ↦ n
      ]

  -- ascending lists with the same members have one head
  same_heads : (x y : K) (xs ys : List K) → Ascends cmp (x ∷ xs) → Ascends cmp (y ∷ ys) → IsMember x (y ∷ ys) → IsMember y (x ∷ xs) → y ≡ x
  same_heads x y xs ys p q f g =
      elim f [
        | inl e ↦ e
        | inr m ↦
            elim g [
              | inl e ↦ sym e
              | inr n ↦
                  let below : cmp y x ≡ Less = member_of_all (λ z. cmp y z ≡ Less) x ys q.0 m in
                  let above : cmp x y ≡ Less = member_of_all (λ z. cmp x z ≡ Less) y xs p.0 n in
                  absurd (irreflexive cmp o x (o.trans x y x above below))
            ]
      ]

  -- two ascending lists with the same members are one
  pub one_list : (xs ys : List K) → Ascends cmp xs → Ascends cmp ys → ((z : K) → IsMember z xs → IsMember z ys) → ((z : K) → IsMember z ys → IsMember z xs) → xs ≡ ys
  one_list [] [] p q f g = refl
  one_list [] (y ∷ ys) p q f g = absurd (g y (inl refl))
  one_list (x ∷ xs) [] p q f g = absurd (f x (inl refl))
  one_list (x ∷ xs) (y ∷ ys) p q f g =
      let e = same_heads x y xs ys p q (f x (inl refl)) (g y (inl refl)) in
      let tails = one_list xs ys p.1 q.1 (rest x y xs ys e p.0 f) (rest y x ys xs (sym e) q.0 g) in
      ap (λ (z : K). z ∷ xs) (sym e) ∙ ap (λ (zs : List K). y ∷ zs) tails
