-- Names that stand in a list, and their numbers.
use Rattle.std.proofs.Common.{◌≡◌, ℕ, zero, suc, ◌+◌, ◌<◌, Bool, true, false, List, [], ◌∷◌, length, get_or, Option, Some, None, cond, refl, sym, ap, ◌∙◌, subst, inl, inr, arith}
use Rattle.std.specs.Prelude.{not}
use Rattle.std.specs.Cmp.{both_ways}
use Rattle.std.specs.Cmp.Lexicographic.{slice_cmp}
use Rattle.std.specs.List.{filter}
use Rattle.std.specs.Option.{option_map, is_some}
use Rattle.std.specs.Ordering.{nat_cmp}
use Rattle.std.specs.declared.cmp.Ordering.TheVariants.{Less}
use Rattle.std.specs.Str.{bytes_eq}
use Rattle.std.proofs.lemmas.Option.{same_Some}
use Rattle.std.proofs.lemmas.Slice.Eq.{bytes_eq-Decides}
use Rattle.rv_text.specs.inner.Ascending.{Ascends}
use Rattle.rv_dot.specs.Members.{IsMember}
use Rattle.rv_dot.specs.Sets.{ascending, place_of, stands_in, number_in}
use Rattle.rv_dot.specs.Dot.{states_from}
use Rattle.rv_dot.proofs.MemberLaws.{member_filter, filter_member, member_at}
use Rattle.rv_dot.proofs.NameSets.{set_members}
use Rattle.rv_dot.proofs.Places.{by_bytes, below_test}
use Rattle.rv_dot.proofs.SetOrder.{member_of_all}

-- equal tests mean equal names
pub name_same : (x y : List ℕ) → bytes_eq x y ≡ true → x ≡ y
name_same x y h = (bytes_eq-Decides x y).0 h

-- equal names pass the test
pub name_test : (x y : List ℕ) → x ≡ y → bytes_eq x y ≡ true
name_test x y e = (bytes_eq-Decides x y).1 e

-- a place further back
some_more : (o : Option ℕ) → is_some (option_map (λ n. n + 1) o) ≡ is_some o
some_more None = refl
some_more (Some n) = refl

-- a name that stands in a list is a member of it
pub stands_member : (names : List (List ℕ)) (x : List ℕ) → stands_in names x ≡ true → IsMember x names
unfolding place_of
stands_member [] x h = absurd (cc)
stands_member (n ∷ names) x h = go (bytes_eq n x) refl h (λ k. stands_member names x (sym (some_more (place_of x names)) ∙ k))
  where
    go : (t : Bool) → bytes_eq n x ≡ t → is_some (cond t (Some 0) (option_map (λ n. n + 1) (place_of x names))) ≡ true → (is_some (option_map (λ n. n + 1) (place_of x names)) ≡ true → IsMember x names) → IsMember x (n ∷ names)
    go true e h later = inl (name_same n x e)
    go false e h later = inr (later h)

-- a member stands in the list
pub member_stands : (names : List (List ℕ)) (x : List ℕ) → IsMember x names → stands_in names x ≡ true
unfolding place_of
member_stands [] x m = absurd m
member_stands (n ∷ names) x m = go (bytes_eq n x) refl m (λ k. some_more (place_of x names) ∙ member_stands names x k)
  where
    go : (t : Bool) → bytes_eq n x ≡ t → IsMember x (n ∷ names) → (IsMember x names → is_some (option_map (λ n. n + 1) (place_of x names)) ≡ true) → is_some (cond t (Some 0) (option_map (λ n. n + 1) (place_of x names))) ≡ true
    go true e m later = refl
    go false e m later = elim m [ inl f ↦ absurd (let apart : true ≡ false = sym (name_test n x f) ∙ e in cc) | inr k ↦ later k ]

-- names stand in the set of names where they stand among them
pub stands_in_set : (names : List (List ℕ)) (x : List ℕ) → stands_in (ascending names) x ≡ stands_in names x
stands_in_set names x =
    both_ways (stands_in (ascending names) x) (stands_in names x)
    (λ h. member_stands names x ((set_members names x).0 (stands_member (ascending names) x h)))
    (λ h. member_stands (ascending names) x ((set_members names x).1 (stands_member names x h)))

-- a state of the automaton is a declared one
pub member_states : (initial : List ℕ) (declared : List (List ℕ)) (x : List ℕ) → IsMember initial declared → IsMember x (states_from initial declared) → IsMember x declared
unfolding states_from
member_states initial declared x has m =
    elim m [
      | inl e ↦ subst (λ y. IsMember y declared) e has
      | inr n ↦ (set_members declared x).0 (member_filter (λ s. not (bytes_eq s initial)) x (ascending declared) n).0
    ]

-- a declared state is a state of the automaton
pub states_member : (initial : List ℕ) (declared : List (List ℕ)) (x : List ℕ) → IsMember x declared → IsMember x (states_from initial declared)
unfolding states_from
states_member initial declared x m = go (bytes_eq x initial) refl
  where
    go : (t : Bool) → bytes_eq x initial ≡ t → IsMember x (initial ∷ filter (λ s. not (bytes_eq s initial)) (ascending declared))
    go true e = inl (sym (name_same x initial e))
    go false e = inr (filter_member (λ s. not (bytes_eq s initial)) x (ascending declared) ((set_members declared x).1 m) (ap not e))

-- the states are the declared names
pub stands_in_states : (initial : List ℕ) (declared : List (List ℕ)) → stands_in declared initial ≡ true → (x : List ℕ) → stands_in (states_from initial declared) x ≡ stands_in declared x
stands_in_states initial declared has x =
    both_ways (stands_in (states_from initial declared) x) (stands_in declared x)
    (λ h. member_stands declared x (member_states initial declared x (stands_member declared initial has) (stands_member (states_from initial declared) x h)))
    (λ h. member_stands (states_from initial declared) x (states_member initial declared x (stands_member declared x h)))

-- the name at its place
pub place_at : (names : List (List ℕ)) (x : List ℕ) (i : ℕ) (d : List ℕ) → place_of x names ≡ Some i → (i < length names) × (get_or names i d ≡ x)
unfolding place_of
place_at [] x i d h = absurd (cc)
place_at (n ∷ names) x i d h = go (bytes_eq n x) (place_of x names) refl refl h (λ j f. place_at names x j d f)
  where
    go : (t : Bool) (o : Option ℕ) → bytes_eq n x ≡ t → place_of x names ≡ o → cond t (Some 0) (option_map (λ n. n + 1) o) ≡ Some i → ((j : ℕ) → place_of x names ≡ Some j → (j < length names) × (get_or names j d ≡ x)) → (i < length (n ∷ names)) × (get_or (n ∷ names) i d ≡ x)
    go true o e f h more = let zero : 0 ≡ i = same_Some 0 i h in subst (λ k. (k < length (n ∷ names)) × (get_or (n ∷ names) k d ≡ x)) zero (omega arith, name_same n x e)
    go false None e f h more = absurd (cc)
    go false (Some j) e f h more =
        let next : j + 1 ≡ i = same_Some (j + 1) i h in
        let later = more j f in
        let step : suc j ≡ i = omega arith in
        subst (λ k. (k < length (n ∷ names)) × (get_or (n ∷ names) k d ≡ x)) step (omega (arith, later.0), later.1)

-- the place that is there
some_of : (o : Option ℕ) → is_some o ≡ true → (i : ℕ) × (o ≡ Some i)
some_of None h = absurd (cc)
some_of (Some i) h = (i, refl)

-- a name that stands in the list has a number of the list, at which it stands
pub number_at : (names : List (List ℕ)) (x : List ℕ) (d : List ℕ) → stands_in names x ≡ true → (number_in names x < length names) × (get_or names (number_in names x) d ≡ x)
number_at names x d h =
    let found = some_of (place_of x names) h in
    let at = place_at names x found.0 d found.1 in
    rw found.1 at

-- one number, one name
pub number_once : (names : List (List ℕ)) (x y : List ℕ) → stands_in names x ≡ true → stands_in names y ≡ true → number_in names x ≡ number_in names y → x ≡ y
number_once names x y h k e = sym (number_at names x [] h).1 ∙ ap (λ (n : ℕ). get_or names n []) e ∙ (number_at names y [] k).1

-- in an ascending list the name at a place has this place
pub place_of-at : (names : List (List ℕ)) (i : ℕ) (d : List ℕ) → Ascends (slice_cmp nat_cmp) names → i < length names → place_of (get_or names i d) names ≡ Some i
unfolding place_of
place_of-at [] i d up lt = absurd (omega arith)
place_of-at (n ∷ names) zero d up lt = rw (name_test n n refl) refl
place_of-at (n ∷ names) (suc i) d up lt =
    let below : by_bytes n (get_or names i d) ≡ Less = member_of_all (λ y. by_bytes n y ≡ Less) (get_or names i d) names up.0 (member_at names i d (omega arith)) in
    rw (below_test n (get_or names i d) below, place_of-at names i d up.1 (omega arith)) (ap Some (omega arith))
