-- The nearest names, distance after distance, as long as there are too few.
use Rattle.std.proofs.Common.{◌≡◌, ◌≢◌, ◌⊎◌, inl, inr, ℕ, suc, ◌+◌, ◌<◌, ◌≤◌, cond, eqb, List, [], ◌∷◌, ◌++◌, length, get_or, map, take, Option, None, Some, refl, sym, ap, ap₂, ◌∙◌, arith}
use Rattle.std.specs.Prelude.{filter, flat_map, slice_get, IfSome}
use Rattle.std.proofs.lemmas.Bool.{cases_lt, eq-eqb, ne_eqb}
use Rattle.std.proofs.lemmas.Grind.{flat_map-append}
use Rattle.std.proofs.lemmas.List.{append-nil, append_assoc, length-append, length-take, length-take-le, map_push, take-append-le, take_all, take_more}
use Rattle.std.proofs.lemmas.List.Concat.{flat_map-cons}
use Rattle.std.proofs.lemmas.List.Elements.{filter-append}
use Rattle.std.proofs.lemmas.Option.{get_or_from_slice_get, slice_get_within}
use Rattle.rv_model.specs.Numbers.{list_of}
use Rattle.rv_matches.specs.declared.near.Near.{Near}
use Rattle.rv_matches.specs.declared.near.TheConstants.{MOST_NEAR}
use Rattle.rv_matches.specs.Words.{Counted}
use Rattle.rv_matches.specs.Nearest.{distance, near, nears_at}
use Rattle.rv_matches.specs.inner.NamesNear.{near_at}

-- ---- a front of a list

module _ {X : Type 0} (most : ℕ) (xs ys : List X) where
  -- a front with room takes what comes behind it
  pub front_room : length (take most xs ++ ys) ≤ most → length (take most xs) < most → take most (xs ++ ys) ≡ take most xs ++ ys
  front_room fits room =
      let whole : take most xs ≡ xs = take_all most xs (omega (arith, length-take most xs)) in
      let few : length (xs ++ ys) ≤ most = omega (arith, ap (λ zs. length (zs ++ ys)) whole) in
      take_all most (xs ++ ys) few ∙ ap (λ zs. zs ++ ys) (sym whole)

  -- a full front stays
  pub front_full : most ≤ length (take most xs) → take most (xs ++ ys) ≡ take most xs
  front_full full = take-append-le most xs ys (omega (arith, length-take most xs))

  -- what comes behind a front comes behind the whole
  pub front_front : take most (take most xs ++ ys) ≡ take most (xs ++ ys)
  front_front =
      elim (cases_lt (length xs) most) [
        | inl short ↦ ap (λ zs. take most (zs ++ ys)) (take_all most xs (omega arith))
        | inr long ↦ let full : length (take most xs) ≡ most = length-take-le most xs long in
            take-append-le most (take most xs) ys (omega arith) ∙ take_all most (take most xs) (omega arith) ∙ sym (take-append-le most xs ys long)
      ]

-- ---- names at a distance

-- one more name
nears_more : (event : List ℕ) (names : List Counted) (far place : ℕ) (d : Counted) → place < length names
    → nears_at event (take (place + 1) names) far ≡ nears_at event (take place names) far ++ near_at (get_or names place d) (distance event (get_or names place d).0) far
nears_more event names far place d within =
    ap (λ (ns : List Counted). nears_at event ns far) (take_more names place d within)
    ∙ ap (filter (λ (n : Near). eqb n.distance far)) (map_push (near event) (take place names) (get_or names place d))
    ∙ filter-append (λ (n : Near). eqb n.distance far) (map (near event) (take place names)) (near event (get_or names place d) ∷ [])

-- a name too, behind those that were found
pub found_more : (event : List ℕ) (names : List Counted) (far place dist : ℕ) (counted : Counted) (before now later : List Near) → slice_get names place ≡ Some counted → near_at counted dist far ≡ near_at counted (distance event counted.0) far
    → now ≡ take MOST_NEAR (before ++ nears_at event (take place names) far) → later ≡ take MOST_NEAR (now ++ near_at counted dist far)
    → later ≡ take MOST_NEAR (before ++ nears_at event (take (place + 1) names) far)
found_more event names far place dist counted before now later at is now_is later_is =
    let within : place < length names = slice_get_within names place counted at in
    let there : get_or names place counted ≡ counted = get_or_from_slice_get names place counted counted at in
    let one : List Near = near_at (get_or names place counted) (distance event (get_or names place counted).0) far in
    let same : near_at counted dist far ≡ one = is ∙ ap (λ (c : Counted). near_at c (distance event c.0) far) (sym there) in
    later_is
    ∙ ap₂ (λ (xs ys : List Near). take MOST_NEAR (xs ++ ys)) now_is same
    ∙ front_front MOST_NEAR (before ++ nears_at event (take place names) far) one
    ∙ ap (take MOST_NEAR) (append_assoc before (nears_at event (take place names) far) one)
    ∙ ap (λ (ns : List Near). take MOST_NEAR (before ++ ns)) (sym (nears_more event names far place counted within))

-- those at one more distance, behind the nearer ones
pub further : (event : List ℕ) (names : List Counted) (far : ℕ) (now later : List Near)
    → now ≡ take MOST_NEAR (flat_map (nears_at event names) (list_of (λ far. far) far)) → later ≡ take MOST_NEAR (now ++ nears_at event names far)
    → later ≡ take MOST_NEAR (flat_map (nears_at event names) (list_of (λ far. far) (far + 1)))
unfolding list_of
further event names far now later now_is later_is =
    let nearer : List Near = flat_map (nears_at event names) (list_of (λ far. far) far) in
    let last : flat_map (nears_at event names) (list_of (λ far. far) far ++ far ∷ []) ≡ nearer ++ nears_at event names far =
    flat_map-append (nears_at event names) (list_of (λ far. far) far) (far ∷ [])
    ∙ ap (λ (ns : List Near). nearer ++ ns) (flat_map-cons (nears_at event names) far [] ∙ append-nil (nears_at event names far)) in
    later_is ∙ ap (λ (ns : List Near). take MOST_NEAR (ns ++ nears_at event names far)) now_is
    ∙ front_front MOST_NEAR nearer (nears_at event names far)
    ∙ ap (take MOST_NEAR) (sym last)
    ∙ ap (λ (n : ℕ). take MOST_NEAR (flat_map (nears_at event names) (list_of (λ far. far) n))) (let e : suc far ≡ far + 1 = omega arith in e)

-- ---- one name

-- nothing comes behind if all places are taken, or the distance is another
pub none_near : (found : List Near) (counted : Counted) (dist far : ℕ) → length found ≤ MOST_NEAR → (dist ≢ far) ⊎ (MOST_NEAR ≤ length found) → found ≡ take MOST_NEAR (found ++ near_at counted dist far)
none_near found counted dist far few (inl other) =
    sym (ap (λ b. take MOST_NEAR (found ++ cond b (record { name = counted.0; lines = counted.1; distance = dist } ∷ []) [])) (ne_eqb dist far other) ∙ ap (take MOST_NEAR) (append-nil found) ∙ take_all MOST_NEAR found few)
none_near found counted dist far few (inr full) =
    sym (take-append-le MOST_NEAR found (near_at counted dist far) full ∙ take_all MOST_NEAR found few)

-- nor does any
pub none_nears : (o : Option Counted) (found : List Near) (dist far : ℕ) → length found ≤ MOST_NEAR → (dist ≢ far) ⊎ (MOST_NEAR ≤ length found) → IfSome o (λ counted. found ≡ take MOST_NEAR (found ++ near_at counted dist far))
none_nears None found dist far few why = tt
none_nears (Some counted) found dist far few why = none_near found counted dist far few why

-- at no distance there is none
pub none_yet : (event : List ℕ) (names : List Counted) → [] ≡ take MOST_NEAR (flat_map (nears_at event names) (list_of (λ far. far) 0))
unfolding list_of
none_yet event names = refl

-- the name comes behind if there is room
pub one_near : (found : List Near) (counted : Counted) (dist far : ℕ) → dist ≡ far → length found < MOST_NEAR → found ++ (record { name = counted.0; lines = counted.1; distance = dist }) ∷ [] ≡ take MOST_NEAR (found ++ near_at counted dist far)
one_near found counted dist far same room =
    sym (ap (λ b. take MOST_NEAR (found ++ cond b (record { name = counted.0; lines = counted.1; distance = dist } ∷ []) [])) (eq-eqb dist far same)
    ∙ take_all MOST_NEAR (found ++ (record { name = counted.0; lines = counted.1; distance = dist }) ∷ []) (omega (arith, length-append found ((record { name = counted.0; lines = counted.1; distance = dist }) ∷ []))))
