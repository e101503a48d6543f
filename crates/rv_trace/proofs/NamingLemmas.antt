-- Names of fields and their places, as one more comes in.
use Rattle.std.proofs.Common.{◌≡◌, ◌≢◌, ℕ, zero, suc, Bool, true, false, ◌&&◌, cond, List, [], ◌∷◌, ◌++◌, length, Option, Some, None, refl, sym, ap, ◌∙◌, subst}
use Rattle.std.specs.Prelude.{bytes_eq, slice_get, Vec, All}
use Rattle.std.specs.List.{list_all}
use Rattle.std.specs.BTreeMap.{BTreeMap}
use Rattle.std.specs.declared.alloc.Global.{Global}
use Rattle.std.proofs.lemmas.Slice.Eq.{bytes_eq-Decides}
use Rattle.std.proofs.lemmas.List.Elements.{All-append, All-cons, All-nil}
use Rattle.rv_trace.specs.FieldNames.{IsPlain, is_plain_byte, ArePlaces, place_in}

-- what stands in a list stands there still when one more is appended
pub get-front : {X : Type 0} (xs : List X) (y : X) (i : ℕ) (x : X) → slice_get xs i ≡ Some x → slice_get (xs ++ y ∷ []) i ≡ Some x
get-front [] y i x is = cc
get-front (z ∷ xs) y zero x is = is
get-front (z ∷ xs) y (suc i) x is = get-front xs y i x is

-- the one that is appended stands last
pub get-last : {X : Type 0} (xs : List X) (y : X) → slice_get (xs ++ y ∷ []) (length xs) ≡ Some y
get-last [] y = refl
get-last (z ∷ xs) y = get-last xs y

-- what stands somewhere stood there before, or is the one that was appended
from-front : {X : Type 0} (P : ℕ → X → Type 0) (xs : List X) (y : X) → ((i : ℕ) (x : X) → slice_get xs i ≡ Some x → P i x) → P (length xs) y → (i : ℕ) (x : X) → slice_get (xs ++ y ∷ []) i ≡ Some x → P i x
from-front P [] y old last zero x is = let same : y ≡ x = cc in subst (P 0) same last
from-front P [] y old last (suc i) x is = cc
from-front P (z ∷ xs) y old last zero x is = old zero x is
from-front P (z ∷ xs) y old last (suc i) x is = from-front (λ j w. P (suc j) w) xs y (λ j w e. old (suc j) w e) last i x is

-- a name that is none of the names has no place
pub not-placed : (names : List (List ℕ)) (name : List ℕ) (places : BTreeMap (Vec ℕ Global) ℕ) → ArePlaces names places → ((place : ℕ) → slice_get names place ≢ Some name) → place_in places name ≡ None
not-placed names name places are absent = go (place_in places name) refl
  where
    go : (found : Option ℕ) → place_in places name ≡ found → found ≡ None
    go None is = refl
    go (Some place) is = absurd (absent place (are.each place name is))

module _ (names : List (List ℕ)) (name : List ℕ) (places more : BTreeMap (Vec ℕ Global) ℕ) (are : ArePlaces names places) (new : place_in places name ≡ None)
    (put : (other : List ℕ) → place_in more other ≡ cond (bytes_eq name other) (Some (length names)) (place_in places other)) where
  -- the place that the map has now
  each-more : (other : List ℕ) (place : ℕ) (same : Bool) → bytes_eq name other ≡ same → cond same (Some (length names)) (place_in places other) ≡ Some place → slice_get (names ++ name ∷ []) place ≡ Some other
  each-more other place true same is =
      let here : length names ≡ place = cc in
      let there : slice_get (names ++ name ∷ []) (length names) ≡ Some other = get-last names name ∙ ap Some ((bytes_eq-Decides name other).0 same) in
      subst (λ (p : ℕ). slice_get (names ++ name ∷ []) p ≡ Some other) here there
  each-more other place false same is = get-front names name place other (are.each place other is)

  -- a name that has its place already is another one
  old-more : (place : ℕ) (other : List ℕ) (same : Bool) → bytes_eq name other ≡ same → slice_get names place ≡ Some other → cond same (Some (length names)) (place_in places other) ≡ Some place
  old-more place other true same is =
      let found : place_in places name ≡ Some place = ap (place_in places) ((bytes_eq-Decides name other).0 same) ∙ are.has place other is in cc
  old-more place other false same is = are.has place other is

  -- a new name has the next place
  pub places-more : ArePlaces (names ++ name ∷ []) more
  places-more = record {
    each = λ place other is. each-more other place (bytes_eq name other) refl (sym (put other) ∙ is);
    has =
        from-front (λ place other. place_in more other ≡ Some place) names name (λ place other is. put other ∙ old-more place other (bytes_eq name other) refl is)
        (put name ∙ ap (λ b. cond b (Some (length names)) (place_in places name)) ((bytes_eq-Decides name name).1 refl));
  }

-- the names stay plain where one more is plain
pub plain-more : (was is : Bool) (names : List (List ℕ)) (name : List ℕ) → (was ≡ true → All IsPlain names) → is ≡ (was && list_all is_plain_byte name) → is ≡ true → All IsPlain (names ++ name ∷ [])
plain-more true is names name old same all = All-append IsPlain names (name ∷ []) (old refl) (All-cons IsPlain name [] (sym same ∙ all) (All-nil IsPlain))
plain-more false is names name old same all = let no : false ≡ true = sym same ∙ all in cc
