-- The places of the rules on an event: each once, and all of them; and lists that fit place by place.
use Rattle.std.proofs.Common.{◌≡◌, ℕ, zero, suc, ◌+◌, ◌<◌, ◌≤◌, Bool, true, false, cond, eqb, ◌||◌, List, [], ◌∷◌, ◌++◌, length, set, take, Some, refl, sym, ap, ◌∙◌, subst, arith}
use Rattle.std.specs.Prelude.{slice_get, nat_eq}
use Rattle.std.specs.List.{AllZip, list_any}
use Rattle.std.proofs.lemmas.Bool.{cond_both, eq-eqb, ne_eqb}
use Rattle.rv_bind.specs.RuleValues.{OnValue}
use Rattle.rv_route.specs.Events.{is_on_event, places_on}

-- the place is one of these
abbrev pub is_place : List ℕ → ℕ → Bool
is_place places place = list_any (nat_eq place) places

-- ---- lists that fit

module _ {A B : Type 0} (R : A → B → Type 0) where
  -- what stands at the same place fits
  pub fits_at : (xs : List A) (ys : List B) (i : ℕ) (x : A) (y : B) → AllZip R xs ys → slice_get xs i ≡ Some x → slice_get ys i ≡ Some y → R x y
  fits_at [] [] i x y all at at' = cc
  fits_at [] (b ∷ ys) i x y all at at' = absurd all
  fits_at (a ∷ xs) [] i x y all at at' = absurd all
  fits_at (a ∷ xs) (b ∷ ys) zero x y all at at' = let e : a ≡ x = cc in let e' : b ≡ y = cc in subst (λ z. R z y) e (subst (R a) e' all.0)
  fits_at (a ∷ xs) (b ∷ ys) (suc i) x y all at at' = fits_at xs ys i x y all.1 at at'

  -- lists fit where each place does
  pub fits_from : (xs : List A) (ys : List B) → length xs ≡ length ys → ((i : ℕ) (x : A) (y : B) → slice_get xs i ≡ Some x → slice_get ys i ≡ Some y → R x y) → AllZip R xs ys
  fits_from [] [] many each = tt
  fits_from [] (b ∷ ys) many each = absurd (omega arith)
  fits_from (a ∷ xs) [] many each = absurd (omega arith)
  fits_from (a ∷ xs) (b ∷ ys) many each = (each 0 a b refl refl, fits_from xs ys (omega arith) (λ i x y at at'. each (suc i) x y at at'))

  -- lists that fit are as long
  pub fits_length : (xs : List A) (ys : List B) → AllZip R xs ys → length xs ≡ length ys
  fits_length [] [] all = refl
  fits_length [] (b ∷ ys) all = absurd all
  fits_length (a ∷ xs) [] all = absurd all
  fits_length (a ∷ xs) (b ∷ ys) all = ap suc (fits_length xs ys all.1)

  -- one more pair that fits
  pub fits_push : (xs : List A) (ys : List B) (x : A) (y : B) → AllZip R xs ys → R x y → AllZip R (xs ++ x ∷ []) (ys ++ y ∷ [])
  fits_push [] [] x y all fits = (fits, tt)
  fits_push [] (b ∷ ys) x y all fits = absurd all
  fits_push (a ∷ xs) [] x y all fits = absurd all
  fits_push (a ∷ xs) (b ∷ ys) x y all fits = (all.0, fits_push xs ys x y all.1 fits)

  -- one that fits in place of another
  pub fits_set : (xs : List A) (ys : List B) (i : ℕ) (x : A) (y : B) → AllZip R xs ys → slice_get xs i ≡ Some x → R x y → AllZip R xs (set ys i y)
  fits_set [] [] i x y all at fits = all
  fits_set [] (b ∷ ys) i x y all at fits = absurd all
  fits_set (a ∷ xs) [] i x y all at fits = absurd all
  fits_set (a ∷ xs) (b ∷ ys) zero x y all at fits = let e : x ≡ a = cc in (subst (λ z. R z y) e fits, all.1)
  fits_set (a ∷ xs) (b ∷ ys) (suc i) x y all at fits = (all.0, fits_set xs ys i x y all.1 at fits)

-- ---- places

-- a place is not among those that are all behind it
not_behind : (event : List ℕ) (from place : ℕ) (rules : List OnValue) → place < from → is_place (places_on event from rules) place ≡ false
not_behind event from place [] before = refl
not_behind event from place (rule ∷ rules) before =
    let rest : is_place (places_on event (from + 1) rules) place ≡ false = not_behind event (from + 1) place rules (omega arith) in
    let here : eqb place from ≡ false = ne_eqb place from (λ e. absurd (omega arith)) in
    cond_both (is_on_event event rule) (from ∷ []) [] (λ (ps : List ℕ). is_place (ps ++ places_on event (from + 1) rules) place ≡ false)
    (λ so_it_is. ap (λ b. b || is_place (places_on event (from + 1) rules) place) here ∙ rest)
    (λ it_is_not. rest)

-- a rule's place is among them where the rule is on the event
pub has_place : (event : List ℕ) (from place : ℕ) (rules : List OnValue) (rule : OnValue) → slice_get rules place ≡ Some rule → is_place (places_on event from rules) (from + place) ≡ is_on_event event rule
has_place event from place [] rule at = cc
has_place event from zero (first ∷ rules) rule at =
    let same : first ≡ rule = cc in
    let rest : is_place (places_on event (from + 1) rules) (from + 0) ≡ false = not_behind event (from + 1) (from + 0) rules (omega arith) in
    let here : eqb (from + 0) from ≡ true = eq-eqb (from + 0) from (omega arith) in
    cond_both (is_on_event event first) (from ∷ []) [] (λ (ps : List ℕ). is_place (ps ++ places_on event (from + 1) rules) (from + 0) ≡ is_on_event event first)
    (λ so_it_is. ap (λ b. b || is_place (places_on event (from + 1) rules) (from + 0)) here ∙ sym so_it_is)
    (λ it_is_not. rest ∙ sym it_is_not)
    ∙ ap (is_on_event event) same
has_place event from (suc place) (first ∷ rules) rule at =
    let moved : from + 1 + place ≡ from + suc place = omega arith in
    let rest : is_place (places_on event (from + 1) rules) (from + suc place) ≡ is_on_event event rule = ap (is_place (places_on event (from + 1) rules)) (sym moved) ∙ has_place event (from + 1) place rules rule at in
    let here : eqb (from + suc place) from ≡ false = ne_eqb (from + suc place) from (λ e. absurd (omega arith)) in
    cond_both (is_on_event event first) (from ∷ []) [] (λ (ps : List ℕ). is_place (ps ++ places_on event (from + 1) rules) (from + suc place) ≡ is_on_event event rule)
    (λ so_it_is. ap (λ b. b || is_place (places_on event (from + 1) rules) (from + suc place)) here ∙ rest)
    (λ it_is_not. rest)

-- they all stand from the first place on
behind : (event : List ℕ) (from place : ℕ) (rules : List OnValue) (i : ℕ) → slice_get (places_on event from rules) i ≡ Some place → from ≤ place
behind event from place [] i at = cc
behind event from place (rule ∷ rules) i at = go (is_on_event event rule) i at (λ j there. behind event (from + 1) place rules j there)
  where
    go : (on : Bool) (j : ℕ) → slice_get (cond on (from ∷ []) [] ++ places_on event (from + 1) rules) j ≡ Some place
        → ((k : ℕ) → slice_get (places_on event (from + 1) rules) k ≡ Some place → from + 1 ≤ place) → from ≤ place
    go true zero there rest = let e : from ≡ place = cc in omega arith
    go true (suc j) there rest = let l : from + 1 ≤ place = rest j there in omega arith
    go false j there rest = let l : from + 1 ≤ place = rest j there in omega arith

-- each stands there once: not among those before it
pub place_once : (event : List ℕ) (from : ℕ) (rules : List OnValue) (i place : ℕ) → slice_get (places_on event from rules) i ≡ Some place → is_place (take i (places_on event from rules)) place ≡ false
place_once event from [] i place at = cc
place_once event from (rule ∷ rules) i place at = go (is_on_event event rule) i at (λ j there. place_once event (from + 1) rules j place there)
  where
    go : (on : Bool) (j : ℕ) → slice_get (cond on (from ∷ []) [] ++ places_on event (from + 1) rules) j ≡ Some place
        → ((k : ℕ) → slice_get (places_on event (from + 1) rules) k ≡ Some place → is_place (take k (places_on event (from + 1) rules)) place ≡ false)
        → is_place (take j (cond on (from ∷ []) [] ++ places_on event (from + 1) rules)) place ≡ false
    go true zero there rest = refl
    go true (suc j) there rest =
        let above : from + 1 ≤ place = behind event (from + 1) place rules j there in
        ap (λ b. b || is_place (take j (places_on event (from + 1) rules)) place) (ne_eqb place from (λ e. absurd (omega arith))) ∙ rest j there
    go false j there rest = rest j there
