-- What is gathered from one saying more.
use Rattle.std.proofs.Common.{◌≡◌, ℕ, ◌+◌, ◌<◌, Bool, true, false, List, [], ◌∷◌, ◌++◌, length, take, get_or, Option, Some, None, refl, sym, ap, ◌∙◌, Bor}
use Rattle.std.specs.Prelude.{map}
use Rattle.std.specs.List.{filter, filter_map, flat_map, cons_option}
use Rattle.std.specs.Option.{option_map, option_to_list}
use Rattle.std.proofs.lemmas.List.{append-nil, map_more, map_push, map-append}
use Rattle.std.proofs.lemmas.List.Elements.{filter-append, filter_map-append}
use Rattle.std.proofs.lemmas.List.Concat.{flat_map-append}
use Rattle.rv_dot.specs.declared.saying.Saying.{Saying}
use Rattle.rv_dot.specs.declared.gather.Arc.{Arc as Held}
use Rattle.rv_dot.specs.Statements.{Claim}
use Rattle.rv_dot.specs.Gathered.{Arc, arcs_of}
use Rattle.rv_dot.specs.inner.Held.{claim_of, sayings_claims, arc, bytes_of}

-- at most one in front
option_front : {A : Type 0} (o : Option A) → cons_option o [] ≡ option_to_list o
option_front None = refl
option_front (Some x) = refl

-- a map of at most one
map-option : {A B : Type 0} (f : A → B) (o : Option A) → map f (option_to_list o) ≡ option_to_list (option_map f o)
map-option f None = refl
map-option f (Some x) = refl

-- at most one name more
pub one_more : (h : Claim → Option (List ℕ)) (sayings : List Saying) (i : ℕ) (d : Saying) (found found' : List (Bor (List ℕ))) (name : Option (Bor (List ℕ))) → i < length sayings
    → map bytes_of found ≡ filter_map h (sayings_claims (take i sayings)) → option_map bytes_of name ≡ h (claim_of (get_or sayings i d)) → found' ≡ found ++ option_to_list name
    → map bytes_of found' ≡ filter_map h (sayings_claims (take (i + 1) sayings))
one_more h sayings i d found found' name lt so_far is grown =
    ap (map bytes_of) grown ∙ map-append bytes_of found (option_to_list name) ∙ ap (λ (ns : List (List ℕ)). ns ++ map bytes_of (option_to_list name)) so_far
    ∙ ap (λ (ns : List (List ℕ)). filter_map h (sayings_claims (take i sayings)) ++ ns) (map-option bytes_of name ∙ ap option_to_list is ∙ sym (option_front (h (claim_of (get_or sayings i d)))))
    ∙ sym (filter_map-append h (sayings_claims (take i sayings)) (claim_of (get_or sayings i d) ∷ [])) ∙ ap (filter_map h) (sym (map_more claim_of sayings i d lt))

-- the arcs of one saying more
pub arcs_more : (sayings : List Saying) (i : ℕ) (d : Saying) (found found' more : List Held) → i < length sayings
    → map arc found ≡ flat_map arcs_of (sayings_claims (take i sayings)) → map arc more ≡ arcs_of (claim_of (get_or sayings i d)) → found' ≡ found ++ more
    → map arc found' ≡ flat_map arcs_of (sayings_claims (take (i + 1) sayings))
arcs_more sayings i d found found' more lt so_far is grown =
    ap (map arc) grown ∙ map-append arc found more ∙ ap (λ (as' : List Arc). as' ++ map arc more) so_far
    ∙ ap (λ (as' : List Arc). flat_map arcs_of (sayings_claims (take i sayings)) ++ as') (is ∙ sym (append_nil (arcs_of (claim_of (get_or sayings i d)))))
    ∙ sym (flat_map-append arcs_of (sayings_claims (take i sayings)) (claim_of (get_or sayings i d) ∷ [])) ∙ ap (flat_map arcs_of) (sym (map_more claim_of sayings i d lt))
  where
    append_nil : (xs : List Arc) → xs ++ [] ≡ xs
    append_nil [] = refl
    append_nil (x ∷ xs) = ap (λ (as' : List Arc). x ∷ as') (append_nil xs)

-- the event of one arc more
pub event_more : (arcs : List Held) (i : ℕ) (d : Held) (found found' : List (Bor (List ℕ))) → i < length arcs
    → map bytes_of found ≡ map (λ a. a.event) (map arc (take i arcs)) → found' ≡ found ++ (get_or arcs i d).event ∷ []
    → map bytes_of found' ≡ map (λ a. a.event) (map arc (take (i + 1) arcs))
event_more arcs i d found found' lt so_far grown =
    ap (map bytes_of) grown ∙ map_push bytes_of found (get_or arcs i d).event ∙ ap (λ (ns : List (List ℕ)). ns ++ (get_or arcs i d).event.now ∷ []) so_far
    ∙ sym (map_push (λ (a : Arc). a.event) (map arc (take i arcs)) (arc (get_or arcs i d))) ∙ ap (map (λ a. a.event)) (sym (map_more arc arcs i d lt))

module _ (p : List ℕ → Bool) (names : List (Bor (List ℕ))) (i : ℕ) (d : Bor (List ℕ)) (found : List (Bor (List ℕ))) (lt : i < length names)
    (so_far : map bytes_of found ≡ filter p (map bytes_of (take i names))) where
  abbrev before : List (List ℕ)
  before = map bytes_of (take i names)

  abbrev here : Bor (List ℕ)
  here = get_or names i d

  -- what passes of one name more
  one_passed : filter p before ++ filter p (here.now ∷ []) ≡ filter p (map bytes_of (take (i + 1) names))
  one_passed = sym (filter-append p before (here.now ∷ [])) ∙ ap (filter p) (sym (map_more bytes_of names i d lt))

  -- the name passes
  pub passed_more : (found' : List (Bor (List ℕ))) → p here.now ≡ true → found' ≡ found ++ here ∷ [] → map bytes_of found' ≡ filter p (map bytes_of (take (i + 1) names))
  passed_more found' passes grown =
      let one : here.now ∷ [] ≡ filter p (here.now ∷ []) = rw passes refl in
      ap (map bytes_of) grown ∙ map_push bytes_of found here ∙ ap (λ (ns : List (List ℕ)). ns ++ here.now ∷ []) so_far ∙ ap (λ (ns : List (List ℕ)). filter p before ++ ns) one ∙ one_passed

  -- the name does not
  pub stopped_more : p here.now ≡ false → map bytes_of found ≡ filter p (map bytes_of (take (i + 1) names))
  stopped_more stops =
      let none : [] ≡ filter p (here.now ∷ []) = rw stops refl in
      so_far ∙ sym (append-nil (filter p before)) ∙ ap (λ (ns : List (List ℕ)). filter p before ++ ns) none ∙ one_passed
