-- An index has its events by their names, also after one more.
use Rattle.std.proofs.Common.{◌≡◌, ◌≢◌, ℕ, zero, suc, ◌<◌, Bool, true, false, cond, List, [], ◌∷◌, ◌++◌, length, get_or, set, All, Option, Some, None, Vec, refl, sym, ap, ◌∙◌, subst, arith, length-set, get_or-set_other, get_or-set_same, length-append}
use Rattle.std.specs.Prelude.{IfSome, IfNone, slice_get, bytes_eq, nat_eq}
use Rattle.std.specs.Borrow.{Bor}
use Rattle.std.specs.List.{IsAmong}
use Rattle.std.specs.Map.{lookup, values_of}
use Rattle.std.specs.Option.{is_some, option_copied}
use Rattle.std.specs.declared.alloc.Global.{Global}
use Rattle.std.proofs.lemmas.Bool.{true≢false}
use Rattle.std.proofs.lemmas.Bool.Decides.{Decides-eqb}
use Rattle.std.proofs.lemmas.List.{get_or_append_left, map-append}
use Rattle.std.proofs.lemmas.List.Elements.{All-head, All-tail, All-nil, All-cons, All-append}
use Rattle.std.proofs.lemmas.List.Quantifiers.{Any-push}
use Rattle.std.proofs.lemmas.Option.{slice_get-get_or, get_or_from_slice_get, slice_get_read, slice_get_within}
use Rattle.indexmap.specs.IndexMap.{insert_entry}
use Rattle.rv_route.specs.declared.event.Event.{Event}
use Rattle.rv_route.specs.declared.index.TheConstants.{KEYS}
use Rattle.rv_route.specs.Events.{HasEvent}
use Rattle.rv_route.specs.EventKeys.{key_of, AreByName, HaveKeys}
use Rattle.rv_route.proofs.EventLemmas.{same_bytes, itself}

-- no bytes have the key 0
pub key-none : (name : List ℕ) → length name ≡ 0 → 0 ≡ key_of name
unfolding key_of
key-none [] is = refl
key-none (byte ∷ name) is = absurd (omega arith)

-- what the table has for a name, read at its key
pub first-at : (firsts : List (Option ℕ)) (key : ℕ) (name : List ℕ) (first default : Option ℕ) → length firsts ≡ KEYS → key ≡ key_of name → key < KEYS → first ≡ get_or firsts key default → first ≡ get_or firsts (key_of name) None
first-at firsts key name first default keys is few read =
    let inside : key < length firsts = subst (λ (n : ℕ). key < n) (sym keys) few in
    read ∙ sym (get_or_from_slice_get firsts key (get_or firsts key default) None (slice_get-get_or firsts key default inside)) ∙ ap (λ (k : ℕ). get_or firsts k None) is

-- an event that was found is one
pub has-event : (index : List Event) (name : List ℕ) (found : Option (Bor Event)) → is_some found ≡ true → IfSome found (λ event. IsAmong index event.now) → IfSome found (λ event. event.now.name ≡ name) → HasEvent index name
unfolding HasEvent
has-event index name None is among named = cc
has-event index name (Some event) is among named = (among.0, event.now, among.1.0, sym among.1.1, named)

-- where none was found, there is none
pub has-none : (index : List Event) (name : List ℕ) (found : Option (Bor Event)) → is_some found ≡ false → IfNone found (¬ HasEvent index name) → ¬ HasEvent index name
has-none index name None is none = none
has-none index name (Some event) is none = cc

-- the last event is one, and those of before are
module _ (index : List Event) (event : Event) (name : List ℕ) where
  pub has-last : event.name ≡ name → HasEvent (index ++ event ∷ []) name
  unfolding HasEvent
  has-last named = Any-push (λ (e : Event). e.name ≡ name) index event named

  pub has-front : HasEvent index name → HasEvent (index ++ event ∷ []) name
  unfolding HasEvent
  has-front has =
      let inside : has.0 < length index = has.2 in
      let within : has.0 < length (index ++ event ∷ []) = let more = length-append index (event ∷ []) in omega arith in
      (has.0, has.1, within, get_or_append_left index (event ∷ []) has.1 has.0 inside ∙ has.3, has.4)

-- ---- the map by names

-- the events of a map, each under its key
abbrev Entries : Type 0
Entries = List (Vec ℕ Global × Event)

-- an event stands under its own name
abbrev IsByName : Vec ℕ Global × Event → Type 0
IsByName entry = entry.0.items ≡ entry.1.name

module _ (name : List ℕ) where
  -- whether the key is the name
  abbrev pub is-name : Vec ℕ Global → Bool
  is-name key = bytes_eq name key.items

  -- the event that the map has for the name has it
  pub found-named : (es : Entries) → AreByName es → (event : Event) → lookup is-name es ≡ Some event → event.name ≡ name
  found-named [] are event is = cc
  found-named (e ∷ es) are event is = go (is-name e.0) refl is (found-named es (All-tail IsByName e es are) event)
    where
      go : (same : Bool) → is-name e.0 ≡ same → cond same (Some e.1) (lookup is-name es) ≡ Some event → (lookup is-name es ≡ Some event → event.name ≡ name) → event.name ≡ name
      go true same here rest = let one : e.1 ≡ event = cc in sym (ap (λ (x : Event). x.name) one) ∙ sym (All-head IsByName e es are) ∙ sym (same_bytes name e.0.items same)
      go false same here rest = rest here

  -- where it has none, none of its events has the name
  not-there : (es : Entries) → AreByName es → lookup is-name es ≡ None → (place : ℕ) (event : Event) → slice_get (values_of es) place ≡ Some event → event.name ≡ name → ⊥
  not-there [] are none place event there named = cc
  not-there (e ∷ es) are none place event there named = go (is-name e.0) refl none place there (λ here place at. not-there es (All-tail IsByName e es are) here place event at named)
    where
      go : (same : Bool) → is-name e.0 ≡ same → cond same (Some e.1) (lookup is-name es) ≡ None → (place : ℕ) → slice_get (e.1 ∷ values_of es) place ≡ Some event → (lookup is-name es ≡ None → (place : ℕ) → slice_get (values_of es) place ≡ Some event → ⊥) → ⊥
      go true same here place at rest = cc
      go false same here zero at rest =
          let one : e.1 ≡ event = cc in
          let keyed : e.0.items ≡ name = All-head IsByName e es are ∙ ap (λ (x : Event). x.name) one ∙ named in
          true≢false (sym (itself name) ∙ ap (bytes_eq name) (sym keyed) ∙ same)
      go false same here (suc place) at rest = rest here place at

  -- and the other way
  pub not-found : (es : Entries) → AreByName es → ((place : ℕ) (event : Event) → slice_get (values_of es) place ≡ Some event → event.name ≢ name) → lookup is-name es ≡ None
  not-found [] are nowhere = refl
  not-found (e ∷ es) are nowhere = go (is-name e.0) refl (not-found es (All-tail IsByName e es are) (λ place event there. nowhere (suc place) event there))
    where
      go : (same : Bool) → is-name e.0 ≡ same → lookup is-name es ≡ None → cond same (Some e.1) (lookup is-name es) ≡ None
      go true same rest = absurd (nowhere 0 e.1 refl (sym (All-head IsByName e es are) ∙ sym (same_bytes name e.0.items same)))
      go false same rest = rest

  -- so the index has no event of the name
  pub none-named : (es : Entries) → AreByName es → lookup is-name es ≡ None → ¬ HasEvent (values_of es) name
  unfolding HasEvent
  none-named es are none has =
      not-there es are none has.0 has.1 (slice_get_read (values_of es) (length (values_of es)) has.0 has.1 refl has.2 (sym has.3)) has.4

-- what a search of the map gives has the name
pub map-named : (name : List ℕ) (es : Entries) → AreByName es → (found : Option (Bor Event)) → option_copied found ≡ lookup (is-name name) es → IfSome found (λ event. event.now.name ≡ name)
map-named name es are None is = tt
map-named name es are (Some event) is = found-named name es are event.now (sym is)

-- and where it gives nothing, no event has it
pub map-none : (name : List ℕ) (es : Entries) → AreByName es → (found : Option (Bor Event)) → option_copied found ≡ lookup (is-name name) es → IfNone found (¬ HasEvent (values_of es) name)
map-none name es are None is = none-named name es are (sym is)
map-none name es are (Some event) is = tt

-- an event of another name stands nowhere
pub nowhere : (events : List Event) (name : List ℕ) → (¬ HasEvent events name) → (place : ℕ) (event : Event) → slice_get events place ≡ Some event → event.name ≢ name
unfolding HasEvent
nowhere events name none place event there named = none (place, event, slice_get_within events place event there, get_or_from_slice_get events place event event there, named)

-- a new name goes last in the map
entered-last : (es : Entries) (key : Vec ℕ Global) (event : Event) → lookup (is-name key.items) es ≡ None → insert_entry (λ (x y : Vec ℕ Global). bytes_eq x.items y.items) es key event ≡ es ++ (key, event) ∷ []
entered-last [] key event none = refl
entered-last (e ∷ es) key event none = go (is-name key.items e.0) refl none (entered-last es key event)
  where
    put : Entries
    put = insert_entry (λ (x y : Vec ℕ Global). bytes_eq x.items y.items) es key event

    go : (same : Bool) → is-name key.items e.0 ≡ same → cond same (Some e.1) (lookup (is-name key.items) es) ≡ None → (lookup (is-name key.items) es ≡ None → put ≡ es ++ (key, event) ∷ []) → cond same ((e.0, event) ∷ es) (e ∷ put) ≡ e ∷ (es ++ (key, event) ∷ [])
    go true same here rest = cc
    go false same here rest = ap (λ (xs : Entries). e ∷ xs) (rest here)

-- what the map has after one event more
pub record Entered (es new : Entries) (event : Event) : Type 0 where
  pub by_name : AreByName new
  pub events : values_of new ≡ values_of es ++ event ∷ []

-- a new event stands last, under its name
pub entered : (es new : Entries) (key : Vec ℕ Global) (event : Event) → AreByName es → key.items ≡ event.name → (¬ HasEvent (values_of es) event.name)
    → new ≡ insert_entry (λ (x y : Vec ℕ Global). bytes_eq x.items y.items) es key event → Entered es new event
entered es new key event are is other put =
    let absent = not-found key.items es are (λ place old there named. nowhere (values_of es) event.name other place old there (named ∙ is)) in
    let last : new ≡ es ++ (key, event) ∷ [] = put ∙ entered-last es key event absent in
    record {
      by_name = subst AreByName (sym last) (All-append IsByName es ((key, event) ∷ []) are (All-cons IsByName (key, event) [] is (All-nil IsByName)));
      events = ap values_of last ∙ map-append (λ (e : Vec ℕ Global × Event). e.1) es ((key, event) ∷ []);
    }

-- ---- the table by keys

module _ (firsts : List (Option ℕ)) (events : List Event) (have : HaveKeys firsts events) where
  -- where it has no place for a key, no event has a name with it
  pub none-keyed : (name : List ℕ) → get_or firsts (key_of name) None ≡ None → ¬ HasEvent events name
  unfolding HasEvent
  none-keyed name none has =
      let named : (get_or events has.0 has.1).name ≡ name = ap (λ (event : Event). event.name) has.3 ∙ has.4 in
      let taken = have.each has.0 has.1 has.2 in
      true≢false (sym taken ∙ ap (λ (n : List ℕ). is_some (get_or firsts (key_of n) None)) named ∙ ap is_some none)

  module _ (event : Event) where
    -- one event more, whose key has a place
    pub keyed-more : is_some (get_or firsts (key_of event.name) None) ≡ true → HaveKeys firsts (events ++ event ∷ [])
    keyed-more taken = record {
      keys = have.keys;
      each = All-append (λ (e : Event). is_some (get_or firsts (key_of e.name) None) ≡ true) events (event ∷ []) have.each
          (All-cons (λ (e : Event). is_some (get_or firsts (key_of e.name) None) ≡ true) event [] taken (All-nil (λ (e : Event). is_some (get_or firsts (key_of e.name) None) ≡ true)));
    }

  -- a place more
  keyed-set : (key place : ℕ) → key < length firsts → HaveKeys (set firsts key (Some place)) events
  keyed-set key place inside = record {
    keys = length-set firsts key (Some place) ∙ have.keys;
    each = λ k d within. kept (get_or events k d) (have.each k d within);
  }
    where
      kept : (event : Event) → is_some (get_or firsts (key_of event.name) None) ≡ true → is_some (get_or (set firsts key (Some place)) (key_of event.name) None) ≡ true
      kept event taken = go (nat_eq (key_of event.name) key) refl
        where
          go : (same : Bool) → nat_eq (key_of event.name) key ≡ same → is_some (get_or (set firsts key (Some place)) (key_of event.name) None) ≡ true
          go true same =
              let one : key_of event.name ≡ key = (Decides-eqb (key_of event.name) key).0 same in
              ap (λ (k : ℕ). is_some (get_or (set firsts key (Some place)) k None)) one ∙ ap is_some (get_or-set_same firsts key (Some place) None inside)
          go false differ =
              let other : key_of event.name ≢ key = λ same. true≢false (sym ((Decides-eqb (key_of event.name) key).1 same) ∙ differ) in
              ap is_some (get_or-set_other firsts key (key_of event.name) (Some place) None other) ∙ taken

-- one event more, whose key gets a place
pub keyed-first : (firsts : List (Option ℕ)) (events : List Event) (event : Event) (key place : ℕ) → HaveKeys firsts events → key ≡ key_of event.name → key < KEYS → HaveKeys (set firsts key (Some place)) (events ++ event ∷ [])
keyed-first firsts events event key place have is few =
    let inside : key < length firsts = subst (λ (n : ℕ). key < n) (sym have.keys) few in
    let taken = ap (λ (k : ℕ). is_some (get_or (set firsts key (Some place)) k None)) (sym is) ∙ ap is_some (get_or-set_same firsts key (Some place) None inside) in
    keyed-more (set firsts key (Some place)) events (keyed-set firsts events have key place inside) event taken
