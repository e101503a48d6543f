-- The names of an automaton with tables are simple, and few.
use Rattle.std.proofs.Common.{◌≡◌, ℕ, ◌≤◌, Bool, true, false, List, [], ◌∷◌, length, refl, sym, ap, ◌∙◌, arith, inl, inr}
use Rattle.std.specs.Prelude.{◌||◌, ◌==◌, nat_le, IsTrue}
use Rattle.std.specs.List.{AllByRecursion, list_all, list_any}
use Rattle.std.proofs.lemmas.Bool.Decides.{nat_tests}
use Rattle.rv_model.specs.Machine.{Machine}
use Rattle.rv_model.specs.WellFormed.{is_between, is_event_byte, is_state_byte, IsNameOf, IsStateName, IsAutomaton}
use Rattle.rv_dot.specs.Members.{IsMember}
use Rattle.rv_dot.proofs.MemberLaws.{and_true, all_member, list_all_from}
use Rattle.rv_dot.proofs.SetOrder.{all_from_members}
use Rattle.rv_header.specs.Naming.{is_header_byte, is_header_name, has_dot, is_unfit_state, has_no_tables}
use Rattle.rv_header.specs.inner.Taking.{are_few}
use Rattle.rv_header.proofs.Cuts.{simple}

-- neither test passes
or_false : (a b : Bool) → (a || b) ≡ false → (a ≡ false) × (b ≡ false)
or_false true b h = absurd (cc)
or_false false b h = (refl, h)

-- no member passes
no_member : {A : Type 0} (p : A → Bool) (x : A) (xs : List A) → list_any p xs ≡ false → IsMember x xs → p x ≡ false
no_member p x [] h m = absurd m
no_member p x (y ∷ xs) h m =
    let both = or_false (p y) (list_any p xs) h in
    elim m [ inl e ↦ ap p (sym e) ∙ both.0 | inr n ↦ no_member p x xs both.1 n ]

-- a byte of a header's name is one of an event's
header_byte : (b : ℕ) → is_header_byte b ≡ true → is_event_byte b ≡ true
header_byte b h = go (is_between 97 122 b) (is_between 65 90 b) (is_between 48 57 b) (b == 95) h
  where
    go : (low high digit line : Bool) → (low || digit || line) ≡ true → (low || high || digit || line) ≡ true
    go true high digit line k = refl
    go false true digit line k = refl
    go false false digit line k = k

-- a header's name is simple
pub name_simple : (name : List ℕ) → is_header_name name ≡ true → simple name ≡ true
name_simple name h = go name (and_true _ (list_all is_header_byte name) h).1
  where
    go : (text : List ℕ) → list_all is_header_byte text ≡ true → simple text ≡ true
    go [] k = refl
    go (b ∷ text) k = let both = and_true (is_header_byte b) (list_all is_header_byte text) k in rw (header_byte b both.0, go text both.1) refl

-- a byte of a state that is no dot is one of an event
state_byte : (b : ℕ) → is_state_byte b ≡ true → (b == 46) ≡ false → is_event_byte b ≡ true
state_byte b h k = go (is_event_byte b) (b == 46) h k
  where
    go : (event dot : Bool) → (event || dot) ≡ true → dot ≡ false → event ≡ true
    go true dot p q = refl
    go false dot p q = absurd (let apart : true ≡ false = sym p ∙ q in cc)

-- a state's name without a dot is simple
state_simple : (name : List ℕ) → IsStateName name → has_dot name ≡ false → simple name ≡ true
state_simple name h k = list_all_from is_event_byte name (λ b m. state_byte b (all_member (λ c. IsTrue (is_state_byte c)) name b h.0.2 m) (no_member (λ c. c == 46) b name k m))

-- an event's name is simple
event_simple : (name : List ℕ) → IsNameOf is_event_byte name → simple name ≡ true
event_simple name h = list_all_from is_event_byte name (λ b m. all_member (λ c. IsTrue (is_event_byte c)) name b h.2 m)

-- a length passes its test
short : (n most : ℕ) → n ≤ most → nat_le n most ≡ true
short n most h = grind (arith, nat_tests)

module _ (a : Machine) (formed : IsAutomaton a) where
  -- the states are simple
  pub states_simple : has_no_tables a ≡ false → AllByRecursion (λ n. simple n ≡ true) a.states
  unfolding has_no_tables is_unfit_state
  states_simple h =
      let unfit = (or_false _ _ (or_false _ _ h).0).0 in
      all_from_members (λ n. simple n ≡ true) a.states (λ n m. state_simple n (all_member IsStateName a.states n formed.states_named m) (or_false _ _ (no_member is_unfit_state n a.states unfit m)).0)

  -- the events too
  pub events_simple : AllByRecursion (λ n. simple n ≡ true) a.events
  events_simple = all_from_members (λ n. simple n ≡ true) a.events (λ n m. event_simple n (all_member (IsNameOf is_event_byte) a.events n formed.events_named m))

  -- the states are few
  pub states_few : are_few 31 a.states ≡ true
  states_few = rw (short (length a.states) 31 formed.few_states, list_all_from (λ n. nat_le (length n) 64) a.states (λ n m. short (length n) 64 (all_member IsStateName a.states n formed.states_named m).0.1)) refl

  -- the events too
  pub events_few : are_few 64 a.events ≡ true
  events_few = rw (short (length a.events) 64 formed.few_events, list_all_from (λ n. nat_le (length n) 64) a.events (λ n m. short (length n) 64 (all_member (IsNameOf is_event_byte) a.events n formed.events_named m).1)) refl
