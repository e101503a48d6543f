-- The automata are well formed, and have these tables.
use Rattle.std.proofs.Common.{◌≡◌, ◌≢◌, ℕ, zero, suc, ◌<◌, Bool, true, false, List, [], ◌∷◌, length, inl, inr, lit<, nat_eq, Some, None, arith, refl, sym, ap, ◌∙◌}
use Rattle.std.specs.Prelude.{All, AllPairs, Any, codes, ◌&&◌, nat_le, not}
use Rattle.std.specs.List.{list_all, starts_with}
use Rattle.std.proofs.lemmas.Bool.{false≢true}
use Rattle.std.proofs.lemmas.Bool.Decides.{nat_tests}
use Rattle.std.proofs.lemmas.List.Sums.{AllPass-from_list_all}
use Rattle.std.proofs.lemmas.List.Kept.{AllPairs-cons}
use Rattle.rv_model.specs.declared.automaton.Edge.{Edge}
use Rattle.rv_model.specs.Machine.{Machine}
use Rattle.rv_model.specs.WellFormed.{IsBefore, IsNameOf, IsStateName, is_event_byte, is_state_byte, EdgeIsBefore, IsAutomaton}
use Rattle.rv_model.specs.Numbers.{list_of}
use Rattle.rv_model.specs.Table.{of_events, table_of}
use Rattle.rv_gen.specs.Generated.{wip, wwnr, edge}

-- of no element everything holds
all-nil : {X : Type 0} (P : X → Type 0) → All P []
all-nil P k d lt = absurd (omega arith)

-- what holds of the first element and of all after it holds of all
all-cons : {X : Type 0} (P : X → Type 0) (x : X) (xs : List X) → P x → All P xs → All P (x ∷ xs)
all-cons P x xs here more zero d lt = here
all-cons P x xs here more (suc k) d lt = more k d (omega arith)

-- a fact of one element
one : {X : Type 0} (P : X → Type 0) (x : X) → P x → All P (x ∷ [])
one P x p = all-cons P x [] p (all-nil P)

-- a fact of two elements
two : {X : Type 0} (P : X → Type 0) (x y : X) → P x → P y → All P (x ∷ y ∷ [])
two P x y p q = all-cons P x (y ∷ []) p (one P y q)

-- a fact of three elements
three : {X : Type 0} (P : X → Type 0) (x y z : X) → P x → P y → P z → All P (x ∷ y ∷ z ∷ [])
three P x y z p q r = all-cons P x (y ∷ z ∷ []) p (two P y z q r)

-- an empty list has no pairs
pairs-nil : {X : Type 0} (R : X → X → Type 0) → AllPairs R []
pairs-nil R i j d lt below = absurd (omega arith)

-- one element makes no pair
one_pair : {X : Type 0} (R : X → X → Type 0) (x : X) → AllPairs R (x ∷ [])
one_pair R x = AllPairs-cons R x [] (all-nil (R x)) (pairs-nil R)

-- a relation of three elements, pair by pair
three_pairs : {X : Type 0} (R : X → X → Type 0) (x y z : X) → R x y → R x z → R y z → AllPairs R (x ∷ y ∷ z ∷ [])
three_pairs R x y z a b c = AllPairs-cons R x (y ∷ z ∷ []) (two (R x) y z a b) (AllPairs-cons R y (z ∷ []) (one (R y) z c) (one_pair R z))

-- one to 64 bytes that are all allowed
abbrev fits : (ℕ → Bool) → List ℕ → Bool
fits is_byte name = nat_le 1 (length name) && (nat_le (length name) 64 && list_all is_byte name)

-- and they do not begin with __init_
abbrev is_state : List ℕ → Bool
is_state name = fits is_state_byte name && not (starts_with nat_eq name (codes "__init_"))

-- both tests pass
both : (a b : Bool) → (a && b) ≡ true → (a ≡ true) × (b ≡ true)
both true b h = (refl, h)
both false b h = absurd (cc)

-- they are a name
named : (is_byte : ℕ → Bool) (name : List ℕ) → fits is_byte name ≡ true → IsNameOf is_byte name
named is_byte name h =
    let some = both (nat_le 1 (length name)) (nat_le (length name) 64 && list_all is_byte name) h in
    let few = both (nat_le (length name) 64) (list_all is_byte name) some.1 in
    (grind (arith, nat_tests, some.0), grind (arith, nat_tests, few.0), AllPass-from_list_all is_byte name few.1)

-- and, where they do not begin with __init_, a state's name
state_named : (name : List ℕ) → is_state name ≡ true → IsStateName name
state_named name h =
    let tests = both (fits is_state_byte name) (not (starts_with nat_eq name (codes "__init_"))) h in
    (named is_state_byte name tests.0, λ begins. let apart : not (starts_with nat_eq name (codes "__init_")) ≡ false = ap not begins in false≢true (sym apart ∙ tests.1))

module _ (s t x y z : List ℕ) (e f g : Edge) where
  -- two states, of which the first is marked, three events, and three edges
  abbrev small : Machine
  small = record { states = s ∷ t ∷ []; events = x ∷ y ∷ z ∷ []; edges = e ∷ f ∷ g ∷ []; marked = 1 }

  -- the edge's states and event are the automaton's
  abbrev InRange : Edge → Type 0
  InRange h = (h.from < 2) × (h.event < 3) × (h.to < 2)

  -- such an automaton is well formed
  small_formed : is_state s ≡ true → is_state t ≡ true → fits is_event_byte x ≡ true → fits is_event_byte y ≡ true → fits is_event_byte z ≡ true
      → (length t ≡ length s → ⊥) → IsBefore x y → IsBefore x z → IsBefore y z
      → InRange e → InRange f → InRange g → EdgeIsBefore e f → EdgeIsBefore e g → EdgeIsBefore f g
      → ((event : ℕ) → event < 3 → Any (λ h. h.event ≡ event) (e ∷ f ∷ g ∷ [])) → IsAutomaton small
  small_formed s-named t-named x-named y-named z-named other xy xz yz e-in f-in g-in ef eg fg used = record {
    some_state = omega arith;
    few_states = omega arith;
    few_events = omega arith;
    states_named = two IsStateName s t (state_named s s-named) (state_named t t-named);
    events_named = three (IsNameOf is_event_byte) x y z (named is_event_byte x x-named) (named is_event_byte y y-named) (named is_event_byte z z-named);
    initial_once = one (λ n. n ≢ s) t (λ same. other (ap length same));
    states_ascend = one_pair IsBefore t;
    events_ascend = three_pairs IsBefore x y z xy xz yz;
    in_range = three InRange e f g e-in f-in g-in;
    edges_ascend = three_pairs EdgeIsBefore e f g ef eg fg;
    events_used = used;
    some_mark = omega arith;
    marks_in_range = lit< tt;
  }

-- what holds of the first three numbers holds of each below 3
below_three : (P : ℕ → Type 0) → P 0 → P 1 → P 2 → (n : ℕ) → n < 3 → P n
below_three P p q r zero lt = p
below_three P p q r (suc zero) lt = q
below_three P p q r (suc (suc zero)) lt = r
below_three P p q r (suc (suc (suc n))) lt = absurd (omega arith)

-- the event is on one of the automaton's edges
abbrev IsUsed : Machine → ℕ → Type 0
IsUsed a event = Any (λ h. h.event ≡ event) a.edges

-- wip is well formed
wip_formed : IsAutomaton wip
wip_formed =
    small_formed (codes "preemptive") (codes "non_preemptive") (codes "preempt_disable") (codes "preempt_enable") (codes "sched_waking") (edge 0 0 1) (edge 1 1 0) (edge 1 2 1) refl refl refl refl refl (λ same. omega arith) refl refl refl
    (omega arith, omega arith, omega arith) (omega arith, omega arith, omega arith) (omega arith, omega arith, omega arith) (inl (omega arith)) (inl (omega arith)) (inr (refl, omega arith))
    (below_three (IsUsed wip) (0, edge 0 0 1, omega arith, refl, refl) (1, edge 1 1 0, omega arith, refl, refl) (2, edge 1 2 1, omega arith, refl, refl))

-- wwnr is well formed
wwnr_formed : IsAutomaton wwnr
wwnr_formed =
    small_formed (codes "not_running") (codes "running") (codes "switch_in") (codes "switch_out") (codes "wakeup") (edge 0 0 1) (edge 0 2 0) (edge 1 1 0) refl refl refl refl refl (λ same. omega arith) refl refl refl
    (omega arith, omega arith, omega arith) (omega arith, omega arith, omega arith) (omega arith, omega arith, omega arith) (inr (refl, omega arith)) (inl (omega arith)) (inl (omega arith))
    (below_three (IsUsed wwnr) (0, edge 0 0 1, omega arith, refl, refl) (2, edge 1 1 0, omega arith, refl, refl) (1, edge 0 2 0, omega arith, refl, refl))

-- three edges that are these
pub same_three : {e f g x y z : Edge} → e ≡ x → f ≡ y → g ≡ z → e ∷ f ∷ g ∷ [] ≡ x ∷ y ∷ z ∷ []
same_three {e} {f} {g} {x} {y} {z} p q r = rw (p, q, r) refl

-- an automaton with the parts of wip is wip
pub wip_made : (states events : List (List ℕ)) (edges : List Edge) → states ≡ wip.states → events ≡ wip.events → edges ≡ wip.edges → IsAutomaton (record { states = states; events = events; edges = edges; marked = 1 })
wip_made states events edges p q r = rw (p, q, r) wip_formed

-- one with the parts of wwnr is wwnr
pub wwnr_made : (states events : List (List ℕ)) (edges : List Edge) → states ≡ wwnr.states → events ≡ wwnr.events → edges ≡ wwnr.edges → IsAutomaton (record { states = states; events = events; edges = edges; marked = 1 })
wwnr_made states events edges p q r = rw (p, q, r) wwnr_formed

-- preemptive goes on by preempt_disable, non_preemptive by preempt_enable and sched_waking
pub wip_table : table_of wip ≡ of_events 3 ([] ∷ (Some 2 ∷ None ∷ None ∷ []) ∷ (None ∷ Some 1 ∷ Some 2 ∷ []) ∷ [])
unfolding list_of
wip_table = refl

-- not_running goes on by switch_in and wakeup, running by switch_out
pub wwnr_table : table_of wwnr ≡ of_events 3 ([] ∷ (Some 2 ∷ None ∷ Some 1 ∷ []) ∷ (None ∷ Some 1 ∷ None ∷ []) ∷ [])
unfolding list_of
wwnr_table = refl
