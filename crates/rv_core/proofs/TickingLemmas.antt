-- The tests' automaton is one.
use Rattle.std.proofs.Common.{◌≡◌, ℕ, ◌<◌, [], ◌∷◌, IsTrue, arith, refl, Bool, true, false}
use Rattle.std.specs.List.{All, AllPairs}
use Rattle.std.proofs.lemmas.List.Elements.{All-cons, All-nil}
use Rattle.rv_model.specs.declared.automaton.Edge.{Edge}
use Rattle.rv_model.specs.Machine.{Machine}
use Rattle.rv_model.specs.WellFormed.{IsAutomaton, IsBefore, IsStateName, IsNameOf, is_event_byte, is_state_byte, EdgeIsBefore}

-- one element, and none, are in any order
one-ordered : {X : Type 0} (R : X → X → Type 0) (x : X) → AllPairs R (x ∷ [])
one-ordered R x = λ i j d lt below. absurd (omega arith)

-- nor is anything else asked of no element
none-ordered : {X : Type 0} (R : X → X → Type 0) → AllPairs R []
none-ordered R = λ i j d lt below. absurd (omega arith)

-- what holds of the one element
one-all : {X : Type 0} (P : X → Type 0) (x : X) → P x → All P (x ∷ [])
one-all P x p = All-cons P x [] p (All-nil P)

-- a name of one byte
named : (is_byte : ℕ → Bool) (b : ℕ) → IsTrue (is_byte b) → IsNameOf is_byte (b ∷ [])
named is_byte b is = (omega arith, omega arith, one-all (λ b. IsTrue (is_byte b)) b is)

-- the edge back
abbrev pub loop : Edge
loop = record { from = 0; event = 0; to = 0 }

-- the state `a`, which the event `b` leads back to
abbrev pub ticking : Machine
ticking = record { states = (97 ∷ []) ∷ []; events = (98 ∷ []) ∷ []; edges = loop ∷ []; marked = 1 }

-- it keeps all that an automaton keeps
pub is_automaton : IsAutomaton ticking
is_automaton = record {
  some_state = omega arith;
  few_states = omega arith;
  few_events = omega arith;
  states_named = one-all IsStateName (97 ∷ []) (named is_state_byte 97 refl, λ e. absurd (let no : false ≡ true = e in cc));
  events_named = one-all (IsNameOf is_event_byte) (98 ∷ []) (named is_event_byte 98 refl);
  initial_once = All-nil _;
  states_ascend = none-ordered IsBefore;
  events_ascend = one-ordered IsBefore (98 ∷ []);
  in_range = one-all (λ e. (e.from < 1) × (e.event < 1) × (e.to < 1)) loop (omega arith, omega arith, omega arith);
  edges_ascend = one-ordered EdgeIsBefore loop;
  events_used = λ event lt. (0, loop, omega arith, refl, omega arith);
  some_mark = omega arith;
  marks_in_range = omega arith;
}
