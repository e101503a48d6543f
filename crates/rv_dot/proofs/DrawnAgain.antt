-- What the canonical text of an automaton says gives the automaton again.
use Rattle.std.proofs.Common.{◌≡◌, ℕ, suc, ◌+◌, ◌*◌, ◌/◌, ◌%◌, ◌^◌, ◌<◌, Bool, true, false, List, [], ◌∷◌, ◌++◌, length, Some, None, cond, refl, ap, ◌∙◌, arith}
use Rattle.std.specs.Prelude.{map, codes, ◌&&◌, ◌||◌, ◌==◌}
use Rattle.std.specs.List.{AllByRecursion, list_all, list_any}
use Rattle.std.specs.Str.{bytes_eq}
use Rattle.std.proofs.Math.Nat.{pow-succ'}
use Rattle.std.proofs.lemmas.Bool.Decides.{nat_tests}
use Rattle.rv_model.specs.WellFormed.{IsNameOf, IsStateName, is_event_byte}
use Rattle.rv_dot.specs.Statements.{Claim, declares, leads}
use Rattle.rv_dot.specs.Names.{is_marker, is_marking_shape}
use Rattle.rv_dot.specs.Gathered.{Arc, states_in, targets_in, arcs_of, arcs_in, fits, events_fit, all_fit, marks_state, is_marked}
use Rattle.rv_dot.specs.Canonical.{State, Drawing, marker, drawn_shape, states_marked}
use Rattle.rv_dot.specs.Dot.{bits_of}
use Rattle.rv_dot.proofs.Layouts.{state_claim, arc_claim, claims_drawn}
use Rattle.rv_dot.proofs.PlainLaws.{state_name_test, no_marker_test, event_name_test, event_plain, one_event}
use Rattle.rv_dot.proofs.StandsLaws.{name_test}

-- the states and arcs of a drawing have the names of states and events
pub record IsNamed (d : Drawing) : Type 0 where
  pub states : AllByRecursion (λ s. IsStateName s.name) d.states
  pub arcs : AllByRecursion (λ a. IsStateName a.from × IsNameOf is_event_byte a.event × IsStateName a.to) d.arcs

-- a marker's name
marker_test : (initial : List ℕ) → is_marker (marker initial) ≡ true
marker_test initial = refl

-- the arc of an arc's edge
arc_arcs : (a : Arc) → IsStateName a.from → IsNameOf is_event_byte a.event → arcs_of (arc_claim a) ≡ a ∷ []
arc_arcs a from event = rw (no_marker_test a.from from, one_event a.event (event_plain a.event event)) refl

-- declarations have no arcs
state_arcs : (ss : List State) (more : List Claim) → arcs_in (map state_claim ss ++ more) ≡ arcs_in more
state_arcs [] more = refl
state_arcs (s ∷ ss) more = state_arcs ss more

-- the arcs of all edges
arcs_arcs : (as' : List Arc) → AllByRecursion (λ a. IsStateName a.from × IsNameOf is_event_byte a.event × IsStateName a.to) as' → arcs_in (map arc_claim as') ≡ as'
arcs_arcs [] h = refl
arcs_arcs (a ∷ as') h = ap (λ (xs : List Arc). xs ++ arcs_in (map arc_claim as')) (arc_arcs a h.0.0 h.0.1) ∙ ap (λ (xs : List Arc). a ∷ xs) (arcs_arcs as' h.1)

-- the arcs that are read
pub arcs_read : (d : Drawing) → IsNamed d → arcs_in (claims_drawn d) ≡ d.arcs
arcs_read d h = state_arcs d.states (leads (marker d.initial) d.initial None ∷ map arc_claim d.arcs) ∙ arcs_arcs d.arcs h.arcs

-- the states of declarations
state_states : (ss : List State) (more : List Claim) → AllByRecursion (λ s. IsStateName s.name) ss → states_in (map state_claim ss ++ more) ≡ map (λ s. s.name) ss ++ states_in more
state_states [] more h = refl
state_states (s ∷ ss) more h = rw (no_marker_test s.name h.0) (ap (λ (ns : List (List ℕ)). s.name ∷ ns) (state_states ss more h.1))

-- edges declare no state
arc_states : (as' : List Arc) → states_in (map arc_claim as') ≡ []
arc_states [] = refl
arc_states (a ∷ as') = arc_states as'

-- nothing more
append_none : {A : Type 0} (xs : List A) → xs ++ [] ≡ xs
append_none [] = refl
append_none (x ∷ xs) = ap (λ ys. x ∷ ys) (append_none xs)

-- the states that are read
pub states_read : (d : Drawing) → IsNamed d → states_in (claims_drawn d) ≡ map (λ s. s.name) d.states
states_read d h =
    state_states d.states (leads (marker d.initial) d.initial None ∷ map arc_claim d.arcs) h.states ∙ ap (λ (ns : List (List ℕ)). map (λ (s : State). s.name) d.states ++ ns) (arc_states d.arcs)
    ∙ append_none (map (λ (s : State). s.name) d.states)

-- declarations have no target
state_targets : (ss : List State) (more : List Claim) → targets_in (map state_claim ss ++ more) ≡ targets_in more
state_targets [] more = refl
state_targets (s ∷ ss) more = state_targets ss more

-- edges between states have no target
arc_targets : (as' : List Arc) → AllByRecursion (λ a. IsStateName a.from × IsNameOf is_event_byte a.event × IsStateName a.to) as' → targets_in (map arc_claim as') ≡ []
arc_targets [] h = refl
arc_targets (a ∷ as') h = rw (no_marker_test a.from h.0.0) (arc_targets as' h.1)

-- the target that is read
pub targets_read : (d : Drawing) → IsNamed d → targets_in (claims_drawn d) ≡ d.initial ∷ []
targets_read d h = state_targets d.states (leads (marker d.initial) d.initial None ∷ map arc_claim d.arcs) ∙ ap (λ (ns : List (List ℕ)). d.initial ∷ ns) (arc_targets d.arcs h.arcs)

-- declarations fit
states_fit : (ss : List State) (more : List Claim) → AllByRecursion (λ s. IsStateName s.name) ss → list_all fits more ≡ true → list_all fits (map state_claim ss ++ more) ≡ true
states_fit [] more h k = k
states_fit (s ∷ ss) more h k = rw (no_marker_test s.name h.0, state_name_test s.name h.0) (states_fit ss more h.1 k)

-- edges fit
arcs_fit : (as' : List Arc) → AllByRecursion (λ a. IsStateName a.from × IsNameOf is_event_byte a.event × IsStateName a.to) as' → list_all fits (map arc_claim as') ≡ true
arcs_fit [] h = refl
arcs_fit (a ∷ as') h = rw (no_marker_test a.from h.0.0) (arcs_fit as' h.1)

-- their events have names
named_events : (as' : List Arc) → AllByRecursion (λ a. IsStateName a.from × IsNameOf is_event_byte a.event × IsStateName a.to) as' → events_fit as' ≡ true
named_events [] h = refl
named_events (a ∷ as') h = rw (event_name_test a.event h.0.1) (named_events as' h.1)

-- what is read fits
pub fit_read : (d : Drawing) → IsNamed d → all_fit (claims_drawn d) ≡ true
fit_read d h =
    let statements : list_all fits (claims_drawn d) ≡ true = states_fit d.states (leads (marker d.initial) d.initial None ∷ map arc_claim d.arcs) h.states (arcs_fit d.arcs h.arcs) in
    let events : events_fit (arcs_in (claims_drawn d)) ≡ true = ap events_fit (arcs_read d h) ∙ named_events d.arcs h.arcs in
    rw (statements, events) refl

-- each name is apart from those behind it
abbrev pub IsApart : List State → Type 0
IsApart [] = Unit {0}
IsApart (s ∷ ss) = AllByRecursion (λ t. (bytes_eq s.name t.name ≡ false) × (bytes_eq t.name s.name ≡ false)) ss × IsApart ss

-- a declaration marks by its shape
marks_claim : (state : List ℕ) (s : State) → marks_state state (state_claim s) ≡ (bytes_eq s.name state && s.is_marked)
marks_claim state s = go s.is_marked
  where
    go : (t : Bool) → (bytes_eq s.name state && is_marking_shape (Some (drawn_shape t))) ≡ (bytes_eq s.name state && t)
    go true = refl
    go false = refl

-- one test that fails
and_false : (b : Bool) → (b && false) ≡ false
and_false true = refl
and_false false = refl

-- edges mark nothing
arcs_mark : (state : List ℕ) (as' : List Arc) → list_any (marks_state state) (map arc_claim as') ≡ false
arcs_mark state [] = refl
arcs_mark state (a ∷ as') = arcs_mark state as'

-- declarations mark their states
states_mark : (state : List ℕ) (ss : List State) (more : List Claim) → list_any (marks_state state) more ≡ false → list_any (marks_state state) (map state_claim ss ++ more) ≡ list_any (λ s. bytes_eq s.name state && s.is_marked) ss
states_mark state [] more h = h
states_mark state (s ∷ ss) more h = rw (marks_claim state s, states_mark state ss more h) refl

-- what marks a state that is read
marked_read : (d : Drawing) (state : List ℕ) → is_marked (claims_drawn d) state ≡ list_any (λ s. bytes_eq s.name state && s.is_marked) d.states
marked_read d state =
    let none : marks_state state (declares (marker d.initial) (Some (codes "plaintext"))) ≡ false = and_false (bytes_eq (marker d.initial) state) in
    ap (λ (t : Bool). t || list_any (marks_state state) (map state_claim d.states ++ (leads (marker d.initial) d.initial None ∷ map arc_claim d.arcs))) none
    ∙ states_mark state d.states (leads (marker d.initial) d.initial None ∷ map arc_claim d.arcs) (arcs_mark state d.arcs)

-- states of other names mark nothing
none_marked : (s : State) (ss : List State) → AllByRecursion (λ t. (bytes_eq s.name t.name ≡ false) × (bytes_eq t.name s.name ≡ false)) ss → list_any (λ t. bytes_eq t.name s.name && t.is_marked) ss ≡ false
none_marked s [] h = refl
none_marked s (t ∷ ss) h = rw (h.0.1) (none_marked s ss h.1)

-- one test that passes or not
or_false : (b : Bool) → (b || false) ≡ b
or_false true = refl
or_false false = refl

-- each state is marked as it is drawn
marks_again : (ss : List State) → IsApart ss → map (λ s. list_any (λ t. bytes_eq t.name s.name && t.is_marked) ss) ss ≡ map (λ s. s.is_marked) ss
marks_again [] h = refl
marks_again (s ∷ ss) h =
    let first : (bytes_eq s.name s.name && s.is_marked || list_any (λ t. bytes_eq t.name s.name && t.is_marked) ss) ≡ s.is_marked = rw (name_test s.name s.name refl, none_marked s ss h.0) (or_false s.is_marked) in
    ap (λ (b : Bool). b ∷ map (λ (x : State). list_any (λ t. bytes_eq t.name x.name && t.is_marked) (s ∷ ss)) ss) first ∙ ap (λ (bs : List Bool). s.is_marked ∷ bs) (later ss h.0 ∙ marks_again ss h.1)
  where
    later : (xs : List State) → AllByRecursion (λ t. (bytes_eq s.name t.name ≡ false) × (bytes_eq t.name s.name ≡ false)) xs
        → map (λ (x : State). list_any (λ t. bytes_eq t.name x.name && t.is_marked) (s ∷ ss)) xs ≡ map (λ (x : State). list_any (λ t. bytes_eq t.name x.name && t.is_marked) ss) xs
    later [] k = refl
    later (x ∷ xs) k = rw (k.0.0) (ap (λ (bs : List Bool). list_any (λ t. bytes_eq t.name x.name && t.is_marked) ss ∷ bs) (later xs k.1))

-- the bits of the marked states are the number
pub bits_again : (bits : ℕ) (names : List (List ℕ)) → bits < 2 ^ length names → bits_of (map (λ s. s.is_marked) (states_marked bits names)) ≡ bits
bits_again bits [] h = omega arith
bits_again bits (n ∷ names) h =
    let two : 2 ^ suc (length names) ≡ 2 * 2 ^ length names = pow-succ' 2 (length names) in
    let half : bits / 2 < 2 ^ length names = halved bits (2 ^ length names) (omega (arith, two)) in
    ap (λ (k : ℕ). cond (bits % 2 == 1) 1 0 + 2 * k) (bits_again (bits / 2) names half) ∙ parts bits
  where
    halved : (n m : ℕ) → n < 2 * m → n / 2 < m
    halved n m h = omega arith

    parts : (n : ℕ) → cond (n % 2 == 1) 1 0 + 2 * (n / 2) ≡ n
    parts n = go (n % 2 == 1) refl
      where
        go : (t : Bool) → (n % 2 == 1) ≡ t → cond t 1 0 + 2 * (n / 2) ≡ n
        go true h = grind (arith, nat_tests)
        go false h = grind (arith, nat_tests)

-- the marks that are read
pub marks_read : (d : Drawing) → IsApart d.states → map (is_marked (claims_drawn d)) (map (λ s. s.name) d.states) ≡ map (λ s. s.is_marked) d.states
marks_read d h = each d.states ∙ marks_again d.states h
  where
    each : (ss : List State) → map (is_marked (claims_drawn d)) (map (λ (s : State). s.name) ss) ≡ map (λ s. list_any (λ t. bytes_eq t.name s.name && t.is_marked) d.states) ss
    each [] = refl
    each (s ∷ ss) = rw (marked_read d s.name, each ss) refl
