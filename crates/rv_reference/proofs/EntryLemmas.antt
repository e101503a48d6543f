-- The entries of an automaton's table, and which edge gives each.
use Rattle.std.proofs.Common.{◌≡◌, ℕ, zero, suc, ◌+◌, ◌-◌, ◌<◌, ◌≤◌, ◌==◌, ◌&&◌, Bool, true, false, ◌⊎◌, inl, inr, List, [], ◌∷◌, length, get_or, Option, Some, None, arith, refl, sym, ap, ◌∙◌, sub-one}
use Rattle.std.proofs.lemmas.Option.{slice_get-get_or, slice_get_past}
use Rattle.std.proofs.lemmas.List.{get_or_past}
use Rattle.std.specs.Prelude.{find, option_map, option_and_then, slice_get, slice_index_or}
use Rattle.rv_model.specs.declared.hit.Letter.{Letter}
use Rattle.rv_model.specs.declared.hit.Letter.TheVariants.{Event, Atoms}
use Rattle.rv_model.specs.declared.automaton.Edge.{Edge}
use Rattle.rv_model.specs.Machine.{Machine}
use Rattle.rv_model.specs.Numbers.{list_of}
use Rattle.rv_model.specs.inner.EventTables.{entry}
use Rattle.rv_model.specs.Table.{next_row, table_of}
use Rattle.rv_model.specs.WellFormed.{IsAutomaton}
use Rattle.rv_model.proofs.MeansLemmas.{is_next-true}
use Rattle.rv_model.proofs.FoundLemmas.{length-list_of, get_or-list_of, find-found}
use Rattle.rv_reference.specs.inner.PlainParts.{BelowCount}

-- the first element that passes, where none before it does
pub find-here : {X : Type 0} (p : X → Bool) (xs : List X) (n : ℕ) (d : X) → n < length xs → ((k : ℕ) → k < n → p (get_or xs k d) ≡ false) → p (get_or xs n d) ≡ true → find p xs ≡ Some (get_or xs n d)
find-here p [] n d lt none here = absurd (omega arith)
find-here p (x ∷ xs) zero d lt none here = rw here refl
find-here p (x ∷ xs) (suc n) d lt none here = rw (none 0 (omega arith)) (find-here p xs n d (omega arith) (λ k l. none (suc k) (omega arith)) here)

-- where no element passes, none is found
pub find-none : {X : Type 0} (p : X → Bool) (xs : List X) (d : X) → ((k : ℕ) → k < length xs → p (get_or xs k d) ≡ false) → find p xs ≡ None
find-none p [] d none = refl
find-none p (x ∷ xs) d none = rw (none 0 (omega arith)) (find-none p xs d (λ k l. none (suc k) (omega arith)))

module _ (a : Machine) where
  -- the rows of the states, without row 0
  abbrev rows : List (List (Option ℕ))
  rows = list_of (λ state. list_of (next_row a state) (length a.events)) (length a.states)

  -- row 0 has no entry
  pub entry-zero : (x : Letter) → entry (table_of a) 0 x ≡ None
  entry-zero (Event event) = slice_get_past [] event (omega arith)
  entry-zero (Atoms set) = refl

  -- a set of atoms has no entry
  pub entry-atoms : (row set : ℕ) → entry (table_of a) row (Atoms set) ≡ None
  entry-atoms row set = refl

  -- past the states there is no entry
  pub entry-past : (row event : ℕ) → length a.states < row → entry (table_of a) row (Event event) ≡ None
  entry-past zero event lt = absurd (omega arith)
  entry-past (suc q) event lt =
      let past : length rows ≤ q = rw (length-list_of (λ state. list_of (next_row a state) (length a.events)) (length a.states)) (omega arith) in
      ap (λ row. option_and_then (λ next. next) (slice_get row event)) (get_or_past rows q [] past) ∙ ap (option_and_then (λ next. next)) (slice_get_past [] event (omega arith))

  -- the row of a state has the number after the state's
  row-is : (q : ℕ) → q < length a.states → slice_index_or ([] ∷ rows) (suc q) [] ≡ list_of (next_row a q) (length a.events)
  row-is q lt = get_or-list_of (λ state. list_of (next_row a state) (length a.events)) (length a.states) q [] lt

  -- past the events there is no entry
  pub entry-no_event : (row event : ℕ) → 1 ≤ row → row ≤ length a.states → length a.events ≤ event → entry (table_of a) row (Event event) ≡ None
  entry-no_event zero event le lt past = absurd (omega arith)
  entry-no_event (suc q) event le lt past =
      ap (λ row. option_and_then (λ next. next) (slice_get row event)) (row-is q (omega arith)) ∙ ap (option_and_then (λ next. next)) (slice_get_past (list_of (next_row a q) (length a.events)) event (rw (length-list_of (next_row a q) (length a.events)) past))

  -- the entry of the row of a state
  pub entry-in : (row event : ℕ) → 1 ≤ row → row ≤ length a.states → event < length a.events → entry (table_of a) row (Event event) ≡ next_row a (row - 1) event
  entry-in zero event le lt below = absurd (omega arith)
  entry-in (suc q) event le lt below =
      let row = list_of (next_row a q) (length a.events) in
      let l : event < length row = rw (length-list_of (next_row a q) (length a.events)) below in
      let got : slice_get row event ≡ Some (next_row a q event) = slice_get-get_or row event None l ∙ ap Some (get_or-list_of (next_row a q) (length a.events) event None below) in
      rw sub-one (ap (λ row. option_and_then (λ next. next) (slice_get row event)) (row-is q (omega arith)) ∙ ap (option_and_then (λ next. next)) got)

-- a mapped value that is there comes from a value that is there
map-some : {X Y : Type 0} (f : X → Y) (o : Option X) (y : Y) → option_map f o ≡ Some y → (x : X) × (o ≡ Some x) × (f x ≡ y)
map-some f None y e = absurd (let no : None ≡ Some y = e in cc)
map-some f (Some x) y e = (x, refl, cc)

-- a number is below another or not
less_or : (i n : ℕ) → (i < n) ⊎ (n ≤ i)
less_or i n = grind arith

module _ (a : Machine) (k : IsAutomaton a) where
  -- the row of an edge's end
  next_row-below : (state event next : ℕ) → next_row a state event ≡ Some next → next < length a.states + 1
  next_row-below state event next e =
      let mapped = map-some (λ (edge : Edge). edge.to + 1) (find (λ edge. edge.from == state && edge.event == event) a.edges) next e in
      let found = find-found (λ (edge : Edge). edge.from == state && edge.event == event) a.edges mapped.0 mapped.1 in
      let range = (k.in_range found.place mapped.0 found.below).2 in
      let to : mapped.0.to < length a.states = rw (ap (λ (x : Edge). x.to) found.is) at range in
      let is : mapped.0.to + 1 ≡ next = mapped.2 in omega arith

  -- the entry of a state's row by an event is the number of a row
  event-below : (row event next : ℕ) → 1 ≤ row → row ≤ length a.states → entry (table_of a) row (Event event) ≡ Some next → next < length a.states + 1
  event-below row event next le lt e =
      elim (less_or event (length a.events)) [
        | inl below ↦ next_row-below (row - 1) event next (sym (entry-in a row event le lt below) ∙ e)
        | inr past ↦ let no : None ≡ Some next = sym (entry-no_event a row event le lt past) ∙ e in absurd cc
      ]

  -- each entry of the table is the number of a row
  entry-below : (row : ℕ) (x : Letter) (next : ℕ) → entry (table_of a) row x ≡ Some next → next < length a.states + 1
  entry-below row (Atoms set) next e = let no : None ≡ Some next = e in absurd cc
  entry-below zero (Event event) next e = let no : None ≡ Some next = sym (entry-zero a (Event event)) ∙ e in absurd cc
  entry-below (suc q) (Event event) next e =
      elim (less_or q (length a.states)) [
        | inl below ↦ event-below (suc q) event next (omega arith) (omega arith) e
        | inr past ↦ let no : None ≡ Some next = sym (entry-past a (suc q) event (omega arith)) ∙ e in absurd cc
      ]

  -- what follows a row is the row of a state
  pub automaton-below : BelowCount (table_of a) (length a.states + 1)
  automaton-below row x next f = entry-below row x next (is_next-true (entry (table_of a) row x) next f)
