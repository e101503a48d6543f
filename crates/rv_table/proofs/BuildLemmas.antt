-- The rows of an automaton's table, one after another.
use Rattle.std.proofs.Common.{◌≡◌, ℕ, ◌+◌, ◌<◌, ◌==◌, ◌&&◌, Bool, [], ◌∷◌, ◌++◌, length, Option, Some, None, arith, refl, sym, subst, add-one}
use Rattle.std.specs.Prelude.{find, option_map}
use Rattle.std.specs.List.{All}
use Rattle.std.proofs.lemmas.List.Elements.{All-cons, All-nil}
use Rattle.rv_model.specs.declared.automaton.Edge.{Edge}
use Rattle.rv_model.specs.Machine.{Machine}
use Rattle.rv_model.specs.WellFormed.{IsAutomaton}
use Rattle.rv_model.specs.Numbers.{list_of}
use Rattle.rv_model.specs.Table.{next_row, event_rows}
use Rattle.rv_model.proofs.FoundLemmas.{length-list_of, get_or-list_of, find-found}
use Rattle.rv_table.specs.Rows.{IsEntryBelow, IsEventRows}

-- no row
pub list_of_none : {X : Type 0} (f : ℕ → X) → list_of f 0 ≡ []
unfolding list_of
list_of_none f = refl

-- one more
pub list_of_more : {X : Type 0} (f : ℕ → X) (n : ℕ) → list_of f (n + 1) ≡ list_of f n ++ f n ∷ []
unfolding list_of
list_of_more f n = rw (add-one n) refl

-- each of them has a property that each of its makings has
All-list_of : {X : Type 0} (P : X → Type 0) (f : ℕ → X) (n : ℕ) → ((i : ℕ) → i < n → P (f i)) → All P (list_of f n)
All-list_of P f n each = λ i d lt. let l : i < n = subst (λ m. i < m) (length-list_of f n) lt in subst P (sym (get_or-list_of f n i d l)) (each i l)

module _ (a : Machine) (k : IsAutomaton a) where
  -- a target is a row
  entry-below : (state event : ℕ) → IsEntryBelow (length a.states + 1) (next_row a state event)
  entry-below state event = go (find is_edge a.edges) refl
    where
      is_edge : Edge → Bool
      is_edge edge = edge.from == state && edge.event == event

      go : (o : Option Edge) → find is_edge a.edges ≡ o → IsEntryBelow (length a.states + 1) (option_map (λ edge. edge.to + 1) o)
      go None e = tt
      go (Some edge) e =
          let f = find-found is_edge a.edges edge e in
          let range = (k.in_range f.place edge f.below).2 in
          let to : edge.to < length a.states = subst (λ (x : Edge). x.to < length a.states) f.is range in
          (omega arith, omega arith)

  -- the rows of an automaton are in range
  pub event_rows-in_range : IsEventRows (event_rows a)
  event_rows-in_range =
      let len = length-list_of (λ state. list_of (next_row a state) (length a.events)) (length a.states) in
      let count : length (event_rows a) ≡ length a.states + 1 = omega arith in
      let few = k.few_states in
      record {
        some = omega arith;
        few = omega arith;
        in_range = subst (λ n. All (All (IsEntryBelow n)) (event_rows a)) (sym count) (All-cons (All (IsEntryBelow (length a.states + 1))) [] _ (All-nil (IsEntryBelow (length a.states + 1))) (All-list_of (All (IsEntryBelow (length a.states + 1))) (λ state. list_of (next_row a state) (length a.events)) (length a.states) (λ state lt. All-list_of (IsEntryBelow (length a.states + 1)) (next_row a state) (length a.events) (λ event below. entry-below state event))));
      }
