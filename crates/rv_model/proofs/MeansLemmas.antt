-- The table of an automaton means the automaton.
use Rattle.std.proofs.Common.{◌≡◌, ℕ, ◌+◌, ◌<◌, ◌≤◌, ◌==◌, ◌&&◌, Bool, true, false, ◌⊎◌, inl, inr, List, [], ◌∷◌, length, get_or, Option, Some, None, arith, IsTrue, refl, sym, ap, ◌∙◌, add-one}
use Rattle.std.proofs.lemmas.Option.{slice_get-get_or, slice_get_past}
use Rattle.std.proofs.lemmas.List.{get_or_default}
use Rattle.std.specs.Prelude.{find, option_map, option_and_then, slice_get}
use Rattle.rv_model.specs.declared.hit.Letter.{Letter}
use Rattle.rv_model.specs.declared.hit.Letter.TheVariants.{Event, Atoms}
use Rattle.rv_model.specs.declared.automaton.Edge.{Edge}
use Rattle.rv_model.specs.Machine.{Machine}
use Rattle.rv_model.specs.WellFormed.{IsAutomaton, EdgeIsBefore}
use Rattle.rv_model.specs.Numbers.{list_of}
use Rattle.rv_model.specs.Language.{IsPath, HasEdge, Accepts}
use Rattle.rv_model.specs.declared.formula.Spec.{Spec}
use Rattle.rv_model.specs.declared.formula.Spec.TheVariants.{Da}
use Rattle.rv_model.specs.inner.EventTables.{entry}
use Rattle.rv_model.specs.Table.{Table, first_row, next_row, table_of, is_next, Follows, end_of, Reaches}
use Rattle.rv_model.specs.Judging.{IsGood, Judge, Means, JudgesByTable, JudgesBySpec}
use Rattle.rv_model.proofs.GoodLemmas.{good_letters}
use Rattle.rv_model.proofs.ReachLemmas.{Reaches-start}
use Rattle.rv_model.proofs.FoundLemmas.{find-found, find-some, get_or-list_of, length-list_of}

-- ---- one edge is one entry
pub is_next-some : (o : Option ℕ) (q : ℕ) → o ≡ Some q → is_next o q ≡ true
is_next-some o q e = rw e (grind arith)

-- an entry that the test finds to be a row is this row
pub is_next-true : (o : Option ℕ) (q : ℕ) → is_next o q ≡ true → o ≡ Some q
is_next-true None q e = cc
is_next-true (Some n) q e = let s : n ≡ q = grind arith in ap Some s

-- the edge leaves this state by this event
abbrev is_edge : ℕ → ℕ → Edge → Bool
is_edge q event e = e.from == q && e.event == event

-- where two tests pass together, each of them passes
and_parts : (a b : Bool) → (a && b) ≡ true → (a ≡ true) × (b ≡ true)
and_parts true b e = (refl, e)
and_parts false b e = cc

-- what a map gives, it gives of some value
map-some : {X Y : Type 0} (f : X → Y) (o : Option X) (y : Y) → option_map f o ≡ Some y → (x : X) × (o ≡ Some x) × (f x ≡ y)
map-some f None y e = absurd (let no : None ≡ Some y = e in cc)
map-some f (Some x) y e = (x, refl, cc)

module _ (a : Machine) (k : IsAutomaton a) where
  -- two edges of one state and event are one
  same_place : (i j : ℕ) (d : Edge) → i < length a.edges → j < length a.edges → (get_or a.edges i d).from ≡ (get_or a.edges j d).from → (get_or a.edges i d).event ≡ (get_or a.edges j d).event → i ≡ j
  same_place i j d li lj from event = go (three i j)
    where
      three : (i j : ℕ) → (i < j) ⊎ ((i ≡ j) ⊎ (j < i))
      three i j = grind arith

      before : (e f : Edge) → e.from ≡ f.from → e.event ≡ f.event → EdgeIsBefore e f → ⊥
      before e f from event (inl lt) = absurd (omega arith)
      before e f from event (inr (same, lt)) = absurd (omega arith)

      go : (i < j) ⊎ ((i ≡ j) ⊎ (j < i)) → i ≡ j
      go (inl lt) = absurd (before (get_or a.edges i d) (get_or a.edges j d) from event (k.edges_ascend i j d lt lj))
      go (inr (inl same)) = same
      go (inr (inr lt)) = absurd (before (get_or a.edges j d) (get_or a.edges i d) (sym from) (sym event) (k.edges_ascend j i d lt li))

  -- the row of a state
  row-state : (q event : ℕ) → q < length a.states → entry (table_of a) (q + 1) (Event event) ≡ option_and_then (λ next. next) (slice_get (list_of (next_row a q) (length a.events)) event)
  row-state q event lq =
      ap (λ row. option_and_then (λ next. next) (slice_get row event))
      (rw (add-one q) (get_or-list_of (λ state. list_of (next_row a state) (length a.events)) (length a.states) q [] lq))

  -- the entry of a state's row
  entry-state : (q event : ℕ) → q < length a.states → event < length a.events → entry (table_of a) (q + 1) (Event event) ≡ next_row a q event
  entry-state q event lq le =
      let row = list_of (next_row a q) (length a.events) in
      let l : event < length row = rw (length-list_of (next_row a q) (length a.events)) le in
      let got : slice_get row event ≡ Some (next_row a q event) = slice_get-get_or row event None l ∙ ap Some (get_or-list_of (next_row a q) (length a.events) event None le) in
      row-state q event lq ∙ ap (option_and_then (λ next. next)) got

  -- an event by which a state's row has an entry is one of the automaton's
  entry-event : (q event next : ℕ) → q < length a.states → entry (table_of a) (q + 1) (Event event) ≡ Some next → event < length a.events
  entry-event q event next lq e = go (within event (length a.events))
    where
      within : (i n : ℕ) → (i < n) ⊎ (n ≤ i)
      within i n = grind arith

      go : (event < length a.events) ⊎ (length a.events ≤ event) → event < length a.events
      go (inl lt) = lt
      go (inr ge) =
          let past : length (list_of (next_row a q) (length a.events)) ≤ event = rw (length-list_of (next_row a q) (length a.events)) ge in
          let none : entry (table_of a) (q + 1) (Event event) ≡ None = row-state q event lq ∙ ap (option_and_then (λ next. next)) (slice_get_past (list_of (next_row a q) (length a.events)) event past) in
          let no : None ≡ Some next = sym none ∙ e in absurd cc

  -- where an edge leads from a state to another, the row of the one follows the row of the other
  edge-follows : (q : ℕ) (x : Letter) (s : ℕ) → HasEdge a q x s → Follows (table_of a) (q + 1) x (s + 1)
  edge-follows q (Atoms set) s h = absurd h
  edge-follows q (Event event) s (place, below, is) =
      let e : Edge = record { from = q; event = event; to = s } in
      let range = k.in_range place e below in
      let lq : q < length a.states = rw (← ap (λ (x : Edge). x.from) is) range.0 in
      let le : event < length a.events = rw (← ap (λ (x : Edge). x.event) is) range.1 in
      let itself : is_edge q event e ≡ true = let one : (q == q) ≡ true = grind arith in let two : (event == event) ≡ true = grind arith in rw (one, two) refl in
      let some = find-some (is_edge q event) a.edges place e below (rw is itself) in
      let found = find-found (is_edge q event) a.edges some.0 some.1 in
      let both = and_parts (some.0.from == q) (some.0.event == event) found.passes in
      let from : some.0.from ≡ q = let b = both.0 in grind arith in
      let at_event : some.0.event ≡ event = let b = both.1 in grind arith in
      let at : get_or a.edges found.place e ≡ some.0 = get_or_default a.edges found.place e some.0 found.below ∙ found.is in
      let same : place ≡ found.place = same_place place found.place e below found.below (ap (λ (x : Edge). x.from) is ∙ sym from ∙ sym (ap (λ (x : Edge). x.from) at)) (ap (λ (x : Edge). x.event) is ∙ sym at_event ∙ sym (ap (λ (x : Edge). x.event) at)) in
      let to : some.0.to ≡ s = ap (λ (x : Edge). x.to) (sym at ∙ ap (λ n. get_or a.edges n e) (sym same) ∙ is) in
      is_next-some (entry (table_of a) (q + 1) (Event event)) (s + 1) (entry-state q event lq le ∙ ap (option_map (λ edge. edge.to + 1)) some.1 ∙ ap (λ n. Some (n + 1)) to)

  -- the row is that of a state to which an edge leads by the letter
  pub record Edged (q : ℕ) (x : Letter) (row : ℕ) : Type 0 where
    pub to : ℕ
    pub row_is : row ≡ to + 1
    pub edge : HasEdge a q x to
    pub below : to < length a.states

  -- a row that follows the row of a state does so by such an edge
  follows-edge : (q : ℕ) (x : Letter) (row : ℕ) → q < length a.states → Follows (table_of a) (q + 1) x row → Edged q x row
  follows-edge q (Atoms set) row lq f = cc
  follows-edge q (Event event) row lq g =
      let f = is_next-true (entry (table_of a) (q + 1) (Event event)) row g in
      let le = entry-event q event row lq f in
      let mapped = map-some (λ edge. edge.to + 1) (find (is_edge q event) a.edges) row (sym (entry-state q event lq le) ∙ f) in
      let found = find-found (is_edge q event) a.edges mapped.0 mapped.1 in
      let both = and_parts (mapped.0.from == q) (mapped.0.event == event) found.passes in
      let from : mapped.0.from ≡ q = let b = both.0 in grind arith in
      let at_event : mapped.0.event ≡ event = let b = both.1 in grind arith in
      let e : Edge = record { from = q; event = event; to = mapped.0.to } in
      let is : mapped.0 ≡ e = λ i. record { from = from i; event = at_event i; to = mapped.0.to } in
      let at : get_or a.edges found.place e ≡ e = get_or_default a.edges found.place e mapped.0 found.below ∙ found.is ∙ is in
      let range = k.in_range found.place e found.below in
      let to : mapped.0.to < length a.states = rw (← ap (λ (x : Edge). x.to) at) range.2 in
      record { to = mapped.0.to; row_is = sym mapped.2; edge = (found.place, found.below, at); below = to }

  -- ---- paths
  rows-of-states : (q : ℕ) (path : List ℕ) (word : List Letter) → IsPath (HasEdge a) q path word → (rows : List ℕ) × IsPath (Follows (table_of a)) (q + 1) rows word
  rows-of-states q [] [] p = ([], tt)
  rows-of-states q [] (x ∷ word) p = absurd p
  rows-of-states q (to ∷ path) [] p = absurd p
  rows-of-states q (to ∷ path) (x ∷ word) p = let r = rows-of-states to path word p.1 in ((to + 1) ∷ r.0, (edge-follows q x to p.0, r.1))

  -- a path of rows from the row of a state gives a path of states
  states-of-rows : (q : ℕ) (rows : List ℕ) (word : List Letter) → q < length a.states → IsPath (Follows (table_of a)) (q + 1) rows word → (path : List ℕ) × IsPath (HasEdge a) q path word
  states-of-rows q [] [] lq p = ([], tt)
  states-of-rows q [] (x ∷ word) lq p = absurd p
  states-of-rows q (row ∷ rows) [] lq p = absurd p
  states-of-rows q (row ∷ rows) (x ∷ word) lq p =
      let e = follows-edge q x row lq p.0 in
      let rest : IsPath (Follows (table_of a)) (e.to + 1) rows word = rw (← e.row_is) p.1 in
      let r = states-of-rows e.to rows word e.below rest in (e.to ∷ r.0, (e.edge, r.1))

  -- the table means the automaton, on the empty word too
  pub reach-good : (word : List Letter) (row : ℕ) → Reaches (table_of a) word row → Accepts a word
  reach-good word row (rows, p, e) = states-of-rows 0 rows word k.some_state p

  -- letters that the automaton accepts reach some row
  pub good-reach : (word : List Letter) → Accepts a word → (row : ℕ) × Reaches (table_of a) word row
  good-reach word (path, p) = let r = rows-of-states 0 path word p in (end_of 1 r.0, (r.0, r.1, refl))

  -- so the table of an automaton means it
  pub table_means : Means (table_of a) (Da a)
  table_means word some = (λ r. reach-good word r.0 r.1, good-reach word)

-- whoever judges by a table judges by what it means: no letter reaches the start row, and is good
pub judged_by_spec : (spec : Spec) (t : Table) (j : Judge) → Means t spec → JudgesByTable t j → JudgesBySpec spec t j
judged_by_spec spec t j means h = record { holds = λ letters. (good letters, held letters); reaches = h.reaches }
  where
    good : (letters : List Letter) → IsTrue (j.holds letters) → IsGood spec letters
    good [] holds = good_letters.empty spec
    good (x ∷ letters) holds = (means (x ∷ letters) (omega arith)).0 ((h.holds (x ∷ letters)).0 holds)

    held : (letters : List Letter) → IsGood spec letters → IsTrue (j.holds letters)
    held [] holds = (h.holds []).1 (first_row t, Reaches-start t)
    held (x ∷ letters) holds = (h.holds (x ∷ letters)).1 ((means (x ∷ letters) (omega arith)).1 holds)
