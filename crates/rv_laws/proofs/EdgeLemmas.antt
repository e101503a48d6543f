-- The paths of states of an automaton, and the rows of its table that they lead through.
use Rattle.std.proofs.Common.{◌≡◌, ℕ, ◌+◌, ◌<◌, ◌==◌, ◌&&◌, Bool, true, false, ◌⊎◌, inl, inr, List, [], ◌∷◌, length, get_or, Option, Some, None, arith, refl, sym, ap, ◌∙◌, subst, add-one}
use Rattle.std.proofs.lemmas.Option.{slice_get-get_or}
use Rattle.std.proofs.lemmas.List.{get_or_default}
use Rattle.std.specs.Prelude.{option_map, option_and_then, slice_get}
use Rattle.rv_model.specs.declared.automaton.Edge.{Edge}
use Rattle.rv_model.specs.declared.hit.Letter.{Letter}
use Rattle.rv_model.specs.declared.hit.Letter.TheVariants.{Event, Atoms}
use Rattle.rv_model.specs.Language.{IsPath, HasEdge}
use Rattle.rv_model.specs.Machine.{Machine}
use Rattle.rv_model.specs.Numbers.{list_of}
use Rattle.rv_model.specs.Table.{Follows, end_of, next_row, table_of}
use Rattle.rv_model.specs.WellFormed.{IsAutomaton, EdgeIsBefore}
use Rattle.rv_model.specs.inner.EventTables.{entry}
use Rattle.rv_model.proofs.FoundLemmas.{find-found, find-some, get_or-list_of, length-list_of}
use Rattle.rv_model.proofs.MeansLemmas.{is_next-some, is_next-true}

-- the edge leaves this state by this event
abbrev is_edge : ℕ → ℕ → Edge → Bool
is_edge q event e = e.from == q && e.event == event

-- where two tests pass together, each of them passes
and_parts : (a b : Bool) → (a && b) ≡ true → (a ≡ true) × (b ≡ true)
and_parts true b e = (refl, e)
and_parts false b e = cc

-- a value is one value at most
same_value : (o : Option ℕ) (m n : ℕ) → o ≡ Some m → o ≡ Some n → m ≡ n
same_value o m n e f = let both : Some m ≡ Some n = sym e ∙ f in cc

module _ (a : Machine) (k : IsAutomaton a) where
  -- of two edges of one state and event neither stands before the other
  not_before : (e f : Edge) → e.from ≡ f.from → e.event ≡ f.event → ¬ EdgeIsBefore e f
  not_before e f from event (inl lt) = absurd (omega arith)
  not_before e f from event (inr (same, lt)) = absurd (omega arith)

  -- so they stand at one place
  one_place : (i j : ℕ) (d : Edge) → i < length a.edges → j < length a.edges → (get_or a.edges i d).from ≡ (get_or a.edges j d).from → (get_or a.edges i d).event ≡ (get_or a.edges j d).event → i ≡ j
  one_place i j d li lj from event = go (three i j)
    where
      three : (i j : ℕ) → (i < j) ⊎ ((i ≡ j) ⊎ (j < i))
      three i j = grind arith

      go : (i < j) ⊎ ((i ≡ j) ⊎ (j < i)) → i ≡ j
      go (inl lt) = absurd (not_before (get_or a.edges i d) (get_or a.edges j d) from event (k.edges_ascend i j d lt lj))
      go (inr (inl same)) = same
      go (inr (inr lt)) = absurd (not_before (get_or a.edges j d) (get_or a.edges i d) (sym from) (sym event) (k.edges_ascend j i d lt li))

  -- a state has one edge at most by a letter
  one_edge : (q : ℕ) (x : Letter) (s t : ℕ) → HasEdge a q x s → HasEdge a q x t → s ≡ t
  one_edge q (Atoms set) s t h g = absurd h
  one_edge q (Event event) s t (i, li, is) (j, lj, js) =
      let d : Edge = record { from = q; event = event; to = s } in
      let f : Edge = record { from = q; event = event; to = t } in
      let at : get_or a.edges j d ≡ f = get_or_default a.edges j d f lj ∙ js in
      let same : i ≡ j = one_place i j d li lj (ap (λ (e : Edge). e.from) is ∙ sym (ap (λ (e : Edge). e.from) at)) (ap (λ (e : Edge). e.event) is ∙ sym (ap (λ (e : Edge). e.event) at)) in
      ap (λ (e : Edge). e.to) (sym is ∙ ap (λ n. get_or a.edges n d) same ∙ at)

  -- an edge leads to a state
  edge_below : (q : ℕ) (x : Letter) (s : ℕ) → HasEdge a q x s → s < length a.states
  edge_below q (Atoms set) s h = absurd h
  edge_below q (Event event) s (i, li, is) =
      let range = k.in_range i (record { from = q; event = event; to = s }) li in rw (← ap (λ (e : Edge). e.to) is) range.2

  -- the next row of a state is that of the state to which its edge leads
  edge_next : (q event s : ℕ) → HasEdge a q (Event event) s → next_row a q event ≡ Some (s + 1)
  edge_next q event s (place, below, is) =
      let e : Edge = record { from = q; event = event; to = s } in
      let itself : is_edge q event e ≡ true = let one : (q == q) ≡ true = grind arith in let two : (event == event) ≡ true = grind arith in rw (one, two) refl in
      let some = find-some (is_edge q event) a.edges place e below (rw is itself) in
      let found = find-found (is_edge q event) a.edges some.0 some.1 in
      let both = and_parts (some.0.from == q) (some.0.event == event) found.passes in
      let from : some.0.from ≡ q = let b = both.0 in grind arith in
      let at_event : some.0.event ≡ event = let b = both.1 in grind arith in
      let is_found : some.0 ≡ record { from = q; event = event; to = some.0.to } = λ i. record { from = from i; event = at_event i; to = some.0.to } in
      let edge : HasEdge a q (Event event) some.0.to = (found.place, found.below, get_or_default a.edges found.place (record { from = q; event = event; to = some.0.to }) some.0 found.below ∙ found.is ∙ is_found) in
      ap (option_map (λ edge. edge.to + 1)) some.1 ∙ ap (λ n. Some (n + 1)) (one_edge q (Event event) some.0.to s edge (place, below, is))

  -- the entry of a state's row
  entry_next : (q event : ℕ) → q < length a.states → event < length a.events → entry (table_of a) (q + 1) (Event event) ≡ next_row a q event
  entry_next q event lq le =
      let row = list_of (next_row a q) (length a.events) in
      let l : event < length row = rw (length-list_of (next_row a q) (length a.events)) le in
      let got : slice_get row event ≡ Some (next_row a q event) = slice_get-get_or row event None l ∙ ap Some (get_or-list_of (next_row a q) (length a.events) event None le) in
      ap (λ row. option_and_then (λ next. next) (slice_get row event)) (rw (add-one q) (get_or-list_of (λ state. list_of (next_row a state) (length a.events)) (length a.states) q [] lq))
      ∙ ap (option_and_then (λ next. next)) got

  -- the row of the one state follows the row of the other, where an edge does
  edge_follows : (q : ℕ) (x : Letter) (s : ℕ) → HasEdge a q x s → Follows (table_of a) (q + 1) x (s + 1)
  edge_follows q (Atoms set) s h = absurd h
  edge_follows q (Event event) s (place, below, is) =
      let range = k.in_range place (record { from = q; event = event; to = s }) below in
      let lq : q < length a.states = rw (← ap (λ (e : Edge). e.from) is) range.0 in
      let le : event < length a.events = rw (← ap (λ (e : Edge). e.event) is) range.1 in
      is_next-some (entry (table_of a) (q + 1) (Event event)) (s + 1) (entry_next q event lq le ∙ edge_next q event s (place, below, is))

  -- a row is followed by one row at most by a letter
  one_follows : (row : ℕ) (x : Letter) (m n : ℕ) → Follows (table_of a) row x m → Follows (table_of a) row x n → m ≡ n
  one_follows row x m n f g = same_value (entry (table_of a) row x) m n (is_next-true (entry (table_of a) row x) m f) (is_next-true (entry (table_of a) row x) n g)

  -- letters lead along one path of states
  pub one_path : (q : ℕ) (path other : List ℕ) (word : List Letter) → IsPath (HasEdge a) q path word → IsPath (HasEdge a) q other word → other ≡ path
  one_path q [] [] [] p o = refl
  one_path q [] (s ∷ other) [] p o = absurd o
  one_path q [] other (x ∷ word) p o = absurd p
  one_path q (to ∷ path) other [] p o = absurd p
  one_path q (to ∷ path) [] (x ∷ word) p o = absurd o
  one_path q (to ∷ path) (s ∷ other) (x ∷ word) p o =
      let same : s ≡ to = one_edge q x s to o.0 p.0 in
      let rest : IsPath (HasEdge a) to other word = subst (λ n. IsPath (HasEdge a) n other word) same o.1 in
      λ i. same i ∷ one_path to path other word p.1 rest i

  -- a path ends in a state
  pub path_below : (q : ℕ) (path : List ℕ) (word : List Letter) → q < length a.states → IsPath (HasEdge a) q path word → end_of q path < length a.states
  path_below q [] word lq p = lq
  path_below q (to ∷ path) [] lq p = absurd p
  path_below q (to ∷ path) (x ∷ word) lq p = path_below to path word (edge_below q x to p.0) p.1

  -- the rows of a path of states are a path of rows
  pub rows_of_path : (q : ℕ) (path : List ℕ) (word : List Letter) → IsPath (HasEdge a) q path word → (rows : List ℕ) × IsPath (Follows (table_of a)) (q + 1) rows word × (end_of (q + 1) rows ≡ end_of q path + 1)
  rows_of_path q [] [] p = ([], tt, refl)
  rows_of_path q [] (x ∷ word) p = absurd p
  rows_of_path q (to ∷ path) [] p = absurd p
  rows_of_path q (to ∷ path) (x ∷ word) p =
      let r = rows_of_path to path word p.1 in ((to + 1) ∷ r.0, (edge_follows q x to p.0, r.1), r.2)

  -- two paths of rows by the same letters end in one row
  pub one_end : (row : ℕ) (rows other : List ℕ) (word : List Letter) → IsPath (Follows (table_of a)) row rows word → IsPath (Follows (table_of a)) row other word → end_of row other ≡ end_of row rows
  one_end row [] [] [] p o = refl
  one_end row [] (s ∷ other) [] p o = absurd o
  one_end row [] other (x ∷ word) p o = absurd p
  one_end row (to ∷ rows) other [] p o = absurd p
  one_end row (to ∷ rows) [] (x ∷ word) p o = absurd o
  one_end row (to ∷ rows) (s ∷ other) (x ∷ word) p o =
      let same : s ≡ to = one_follows row x s to o.0 p.0 in
      let rest : IsPath (Follows (table_of a)) to other word = subst (λ n. IsPath (Follows (table_of a)) n other word) same o.1 in
      ap (λ n. end_of n other) same ∙ one_end to rows other word p.1 rest
