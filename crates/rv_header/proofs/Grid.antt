-- The arcs of all rows, cell by cell, are the automaton's edges in their order.
use Rattle.std.proofs.Common.{◌≡◌, ℕ, ◌+◌, ◌*◌, ◌<◌, ◌≤◌, Bool, true, false, List, [], ◌∷◌, ◌++◌, length, get_or, drop, Option, Some, None, refl, sym, ap, ◌∙◌, subst, arith}
use Rattle.std.specs.Prelude.{map, ◌&&◌, ◌==◌, nat_lt}
use Rattle.std.specs.List.{AllByRecursion, flat_map, enumerate_from}
use Rattle.std.proofs.lemmas.Bool.Decides.{nat_tests}
use Rattle.std.proofs.lemmas.List.{map-append}
use Rattle.rv_model.specs.declared.automaton.Edge.{Edge}
use Rattle.rv_dot.specs.Gathered.{Arc}
use Rattle.rv_dot.specs.Canonical.{arc_named}
use Rattle.rv_dot.proofs.MemberLaws.{AllLater}
use Rattle.rv_header.specs.HeaderText.{target_of}
use Rattle.rv_header.proofs.ListSteps.{cut_here}

-- the arc to a target, where there is one
abbrev pub arcs_to : List (List ℕ) → List ℕ → List ℕ → Option ℕ → List Arc
arcs_to states from event None = []
arcs_to states from event (Some to) = record { from = from; event = event; to = get_or states to [] } ∷ []

-- the number of an edge's cell
abbrev pub key : Edge → ℕ
key e = e.from * 64 + e.event

-- an edge of a later cell is not of this one
apart : (from event i j : ℕ) → i * 64 + j < from * 64 + event → (from == i && event == j) ≡ false
apart from event i j h = grind (arith, nat_tests)

-- no edge of a later cell is found
find_none : (i j : ℕ) (es : List Edge) → AllByRecursion (λ e. i * 64 + j < key e) es → target_of es i j ≡ None
find_none i j [] h = refl
find_none i j (e ∷ es) h = rw (apart e.from e.event i j h.0) (find_none i j es h.1)

-- the first edge is of this cell
found_here : (i j : ℕ) (e : Edge) (es : List Edge) → e.from ≡ i → e.event ≡ j → target_of (e ∷ es) i j ≡ Some e.to
found_here i j e es from event =
    let test : (e.from == i && e.event == j) ≡ true = grind (arith, nat_tests) in
    rw test refl

-- an edge of an earlier cell is passed over
passed : (i j : ℕ) (e : Edge) (es : List Edge) → key e < i * 64 + j → target_of (e ∷ es) i j ≡ target_of es i j
passed i j e es h = rw (behind e.from e.event h) refl
  where
    behind : (from event : ℕ) → from * 64 + event < i * 64 + j → (from == i && event == j) ≡ false
    behind from event k = grind (arith, nat_tests)

-- edges behind one of this cell have later ones
all_above_key : (i j high : ℕ) (es : List Edge) → i * 64 + j ≤ high → AllByRecursion (λ e. high < key e) es → AllByRecursion (λ e. i * 64 + j < key e) es
all_above_key i j high [] le h = tt
all_above_key i j high (e ∷ es) le h = (omega (arith, h.0), all_above_key i j high es le h.1)

-- all edges have later cells than one that is later
all_above : (low high : ℕ) (es : List Edge) → low < high → AllByRecursion (λ e. high < key e) es → AllByRecursion (λ e. low < key e) es
all_above low high [] lt h = tt
all_above low high (e ∷ es) lt h = (omega (arith, h.0), all_above low high es lt h.1)

-- what is above a number is at least the next
all_next : (i j : ℕ) (es : List Edge) → AllByRecursion (λ e. i * 64 + j < key e) es → AllByRecursion (λ e. i * 64 + (j + 1) ≤ key e) es
all_next i j [] h = tt
all_next i j (e ∷ es) h = (omega (arith, h.0), all_next i j es h.1)

-- what the cells from a number on find in the edges, they find in those that are left
pub record Left (edges : List Edge) (most from : ℕ) (left : List Edge) : Type 0 where
  pub seen : (i j : ℕ) → from ≤ i * 64 + j → target_of edges i j ≡ target_of left i j
  pub ascends : AllLater (λ e f. key e < key f) left
  pub low : AllByRecursion (λ e. from ≤ key e) left
  pub within : AllByRecursion (λ e. e.event < most) left

module _ (states events : List (List ℕ)) (edges : List Edge) (few : length events ≤ 64) where
  -- the arcs of the cells of a row, from one on
  abbrev pub cells_arcs : ℕ → ℕ → List (List ℕ) → List Arc
  cells_arcs i j evs = flat_map (λ (p : ℕ × List ℕ). arcs_to states (get_or states i []) p.1 (target_of edges i p.0)) (enumerate_from j evs)

  -- a row takes the edges that leave its state
  record Taken (i j : ℕ) (evs : List (List ℕ)) (left : List Edge) : Type 0 where
    taken : List Edge
    later : List Edge
    parts : left ≡ taken ++ later
    arcs : cells_arcs i j evs ≡ map (arc_named states events) taken
    rest : Left edges (length events) ((i + 1) * 64) later

  -- the edges that are left behind a row leave later states
  row_over : (i j : ℕ) (left : List Edge) → j ≡ length events → AllByRecursion (λ e. i * 64 + j ≤ key e) left → AllByRecursion (λ e. e.event < length events) left → AllByRecursion (λ e. (i + 1) * 64 ≤ key e) left
  row_over i j [] is low within = tt
  row_over i j (e ∷ left) is low within = (omega (arith, low.0, within.0), row_over i j left is low.1 within.1)

  -- the cell's event, and those behind it
  cut_event : (j : ℕ) (v : List ℕ) (evs : List (List ℕ)) → length (v ∷ evs) + j ≡ length events → v ∷ evs ≡ drop j events → (v ≡ get_or events j []) × (evs ≡ drop (j + 1) events)
  cut_event j v evs all is =
      let both : v ∷ evs ≡ get_or events j [] ∷ drop (j + 1) events = is ∙ cut_here events j [] (omega arith) in
      ((cc), (cc))

  -- the cells of a row take the edges that are theirs
  row : (i j : ℕ) (evs : List (List ℕ)) (left : List Edge) → length evs + j ≡ length events → evs ≡ drop j events → Left edges (length events) (i * 64 + j) left → Taken i j evs left
  row i j [] left all is h = record {
    taken = [];
    later = left;
    parts = refl;
    arcs = refl;
    rest = record { seen = λ k l at. h.seen k l (omega (arith, at)); ascends = h.ascends; low = row_over i j left (omega (arith, all)) h.low h.within; within = h.within };
  }
  row i j (v ∷ evs) [] all is h =
      let cut = cut_event j v evs all is in
      let next = row i (j + 1) evs [] (omega (arith, all)) cut.1 (record { seen = λ k l at. h.seen k l (omega (arith, at)); ascends = tt; low = tt; within = tt }) in
      record {
        taken = next.taken;
        later = next.later;
        parts = next.parts;
        arcs = ap (λ (o : Option ℕ). arcs_to states (get_or states i []) v o ++ cells_arcs i (j + 1) evs) (h.seen i j (omega arith)) ∙ next.arcs;
        rest = next.rest;
      }
  row i j (v ∷ evs) (e ∷ es) all is h = go (cut_event j v evs all is) (λ left g. row i (j + 1) evs left (omega (arith, all)) (cut_event j v evs all is).1 g) (nat_lt (i * 64 + j) (key e)) refl
    where
      go : (v ≡ get_or events j []) × (evs ≡ drop (j + 1) events) → ((left : List Edge) → Left edges (length events) (i * 64 + (j + 1)) left → Taken i (j + 1) evs left) → (t : Bool) → nat_lt (i * 64 + j) (key e) ≡ t → Taken i j (v ∷ evs) (e ∷ es)
      go cut more true t =
          let above : i * 64 + j < key e = grind (arith, nat_tests) in
          let later : AllByRecursion (λ f. i * 64 + j < key f) (e ∷ es) = (above, all_above (i * 64 + j) (key e) es above h.ascends.0) in
          let none : target_of edges i j ≡ None = h.seen i j (omega arith) ∙ find_none i j (e ∷ es) later in
          let next = more (e ∷ es) (record { seen = λ k l at. h.seen k l (omega (arith, at)); ascends = h.ascends; low = all_next i j (e ∷ es) later; within = h.within }) in
          record {
            taken = next.taken;
            later = next.later;
            parts = next.parts;
            arcs = ap (λ (o : Option ℕ). arcs_to states (get_or states i []) v o ++ cells_arcs i (j + 1) evs) none ∙ next.arcs;
            rest = next.rest;
          }
      go cut more false t =
          let below : key e ≤ i * 64 + j = grind (arith, nat_tests) in
          let from : e.from ≡ i = omega (arith, below, h.low.0, h.within.0, all) in
          let event : e.event ≡ j = omega (arith, below, h.low.0, h.within.0, all) in
          let found : target_of edges i j ≡ Some e.to = h.seen i j (omega arith) ∙ found_here i j e es from event in
          let later : AllByRecursion (λ f. i * 64 + j < key f) es = all_above_key i j (key e) es (omega (arith, from, event)) h.ascends.0 in
          let next = more es (record {
            seen = λ k l at. h.seen k l (omega (arith, at)) ∙ passed k l e es (omega (arith, at, below));
            ascends = h.ascends.1;
            low = all_next i j es later;
            within = h.within.1;
          }) in
          let arc : arcs_to states (get_or states i []) v (Some e.to) ≡ arc_named states events e ∷ [] =
          ap (λ (k : ℕ). arcs_to states (get_or states k []) v (Some e.to)) (sym from) ∙ ap (λ (w : List ℕ). arcs_to states (get_or states e.from []) w (Some e.to)) (cut.0 ∙ ap (λ (k : ℕ). get_or events k []) (sym event)) in
          record {
            taken = e ∷ next.taken;
            later = next.later;
            parts = ap (λ (fs : List Edge). e ∷ fs) next.parts;
            arcs = ap (λ (o : Option ℕ). arcs_to states (get_or states i []) v o ++ cells_arcs i (j + 1) evs) found ∙ ap (λ (a : List Arc). a ++ cells_arcs i (j + 1) evs) arc ∙ ap (λ (a : List Arc). arc_named states events e ∷ a) next.arcs;
            rest = next.rest;
          }

  -- the arcs of the rows, from one on
  abbrev pub all_arcs : ℕ → List (List ℕ) → List Arc
  all_arcs i names = flat_map (λ (p : ℕ × List ℕ). cells_arcs p.0 0 events) (enumerate_from i names)

  -- no edge is left behind the last row
  none_left : (i : ℕ) (left : List Edge) → i ≡ length states → AllByRecursion (λ e. i * 64 ≤ key e) left → AllByRecursion (λ e. e.from < length states) left → AllByRecursion (λ e. e.event < length events) left → left ≡ []
  none_left i [] is low from within = refl
  none_left i (e ∷ left) is low from within = absurd (omega (arith, low.0, from.0, within.0))

  -- what is left of edges has their facts
  all_behind : (P : Edge → Type 0) (front back : List Edge) → AllByRecursion P (front ++ back) → AllByRecursion P back
  all_behind P [] back h = h
  all_behind P (e ∷ front) back h = all_behind P front back h.1

  -- the rows take all edges
  pub rows : (i : ℕ) (names : List (List ℕ)) (left : List Edge) → length names + i ≡ length states → AllByRecursion (λ e. e.from < length states) left → Left edges (length events) (i * 64) left → all_arcs i names ≡ map (arc_named states events) left
  rows i [] left all from h = ap (map (arc_named states events)) (sym (none_left i left (omega (arith, all)) h.low from h.within))
  rows i (s ∷ names) left all from h =
      let h' : Left edges (length events) (i * 64 + 0) left = record { seen = λ k l at. h.seen k l (omega (arith, at)); ascends = h.ascends; low = same_low left h.low; within = h.within } in
      let one = row i 0 events left (omega arith) refl h' in
      let others = rows (i + 1) names one.later (omega (arith, all)) (all_behind (λ e. e.from < length states) one.taken one.later (subst (λ (fs : List Edge). AllByRecursion (λ e. e.from < length states) fs) one.parts from)) one.rest in
      ap (λ (a : List Arc). a ++ all_arcs (i + 1) names) one.arcs ∙ ap (λ (a : List Arc). map (arc_named states events) one.taken ++ a) others
      ∙ sym (map-append (arc_named states events) one.taken one.later) ∙ ap (map (arc_named states events)) (sym one.parts)
    where
      same_low : (es : List Edge) → AllByRecursion (λ e. i * 64 ≤ key e) es → AllByRecursion (λ e. i * 64 + 0 ≤ key e) es
      same_low [] p = tt
      same_low (e ∷ es) p = (omega (arith, p.0), same_low es p.1)
