-- A header's text gives its name and its automaton.
use Rattle.std.proofs.Common.{◌≡◌, ℕ, ◌*◌, ◌<◌, ◌≤◌, true, false, List, [], ◌∷◌, ◌++◌, length, get_or, drop, Some, refl, sym, ap, ◌∙◌, arith}
use Rattle.std.specs.Prelude.{map, codes, slice_index_or}
use Rattle.std.specs.List.{AllByRecursion, flat_map, enumerate_from}
use Rattle.std.proofs.lemmas.List.Folds.{flat_map-map}
use Rattle.rv_model.specs.declared.automaton.Edge.{Edge}
use Rattle.rv_model.specs.Machine.{Machine}
use Rattle.rv_model.specs.WellFormed.{IsAutomaton}
use Rattle.rv_dot.specs.Members.{IsMember}
use Rattle.rv_dot.specs.Canonical.{quoted, states_marked, arc_named, dot_text}
use Rattle.rv_dot.proofs.MemberLaws.{all_member}
use Rattle.rv_dot.proofs.SetOrder.{all_from_members}
use Rattle.rv_dot.proofs.MachineLaws.{edges_later}
use Rattle.rv_header.specs.Naming.{is_header_name, has_no_tables}
use Rattle.rv_header.specs.HeaderText.{tagged, enumerators, enum_text, struct_text, list_text, cells, row_text, function_text, marks, declarations, tables, header_text}
use Rattle.rv_header.specs.inner.Taking.{pieces, piece_from, quoted_in, members_in, rows_arcs, marked_by, name_in, state_names_in, events_in, rows_in, marks_in, are_few, file_in}
use Rattle.rv_header.proofs.Cuts.{lacks, simple, cut, both_lack, all_lack, simple_lacks, and_then, dotless}
use Rattle.rv_header.proofs.Listed.{quoted_back}
use Rattle.rv_header.proofs.RowsBack.{rows_back}
use Rattle.rv_header.proofs.Grid.{key, Left, rows}
use Rattle.rv_header.proofs.CellsBack.{written_back}
use Rattle.rv_header.proofs.NamesBack.{name_simple, states_simple, events_simple, states_few, events_few}
use Rattle.rv_header.proofs.MarksBack.{marks_simple, marks_back}
use Rattle.rv_header.proofs.TextBack.{apart_name, apart_tables, six, list_lacks, quoted_lack, all_simple_lack, at_simple, marks_taken, tag_lacks, rows_are, rows_lack, enum_lacks, with_most}
use Rattle.rv_header.proofs.DrawingLemmas.{as_many, keys_ascend, same_drawing}

module _ (name : List ℕ) (a : Machine) (named : is_header_name name ≡ true) (formed : IsAutomaton a) (fit : has_no_tables a ≡ false) where
  -- the names are simple
  plain : simple name ≡ true
  plain = name_simple name named

  -- the states have simple names
  states : AllByRecursion (λ n. simple n ≡ true) a.states
  states = states_simple a formed fit

  -- the events have simple names
  events : AllByRecursion (λ n. simple n ≡ true) a.events
  events = events_simple a formed

  -- the marks of the states are simple
  marked : AllByRecursion (λ n. simple n ≡ true) (marks a)
  marked = marks_simple (states_marked a.marked a.states)

  -- the name behind `automaton`
  abbrev tag : List ℕ
  tag = tagged name (codes "automaton")

  -- the pieces of the text
  abbrev all_pieces : List (List ℕ)
  all_pieces =
      (declarations name a ++ (codes "static const struct " ++ tag ++ codes " " ++ tag ++ codes " = {\n\t"))
      ∷ (codes "state_names = " ++ list_text (map quoted a.states) ++ codes ",\n\t")
      ∷ (codes "event_names = " ++ list_text (map quoted a.events) ++ codes ",\n\t")
      ∷ (codes "function = {\n" ++ (function_text name a ++ codes "\t},\n\t"))
      ∷ (codes "initial_state = " ++ tagged name (slice_index_or a.states 0 []) ++ codes ",\n\t")
      ∷ (codes "final_states = " ++ list_text (marks a) ++ codes ",\n};\n")
      ∷ []

  -- a C name lacks a dot
  tags : (text : List ℕ) → simple text ≡ true → lacks 46 (tagged name text) ≡ true
  tags text h = tag_lacks name a plain states events marked text h

  -- the struct lacks a dot
  struct_lacks : lacks 46 (struct_text name) ≡ true
  struct_lacks =
      let max : lacks 46 (tagged name (codes "state_max")) ≡ true = tags (codes "state_max") refl in
      let most : lacks 46 (tagged name (codes "event_max")) ≡ true = tags (codes "event_max") refl in
      let states_max : List ℕ = tagged name (codes "state_max") in
      let events_max : List ℕ = tagged name (codes "event_max") in
      (and_then (codes "];\n};\n") refl
      (and_then states_max max (and_then (codes "];\n\tunsigned char initial_state;\n\tbool final_states[") refl
      (and_then events_max most (and_then (codes "][") refl
      (and_then states_max max (and_then (codes "];\n\tunsigned char function[") refl
      (and_then events_max most (and_then (codes "];\n\tchar *event_names[") refl
      (and_then states_max max (and_then (codes " {\n\tchar *state_names[") refl
      (and_then tag (tags (codes "automaton") refl) (dotless (codes "struct ") refl))))))))))))).none

  -- the declarations too
  declarations_lack : lacks 46 (declarations name a) ≡ true
  declarations_lack =
      let first : List ℕ = enum_text name (codes "states") (a.states ++ codes "state_max" ∷ []) in
      let second : List ℕ = enum_text name (codes "events") (a.events ++ codes "event_max" ∷ []) in
      let lacked : (kind most : List ℕ) (xs : List (List ℕ)) → simple kind ≡ true → simple most ≡ true → AllByRecursion (λ n. simple n ≡ true) xs → lacks 46 (enum_text name kind (xs ++ most ∷ [])) ≡ true =
      λ kind most xs k m all. enum_lacks name a plain states events marked kind (xs ++ most ∷ []) k (with_most name a plain states events marked most xs m all) in
      (and_then (struct_text name) struct_lacks
      (and_then second (lacked (codes "events") (codes "event_max") a.events refl refl events)
      (and_then (codes "\n") refl
      (and_then (tagged name (codes "state_max")) (tags (codes "state_max") refl)
      (and_then (codes "#define INVALID_STATE ") refl (dotless first (lacked (codes "states") (codes "state_max") a.states refl refl states))))))).none

  -- the text is cut into its pieces
  cut_back : pieces 46 (header_text name a) ≡ all_pieces
  unfolding header_text
  cut_back =
      ap (pieces 46) (apart_tables (declarations name a) tag (list_text (map quoted a.states)) (list_text (map quoted a.events)) (function_text name a) (tagged name (slice_index_or a.states 0 [])) (list_text (marks a)))
      ∙ six
      (both_lack 46 (declarations name a) (codes "static const struct " ++ tag ++ codes " " ++ tag ++ codes " = {\n\t") declarations_lack
      (and_then (codes " = {\n\t") refl (and_then tag (tags (codes "automaton") refl) (and_then (codes " ") refl (and_then tag (tags (codes "automaton") refl) (dotless (codes "static const struct ") refl))))).none)
      (both_lack 46 (codes "state_names = " ++ list_text (map quoted a.states)) (codes ",\n\t") (list_lacks (map quoted a.states) (quoted_lack a.states states)) refl)
      (both_lack 46 (codes "event_names = " ++ list_text (map quoted a.events)) (codes ",\n\t") (list_lacks (map quoted a.events) (quoted_lack a.events events)) refl)
      (both_lack 46 (function_text name a) (codes "\t},\n\t") (all_lack 46 (λ (state : ℕ × List ℕ). row_text (cells name a state.0)) (enumerate_from 0 a.states) (rows_lack name a plain states events marked 0 a.states)) refl)
      (both_lack 46 (tagged name (slice_index_or a.states 0 [])) (codes ",\n\t") (tags (slice_index_or a.states 0 []) (at_simple a.states 0 states)) refl)
      (both_lack 46 (list_text (marks a)) (codes ",\n};\n") (list_lacks (marks a) (all_simple_lack (marks a) marked)) refl)

  -- one piece of the text
  piece_from_at : (place : ℕ) → piece_from 46 place (header_text name a) ≡ get_or all_pieces place []
  unfolding piece_from
  piece_from_at place = ap (λ (ps : List (List ℕ)). get_or ps place []) cut_back

  -- the name
  pub name_back : name_in (header_text name a) ≡ name
  unfolding header_text piece_from
  name_back =
      let members : List ℕ = enumerators name (a.states ++ codes "state_max" ∷ []) in
      let second : List ℕ = enum_text name (codes "events") (a.events ++ codes "event_max" ∷ []) in
      let rest : List ℕ = codes "{\n\t" ++ (members ++ (codes "\n};\n" ++ (codes "#define INVALID_STATE " ++ (tagged name (codes "state_max") ++ (codes "\n" ++ (second ++ (struct_text name ++ tables name a))))))) in
      let word : List ℕ = codes "states_" ++ name in
      let cuts : pieces 32 (codes "enum" ++ 32 ∷ (word ++ 32 ∷ rest)) ≡ codes "enum" ∷ word ∷ pieces 32 rest =
      cut 32 (codes "enum") (word ++ 32 ∷ rest) refl ∙ ap (λ (ps : List (List ℕ)). codes "enum" ∷ ps) (cut 32 word rest (simple_lacks 32 refl name plain)) in
      ap (λ (t : List ℕ). drop 7 (get_or (pieces 32 t) 1 [])) (apart_name name members (codes "#define INVALID_STATE ") (tagged name (codes "state_max")) (codes "\n") second (struct_text name) (tables name a))
      ∙ ap (λ (ps : List (List ℕ)). drop 7 (get_or ps 1 [])) cuts

  -- the states
  states_back : state_names_in (header_text name a) ≡ a.states
  states_back = ap quoted_in (piece_from_at 1) ∙ quoted_back (codes "state_names = ") (codes ",\n\t") a.states refl refl states

  -- the events
  events_back : events_in (header_text name a) ≡ a.events
  events_back = ap quoted_in (piece_from_at 2) ∙ quoted_back (codes "event_names = ") (codes ",\n\t") a.events refl refl events

  -- the states and their marks
  marked_back : marked_by (state_names_in (header_text name a)) (marks_in (header_text name a)) ≡ states_marked a.marked a.states
  marked_back =
      let some : 0 < length (marks a) = omega (arith, as_many a.marked a.states, formed.some_state) in
      let found = marks_taken (marks a) some marked in
      ap (λ (ss : List (List ℕ)). marked_by ss (marks_in (header_text name a))) states_back
      ∙ ap (λ (t : List ℕ). marked_by a.states (members_in (piece_from 123 1 t))) (piece_from_at 5)
      ∙ ap (marked_by a.states) found.1 ∙ marks_back a.marked a.states found.0

  -- the rows
  abbrev all_rows : List (List (List ℕ))
  all_rows = map (λ (state : ℕ × List ℕ). cells name a state.0) (enumerate_from 0 a.states)

  -- what is taken as rows are the pieces of the rows' texts behind their opening braces
  rows_taken : rows_in (header_text name a) ≡ drop 1 (pieces 123 (codes "\n" ++ (flat_map row_text all_rows ++ codes "\t},\n\t")))
  rows_taken =
      let rest : List ℕ = codes "\n" ++ (function_text name a ++ codes "\t},\n\t") in
      let cuts : pieces 123 (codes "function = {\n" ++ (function_text name a ++ codes "\t},\n\t")) ≡ codes "function = " ∷ pieces 123 rest = cut 123 (codes "function = ") rest refl in
      ap (λ (t : List ℕ). drop 2 (pieces 123 t)) (piece_from_at 3) ∙ ap (drop 2) cuts
      ∙ ap (λ (t : List ℕ). drop 1 (pieces 123 (codes "\n" ++ (t ++ codes "\t},\n\t")))) (sym (flat_map-map row_text (λ (state : ℕ × List ℕ). cells name a state.0) (enumerate_from 0 a.states)))

  -- the edges, as the cells find them
  all_left : Left a.edges (length a.events) (0 * 64) a.edges
  all_left = record {
    seen = λ i j at. refl;
    ascends = keys_ascend a.edges (all_from_members (λ e. e.event < 64) a.edges (λ e m. omega (arith, (range e m).1, formed.few_events))) (edges_later a formed);
    low = all_from_members (λ e. 0 * 64 ≤ key e) a.edges (λ e m. omega arith);
    within = all_from_members (λ e. e.event < length a.events) a.edges (λ e m. (range e m).1);
  }
    where
      range : (e : Edge) → IsMember e a.edges → (e.from < length a.states) × (e.event < length a.events) × (e.to < length a.states)
      range e m = all_member (λ (x : Edge). (x.from < length a.states) × (x.event < length a.events) × (x.to < length a.states)) a.edges e formed.in_range m

  -- the arcs
  arcs_back : rows_arcs (name_in (header_text name a)) (events_in (header_text name a)) (state_names_in (header_text name a)) (rows_in (header_text name a)) ≡ map (arc_named a.states a.events) a.edges
  arcs_back =
      ap (λ (n : List ℕ). rows_arcs n (events_in (header_text name a)) (state_names_in (header_text name a)) (rows_in (header_text name a))) name_back
      ∙ ap (λ (es : List (List ℕ)). rows_arcs name es (state_names_in (header_text name a)) (rows_in (header_text name a))) events_back
      ∙ ap (λ (ss : List (List ℕ)). rows_arcs name a.events ss (rows_in (header_text name a))) states_back
      ∙ ap (rows_arcs name a.events a.states) rows_taken
      ∙ rows_back name a.events a.states (codes "\n") all_rows (codes "\t},\n\t") refl refl (rows_are name a plain states events marked 0 a.states)
      ∙ written_back name a formed.few_events named 0 a.states (omega arith) refl
      ∙ rows a.states a.events a.edges formed.few_events 0 a.states a.edges (omega arith)
      (all_from_members (λ e. e.from < length a.states) a.edges (λ e m. (all_member (λ (x : Edge). (x.from < length a.states) × (x.event < length a.events) × (x.to < length a.states)) a.edges e formed.in_range m).0)) all_left

  -- the text of the automaton file
  pub file_back : file_in (header_text name a) ≡ Some (dot_text a)
  unfolding file_in dot_text
  file_back =
      let few_states : are_few 31 (state_names_in (header_text name a)) ≡ true = ap (are_few 31) states_back ∙ states_few a formed in
      let few_events : are_few 64 (events_in (header_text name a)) ≡ true = ap (are_few 64) events_back ∙ events_few a formed in
      rw (few_states, few_events) (ap Some (same_drawing _ (slice_index_or a.states 0 []) _ (states_marked a.marked a.states) _ (map (arc_named a.states a.events) a.edges) (ap (λ (ss : List (List ℕ)). slice_index_or ss 0 []) states_back) marked_back arcs_back))
