-- The arc that is taken from a cell is the one that it was written for.
use Rattle.std.proofs.Common.{◌≡◌, ℕ, ◌+◌, ◌-◌, ◌≤◌, Bool, true, false, List, [], ◌∷◌, ◌++◌, length, get_or, take, drop, Option, Some, None, refl, sym, ap, ◌∙◌, arith, append_assoc, length-append}
use Rattle.std.specs.Prelude.{map, codes}
use Rattle.std.specs.List.{flat_map, zip, list_all, enumerate_from}
use Rattle.std.specs.Str.{bytes_eq}
use Rattle.std.proofs.Math.Seq.{take-append_seam}
use Rattle.rv_model.specs.Machine.{Machine}
use Rattle.rv_dot.specs.Gathered.{Arc}
use Rattle.rv_dot.proofs.MemberLaws.{and_true}
use Rattle.rv_dot.proofs.StandsLaws.{name_same}
use Rattle.rv_header.specs.Naming.{is_header_byte, is_header_name}
use Rattle.rv_header.specs.HeaderText.{tagged, target_of, cell_text, cells}
use Rattle.rv_header.specs.inner.Taking.{untagged, cell_arcs, row_arcs}
use Rattle.rv_header.proofs.ListSteps.{cut_here}
use Rattle.rv_header.proofs.Grid.{arcs_to, cells_arcs, all_arcs}

-- the last byte
abbrev last_byte : List ℕ → ℕ
last_byte [] = 0
last_byte (b ∷ []) = b
last_byte (b ∷ c ∷ text) = last_byte (c ∷ text)

-- the last byte of a text behind another
last_behind : (x : List ℕ) (b : ℕ) (text : List ℕ) → last_byte (x ++ b ∷ text) ≡ last_byte (b ∷ text)
last_behind [] b text = refl
last_behind (a ∷ []) b text = refl
last_behind (a ∷ c ∷ x) b text = last_behind (c ∷ x) b text

-- the last byte of a header's name
last_of_name : (b : ℕ) (name : List ℕ) → list_all is_header_byte (b ∷ name) ≡ true → is_header_byte (last_byte (b ∷ name)) ≡ true
last_of_name b [] h = (and_true (is_header_byte b) true h).0
last_of_name b (c ∷ name) h = last_of_name c name (and_true (is_header_byte b) (list_all is_header_byte (c ∷ name)) h).1

-- a C name of a header is no word that ends with a capital letter
not_invalid : (name text : List ℕ) → is_header_name name ≡ true → bytes_eq (tagged name text) (codes "INVALID_STATE") ≡ false
not_invalid [] text h = let apart : false ≡ true = h in absurd (cc)
not_invalid (b ∷ name) text h = go (bytes_eq (tagged (b ∷ name) text) (codes "INVALID_STATE")) refl
  where
    go : (t : Bool) → bytes_eq (tagged (b ∷ name) text) (codes "INVALID_STATE") ≡ t → t ≡ false
    go false e = refl
    go true e =
        let equal : tagged (b ∷ name) text ≡ codes "INVALID_STATE" = name_same (tagged (b ∷ name) text) (codes "INVALID_STATE") e in
        let bytes : list_all is_header_byte (b ∷ name) ≡ true = (and_true _ (list_all is_header_byte (b ∷ name)) h).1 in
        let last : last_byte (b ∷ name) ≡ 69 = sym (last_behind (text ++ codes "_") b name) ∙ ap last_byte equal in
        let apart : true ≡ false = sym (last_of_name b name bytes) ∙ ap is_header_byte last in
        absurd (cc)

-- a C name without the header's name
untagged_back : (name text : List ℕ) → untagged name (tagged name text) ≡ text
untagged_back name text =
    let front : length (text ++ codes "_") ≡ length text + 1 = length-append text (codes "_") in
    let size : length (tagged name text) - (length name + 1) ≡ length text = omega (arith, front, length-append (text ++ codes "_") name) in
    ap (λ (k : ℕ). take k (tagged name text)) size ∙ ap (take (length text)) (append_assoc text (codes "_") name) ∙ take-append_seam text (codes "_" ++ name)

-- the arc of a written cell
cell_back : (name : List ℕ) (states : List (List ℕ)) (from event : List ℕ) (target : Option ℕ) → is_header_name name ≡ true → cell_arcs name from event (cell_text name states target) ≡ arcs_to states from event target
cell_back name states from event None h = refl
cell_back name states from event (Some to) h =
    let text : List ℕ = get_or states to [] in
    rw (not_invalid name text h) (ap (λ (t : List ℕ). record { from = from; event = event; to = t } ∷ []) (untagged_back name text))

module _ (name : List ℕ) (a : Machine) (few : length a.events ≤ 64) (named : is_header_name name ≡ true) where
  -- the arcs of written cells
  cells_back : (i j : ℕ) (evs : List (List ℕ)) → row_arcs name evs (get_or a.states i []) (map (λ (event : ℕ × List ℕ). cell_text name a.states (target_of a.edges i event.0)) (enumerate_from j evs)) ≡ cells_arcs a.states a.events a.edges few i j evs
  cells_back i j [] = refl
  cells_back i j (v ∷ evs) =
      ap (λ (as' : List Arc). as' ++ row_arcs name evs (get_or a.states i []) (map (λ (event : ℕ × List ℕ). cell_text name a.states (target_of a.edges i event.0)) (enumerate_from (j + 1) evs)))
      (cell_back name a.states (get_or a.states i []) v (target_of a.edges i j) named)
      ∙ ap (λ (as' : List Arc). arcs_to a.states (get_or a.states i []) v (target_of a.edges i j) ++ as') (cells_back i (j + 1) evs)

  -- the arcs of written rows
  pub written_back : (i : ℕ) (names : List (List ℕ)) → length names + i ≡ length a.states → names ≡ drop i a.states
      → flat_map (λ (p : List ℕ × List (List ℕ)). row_arcs name a.events p.0 p.1) (zip names (map (λ (state : ℕ × List ℕ). cells name a state.0) (enumerate_from i names))) ≡ all_arcs a.states a.events a.edges few i names
  written_back i [] all is = refl
  written_back i (s ∷ names) all is =
      let both : s ∷ names ≡ get_or a.states i [] ∷ drop (i + 1) a.states = is ∙ cut_here a.states i [] (omega arith) in
      let here : s ≡ get_or a.states i [] = cc in
      let later : names ≡ drop (i + 1) a.states = cc in
      let rest : List Arc = flat_map (λ (p : List ℕ × List (List ℕ)). row_arcs name a.events p.0 p.1) (zip names (map (λ (state : ℕ × List ℕ). cells name a state.0) (enumerate_from (i + 1) names))) in
      ap (λ (t : List ℕ). row_arcs name a.events t (cells name a i) ++ rest) here
      ∙ ap (λ (as' : List Arc). as' ++ rest) (cells_back i 0 a.events)
      ∙ ap (λ (as' : List Arc). cells_arcs a.states a.events a.edges few i 0 a.events ++ as') (written_back (i + 1) names (omega (arith, all)) later)
