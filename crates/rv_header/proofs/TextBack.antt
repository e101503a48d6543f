-- The pieces of a header's text.
use Rattle.std.proofs.Common.{◌≡◌, ℕ, zero, suc, ◌+◌, ◌<◌, true, List, [], ◌∷◌, ◌++◌, length, get_or, Option, Some, None, refl, ap, ◌∙◌, arith, append_assoc}
use Rattle.std.specs.Prelude.{map, codes}
use Rattle.std.specs.List.{AllByRecursion, flat_map, enumerate_from}
use Rattle.std.proofs.lemmas.List.Folds.{list_all-append}
use Rattle.rv_model.specs.WellFormed.{is_event_byte}
use Rattle.rv_model.specs.Machine.{Machine}
use Rattle.rv_dot.specs.Canonical.{quoted}
use Rattle.rv_header.specs.HeaderText.{tagged, enumerators, enum_text, list_text, target_of, cell_text, cells, row_text, marks}
use Rattle.rv_header.specs.inner.Taking.{pieces, piece_from, members_in}
use Rattle.rv_header.proofs.Cuts.{lacks, simple, cut, uncut, both_lack, all_lack, simple_lacks}
use Rattle.rv_header.proofs.Listed.{later, members_back}
use Rattle.rv_header.proofs.RowsBack.{IsRow}

-- the names, apart
pub apart_name : (name members c t d e s rest : List ℕ)
    → (((((codes "enum " ++ (codes "states" ++ codes "_" ++ name) ++ codes " {\n\t" ++ members ++ codes "\n};\n") ++ c) ++ t) ++ d) ++ e) ++ s ++ rest
    ≡ codes "enum" ++ 32 ∷ ((codes "states_" ++ name) ++ 32 ∷ (codes "{\n\t" ++ (members ++ (codes "\n};\n" ++ (c ++ (t ++ (d ++ (e ++ (s ++ rest)))))))))
apart_name name members c t d e s rest = simp append_assoc

-- a text, apart at its dots
apart_dots : (dot d p a b c e f g h i j k l m n o q r : List ℕ)
    → d ++ (p ++ (a ++ (dot ++ b)) ++ c ++ (e ++ (dot ++ f)) ++ g ++ (h ++ (dot ++ i)) ++ j ++ (k ++ (dot ++ l)) ++ m ++ (n ++ (dot ++ o)) ++ q ++ r)
    ≡ (d ++ (p ++ a)) ++ (dot ++ ((b ++ c ++ e) ++ (dot ++ ((f ++ g ++ h) ++ (dot ++ ((i ++ (j ++ k)) ++ (dot ++ ((l ++ m ++ n) ++ (dot ++ (o ++ q ++ r))))))))))
apart_dots dot d p a b c e f g h i j k l m n o q r = simp append_assoc

-- the tables, apart at their dots
pub apart_tables : (d t states events rows initial marked : List ℕ)
    → d ++ (codes "static const struct " ++ t ++ codes " " ++ t ++ codes " = {\n\t.state_names = " ++ states ++ codes ",\n\t.event_names = " ++ events ++ codes ",\n\t.function = {\n" ++ rows ++ codes "\t},\n\t.initial_state = " ++ initial ++ codes ",\n\t.final_states = " ++ marked ++ codes ",\n};\n")
    ≡ (d ++ (codes "static const struct " ++ t ++ codes " " ++ t ++ codes " = {\n\t"))
    ++ 46 ∷ ((codes "state_names = " ++ states ++ codes ",\n\t") ++ 46 ∷ ((codes "event_names = " ++ events ++ codes ",\n\t") ++ 46 ∷ ((codes "function = {\n" ++ (rows ++ codes "\t},\n\t")) ++ 46 ∷ ((codes "initial_state = " ++ initial ++ codes ",\n\t") ++ 46 ∷ (codes "final_states = " ++ marked ++ codes ",\n};\n")))))
apart_tables d t states events rows initial marked =
    apart_dots (46 ∷ []) d (codes "static const struct " ++ t ++ codes " " ++ t) (codes " = {\n\t") (codes "state_names = ") states (codes ",\n\t") (codes "event_names = ") events (codes ",\n\t") (codes "function = {\n") rows (codes "\t},\n\t") (codes "initial_state = ") initial (codes ",\n\t") (codes "final_states = ") (marked) (codes ",\n};\n")

-- six pieces
pub six : {p q r s t u : List ℕ} → lacks 46 p ≡ true → lacks 46 q ≡ true → lacks 46 r ≡ true → lacks 46 s ≡ true → lacks 46 t ≡ true → lacks 46 u ≡ true
    → pieces 46 (p ++ 46 ∷ (q ++ 46 ∷ (r ++ 46 ∷ (s ++ 46 ∷ (t ++ 46 ∷ u))))) ≡ p ∷ q ∷ r ∷ s ∷ t ∷ u ∷ []
six {p} {q} {r} {s} {t} {u} a b c d e f = rw (cut 46 p (q ++ 46 ∷ (r ++ 46 ∷ (s ++ 46 ∷ (t ++ 46 ∷ u)))) a, cut 46 q (r ++ 46 ∷ (s ++ 46 ∷ (t ++ 46 ∷ u))) b, cut 46 r (s ++ 46 ∷ (t ++ 46 ∷ u)) c, cut 46 s (t ++ 46 ∷ u) d, cut 46 t u e, uncut 46 u f) refl

-- a member of simple texts is simple
pub at_simple : (texts : List (List ℕ)) (place : ℕ) → AllByRecursion (λ n. simple n ≡ true) texts → simple (get_or texts place []) ≡ true
at_simple [] place h = refl
at_simple (x ∷ texts) zero h = h.0
at_simple (x ∷ texts) (suc place) h = at_simple texts place h.1

-- a list of texts that lack a dot
pub list_lacks : (members : List (List ℕ)) → AllByRecursion (λ m. lacks 46 m ≡ true) members → lacks 46 (list_text members) ≡ true
list_lacks [] h = refl
list_lacks (x ∷ xs) h = both_lack 46 (x ++ flat_map later xs) (codes " }") (both_lack 46 x (flat_map later xs) h.0 (all_lack 46 later xs (go xs h.1))) refl
  where
    go : (ys : List (List ℕ)) → AllByRecursion (λ m. lacks 46 m ≡ true) ys → AllByRecursion (λ m. lacks 46 (later m) ≡ true) ys
    go [] k = tt
    go (y ∷ ys) k = (k.0, go ys k.1)

-- quoted simple texts lack a dot
pub quoted_lack : (names : List (List ℕ)) → AllByRecursion (λ n. simple n ≡ true) names → AllByRecursion (λ m. lacks 46 m ≡ true) (map quoted names)
quoted_lack [] h = tt
quoted_lack (n ∷ names) h = (both_lack 46 n (codes "\"") (simple_lacks 46 refl n h.0) refl, quoted_lack names h.1)

-- simple texts lack a dot
pub all_simple_lack : (texts : List (List ℕ)) → AllByRecursion (λ n. simple n ≡ true) texts → AllByRecursion (λ m. lacks 46 m ≡ true) texts
all_simple_lack [] h = tt
all_simple_lack (t ∷ texts) h = (simple_lacks 46 refl t h.0, all_simple_lack texts h.1)

-- the marks in the last piece
marks_here : (m : List ℕ) (ms : List (List ℕ)) → simple m ≡ true → AllByRecursion (λ n. simple n ≡ true) ms
    → (more : List (List ℕ)) × (members_in (piece_from 123 1 (codes "final_states = " ++ list_text (m ∷ ms) ++ codes ",\n};\n")) ≡ m ∷ ms ++ more)
unfolding piece_from
marks_here m ms h all =
    let found = members_back m ms (codes "\n};\n") h all in
    let rest : List ℕ = 32 ∷ (m ++ flat_map later ms ++ (codes " }" ++ 44 ∷ codes "\n};\n")) in
    let text : codes "final_states = " ++ list_text (m ∷ ms) ++ codes ",\n};\n" ≡ codes "final_states = " ++ 123 ∷ rest = ap (λ (t : List ℕ). codes "final_states = {" ++ 32 ∷ t) (append_assoc (m ++ flat_map later ms) (codes " }") (codes ",\n};\n")) in
    let lacked : lacks 123 rest ≡ true = both_lack 123 (m ++ flat_map later ms) (codes " },\n};\n") (both_lack 123 m (flat_map later ms) (simple_lacks 123 refl m h) (all_lack 123 later ms (go ms all))) refl in
    let cuts : pieces 123 (codes "final_states = " ++ 123 ∷ rest) ≡ codes "final_states = " ∷ rest ∷ [] = cut 123 (codes "final_states = ") rest refl ∙ ap (λ (ps : List (List ℕ)). codes "final_states = " ∷ ps) (uncut 123 rest lacked) in
    (found.0, ap (λ (t : List ℕ). members_in (get_or (pieces 123 t) 1 [])) text ∙ ap (λ (ps : List (List ℕ)). members_in (get_or ps 1 [])) cuts ∙ found.1)
  where
    go : (ys : List (List ℕ)) → AllByRecursion (λ n. simple n ≡ true) ys → AllByRecursion (λ y. lacks 123 (later y) ≡ true) ys
    go [] k = tt
    go (y ∷ ys) k = (simple_lacks 123 refl y k.0, go ys k.1)

-- the same of any marks
pub marks_taken : (ms : List (List ℕ)) → 0 < length ms → AllByRecursion (λ n. simple n ≡ true) ms → (more : List (List ℕ)) × (members_in (piece_from 123 1 (codes "final_states = " ++ list_text ms ++ codes ",\n};\n")) ≡ ms ++ more)
marks_taken [] lt all = absurd (omega (arith, lt))
marks_taken (m ∷ ms) lt all = marks_here m ms all.0 all.1

module _ (name : List ℕ) (a : Machine) (named : simple name ≡ true) (states : AllByRecursion (λ n. simple n ≡ true) a.states) (events : AllByRecursion (λ n. simple n ≡ true) a.events) (marked : AllByRecursion (λ n. simple n ≡ true) (marks a)) where
  -- a C name of a simple text is simple
  tagged_simple : (text : List ℕ) → simple text ≡ true → simple (tagged name text) ≡ true
  tagged_simple text h = rw (list_all-append is_event_byte (text ++ codes "_") name, list_all-append is_event_byte text (codes "_"), h, named) refl

  -- a C name lacks each other byte
  pub tag_lacks : (text : List ℕ) → simple text ≡ true → lacks 46 (tagged name text) ≡ true
  tag_lacks text h = simple_lacks 46 refl (tagged name text) (tagged_simple text h)

  -- a cell is simple
  cell_simple : (target : Option ℕ) → simple (cell_text name a.states target) ≡ true
  cell_simple None = refl
  cell_simple (Some to) = tagged_simple (get_or a.states to []) (at_simple a.states to states)

  -- the cells of a state are a row
  row_is : (i : ℕ) → IsRow a.events (cells name a i)
  row_is i = (go 0 a.events, long 0 a.events)
    where
      go : (j : ℕ) (evs : List (List ℕ)) → AllByRecursion (λ n. simple n ≡ true) (map (λ (event : ℕ × List ℕ). cell_text name a.states (target_of a.edges i event.0)) (enumerate_from j evs))
      go j [] = tt
      go j (v ∷ evs) = (cell_simple (target_of a.edges i j), go (j + 1) evs)

      long : (j : ℕ) (evs : List (List ℕ)) → length evs ≡ length (map (λ (event : ℕ × List ℕ). cell_text name a.states (target_of a.edges i event.0)) (enumerate_from j evs))
      long j [] = refl
      long j (v ∷ evs) = ap suc (long (j + 1) evs)

  -- all rows are
  pub rows_are : (i : ℕ) (names : List (List ℕ)) → AllByRecursion (IsRow a.events) (map (λ (state : ℕ × List ℕ). cells name a state.0) (enumerate_from i names))
  rows_are i [] = tt
  rows_are i (n ∷ names) = (row_is i, rows_are (i + 1) names)

  -- the rows lack a dot
  pub rows_lack : (i : ℕ) (names : List (List ℕ)) → AllByRecursion (λ (state : ℕ × List ℕ). lacks 46 (row_text (cells name a state.0)) ≡ true) (enumerate_from i names)
  rows_lack i [] = tt
  rows_lack i (n ∷ names) = (both_lack 46 (codes "\t\t" ++ list_text (cells name a i)) (codes ",\n") (list_lacks (cells name a i) (all_simple_lack (cells name a i) (row_is i).0)) refl, rows_lack (i + 1) names)

  -- an enumeration lacks a dot
  pub enum_lacks : (kind : List ℕ) (members : List (List ℕ)) → simple kind ≡ true → AllByRecursion (λ n. simple n ≡ true) members → lacks 46 (enum_text name kind members) ≡ true
  enum_lacks kind members h all = both_lack 46 (codes "enum " ++ tagged name kind ++ codes " {\n\t" ++ enumerators name members) (codes "\n};\n") (both_lack 46 (codes "enum " ++ tagged name kind ++ codes " {\n\t") (enumerators name members) (both_lack 46 (codes "enum " ++ tagged name kind) (codes " {\n\t") (tag_lacks kind h) refl) (listed members all)) refl
    where
      go : (ys : List (List ℕ)) → AllByRecursion (λ n. simple n ≡ true) ys → AllByRecursion (λ y. lacks 46 (codes ",\n\t" ++ tagged name y) ≡ true) ys
      go [] k = tt
      go (y ∷ ys) k = (tag_lacks y k.0, go ys k.1)

      listed : (xs : List (List ℕ)) → AllByRecursion (λ n. simple n ≡ true) xs → lacks 46 (enumerators name xs) ≡ true
      listed [] k = refl
      listed (x ∷ xs) k = both_lack 46 (tagged name x ++ codes " = 0") (flat_map (λ y. codes ",\n\t" ++ tagged name y) xs) (both_lack 46 (tagged name x) (codes " = 0") (tag_lacks x k.0) refl) (all_lack 46 (λ y. codes ",\n\t" ++ tagged name y) xs (go xs k.1))

  -- with the number of members behind them, members are simple
  pub with_most : (most : List ℕ) (xs : List (List ℕ)) → simple most ≡ true → AllByRecursion (λ n. simple n ≡ true) xs → AllByRecursion (λ n. simple n ≡ true) (xs ++ most ∷ [])
  with_most most [] h k = (h, tt)
  with_most most (x ∷ xs) h k = (k.0, with_most most xs h k.1)
