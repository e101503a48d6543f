-- The table of a complete list of nodes, in whatever order, reaches some row by letters exactly where the whole formula's part
-- holds weakly on them.
use Rattle.std.proofs.Common.{◌≡◌, ℕ, zero, suc, ◌+◌, ◌-◌, ◌<◌, ◌≤◌, Bool, true, false, not, ◌&&◌, ◌||◌, cond, List, [], ◌∷◌, map, length, get_or, refl, sym, ap, ◌∙◌, subst, arith, ◌↔◌, IsTrue}
use mathlib.Core.Path.{ap₂}
use Rattle.std.specs.Bool.{Decides}
use Rattle.std.specs.List.{list_any, list_all}
use Rattle.std.proofs.lemmas.List.Folds.{list_all-append}
use Rattle.std.proofs.lemmas.List.{get_or-map, length-map}
use Rattle.std.proofs.lemmas.Bool.{and_parts, and_from, ltb-true, lt-ltb}
use Rattle.rv_model.specs.declared.hit.Letter.{Letter}
use Rattle.rv_model.specs.Judging.{ReachesSome}
use Rattle.rv_model.specs.Language.{IsPath}
use Rattle.rv_model.specs.Letters.{atoms_in}
use Rattle.rv_model.specs.Meaning.{true_on}
use Rattle.rv_model.specs.Numbers.{has_bit}
use Rattle.rv_model.specs.Table.{Node, of_labels, node_at, Follows, end_of}
use Rattle.rv_model.specs.Truth.{Weak}
use Rattle.rv_nnf.specs.Parts.{PartValue, Label, Next, And, Or, Until, Release, part_value_at, part_meaning, IsNormal}
use Rattle.rv_tableau.specs.declared.pairs.Pair.{Pair}
use Rattle.rv_tableau.specs.Pairs.{empty_pair, is_one_of}
use Rattle.rv_tableau.specs.Cover.{cover_of}
use Rattle.rv_tableau.specs.Holding.{all_below, set_holds, piece_true, label_true, pair_holds}
use Rattle.rv_tableau.specs.Nodes.{whole_set}
use Rattle.rv_tableau.specs.Rows.{piece_labels, labels_below, next_rows, node_row, table_rows, set_at, IsComplete}
use Rattle.rv_tableau.proofs.SetLemmas.{and_true, all_one}
use Rattle.rv_tableau.proofs.CoverSays.{empty_holds, set_says}
use Rattle.rv_tableau.proofs.PairLists.{any_witness, any_from, in_index}
use Rattle.rv_tableau.proofs.RowSets.{rows_has, rows_only}

-- ---- labels

-- the label of one part
one_true : (x : ℕ) (p : PartValue) (b : Bool) → list_all (true_on x) (cond b (piece_labels p) []) ≡ (not b || piece_true x p)
one_true x (Label f) true = and_true (true_on x f)
one_true x (Next i) true = refl
one_true x (And i j) true = refl
one_true x (Or i j) true = refl
one_true x (Until i j) true = refl
one_true x (Release i j) true = refl
one_true x p false = refl

-- a letter makes the labels of a set true exactly where it makes each of them true
labels_true : (ps : List PartValue) (x set n : ℕ) → list_all (true_on x) (labels_below ps set n) ≡ all_below n set (label_true ps x)
labels_true ps x set zero = refl
labels_true ps x set (suc n) =
    list_all-append (true_on x) (labels_below ps set n) (cond (has_bit set n) (piece_labels (part_value_at ps n)) [])
    ∙ ap₂ (λ a b. a && b) (labels_true ps x set n) (one_true x (part_value_at ps n) (has_bit set n))

-- ---- the law

-- what a node asks that stands nowhere
abbrev none : Node
none = record { labels = []; next = 0 }

module _ (ps : List PartValue) (normal : IsNormal ps) (nodes : List Pair) (complete : IsComplete ps nodes) where
  -- the rows of the nodes
  rows : List Node
  rows = table_rows ps nodes

  -- the node of a number
  node : ℕ → Pair
  node k = get_or nodes k empty_pair

  -- a row's next rows are those of the cover of its set
  next_is : (r : ℕ) → r ≤ length nodes → (node_at rows r).next ≡ next_rows ps nodes (set_at ps nodes r)
  unfolding rows
  next_is zero h = refl
  next_is (suc k) h = ap (λ (r : Node). r.next) (get_or-map (node_row ps nodes) nodes k empty_pair none h)

  -- a row's labels are those of its node
  labels_are : (k : ℕ) → k < length nodes → (node_at rows (suc k)).labels ≡ labels_below ps (node k).labels (length ps)
  unfolding rows node
  labels_are k h = ap (λ (r : Node). r.labels) (get_or-map (node_row ps nodes) nodes k empty_pair none h)

  -- row 0, and one for each node
  rows_len : length rows ≡ suc (length nodes)
  unfolding rows
  rows_len = ap suc (length-map nodes (node_row ps nodes))

  -- a row follows another where it is one, is among its next rows and has true labels
  FollowsNext : ℕ → ℕ → ℕ → Type 0
  FollowsNext r x q = (q < length rows) × (has_bit (node_at rows r).next q ≡ true) × (list_all (true_on x) (node_at rows q).labels ≡ true)

  -- such a row follows by the letter
  to_follows : (r q : ℕ) (x : Letter) → FollowsNext r (atoms_in x) q → Follows (of_labels rows) r x q
  unfolding FollowsNext
  to_follows r q x n = and_from _ _ (lt-ltb q (length rows) n.0) (and_from _ _ n.1 n.2)

  -- and only such a row
  from_follows : (r q : ℕ) (x : Letter) → Follows (of_labels rows) r x q → FollowsNext r (atoms_in x) q
  unfolding FollowsNext
  from_follows r q x f = let p = and_parts _ _ f in let l = and_parts _ _ p.1 in (ltb-true q (length rows) p.0, l.0, l.1)

  -- letters lead on from the row
  Goes : ℕ → List Letter → Type 0
  Goes r w = (path : List ℕ) × IsPath (Follows (of_labels rows)) r path w

  -- some pair of the cover holds, so a row follows
  goes_on : (r : ℕ) → r ≤ length nodes → (x : Letter) (t : List Letter) → ((q : ℕ) → q ≤ length nodes → set_holds ps (set_at ps nodes q) (map atoms_in t) ≡ true → Goes q t) → set_holds ps (set_at ps nodes r) (map atoms_in (x ∷ t)) ≡ true → Goes r (x ∷ t)
  unfolding Goes node FollowsNext
  goes_on r h x t ih e =
      let cover = cover_of ps (set_at ps nodes r) in
      let a = atoms_in x in
      let u = map atoms_in t in
      let some : list_any (pair_holds ps a u) cover ≡ true = sym (set_says ps normal (set_at ps nodes r) a u) ∙ e in
      let found = any_witness (pair_holds ps a u) cover some in
      let place = in_index found.0 nodes (complete.closed r h found.0 found.2) in
      let k = place.0 in
      let there : is_one_of (node k) cover ≡ true = ap (λ p. is_one_of p cover) place.2 ∙ found.2 in
      let holds : pair_holds ps a u (node k) ≡ true = ap (pair_holds ps a u) place.2 ∙ found.1 in
      let both = and_parts (all_below (length ps) (node k).labels (label_true ps a)) (set_holds ps (node k).next u) holds in
      let rest = ih (suc k) place.1 both.1 in
      let is_row : suc k < length rows = (let l = rows_len in omega (arith, l, place.1)) in
      let is_next : has_bit (node_at rows r).next (suc k) ≡ true =
      ap (λ n. has_bit n (suc k)) (next_is r h) ∙ (let i : suc k ≡ 1 + k = omega arith in ap (has_bit (next_rows ps nodes (set_at ps nodes r))) i) ∙ rows_has cover 1 nodes k place.1 there in
      let labels : list_all (true_on a) (node_at rows (suc k)).labels ≡ true =
      ap (list_all (true_on a)) (labels_are k place.1) ∙ labels_true ps a (node k).labels (length ps) ∙ both.0 in
      (suc k ∷ rest.0, (to_follows r (suc k) x (is_row, is_next, labels), rest.1))

  -- a row follows, so its pair holds
  came : (r : ℕ) → r ≤ length nodes → (x : Letter) (t : List Letter) → ((q : ℕ) → q ≤ length nodes → Goes q t → set_holds ps (set_at ps nodes q) (map atoms_in t) ≡ true) → Goes r (x ∷ t) → set_holds ps (set_at ps nodes r) (map atoms_in (x ∷ t)) ≡ true
  unfolding Goes node FollowsNext
  came r h x t ih ([], f) = absurd f
  came r h x t ih (s ∷ path, f) =
      let cover = cover_of ps (set_at ps nodes r) in
      let a = atoms_in x in
      let u = map atoms_in t in
      let n = from_follows r s x f.0 in
      let at = rows_only cover 1 nodes s (ap (λ n. has_bit n s) (sym (next_is r h)) ∙ n.1) in
      let k = at.0 in
      let e : s ≡ suc k = omega (arith, at.1) in
      let rest : set_holds ps (node k).next u ≡ true = ih (suc k) at.2 (path, subst (λ s. IsPath (Follows (of_labels rows)) s path t) e f.1) in
      let true_labels : all_below (length ps) (node k).labels (label_true ps a) ≡ true =
      sym (labels_true ps a (node k).labels (length ps)) ∙ ap (list_all (true_on a)) (sym (labels_are k at.2)) ∙ ap (λ s. list_all (true_on a) (node_at rows s).labels) (sym e) ∙ n.2 in
      set_says ps normal (set_at ps nodes r) a u ∙ any_from (pair_holds ps a u) cover (node k) at.3 (and_from _ _ true_labels rest)

  -- letters lead on from a row exactly where its set holds
  decides : (w : List Letter) (r : ℕ) → r ≤ length nodes → Decides (set_holds ps (set_at ps nodes r) (map atoms_in w)) (Goes r w)
  unfolding Goes
  decides [] r h = (λ _. ([], tt), λ _. empty_holds ps normal (set_at ps nodes r))
  decides (x ∷ t) r h = (goes_on r h x t (λ q l. (decides t q l).0), came r h x t (λ q l. (decides t q l).1))

  -- the set of the whole holds where its part does
  whole_set_is : (w : List ℕ) → set_holds ps (whole_set ps) w ≡ part_meaning ps (length ps - 1) Weak w
  whole_set_is w = all_one (length ps) (length ps - 1) (λ k. part_meaning ps k Weak w) (let s = normal.some in omega arith)

-- from row 0, letters lead on exactly where the whole formula's part holds weakly
pub complete_is_right : (ps : List PartValue) → IsNormal ps → (nodes : List Pair) → IsComplete ps nodes → (letters : List Letter) → ReachesSome (of_labels (table_rows ps nodes)) letters ↔ IsTrue (part_meaning ps (length ps - 1) Weak (map atoms_in letters))
unfolding Goes rows
complete_is_right ps n nodes c w =
    let d = decides ps n nodes c w 0 (omega arith) in
    let e = whole_set_is ps n nodes c (map atoms_in w) in
    (λ g. sym e ∙ d.1 (g.1.0, g.1.1), λ h. let g = d.0 (e ∙ h) in (end_of 0 g.0, (g.0, g.1, refl)))
