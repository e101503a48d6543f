-- Rows by the numbers of their labels, one more at a time.
use Rattle.std.proofs.Common.{◌≡◌, ℕ, zero, suc, ◌+◌, ◌<◌, ◌==◌, ◌&&◌, ◌||◌, not, Bool, true, false, List, [], ◌∷◌, ◌++◌, length, map, take, get_or, slice_index_or, length-append, arith, refl, sym, ap, ◌∙◌, subst}
use Rattle.std.specs.List.{All, list_all}
use Rattle.std.proofs.lemmas.List.{map-append, length-map, get_or-map, take_more}
use Rattle.std.proofs.lemmas.List.Folds.{list_all-append}
use Rattle.std.proofs.lemmas.List.Elements.{All-append, All-cons, All-nil}
use Rattle.rv_model.specs.Ltl.{Ltl, True}
use Rattle.rv_model.specs.Meaning.{true_on}
use Rattle.rv_model.specs.Table.{Node, node_at}
use Rattle.rv_table.specs.Rows.{node_rows}
use Rattle.rv_table.specs.declared.label.Label.{Label}
use Rattle.rv_table.specs.declared.nodes.NumberedRow.{NumberedRow}
use Rattle.rv_table.specs.inner.Numbered.{AreNumbers, AreEntered, KeepsNumbers, AreNumberedRows, label_at, node_by, nodes_by, row_passes, allows}
use Rattle.rv_table.proofs.KeepLemmas.{Keeps-trans, AreNumbers-kept, labels-kept}

-- so each row is what it was
nodes-kept : (old new : List Label) (rows : List NumberedRow) → KeepsNumbers old new → All (λ row. AreNumbers old row.labels.items) rows → nodes_by new rows ≡ nodes_by old rows
nodes-kept old new [] keeps within = refl
nodes-kept old new (row ∷ rows) keeps within =
    ap (λ fs. (record { labels = fs; next = row.next }) ∷ nodes_by new rows) (labels-kept old new row.labels.items keeps (within 0 row (omega arith)))
    ∙ ap (λ nodes. node_by old row ∷ nodes) (nodes-kept old new rows keeps (λ i d lt. within (suc i) d (omega arith)))

-- a row that is new
pub nodes-more : (old new : List Label) (rows : List NumberedRow) (row : NumberedRow) → KeepsNumbers old new → All (λ row. AreNumbers old row.labels.items) rows → nodes_by new (rows ++ row ∷ []) ≡ nodes_by old rows ++ node_by new row ∷ []
nodes-more old new rows row keeps within =
    map-append (node_by new) rows (row ∷ []) ∙ ap (λ nodes. nodes ++ node_by new row ∷ []) (nodes-kept old new rows keeps within)

-- a later row is not the first one
not_first : (q : ℕ) → (0 == suc q) ≡ false
not_first q = grind arith

-- the first row is not a later one
not_later : (n : ℕ) → (suc n == 0) ≡ false
not_later n = grind arith

-- what holds is not asked again
alone : (b : Bool) → b ≡ (b && true)
alone true = refl
alone false = refl

-- two numbers are the same where the next ones are
one_further : (n q : ℕ) → (suc n == suc q) ≡ (n == q)
one_further n q = grind arith

-- where the number of a new row is read, the new row is found; elsewhere what was there
allows-more : (nodes : List Node) (node : Node) (q letter : ℕ) → allows (nodes ++ node ∷ []) q letter ≡ (allows nodes q letter && (not (length nodes == q) || list_all (true_on letter) node.labels))
allows-more [] node zero letter = refl
allows-more [] node (suc q) letter = ap (λ b. not b || list_all (true_on letter) node.labels) (sym (not_first q))
allows-more (first ∷ nodes) node zero letter =
    alone (list_all (true_on letter) first.labels)
    ∙ ap (λ b. list_all (true_on letter) first.labels && (not b || list_all (true_on letter) node.labels)) (sym (not_later (length nodes)))
allows-more (first ∷ nodes) node (suc q) letter =
    allows-more nodes node q letter
    ∙ ap (λ b. allows nodes q letter && (not b || list_all (true_on letter) node.labels)) (sym (one_further (length nodes) q))

-- one more of a row's labels
put_in : (before is all here : Bool) → ((before && (not is || all)) && (not is || here)) ≡ (before && (not is || (all && here)))
put_in true true all here = refl
put_in true false all here = refl
put_in false is all here = refl

-- a row's labels are entered by one more
pub AreEntered-more : (initial old new : List Label) (row : ℕ) (labels : List Ltl) (numbers : List ℕ) (number : ℕ) (f : Ltl) → AreEntered initial old row labels numbers
    → KeepsNumbers old new → number < length new → label_at new number ≡ f
    → ((q letter : ℕ) → q < 32 → row_passes new q letter ≡ (row_passes old q letter && (not (row == q) || true_on letter f)))
    → AreEntered initial new row (labels ++ f ∷ []) (numbers ++ number ∷ [])
AreEntered-more initial old new row labels numbers number f it keeps lt names told = record {
  within = All-append (λ n. n < length new) numbers (number ∷ []) (AreNumbers-kept old new numbers keeps it.within) (All-cons (λ n. n < length new) number [] lt (All-nil (λ n. n < length new)));
  named = map-append (label_at new) numbers (number ∷ []) ∙ ap (λ fs. fs ++ label_at new number ∷ []) (labels-kept old new numbers keeps it.within ∙ it.named) ∙ ap (λ g. labels ++ g ∷ []) names;
  kept = Keeps-trans initial old new it.kept keeps;
  told = λ q letter below.
      told q letter below
      ∙ ap (λ b. b && (not (row == q) || true_on letter f)) (it.told q letter below)
      ∙ put_in (row_passes initial q letter) (row == q) (list_all (true_on letter) labels) (true_on letter f)
      ∙ ap (λ b. row_passes initial q letter && (not (row == q) || b)) (sym (list_all-append (true_on letter) labels (f ∷ []) ∙ ap (λ b. list_all (true_on letter) labels && b) (sym (alone (true_on letter f)))));
}

-- rows stay numbered by one more
IsNumbered-more : (old new : List Label) (rows : List NumberedRow) (row : NumberedRow) (labels : List Ltl) → AreNumberedRows old rows
    → AreEntered old new (length rows) labels row.labels.items → AreNumberedRows new (rows ++ row ∷ [])
IsNumbered-more old new rows row labels it entered = record { once = entered.kept.once it.once; within = all; told = λ q letter lt. says q letter lt }
  where
    all : All (λ row. AreNumbers new row.labels.items) (rows ++ row ∷ [])
    all = All-append (λ row. AreNumbers new row.labels.items) rows (row ∷ []) (λ i d lt. AreNumbers-kept old new _ entered.kept (it.within i d lt)) (All-cons (λ row. AreNumbers new row.labels.items) row [] entered.within (All-nil (λ row. AreNumbers new row.labels.items)))

    says : (q letter : ℕ) → q < 32 → row_passes new q letter ≡ allows (nodes_by new (rows ++ row ∷ [])) q letter
    says q letter lt =
        let news : Bool = list_all (true_on letter) (map (label_at new) row.labels.items) in
        entered.told q letter lt
        ∙ ap (λ fs. row_passes old q letter && (not (length rows == q) || list_all (true_on letter) fs)) (sym entered.named)
        ∙ ap (λ b. b && (not (length rows == q) || news)) (it.told q letter lt)
        ∙ ap (λ n. allows (nodes_by old rows) q letter && (not (n == q) || news)) (sym (length-map rows (node_by old)))
        ∙ sym (allows-more (nodes_by old rows) (node_by new row) q letter)
        ∙ ap (λ nodes. allows nodes q letter) (sym (nodes-more old new rows row entered.kept it.within))

-- the rows of the nodes by one more
pub rows-more : (old new : List Label) (rows : List NumberedRow) (row : NumberedRow) (node : Node) (first : ℕ) (nodes : List Node) (index : ℕ) → index < length nodes → node ≡ get_or nodes index node
    → length rows ≡ index + 1 → AreNumberedRows old rows → nodes_by old rows ≡ node_rows first (take index nodes)
    → AreEntered old new (length rows) node.labels row.labels.items → row.next ≡ node.next
    → (length (rows ++ row ∷ []) ≡ index + 1 + 1) × AreNumberedRows new (rows ++ row ∷ []) × (nodes_by new (rows ++ row ∷ []) ≡ node_rows first (take (index + 1) nodes))
rows-more old new rows row node first nodes index lt is count it made entered next = (
  length-append rows (row ∷ []) ∙ ap (λ n. n + 1) count,
  IsNumbered-more old new rows row node.labels it entered,
  nodes-more old new rows row entered.kept it.within
      ∙ ap (λ ns. ns ++ node_by new row ∷ []) made
      ∙ ap (λ (fs : List Ltl). node_rows first (take index nodes) ++ (record { labels = fs; next = row.next }) ∷ []) entered.named
      ∙ ap (λ n. node_rows first (take index nodes) ++ (record { labels = node.labels; next = n }) ∷ []) next
      ∙ ap (λ (n : Node). node_rows first (take index nodes) ++ n ∷ []) is
      ∙ ap (λ ns. (record { labels = []; next = first }) ∷ ns) (sym (take_more nodes index node lt)),
)

-- a number that a row has is that of the label at its place
pub node-label : (labels : List Label) (rows : List NumberedRow) (row place : ℕ) (at : NumberedRow) (number : ℕ) → All (λ row. AreNumbers labels row.labels.items) rows
    → row < length (nodes_by labels rows) → at ≡ get_or rows row at → place < length (node_at (nodes_by labels rows) row).labels → number ≡ get_or at.labels.items place number
    → (number < length labels) × (label_at labels number ≡ slice_index_or (node_at (nodes_by labels rows) row).labels place True)
node-label labels rows row place at number within lt at_is below number_is =
    let inside : row < length rows = subst (λ n. row < n) (length-map rows (node_by labels)) lt in
    let node : node_at (nodes_by labels rows) row ≡ node_by labels at = get_or-map (node_by labels) rows row at (record { labels = []; next = 0 }) inside ∙ ap (node_by labels) (sym at_is) in
    let few : place < length at.labels.items = subst (λ n. place < n) (length-map at.labels.items (label_at labels)) (subst (λ (n : Node). place < length n.labels) node below) in
    let numbers : AreNumbers labels at.labels.items = subst (λ (r : NumberedRow). AreNumbers labels r.labels.items) (sym at_is) (within row at inside) in (
      subst (λ n. n < length labels) (sym number_is) (numbers place number few),
      ap (label_at labels) number_is
          ∙ sym (get_or-map (label_at labels) at.labels.items place number True few)
          ∙ ap (λ (n : Node). slice_index_or n.labels place True) (sym node),
    )
