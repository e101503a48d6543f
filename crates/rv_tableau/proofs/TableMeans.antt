-- What is known of a tableau that is given.
use Rattle.std.proofs.Common.{◌≡◌, ◌↔◌, ℕ, ◌-◌, ◌^◌, ◌≤◌, List, map, length, Result, Ok, Err, refl, sym, ap, ◌∙◌, subst, IsTrue, IfOk}
use mathlib.Core.Path.{ap₂}
use Rattle.rv_text.specs.declared.refusals.Refusal.{Refusal}
use Rattle.rv_text.specs.declared.refusals.Refused.{Refused}
use Rattle.rv_text.specs.declared.refusals.Refused.TheVariants.{Because, Memory}
use Rattle.rv_text.specs.Readings.{and_then, Refuses, Gives}
use Rattle.rv_model.specs.declared.formula.Spec.TheVariants.{Ltl}
use Rattle.rv_model.specs.declared.hit.Letter.{Letter}
use Rattle.rv_model.specs.Formulas.{RuleValue, IsRule}
use Rattle.rv_model.specs.Judging.{ReachesSome, Means}
use Rattle.rv_model.specs.Letters.{atoms_in}
use Rattle.rv_model.specs.Table.{Table, Node, of_labels}
use Rattle.rv_model.specs.Truth.{Weak}
use Rattle.rv_nnf.specs.NormalForm.{normal_of}
use Rattle.rv_nnf.specs.Parts.{PartValue, IsNormal, part_meaning}
use Rattle.rv_nnf.specs.Views.{part_values}
use Rattle.rv_nnf.specs.declared.parts.Part.{Part}
use Rattle.rv_nnf.proofs.RefusedExactly.{normal_of_is, holds_is}
use Rattle.rv_tableau.specs.declared.pairs.Pair.{Pair}
use Rattle.rv_table.specs.Rows.{FitNodes, node_rows}
use Rattle.rv_tableau.specs.Cover.{cover_of}
use Rattle.rv_tableau.specs.Nodes.{whole_set, nodes_of}
use Rattle.rv_tableau.specs.Rows.{rows_in, next_rows, node_row, table_rows, tableau_of}
use Rattle.rv_tableau.proofs.AtomsBelow.{atoms_within}
use Rattle.rv_tableau.proofs.CompleteLists.{complete_is_right}
use Rattle.rv_tableau.proofs.FitRows.{rows_fit}
use Rattle.rv_tableau.proofs.UnderWay.{nodes_complete}

-- nodes that are given make the table
pub table_given : (ps : List PartValue) (nodes : List Pair) → nodes_of ps ≡ Ok nodes → tableau_of ps ≡ Ok (of_labels (table_rows ps nodes))
table_given ps nodes e = ap (λ (r : Result (List Pair) Refusal). and_then r (λ nodes. let t : Result Table Refusal = Ok (of_labels (table_rows ps nodes)) in t)) e

-- they are at most 31
pub few_given : (ps : List PartValue) (nodes : List Pair) → nodes_of ps ≡ Ok nodes → length nodes ≤ 31
few_given ps nodes e = (nodes_complete ps nodes e).1

-- and their rows fit a table
pub fit_given : (ps : List PartValue) → IsNormal ps → (nodes : List Pair) → nodes_of ps ≡ Ok nodes → (first : ℕ) (rows : List Node) → first ≡ next_rows ps nodes (whole_set ps) → rows ≡ map (node_row ps nodes) nodes → FitNodes first rows
fit_given ps normal nodes e first rows f r = subst (λ n. FitNodes n rows) (sym f) (subst (FitNodes (next_rows ps nodes (whole_set ps))) (sym r) (rows_fit ps normal nodes (few_given ps nodes e)))

-- the table that is made of them
pub made_given : (ps : List PartValue) (nodes : List Pair) → nodes_of ps ≡ Ok nodes → (first : ℕ) (rows : List Node) (table : Table) → first ≡ next_rows ps nodes (whole_set ps) → rows ≡ map (node_row ps nodes) nodes → table ≡ of_labels (node_rows first rows) → tableau_of ps ≡ Ok table
made_given ps nodes e first rows table f r t =
    table_given ps nodes e ∙ sym (ap (λ (t : Table). let a : Result Table Refusal = Ok t in a) (t ∙ ap₂ (λ n xs. of_labels (node_rows n xs)) f r))

-- what the code finds for row 0
pub first_given : (ps : List PartValue) (first b n : ℕ) (cover whole' nodes nodes' : List Pair) → first ≡ rows_in cover 1 nodes' → nodes' ≡ nodes → cover ≡ whole' → whole' ≡ cover_of ps b → b ≡ 2 ^ (n - 1) → n ≡ length ps → first ≡ next_rows ps nodes (whole_set ps)
first_given ps first b n cover whole' nodes nodes' f m c w e l = f ∙ ap₂ (λ x y. rows_in x 1 y) (c ∙ w ∙ ap (cover_of ps) (e ∙ ap (λ k. 2 ^ (k - 1)) l)) m

-- a refusal of the nodes is the tableau's
pub table_refused : (e : Refused) (ps : List PartValue) → Refuses e (nodes_of ps) → Refuses e (tableau_of ps)
table_refused (Because refusal) ps h = ap (λ (r : Result (List Pair) Refusal). and_then r (λ nodes. let t : Result Table Refusal = Ok (of_labels (table_rows ps nodes)) in t)) h
table_refused Memory ps h = tt

-- the table that its nodes make reaches some row exactly where the last part holds weakly
pub nodes_hold : (ps : List PartValue) → IsNormal ps → (nodes : List Pair) → nodes_of ps ≡ Ok nodes → (letters : List Letter) → ReachesSome (of_labels (table_rows ps nodes)) letters ↔ IsTrue (part_meaning ps (length ps - 1) Weak (map atoms_in letters))
nodes_hold ps normal nodes e letters = complete_is_right ps normal nodes (nodes_complete ps nodes e).0 letters

-- the table in an answer
abbrev table_in : Table → Result Table Refusal → Table
table_in d (Ok t) = t
table_in d (Err e) = d

-- a tableau that is given reaches some row exactly where the last part holds weakly
pub table_holds : (ps : List PartValue) → IsNormal ps → (table : Table) → tableau_of ps ≡ Ok table → (letters : List Letter) → ReachesSome table letters ↔ IsTrue (part_meaning ps (length ps - 1) Weak (map atoms_in letters))
table_holds ps normal table e letters = go (nodes_of ps) refl e
  where
    go : (r : Result (List Pair) Refusal) → nodes_of ps ≡ r → ◌≡◌ {A = Result Table Refusal} (and_then r (λ nodes. Ok (of_labels (table_rows ps nodes)))) (Ok table) → ReachesSome table letters ↔ IsTrue (part_meaning ps (length ps - 1) Weak (map atoms_in letters))
    go (Ok nodes) h e = subst (λ t. ReachesSome t letters ↔ IsTrue (part_meaning ps (length ps - 1) Weak (map atoms_in letters))) (ap (table_in table) e) (nodes_hold ps normal nodes h letters)
    go (Err r) h e = absurd (cc)

-- the tableau of a rule means it
pub table_means : (rule : RuleValue) → IsRule rule → (ps : List PartValue) (table : Table) → normal_of rule.formula ≡ Ok ps → tableau_of ps ≡ Ok table → Means table (Ltl rule)
table_means rule is ps table n t letters some =
    let atoms = atoms_within (length rule.atoms) 32 is.few_atoms rule.formula is.in_range in
    let reach = table_holds ps (normal_of_is rule.formula ps atoms n).normal table t letters in
    let holds = holds_is rule.formula ps atoms n Weak (map atoms_in letters) in
    (λ r. holds.0 (reach.0 r), λ g. reach.1 (holds.1 g))

-- whatever is answered, an accepted table reaches some row exactly where the last part holds weakly
pub answer_holds : (ps : List PartValue) → IsNormal ps → (r : Result Table Refused) → Gives (λ table. table) r (tableau_of ps) → IfOk r (λ table. (letters : List Letter) → ReachesSome table letters ↔ IsTrue (part_meaning ps (length ps - 1) Weak (map atoms_in letters)))
answer_holds ps normal (Ok table) h = λ letters. table_holds ps normal table h letters
answer_holds ps normal (Err e) h = tt

-- the same of parts that the code reads
pub answer_given : (items now : List Part) (ps : List PartValue) → now ≡ items → part_values items ≡ ps → IsNormal (part_values items) → (r : Result Table Refused) → Gives (λ table. table) r (tableau_of (part_values now)) → IfOk r (λ table. (letters : List Letter) → ReachesSome table letters ↔ IsTrue (part_meaning ps (length ps - 1) Weak (map atoms_in letters)))
answer_given items now ps e v normal r h =
    answer_holds ps (subst IsNormal v normal) r (subst (λ qs. Gives (λ table. table) r (tableau_of qs)) (ap part_values e ∙ v) h)
