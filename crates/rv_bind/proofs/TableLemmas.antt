-- The table of a rule is the one that its formula's parts give, and means the rule.
use Rattle.std.proofs.Common.{◌≡◌, List, sym, ap, ◌∙◌, subst}
use Rattle.std.specs.Prelude.{Result, Ok, Err, IfOk}
use Rattle.rv_text.specs.declared.refusals.Refusal.{Refusal}
use Rattle.rv_text.specs.declared.refusals.Refused.{Refused}
use Rattle.rv_text.specs.Readings.{and_then, Gives}
use Rattle.rv_model.specs.Ltl.{Ltl}
use Rattle.rv_model.specs.Table.{Table, Node, of_labels}
use Rattle.rv_model.specs.Formulas.{RuleValue}
use Rattle.rv_model.specs.declared.formula.Spec.TheVariants as specs
use Rattle.rv_model.specs.Judging.{Means}
use Rattle.rv_nnf.specs.Parts.{PartValue}
use Rattle.rv_nnf.specs.NormalForm.{normal_of}
use Rattle.rv_tableau.specs.declared.pairs.Pair.{Pair}
use Rattle.rv_tableau.specs.Nodes.{nodes_of}
use Rattle.rv_tableau.specs.Rows.{table_rows, tableau_of}
use Rattle.rv_bind.specs.Compiling.{formula_table}

-- a table that is made of nodes has rows with labels
nodes_labelled : (t : Table) (ps : List PartValue) (nodes : Result (List Pair) Refusal) → and_then nodes (λ nodes. Ok (of_labels (table_rows ps nodes))) ≡ Ok t → (rows : List Node) × (t ≡ of_labels rows)
nodes_labelled t ps (Err refusal) e = cc
nodes_labelled t ps (Ok nodes) e = (table_rows ps nodes, cc)

-- a table that is made of a formula's parts has rows with labels
parts_labelled : (t : Table) (parts : Result (List PartValue) Refusal) → and_then parts tableau_of ≡ Ok t → (rows : List Node) × (t ≡ of_labels rows)
parts_labelled t (Err refusal) e = cc
parts_labelled t (Ok ps) e = nodes_labelled t ps (nodes_of ps) e

-- a formula's table has rows with labels
pub labelled : (formula : Ltl) (t : Table) → formula_table formula ≡ Ok t → (rows : List Node) × (t ≡ of_labels rows)
labelled formula t e = parts_labelled t (normal_of formula) e

-- the table of a formula's parts is the formula's
pub formula_parts : (formula : Ltl) (parts : List PartValue) → normal_of formula ≡ Ok parts → formula_table formula ≡ tableau_of parts
formula_parts formula parts normal = ap (λ (r : Result (List PartValue) Refusal). and_then r tableau_of) normal

-- the table in an answer means the rule
pub answer_means : (rule : RuleValue) (parts : List PartValue) (r : Result Table Refused) → ((table : Table) → tableau_of parts ≡ Ok table → Means table (specs.Ltl rule)) → Gives (λ table. table) r (tableau_of parts)
    → IfOk r (λ table. Means table (specs.Ltl rule))
answer_means rule parts (Ok table) means gives = means table gives
answer_means rule parts (Err refused) means gives = tt

-- the table in an answer is the formula's
pub answer_gives : (given formula : Ltl) (parts : List PartValue) (r : Result Table Refused) → given ≡ formula → normal_of given ≡ Ok parts → Gives (λ table. table) r (tableau_of parts) → Gives (λ table. table) r (formula_table formula)
answer_gives given formula parts r same normal gives = subst (λ (t : Result Table Refusal). Gives (λ table. table) r t) (sym (formula_parts given parts normal) ∙ ap formula_table same) gives
