-- A tableau's table can be printed.
use Rattle.std.proofs.Common.{◌≡◌, List, subst}
use Rattle.std.specs.Prelude.{Result, Ok, Err}
use Rattle.rv_text.specs.declared.refusals.Refusal.{Refusal}
use Rattle.rv_text.specs.Readings.{and_then}
use Rattle.rv_model.specs.Table.{Table, of_labels}
use Rattle.rv_nnf.specs.Parts.{PartValue}
use Rattle.rv_tableau.specs.declared.pairs.Pair.{Pair}
use Rattle.rv_tableau.specs.Nodes.{nodes_of}
use Rattle.rv_tableau.specs.Rows.{table_rows, tableau_of}
use Rattle.rv_report.specs.FormulaTexts.{IsFormulaTable}

-- a tableau's table is a formula's
pub tableau_is_formula : (parts : List PartValue) (t : Table) → tableau_of parts ≡ Ok t → IsFormulaTable t
tableau_is_formula parts t is = go (nodes_of parts) is
  where
    go : (nodes : Result (List Pair) Refusal) → and_then nodes (λ nodes. Ok (of_labels (table_rows parts nodes))) ≡ Ok t → IsFormulaTable t
    go (Err refusal) is = cc
    go (Ok nodes) is = let same : of_labels (table_rows parts nodes) ≡ t = cc in subst (λ (t : Table). IsFormulaTable t) same (λ row below. below)
