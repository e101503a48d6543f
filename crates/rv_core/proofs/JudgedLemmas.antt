-- Where tables mean specifications, judging by the tables is judging by the specifications.
use Rattle.std.proofs.Common.{List, [], ◌∷◌, map}
use Rattle.std.specs.List.{All}
use Rattle.std.proofs.lemmas.List.Elements.{All-head, All-tail}
use Rattle.rv_model.specs.declared.formula.Spec.{Spec}
use Rattle.rv_model.specs.Table.{Table}
use Rattle.rv_model.specs.Histories.{AreJudges}
use Rattle.rv_model.specs.Stepping.{IsTable, table_judge}
use Rattle.rv_model.proofs.MeansLemmas.{judged_by_spec}
use Rattle.rv_model.proofs.TableJudgeLemmas.{every_table_is_judged}
use Rattle.rv_core.specs.Judged.{AllMean}

-- each table's judge judges by what the table means
pub are-judges : (specs : List Spec) (tables : List Table) → All IsTable tables → AllMean specs tables → AreJudges specs tables (map table_judge tables)
are-judges [] [] are mean = tt
are-judges [] (t ∷ tables) are mean = absurd mean
are-judges (spec ∷ specs) [] are mean = absurd mean
are-judges (spec ∷ specs) (t ∷ tables) are mean =
    (judged_by_spec spec t (table_judge t) mean.0 (every_table_is_judged t (All-head IsTable t tables are)), are-judges specs tables (All-tail IsTable t tables are) mean.1)
