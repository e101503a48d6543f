-- The judges by specifications that tables mean are the tables.
use Rattle.std.proofs.Common.{◌≡◌, ◌≢◌, ℕ, ◌<◌, ◌^◌, ◌==◌, Bool, true, false, ◌↔◌, IsTrue, List, [], ◌∷◌, map, not, refl, sym, ap, ◌∙◌, subst, arith, if◌then◌else◌}
use Rattle.std.specs.List.{All}
use Rattle.std.proofs.lemmas.Bool.Decides.{nat_tests}
use Rattle.std.proofs.lemmas.List.Elements.{All-head, All-tail}
use Rattle.rv_model.specs.declared.formula.Spec.{Spec}
use Rattle.rv_model.specs.declared.hit.Letter.{Letter}
use Rattle.rv_model.specs.Table.{Table, first_row}
use Rattle.rv_model.specs.Judging.{Judge, JudgesBySpec, Means}
use Rattle.rv_model.specs.Histories.{AreJudges, IsLegal}
use Rattle.rv_model.specs.Phases.{rows_of}
use Rattle.rv_model.specs.Stepping.{IsTable, some_follows, step_set, start_set, rows_after, table_judge}
use Rattle.rv_model.proofs.JudgeLemmas.{judges_are_one}
use Rattle.rv_model.proofs.MeansLemmas.{judged_by_spec}
use Rattle.rv_model.proofs.NumberLemmas.{number_of-lt, number_of-bits}
use Rattle.rv_model.proofs.TableJudgeLemmas.{every_table_is_judged}
use Rattle.rv_core.specs.Judged.{AllMean, TablesAreJudges}

-- a judge by a specification that the table means is the one that steps through it
judge-is : (t : Table) (spec : Spec) (j : Judge) → IsTable t → Means t spec → JudgesBySpec spec t j → j ≡ table_judge t
judge-is t spec j is mean by = judges_are_one.by_spec spec t j (table_judge t) by (judged_by_spec spec t (table_judge t) mean (every_table_is_judged t is))

-- so are all judges of a setup
judges-are : (specs : List Spec) (tables : List Table) (js : List Judge) → All IsTable tables → AllMean specs tables → AreJudges specs tables js → js ≡ map table_judge tables
judges-are [] [] [] are mean by = refl
judges-are [] [] (j ∷ js) are mean by = absurd by
judges-are [] (t ∷ tables) js are mean by = absurd mean
judges-are (spec ∷ specs) [] js are mean by = absurd mean
judges-are (spec ∷ specs) (t ∷ tables) [] are mean by = absurd by
judges-are (spec ∷ specs) (t ∷ tables) (j ∷ js) are mean by =
    ap (λ (k : Judge). k ∷ js) (judge-is t spec j (All-head IsTable t tables are) mean.0 by.0)
    ∙ ap (λ (ks : List Judge). table_judge t ∷ ks) (judges-are specs tables js (All-tail IsTable t tables are) mean.1 by.1)

-- the start row is one of 32
start-fits : (t : Table) → start_set t < 2 ^ 32
start-fits t = on (first_row t == 1)
  where
    on : (b : Bool) → (if b then 2 else 1) < 2 ^ 32
    on true = omega arith
    on false = omega arith

-- rows are below 32
rows-fit : (t : Table) (letters : List Letter) (set : ℕ) → set < 2 ^ 32 → rows_after t set letters < 2 ^ 32
rows-fit t [] set fits = fits
rows-fit t (x ∷ letters) set fits = rows-fit t letters (step_set t set x) (number_of-lt (some_follows t set x 32) 32)

-- the rows of its words are the table's
rows-are : (t : Table) (letters : List Letter) → rows_of (table_judge t) letters ≡ rows_after t (start_set t) letters
rows-are t letters = number_of-bits (rows_after t (start_set t) letters) 32 (rows-fit t letters (start_set t) (start-fits t))

-- letters hold where there are some
some-hold : (t : Table) (letters : List Letter) → IsTrue ((table_judge t).holds letters) ↔ rows_after t (start_set t) letters ≢ 0
some-hold t letters = (to, from)
  where
    to : IsTrue ((table_judge t).holds letters) → rows_after t (start_set t) letters ≢ 0
    to holds none = let no : (rows_after t (start_set t) letters == 0) ≡ true = grind (arith, nat_tests) in let wrong : false ≡ true = subst (λ (b : Bool). IsTrue (not b)) no holds in cc

    from : rows_after t (start_set t) letters ≢ 0 → IsTrue ((table_judge t).holds letters)
    from some = let no : (rows_after t (start_set t) letters == 0) ≡ false = grind (arith, nat_tests) in rw no refl

-- the law
pub tables_are_judges : TablesAreJudges
tables_are_judges = record {
  rows = λ t spec j is mean by letters. ap (λ (k : Judge). rows_of k letters) (judge-is t spec j is mean by) ∙ rows-are t letters;
  holds = λ t spec j is mean by letters. subst (λ (k : Judge). IsTrue (k.holds letters) ↔ rows_after t (start_set t) letters ≢ 0) (sym (judge-is t spec j is mean by)) (some-hold t letters);
  legal = λ input js h is mean by.
      (let same = judges-are input.specs input.setup.tables js is.are_tables mean by in
      (subst (λ (ks : List Judge). IsLegal input ks h) same, subst (λ (ks : List Judge). IsLegal input ks h) (sym same)));
}
