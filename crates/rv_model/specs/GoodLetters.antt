-- Laws of good letters. The empty list is good; good letters stay good where their end is cut off.
-- Letters that are good need not stay so when more come, whatever the specification.
use Rattle.std.specs.Prelude.{ℕ, List, [], ◌++◌}
use Rattle.rv_model.specs.declared.hit.Letter.{Letter}
use Rattle.rv_model.specs.declared.formula.Spec.{Spec}
use Rattle.rv_model.specs.Ltl.{Ltl}
use Rattle.rv_model.specs.Truth.{Strong, Satisfies}
use Rattle.rv_model.specs.Judging.{IsGood}

-- a law: no letters are good, and good letters stay good where their end is cut off
pub record GoodLetters : Type 0 where
  pub empty : (spec : Spec) → IsGood spec []
  pub cut : (spec : Spec) (front back : List Letter) → IsGood spec (front ++ back) → IsGood spec front
  -- what holds strongly goes on to do so (Eisner and others, 2003)
  pub strong : (formula : Ltl) (front back : List ℕ) → Satisfies Strong front formula → Satisfies Strong (front ++ back) formula
