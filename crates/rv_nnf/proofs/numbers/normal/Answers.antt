use Rattle.std.proofs.Common.{ap}
use Rattle.std.proofs.lemmas.Result.{err_from_is_err_and}
use Rattle.rv_model.specs.Formulas.{ltl}
use Rattle.rv_nnf.specs.Views.{part_values}
use Rattle.rv_nnf.proofs.RefusedExactly.{given, refused, normal_of_is, holds_is}
use Rattle.rv_nnf.proofs.numbers.normal.Goals as goal

pub returns-in_err-number-clause-gives : goal.returns-in_err-number-clause-gives
returns-in_err-number-clause-gives c =
    let p = err_from_is_err_and c.from_residual.result c.from_residual.ensures.1 in
    rw (p.1, p.2) (refused c.in_err-number.field-0.0 (ltl c.args.formula.now) (part_values c.new-parts.result.items) c.requires.atoms (ap part_values c.new-parts.ensures.items) c.in_err-number.ensures.gives)

pub invariant_of-result : goal.invariant_of-result
invariant_of-result c =
    let f = ltl c.args.formula.now in
    let e = given f (part_values c.new-parts.result.items) (part_values c.number.new.parts.items) c.in_ok-number.field-0 c.requires.atoms (ap part_values c.new-parts.ensures.items) c.in_ok-number.ensures.gives in
    (normal_of_is f (part_values c.number.new.parts.items) c.requires.atoms e).normal

pub returns-clause-gives : goal.returns-clause-gives
returns-clause-gives c = given (ltl c.args.formula.now) (part_values c.new-parts.result.items) (part_values c.number.new.parts.items) c.in_ok-number.field-0 c.requires.atoms (ap part_values c.new-parts.ensures.items) c.in_ok-number.ensures.gives

pub returns-clause-holds : goal.returns-clause-holds
returns-clause-holds c =
    let f = ltl c.args.formula.now in
    let e = given f (part_values c.new-parts.result.items) (part_values c.number.new.parts.items) c.in_ok-number.field-0 c.requires.atoms (ap part_values c.new-parts.ensures.items) c.in_ok-number.ensures.gives in
    holds_is f (part_values c.number.new.parts.items) c.requires.atoms e
