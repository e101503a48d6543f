use Rattle.std.proofs.Common.{List, Option, length, sym, ap, ◌∙◌, arith}
use Rattle.rv_ltl.specs.declared.weight.Weight.{Weight}
use Rattle.rv_ltl.specs.Replace.{is_none}
use Rattle.rv_ltl.specs.inner.Machine.{defs}
use Rattle.rv_ltl.proofs.Elements.{length-defs}
use Rattle.rv_ltl.proofs.Settling.{body_at}
use Rattle.rv_ltl.proofs.Ruling.{once_distinct, no_rule, twice, cyclic}
use Rattle.rv_ltl.proofs.Ending.{the_end, end_many, end_small, end_heavy}
use Rattle.rv_ltl.proofs.replacing.limited_atoms.Goals as goal

pub returns-in_default : goal.returns-in_default
returns-in_default c = rw c.refused.ensures (no_rule (defs c.args.definitions.now) c.args.root (sym c.in_default.ensures))

pub returns-then-not-once : goal.returns-then-not-once
returns-then-not-once c = rw c.refused-then-not-once.ensures (twice (defs c.args.definitions.now) c.args.root c.in-Some.place (sym c.in-Some.ensures) (sym c.if-not-once.ensures))

pub uses-requires-clause-distinct : goal.uses-requires-clause-distinct
uses-requires-clause-distinct c = once_distinct (defs c.args.definitions.now) (sym c.if-not-once.ensures)

pub weight_at-requires-clause-place : goal.weight_at-requires-clause-place
weight_at-requires-clause-place c = (body_at (defs c.args.definitions.now) c.args.root c.in-Some.place (sym c.in-Some.ensures)).0

pub weight_at-requires-clause-distinct : goal.weight_at-requires-clause-distinct
weight_at-requires-clause-distinct c = once_distinct (defs c.args.definitions.now) (sym c.if-not-once.ensures)

pub weight_at-requires-clause-uses : goal.weight_at-requires-clause-uses
weight_at-requires-clause-uses c = rw c.deref.ensures.value c.in_ok-uses.ensures

pub returns-in_default-2 : goal.returns-in_default-2
returns-in_default-2 c =
    rw c.refused-in_default-2.ensures (cyclic (defs c.args.definitions.now) c.args.root c.in-Some.place (sym c.in-Some.ensures) (sym c.if-not-once.ensures) (c.in_ok-weight.ensures.ends ∙ ap (λ (a : Option Weight). is_none a) c.in_default-2.is))

pub reached_atoms-requires-clause-place : goal.reached_atoms-requires-clause-place
reached_atoms-requires-clause-place c =
    let ds = c.args.definitions.now in
    omega (arith, (body_at (defs ds) c.args.root c.in-Some.place (sym c.in-Some.ensures)).0, length-defs ds, c.in_ok-uses.ensures.each, ap (λ (rows : List _). length rows) c.deref-2.ensures.value)

pub returns-in_default-3 : goal.returns-in_default-3
returns-in_default-3 c =
    let ds = c.args.definitions.now in
    let e = the_end (defs ds) c.args.root c.in-Some.place (length ds) c.in_ok-weight.field-0 c.in-Some-2.weight c.in_ok-uses.uses.items c.deref-2.result.now c.in_ok-out.field-0
    (sym c.in-Some.ensures) (sym c.if-not-once.ensures) c.in_ok-weight.ensures.ends c.in_ok-weight.ensures.value c.in-Some-2.is c.in_ok-uses.ensures (sym (length-defs ds)) c.deref-2.ensures.value c.in_ok-out.ensures in
    rw c.refused-in_default-3.ensures (end_many (defs ds) c.args.root c.in-Some-2.weight c.in_ok-out.field-0 e c.in_default-3.is)

pub returns-in-Is : goal.returns-in-Is
returns-in-Is c =
    let ds = c.args.definitions.now in
    let e = the_end (defs ds) c.args.root c.in-Some.place (length ds) c.in_ok-weight.field-0 c.in-Some-2.weight c.in_ok-uses.uses.items c.deref-2.result.now c.in_ok-out.field-0
    (sym c.in-Some.ensures) (sym c.if-not-once.ensures) c.in_ok-weight.ensures.ends c.in_ok-weight.ensures.value c.in-Some-2.is c.in_ok-uses.ensures (sym (length-defs ds)) c.deref-2.ensures.value c.in_ok-out.ensures in
    end_small (defs ds) c.args.root c.in-Some-2.weight c.in_ok-out.field-0 c.in-Some-3.out c.in-Is.field-0 e c.in-Some-3.is (sym c.in-Is.is)

pub returns : goal.returns
returns c =
    let ds = c.args.definitions.now in
    let e = the_end (defs ds) c.args.root c.in-Some.place (length ds) c.in_ok-weight.field-0 c.in-Some-2.weight c.in_ok-uses.uses.items c.deref-2.result.now c.in_ok-out.field-0
    (sym c.in-Some.ensures) (sym c.if-not-once.ensures) c.in_ok-weight.ensures.ends c.in_ok-weight.ensures.value c.in-Some-2.is c.in_ok-uses.ensures (sym (length-defs ds)) c.deref-2.ensures.value c.in_ok-out.ensures in
    rw c.refused-in_default-weight.ensures (end_heavy (defs ds) c.args.root c.in-Some-2.weight c.in_ok-out.field-0 c.in-Some-3.out e c.in-Some-3.is c.in_default-weight.not-Is)
