use Rattle.std.proofs.Common.{ℕ, sym, subst, arith}
use Rattle.rv_trace.specs.inner.Naming.{HasWalked}
use Rattle.rv_trace.proofs.WalkedLemmas.{all-inside, walk-step, walk-end}
use Rattle.rv_trace.proofs.field_names.FieldNames.walk.Goals as goal

pub loop-place-preserved : goal.loop-place-preserved
loop-place-preserved c =
    subst (λ (place : ℕ). HasWalked c.args.fields.now c.args.self.now place c.take_word.new.found) (sym c.in_ok-place.ensures.next)
    (walk-step c.args.fields.now c.args.self.now c.loop-place.place c.loop-place.found c.take_word.new.found (omega arith) c.loop-place.invariant c.in_ok-place.ensures.takes)

pub returns-clause-found : goal.returns-clause-found
returns-clause-found c = walk-end c.args.fields.now c.args.self.now c.loop-place.place c.loop-place.found c.loop-place.invariant (omega arith)

pub returns-clause-inside : goal.returns-clause-inside
returns-clause-inside c = all-inside c.args.fields.now c.loop-place.found c.loop-place.invariant.inside
