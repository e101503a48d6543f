use Rattle.std.proofs.Common.{List, ℕ, subst, codes}
use Rattle.rv_react.specs.Appending.{Appends}
use Rattle.rv_react.proofs.AppendLemmas.{line-pieces}
use Rattle.rv_react.proofs.react.begun.Goals as goal

pub returns-in-Da : goal.returns-in-Da
returns-in-Da c =
    let Appended : List ℕ → Type 0 = λ text. Appends c.args.out.now c.append.new.out text c.append.result in
    let same = line-pieces c.args.front.now c.args.instance.now (codes "monitor ") (codes " does not allow event ") c.in-Da.event (codes " on state ") c.in-Da.state (codes " (line ")
    c.as_slice-monitor.ensures c.as_slice-denied.ensures c.bytes.ensures c.as_slice-on.ensures c.bytes-state.ensures c.as_slice-line.ensures in
    rw c.in-Da.is (subst Appended same c.append.ensures)
