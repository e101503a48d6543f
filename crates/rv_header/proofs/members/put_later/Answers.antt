use Rattle.std.proofs.Common.{◌++◌, codes, ap, ◌∙◌, sym}
use Rattle.std.specs.Prelude.{Some}
use Rattle.rv_header.proofs.ListSteps.{more}
use Rattle.rv_header.proofs.Written.{grown}
use Rattle.rv_header.proofs.members.put_later.Goals as goal

pub members-preserved : goal.members-preserved
members-preserved c =
    more (λ text. codes ", " ++ text) c.args.members.now c.members.place c.bytes.result.now c.members.out c.text-in-members.new.self _
    (rw (← c.len.ensures) c.members-test.true) (c.get.ensures ∙ ap Some (sym c.bytes.ensures)) c.members.invariant
    (grown c.members.out (codes ", ") c.bytes.result.now c.text.new.self c.text-in-members.new.self c.in_ok-text.ensures.ok c.in_ok-text-2.ensures.ok)
