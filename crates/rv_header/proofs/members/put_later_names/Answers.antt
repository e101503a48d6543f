use Rattle.std.proofs.Common.{◌++◌, codes, ap, ◌∙◌, sym}
use Rattle.std.specs.Prelude.{Some}
use Rattle.rv_header.specs.HeaderText.{tagged}
use Rattle.rv_header.proofs.ListSteps.{more}
use Rattle.rv_header.proofs.Written.{grown}
use Rattle.rv_header.proofs.members.put_later_names.Goals as goal

pub members-preserved : goal.members-preserved
members-preserved c =
    more (λ text. codes ",\n\t" ++ tagged c.args.name.now text) c.args.members.now c.members.place c.bytes.result.now c.members.out c.put_tagged.new.out _
    (rw (← c.len.ensures) c.members-test.true) (c.get.ensures ∙ ap Some (sym c.bytes.ensures)) c.members.invariant
    (grown c.members.out (codes ",\n\t") (tagged c.args.name.now c.bytes.result.now) c.text.new.self c.put_tagged.new.out c.in_ok-text.ensures.ok c.in_ok-put_tagged.ensures)
