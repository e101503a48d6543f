use Rattle.std.proofs.Common.{◌≡◌, ◌+◌, Bool, true, sym, ap, ◌∙◌, subst}
use Rattle.std.specs.Prelude.{if◌then◌else◌}
use Rattle.std.proofs.lemmas.List.{drop_all}
use Rattle.rv_tool.specs.Sessions.{status_with}
use Rattle.rv_tool.proofs.SessionLemmas.{RanSoFar, ran_more, ran_all}
use Rattle.rv_tool.proofs.control.run_commands.Goals.{then-branch, else-branch, then-is_refused, else-is_refused}
use Rattle.rv_tool.proofs.control.run_commands.Goals as goal

pub commands-preserved : goal.commands-preserved
commands-preserved c =
    let so_far = c.commands.is_refused in
    let flag : c.if-branch.is_refused ≡ (if c.in_ok-put_done.field-0 then true else so_far) = elim c.if-branch.branch [
      | then-branch w ↦ w.is_refused-is ∙ sym (ap (λ (b : Bool). if b then true else so_far) w.if-branch.true)
      | else-branch w ↦ w.is_refused-is ∙ sym (ap (λ (b : Bool). if b then true else so_far) w.if-branch.false)
    ] in
    subst (λ (b : Bool). RanSoFar c.args.script.now c.args.control.now c.args.commands.now (c.commands.numbered-index + 1) c.put_done.new.control c.put_done.new.out b) (sym flag)
    (ran_more c.args.script.now c.args.control.now c.args.commands.now c.commands.numbered-index c.commands.control c.put_done.new.control c.commands.out c.put_done.new.out so_far c.in_ok-put_done.field-0 c.numbered-item.result
    c.commands-test.true c.numbered-item.is c.commands.invariant c.in_ok-put_done.ensures.text c.in_ok-put_done.ensures.tree c.in_ok-put_done.ensures.refused)

pub returns : goal.returns
returns c =
    let status : c.if-is_refused.result ≡ status_with c.commands.is_refused 0 = elim c.if-is_refused.branch [
      | then-is_refused w ↦ w.result-is ∙ sym (ap (λ (b : Bool). status_with b 0) w.if-is_refused.true)
      | else-is_refused w ↦ w.result-is ∙ sym (ap (λ (b : Bool). status_with b 0) w.if-is_refused.false)
    ] in
    (λ i. record { text = c.into_bytes.ensures i; status = status i })
    ∙ ran_all c.args.script.now c.args.control.now c.args.commands.now c.commands.numbered-index c.commands.control c.commands.out c.commands.is_refused
    (drop_all c.commands.numbered-index c.args.commands.now c.commands-test.false) c.commands.invariant
