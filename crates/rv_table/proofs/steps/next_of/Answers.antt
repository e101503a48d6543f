use Rattle.std.proofs.Common.{rules, refl, lit<, ◌∙◌}
use Rattle.std.proofs.lemmas.Nat.Bits.{bit_at-zero}
use Rattle.rv_model.specs.Numbers.{has_bit}
use Rattle.rv_model.specs.Table.{node_at}
use Rattle.rv_table.specs.inner.Numbered.{some_next}
use Rattle.rv_table.proofs.SetLemmas.{some-last, some-step}
use Rattle.rv_table.proofs.LabelLemmas.{next-rows, some_next_none, some_next_more}
use Rattle.rv_table.proofs.steps.next_of.Goals as goal

pub loop-left-init : goal.loop-left-init
loop-left-init c = (lit< tt, λ q. rw (bit_at-zero q) refl)

pub loop-left-preserved : goal.loop-left-preserved
loop-left-preserved c =
    let row = c.lowest-row.ensures in
    let nodes = c.args.nodes.now in (
      search rules,
      λ q.
          rw (c.join-next.ensures q) (some-step (λ n. has_bit (node_at nodes n).next q) (λ set n. some_next nodes set n q) (λ set. some_next_none nodes set q) (λ set n. some_next_more nodes set n q) _ _ _ _ _ row.few row.member c.without_member-left.ensures.others (c.loop-left.invariant.1 q)),
    )

pub returns : goal.returns
returns c = λ q.
    let nodes = c.args.nodes.now in
    some-last (λ n. has_bit (node_at nodes n).next q) (λ set n. some_next nodes set n q) (λ set. some_next_none nodes set q) (λ set n. some_next_more nodes set n q) _ _ _ c.loop-left-test.false (c.loop-left.invariant.1 q)
    ∙ next-rows nodes c.args.set q c.requires
