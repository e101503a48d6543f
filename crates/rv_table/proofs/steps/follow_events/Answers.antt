use Rattle.std.proofs.Common.{rules, refl, lit<}
use Rattle.std.proofs.lemmas.Nat.Bits.{bit_at-zero}
use Rattle.rv_model.specs.declared.hit.Letter.TheVariants.{Event}
use Rattle.rv_model.specs.Stepping.{some_follows}
use Rattle.rv_model.specs.Table.{of_events, follows}
use Rattle.rv_table.proofs.SetLemmas.{is_step_set, some-last, some-step, some_follows-more, some_follows-none}
use Rattle.rv_table.proofs.steps.follow_events.Goals as goal

pub loop-rest-init : goal.loop-rest-init
loop-rest-init c = (lit< tt, λ count q h. rw (bit_at-zero q) refl)

pub loop-rest-preserved : goal.loop-rest-preserved
loop-rest-preserved c =
    let row = c.lowest-row.ensures in
    let x = Event c.args.event in (
      search rules,
      λ count q h.
          let t = of_events count c.args.rows.now in
          rw (c.follow-out.ensures q h) (some-step (λ n. follows t n x q) (λ set n. some_follows t set x n q) (λ set. some_follows-none t set x q) (λ set n. some_follows-more t set x n q) _ _ _ _ _ row.few row.member c.without_member-rest.ensures.others (c.loop-rest.invariant.1 count q h)),
    )

pub returns : goal.returns
returns c = λ count. is_step_set _ _ _ _ c.loop-rest.invariant.0 (λ q h.
    let t = of_events count c.args.rows.now in
    let x = Event c.args.event in
    some-last (λ n. follows t n x q) (λ set n. some_follows t set x n q) (λ set. some_follows-none t set x q) (λ set n. some_follows-more t set x n q) _ _ _ c.loop-rest-test.false (c.loop-rest.invariant.1 count q h))
