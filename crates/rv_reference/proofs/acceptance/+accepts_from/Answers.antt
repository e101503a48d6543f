use Rattle.std.proofs.Common.{◌∙◌, ap, sym, subst, arith}
use Rattle.rv_model.specs.declared.hit.Letter.TheVariants.{Event}
use Rattle.rv_model.specs.Machine.{Machine}
use Rattle.rv_reference.proofs.ListLemmas.{split_first}
use Rattle.rv_reference.proofs.TestLemmas.{iff_yes, iff_no}
use Rattle.rv_reference.proofs.PathLemmas.{AcceptsFrom, path-here, path-none, none-next}
use Rattle.rv_reference.proofs.acceptance.+accepts_from.Goals.{else-leads-via-then-leads+else-accepts_from, else-leads-via-else-leads}
use Rattle.rv_reference.proofs.acceptance.+accepts_from.Goals as goal

pub returns-then-accepts_from : goal.returns-then-accepts_from
returns-then-accepts_from t c =
    let items = c.deref-edge-items.ensures.value ∙ ap (λ (m : Machine). m.edges) c.automaton.view_is in
    let word = split_first c.args.letters.now (Event 0) c.in-len1-up.len_at_least in
    let here = path-here c.args.automaton.now c.args.state _ _ c.loop-edge.edge-index (rw (← items) c.loop-edge-test.true) (rw (← items) (sym c.leads.ensures ∙ c.if-leads.true)) (rw items at (c.accepts_from.ensures.0 c.if-accepts_from.true)) in
    iff_yes (rw word here)

pub loop-edge-preserved : goal.loop-edge-preserved
loop-edge-preserved t c =
    let items = c.deref-edge-items.ensures.value ∙ ap (λ (m : Machine). m.edges) c.automaton.view_is in
    none-next c.args.automaton.now c.args.state _ _ c.loop-edge.edge-index c.loop-edge.invariant (λ is p.
    elim c.else-leads.branch [
      | else-leads-via-then-leads+else-accepts_from w ↦ let yes = w.accepts_from.ensures.1 (rw items p) in let no = w.if-accepts_from.false in absurd cc
      | else-leads-via-else-leads w ↦ let no = w.if-leads.false in let yes = rw (← items) at is in let e = c.leads.ensures in absurd cc
    ])

pub returns : goal.returns
returns t c =
    let items = c.deref-edge-items.ensures.value ∙ ap (λ (m : Machine). m.edges) c.automaton.view_is in
    let word = split_first c.args.letters.now (Event 0) c.in-len1-up.len_at_least in
    iff_no (λ p. path-none c.args.automaton.now c.args.state _ _ (λ k lt. c.loop-edge.invariant k (let l = rw items at c.loop-edge-test.false in omega arith)) (subst (AcceptsFrom c.args.automaton.now c.args.state) word p))
