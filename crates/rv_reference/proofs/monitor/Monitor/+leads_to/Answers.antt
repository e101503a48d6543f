use Rattle.std.proofs.Common.{sym, ◌∙◌, subst, arith}
use Rattle.rv_model.specs.declared.hit.Letter.TheVariants.{Event}
use Rattle.rv_reference.specs.Monitors.{table_by}
use Rattle.rv_reference.proofs.ListLemmas.{split_first, is_empty}
use Rattle.rv_reference.proofs.TestLemmas.{iff_yes, iff_no, same_is, is_same}
use Rattle.rv_reference.proofs.RowLemmas.{LeadsTo, leads-empty, leads-nowhere, leads-here, leads-none}
use Rattle.rv_reference.proofs.monitor.Monitor.+leads_to.Goals as goal

pub returns-in_default : goal.returns-in_default
returns-in_default t c =
    let none = is_empty c.args.letters.now c.in_default.len_below in (
      λ e. subst (λ w. LeadsTo (table_by c.args.self.now) c.args.from w c.args.row) (sym none) (leads-empty (table_by c.args.self.now) c.args.from c.args.row (is_same c.args.from c.args.row e)),
      λ p. same_is c.args.from c.args.row (leads-nowhere (table_by c.args.self.now) c.args.from c.args.row (subst (λ w. LeadsTo (table_by c.args.self.now) c.args.from w c.args.row) none p)),
    )

pub returns-then-leads_to : goal.returns-then-leads_to
returns-then-leads_to t c =
    let word = split_first c.args.letters.now (Event 0) c.in-len1-up.len_at_least in
    let here = leads-here (table_by c.args.self.now) c.args.from _ _ c.args.row c.loop-next.next (sym c.follows.ensures ∙ c.if-follows.true) (c.leads_to.ensures.0 c.if-leads_to.true) in
    iff_yes (rw word here)

pub returns : goal.returns
returns t c =
    let word = split_first c.args.letters.now (Event 0) c.in-len1-up.len_at_least in
    iff_no (λ p. leads-none (table_by c.args.self.now) c.args.from _ _ c.args.row _ c.row_count-next-end.ensures (λ next lt. c.loop-next.invariant next (let end = c.loop-next-test.false in omega arith)) (subst (λ w. LeadsTo (table_by c.args.self.now) c.args.from w c.args.row) word p))
