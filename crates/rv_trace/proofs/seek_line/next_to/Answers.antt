use Rattle.std.proofs.Common.{◌≡◌, get_or, Bool, ◌∙◌, ap, subst, arith}
use Rattle.std.specs.Prelude.{IfSome, IfNone}
use Rattle.rv_text.specs.TextLines.{line_end}
use Rattle.rv_text.proofs.TextLineLemmas.{line_end-byte}
use Rattle.rv_trace.specs.inner.Seeking.{EndsAt, HasNoLineEnd}
use Rattle.rv_trace.proofs.HeldLemmas.{none-to}
use Rattle.rv_trace.proofs.seek_line.next_to.Goals as goal

pub returns-then-to-held-clause-some : goal.returns-then-to-held-clause-some
returns-then-to-held-clause-some c =
    let looks = c.requires.looks in
    let is = c.line_end-to.ensures.value in
    let byte : get_or c.args.held.now (line_end c.args.held.now c.args.start.searched) 0 ≡ 10 = line_end-byte c.args.held.now c.args.start.searched looks.within (omega (arith, is)) in
    record {
      order = omega (arith, looks.order, c.line_end-to.ensures.low);
      within = c.line_end-to.ensures.high;
      none = none-to c.args.held.now c.args.start.from c.args.start.searched c.line_end-to.result looks is;
      ended = λ _. ap (λ n. get_or c.args.held.now n 0) is ∙ byte;
      last = λ e. absurd (omega arith);
    }

pub returns-clause-some : goal.returns-clause-some
returns-clause-some c = subst (λ (w : Bool). IfSome c.line_to.result (EndsAt c.args.held.now c.args.start.from w)) c.is_whole.ensures c.line_to.ensures.some

pub returns-clause-none : goal.returns-clause-none
returns-clause-none c = subst (λ (w : Bool). IfNone c.line_to.result (HasNoLineEnd c.args.held.now c.args.start.from w)) c.is_whole.ensures c.line_to.ensures.none
