use Rattle.std.proofs.Common.{◌≡◌, get_or, sym, ◌∙◌, ap, arith}
use Rattle.std.proofs.lemmas.Bool.{false≢true}
use Rattle.rv_text.specs.TextLines.{line_end}
use Rattle.rv_text.proofs.TextLineLemmas.{line_end-byte}
use Rattle.rv_trace.proofs.HeldLemmas.{none-to}
use Rattle.rv_trace.proofs.seek.line_to.Goals.{else-whole-via-then-whole+else-at-to, else-whole-via-else-whole}
use Rattle.rv_trace.proofs.seek.line_to.Goals as goal

pub returns-then-to-held-clause-some : goal.returns-then-to-held-clause-some
returns-then-to-held-clause-some c =
    let is = c.line_end-to.ensures.value in
    let byte : get_or c.args.held.now (line_end c.args.held.now c.args.at.searched) 0 ≡ 10 = line_end-byte c.args.held.now c.args.at.searched c.requires.within (omega (arith, is)) in
    record {
      order = omega (arith, c.requires.order, c.line_end-to.ensures.low);
      within = c.line_end-to.ensures.high;
      none = none-to c.args.held.now c.args.at.from c.args.at.searched c.line_end-to.result c.requires is;
      ended = λ _. ap (λ n. get_or c.args.held.now n 0) is ∙ byte;
      last = λ e. absurd (omega arith);
    }

pub returns-then-at-to-clause-some : goal.returns-then-at-to-clause-some
returns-then-at-to-clause-some c =
    let is = c.line_end-to.ensures.value in
    record {
      order = omega (arith, c.requires.order, c.line_end-to.ensures.low);
      within = c.line_end-to.ensures.high;
      none = none-to c.args.held.now c.args.at.from c.args.at.searched c.line_end-to.result c.requires is;
      ended = λ h. absurd (omega arith);
      last = λ _. (c.if-at-to.true, c.if-whole.true);
    }

pub returns-clause-none : goal.returns-clause-none
returns-clause-none c =
    let is = c.line_end-to.ensures.value in
    let high = c.line_end-to.ensures.high in
    record {
      none = λ k low h. none-to c.args.held.now c.args.at.from c.args.at.searched c.line_end-to.result c.requires is k low (omega arith);
      last = λ whole. elim c.else-whole.branch [
        | else-whole-via-then-whole+else-at-to w ↦ omega (arith, w.if-at-to.false, c.requires.order, c.line_end-to.ensures.low, c.if-to-held.false)
        | else-whole-via-else-whole w ↦ absurd (false≢true (sym w.if-whole.false ∙ whole))
      ];
    }
