-- What the lines so far come to, or the line that was bad.
use Rattle.std.proofs.Common.{◌≡◌, true, sym, ap, ◌∙◌, subst}
use Rattle.std.proofs.lemmas.Bool.{false≢true}
use Rattle.rv_check.specs.Readings.{ReaderValue, pieces_joined, journal_by, with_more_text}
use Rattle.rv_check.specs.Verdicts.{IsYes, IsNo}
use Rattle.rv_check.proofs.ReaderLemmas.{no-tail, no-over, no-stopped, stop-more, yes-whole}
use Rattle.rv_check.proofs.KeptLemmas.{open-of, stopped-of}
use Rattle.rv_check.proofs.reading.JournalReader.verdict.Goals as goal
use Rattle.rv_check.proofs.reading.JournalReader.verdict.Goals.{else-not-self-via-then-not-self+then-is_over+else-whole, else-not-self-via-then-not-self+else-is_over, else-not-self-via-else-not-self}

pub returns-then-whole-clause-holds : goal.returns-then-whole-clause-holds
returns-then-whole-clause-holds c = λ specs.
    let i = c.self.inside in
    let o = open-of i.checker i.tail.items i.line i.stopped (pieces_joined i.pieces) c.if-not-self.true c.self.invariant in
    subst (λ (r : ReaderValue). IsYes r.journal specs) c.self.view_is
    (yes-whole i.checker i.tail.items i.line (pieces_joined i.pieces) o specs (sym c.deref.ensures.value ∙ c.is_over.ensures.over c.if-is_over.true) ((c.whole.ensures specs).0 c.if-whole.true))

pub returns-clause-holds : goal.returns-clause-holds
returns-clause-holds c = λ specs.
    let i = c.self.inside in
    subst (λ (r : ReaderValue). IsNo r.journal specs i.line) c.self.view_is
    (elim c.else-not-self.branch [
      | else-not-self-via-then-not-self+then-is_over+else-whole w ↦ (
          let o = open-of i.checker i.tail.items i.line i.stopped (pieces_joined i.pieces) w.if-not-self.true c.self.invariant in
          no-over i.checker i.tail.items i.line (pieces_joined i.pieces) o specs (sym w.deref.ensures.value ∙ w.is_over.ensures.over w.if-is_over.true)
          (λ whole. false≢true (sym w.if-whole.false ∙ (w.whole.ensures specs).1 whole)))
      | else-not-self-via-then-not-self+else-is_over w ↦ (
          let o = open-of i.checker i.tail.items i.line i.stopped (pieces_joined i.pieces) w.if-not-self.true c.self.invariant in
          no-tail i.checker i.tail.items i.line (pieces_joined i.pieces) o specs (λ none. w.is_over.ensures.some w.if-is_over.false (w.deref.ensures.value ∙ none)))
      | else-not-self-via-else-not-self w ↦ no-stopped (journal_by i.checker (pieces_joined i.pieces)) i.line specs (stopped-of i.checker i.tail.items i.line i.stopped (pieces_joined i.pieces) w.if-not-self.false c.self.invariant)
    ])

pub returns-clause-stays : goal.returns-clause-stays
returns-clause-stays c = λ over specs more.
    let i = c.self.inside in
    let stopped : i.stopped ≡ true = ap (λ (r : ReaderValue). r.stopped) c.self.view_is ∙ over in
    let s = stopped-of i.checker i.tail.items i.line i.stopped (pieces_joined i.pieces) stopped c.self.invariant in
    subst (λ (r : ReaderValue). IsNo (with_more_text r.journal more) specs i.line) c.self.view_is
    (no-stopped (with_more_text (journal_by i.checker (pieces_joined i.pieces)) more) i.line specs (stop-more (journal_by i.checker (pieces_joined i.pieces)) i.line more s))
