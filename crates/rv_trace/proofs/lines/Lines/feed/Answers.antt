use Rattle.std.proofs.Common.{◌≡◌, ℕ, ◌+◌, ◌≤◌, List, length, length-drop, take, false, refl, ◌∙◌, ap, ap₂, arith}
use Rattle.std.proofs.lemmas.List.{take-append-le}
use Rattle.rv_trace.specs.Streams.{Stream}
use Rattle.rv_trace.proofs.HeldLemmas.{held-fed}
use Rattle.rv_trace.proofs.lines.Lines.feed.Goals as goal

pub invariant_of-self-2 : goal.invariant_of-self-2
invariant_of-self-2 c =
    let is = c.self.inside in
    let going : c.self.inside.ended ≡ false = ap {B = _} (λ (s : Stream). s.ended) c.self.view_is ∙ c.requires.open in
    rw (c.append.ensures, c.extend_from_slice.ensures.items, c.unwrap.ensures, c.let_go.ensures.items, c.reserve.ensures.items, going)
    (held-fed is.stream is.held.items c.args.piece.now is.passed is.at.from is.at.searched is.at.number is.first is.last (rw going at c.self.invariant))

pub returns-clause-ok : goal.returns-clause-ok
returns-clause-ok c =
    let taken : c.self.inside.passed + c.self.inside.at.from + 0 ≡ c.self.inside.passed + c.self.inside.at.from = omega arith in
    rw (← c.self.view_is, c.append.ensures, taken) refl

pub returns-clause-kept : goal.returns-clause-kept
returns-clause-kept c =
    let is = c.self.inside in
    let old = c.self.invariant in
    let taken : is.passed + is.at.from + 0 ≡ is.passed + is.at.from = omega arith in
    let inside : is.passed + is.at.from ≤ length is.stream = omega (arith, ap length old.piece.is, length-drop is.passed is.stream, old.piece.low, old.looks.order, old.looks.within) in
    rw (← c.self.view_is) (ap₂ (λ (n : ℕ) (fed : List ℕ). take n fed) taken c.append.ensures ∙ take-append-le (is.passed + is.at.from) is.stream c.args.piece.now inside)
