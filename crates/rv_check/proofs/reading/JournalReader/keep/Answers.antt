-- The line is too long, or goes on.
use Rattle.std.proofs.Common.{◌≡◌, ◌+◌, ◌<◌, ◌≤◌, ◌++◌, List, ℕ, false, length, refl, sym, ap, ◌∙◌, subst, arith}
use Rattle.rv_check.specs.Readings.{ReaderValue, pieces_joined, journal_by, IsStopped}
use Rattle.rv_check.proofs.ReaderLemmas.{stop-long, open-keep}
use Rattle.rv_check.proofs.KeptLemmas.{pieces_joined-more, open-of, reader-open}
use Rattle.rv_check.proofs.reading.JournalReader.keep.Goals as goal

pub invariant_of-self : goal.invariant_of-self
invariant_of-self c =
    let i = c.self.inside in
    let part : List ℕ = c.args.part.now in
    let going : i.stopped ≡ false = ap (λ (r : ReaderValue). r.stopped) c.self.view_is ∙ c.requires.goes_on in
    let o = open-of i.checker i.tail.items i.line i.stopped (pieces_joined i.pieces) going c.self.invariant in
    let long : 200 < length i.tail.items + length part = (let short = o.short in omega (arith, c.if-part-len.true, c.len.ensures)) in
    subst (λ (t : List ℕ). IsStopped (journal_by i.checker t) i.line) (sym (ap pieces_joined c.push.ensures ∙ pieces_joined-more i.pieces part))
    (stop-long i.checker i.tail.items i.line (pieces_joined i.pieces) o part c.requires.unended long)

pub invariant_of-self-2 : goal.invariant_of-self-2
invariant_of-self-2 c =
    let i = c.self.inside in
    let part : List ℕ = c.args.part.now in
    let going : i.stopped ≡ false = ap (λ (r : ReaderValue). r.stopped) c.self.view_is ∙ c.requires.goes_on in
    let o = open-of i.checker i.tail.items i.line i.stopped (pieces_joined i.pieces) going c.self.invariant in
    let short : length i.tail.items + length part ≤ 200 = (let was = o.short in omega (arith, c.if-part-len.false, c.len.ensures)) in
    reader-open i.checker i.checker (i.tail.items ++ part) c.extend_from_slice.new.self.items i.line i.stopped (pieces_joined i.pieces ++ part) (pieces_joined c.push-2.new.given)
    refl c.in_ok-extend_from_slice.ensures.items going (ap pieces_joined c.push-2.ensures ∙ pieces_joined-more i.pieces part)
    (open-keep i.checker i.tail.items i.line (pieces_joined i.pieces) o part c.requires.unended short)
