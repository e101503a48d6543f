use Rattle.std.proofs.Common.{◌≡◌, ◌≢◌, ℕ, List, ◌+◌, ◌-◌, ◌*◌, ◌<◌, ◌≤◌, ltb, length, sym, ap, ap₂, ◌∙◌, arith}
use Rattle.std.proofs.lemmas.Bool.{le-ltb}
use Rattle.std.proofs.lemmas.Slice.Eq.{bytes_eq-Decides}
use Rattle.rv_matches.specs.declared.words.TheConstants.{LONGEST}
use Rattle.rv_matches.specs.Times.{point_in, time_of}
use Rattle.rv_matches.specs.inner.Times.{digit_at}
use Rattle.rv_matches.proofs.SpelledLemmas.{before_by, before_none, time_short}
use Rattle.rv_matches.proofs.TimeLemmas.{zeros_before}
use Rattle.rv_matches.proofs.times.is_before.Goals as goal

pub returns-then-eq : goal.returns-then-eq
returns-then-eq c =
    let one = c.args.one.now in
    let other = c.args.other.now in
    let same : one ≡ other = (bytes_eq-Decides one other).0 (sym c.eq.ensures ∙ c.if-eq.true) in
    sym (ap (λ (s : List ℕ). ltb (time_of one) (time_of s)) (sym same) ∙ le-ltb (time_of one) (time_of one) (omega arith))

pub loop-place-init : goal.loop-place-init
loop-place-init c = λ k before.
    zeros_before c.args.one.now k (omega (arith, before, c.max-first.ensures, c.point_in-point.ensures.value))
    ∙ sym (zeros_before c.args.other.now k (omega (arith, before, c.max-first.ensures, c.point_in-its.ensures.value)))

pub returns-then-digit-against : goal.returns-then-digit-against
returns-then-digit-against c =
    let one = c.args.one.now in
    let other = c.args.other.now in
    let place = c.loop-place.place in
    let inside : place < 2 * LONGEST = omega (arith, c.max-last.ensures, time_short one c.requires.one, time_short other c.requires.other) in
    let differ : digit_at one place ≢ digit_at other place = λ e. c.if-digit-against.true (c.digit_at-digit.ensures ∙ e ∙ sym c.digit_at-against.ensures) in
    ap₂ ltb c.digit_at-digit.ensures c.digit_at-against.ensures ∙ before_by one other c.requires.one c.requires.other place inside c.loop-place.invariant differ

pub returns : goal.returns
returns c =
    let one = c.args.one.now in
    let other = c.args.other.now in
    let place = c.loop-place.place in
    let high : LONGEST + (length one - point_in one) ≤ place = omega (arith, c.max-last.ensures, c.point_in-point.ensures.value) in
    let high' : LONGEST + (length other - point_in other) ≤ place = omega (arith, c.max-last.ensures, c.point_in-its.ensures.value) in
    before_none one other c.requires.one c.requires.other place high high' c.loop-place.invariant
