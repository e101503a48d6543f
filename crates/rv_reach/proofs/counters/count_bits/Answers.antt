-- All bits are left, then one less, and then none that counts.
use Rattle.std.proofs.Common.{◌≡◌, ℕ, ◌<◌, ◌+◌, ◌∙◌, length, get_or, refl, arith, ap, w32}
use Rattle.std.specs.Int.{bit_at, trailing_zeros}
use Rattle.std.proofs.lemmas.List.{get_or_read}
use Rattle.std.proofs.lemmas.Nat.Bits.{bit_at-trailing_zeros, bit_at-zero}
use Rattle.rv_model.specs.Numbers.{has_bit}
use Rattle.rv_reach.proofs.CountLemmas.{but-all, but-none, but-one, without-less}
use Rattle.rv_reach.proofs.counters.count_bits.Goals as goal

pub loop-rest-init : goal.loop-rest-init
loop-rest-init c = but-all (λ k. has_bit c.args.set (k + c.args.first)) c.args.counts.now.items c.args.set c.args.first c.ranges.set.fits (λ k. refl)

pub returns-then-place-len : goal.returns-then-place-len
returns-then-place-len c =
    let i = c.loop-rest.invariant in
    let lowest = bit_at-trailing_zeros w32 c.loop-rest.rest (let n = c.loop-rest-test.true in omega arith) i.fits in
    but-none (λ k. has_bit c.args.set (k + c.args.first)) c.args.counts.now.items c.loop-rest.counts.items c.loop-rest.rest i
    (λ k lt. lowest.2 k (let m = i.many in let past = c.if-place-len.true in let l = c.len.ensures in omega arith))

pub loop-rest-smaller : goal.loop-rest-smaller
loop-rest-smaller c =
    let i = c.loop-rest.invariant in
    let lowest = bit_at-trailing_zeros w32 c.loop-rest.rest (let n = c.loop-rest-test.true in omega arith) i.fits in
    without-less c.loop-rest.rest (trailing_zeros w32 c.loop-rest.rest) lowest.0 lowest.1

pub loop-rest-preserved : goal.loop-rest-preserved
loop-rest-preserved c =
    let i = c.loop-rest.invariant in
    let place : ℕ = trailing_zeros w32 c.loop-rest.rest in
    let lowest = bit_at-trailing_zeros w32 c.loop-rest.rest (let n = c.loop-rest-test.true in omega arith) i.fits in
    let inside : place < length c.loop-rest.counts.items = let l = c.len.ensures in let below = c.if-place-len.false in omega arith in
    let read : c.index.result.now ≡ get_or c.loop-rest.counts.items place 0 = get_or_read c.loop-rest.counts.items place c.index.result.now inside c.index.ensures 0 in
    but-one (λ k. has_bit c.args.set (k + c.args.first)) c.args.counts.now.items c.loop-rest.counts.items c.loop-rest.rest place c.in_ok-counts.field-0 i lowest.0 lowest.1 inside
    (c.in_ok-counts.ensures ∙ ap (λ (n : ℕ). n + 1) read)

pub returns : goal.returns
returns c =
    but-none (λ k. has_bit c.args.set (k + c.args.first)) c.args.counts.now.items c.loop-rest.counts.items c.loop-rest.rest c.loop-rest.invariant
    (λ k lt. ap (λ (n : ℕ). bit_at n k) c.loop-rest-test.false ∙ bit_at-zero k)
