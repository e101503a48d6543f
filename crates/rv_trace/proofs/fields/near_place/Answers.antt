use Rattle.std.proofs.Common.{◌≡◌, ◌<◌, ◌+◌, length, ℕ, sym, ◌∙◌, subst, arith, true}
use Rattle.rv_trace.specs.Fields.{is_open}
use Rattle.rv_trace.specs.inner.FieldPlaces.{StandsNot}
use Rattle.rv_trace.proofs.FieldLemmas.{stands-first, stands-nowhere, stands-more, open-next}
use Rattle.rv_trace.proofs.fields.near_place.Goals as goal

pub returns-then-is_named-clause-some : goal.returns-then-is_named-clause-some
returns-then-is_named-clause-some c =
    stands-first c.args.fields.now c.args.name.now c.loop-place.place (c.loop-place.invariant.1 (omega arith)) (sym c.is_named.ensures.value ∙ c.if-is_named.true) c.loop-place.invariant.0

pub loop-place-preserved : goal.loop-place-preserved
loop-place-preserved c =
    let same = c.word_end-place.ensures.value in
    subst (λ (place : ℕ). StandsNot c.args.fields.now c.args.name.now (place + 1) × (place + 1 < length c.args.fields.now → is_open c.args.fields.now (place + 1) ≡ true)) (sym same) (
      stands-more c.args.fields.now c.args.name.now c.loop-place.place c.loop-place.invariant.0 (sym c.is_named.ensures.value ∙ c.if-is_named.false),
      λ inside. open-next c.args.fields.now c.args.name.now c.loop-place.place (omega arith) inside,
    )

pub returns-clause-none : goal.returns-clause-none
returns-clause-none c = stands-nowhere c.args.fields.now c.args.name.now (λ k h. c.loop-place.invariant.0 k (omega arith))
