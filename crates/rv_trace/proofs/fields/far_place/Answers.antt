use Rattle.std.proofs.Common.{◌-◌, length, sym, ap, ◌∙◌, refl, arith}
use Rattle.rv_trace.specs.Fields.{is_named}
use Rattle.rv_trace.proofs.FieldLemmas.{stands-first, stands-nowhere, stands-on}
use Rattle.rv_trace.proofs.fields.far_place.Goals as goal

pub returns-then-is_named-clause-some : goal.returns-then-is_named-clause-some
returns-then-is_named-clause-some c =
    stands-first c.args.fields.now c.args.name.now 0 refl (ap (λ name. is_named c.args.fields.now name 0) (sym c.bytes.ensures) ∙ sym c.is_named.ensures.value ∙ c.if-is_named.true) (λ k h. absurd (omega arith))

pub loop-place-init : goal.loop-place-init
loop-place-init c =
    (stands-on c.args.fields.now c.args.name.now 0 (λ k h. absurd (omega arith)) (ap (λ name. is_named c.args.fields.now name 0) (sym c.bytes.ensures) ∙ sym c.is_named.ensures.value ∙ c.if-is_named.false), omega arith, omega (arith, c.len.ensures.len), ap (λ n. length c.args.fields.now - n) c.len.ensures.len)

pub returns-clause-none : goal.returns-clause-none
returns-clause-none c = stands-nowhere c.args.fields.now c.args.name.now (λ k h. c.loop-place-2.invariant.0 k (omega arith))
