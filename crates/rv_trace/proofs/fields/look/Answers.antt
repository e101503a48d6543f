use Rattle.std.proofs.Common.{◌+◌, ◌-◌, min, length, sym, ◌∙◌, arith}
use Rattle.rv_trace.proofs.FieldLemmas.{stands-first, stands-past, stands-up_to, stands-on, set-open}
use Rattle.rv_trace.proofs.fields.look.Goals as goal

pub returns-then-bits-eq0-clause-next : goal.returns-then-bits-eq0-clause-next
returns-then-bits-eq0-clause-next c _ before =
    let fields = c.args.fields.now in
    let bits = c.candidates-bits.ensures.bits in
    stands-past fields c.args.name.now c.candidates-bits.result c.args.place (min (c.args.place + 16) (length fields - length c.args.name.now))
    before c.requires.low bits _ (omega (arith, c.min.ensures, c.len.ensures.len)) c.if-bits-eq0.true

pub returns-then-is_named_before-clause-first : goal.returns-then-is_named_before-clause-first
returns-then-is_named_before-clause-first c _ before =
    let fields = c.args.fields.now in
    let bits = c.candidates-bits.ensures.bits in
    let inside = c.candidates-bits.ensures.within c.lowest.result c.lowest.ensures.set in
    stands-first fields c.args.name.now (c.args.place + c.lowest.result)
    (set-open fields c.args.name.now c.candidates-bits.result c.args.place (min (c.args.place + 16) (length fields - length c.args.name.now))
    before c.requires.low bits c.lowest.result inside c.lowest.ensures.set)
    (sym c.is_named_before.ensures ∙ c.if-is_named_before.true)
    (stands-up_to fields c.args.name.now c.candidates-bits.result c.args.place (min (c.args.place + 16) (length fields - length c.args.name.now))
    before c.requires.low bits c.lowest.result (omega (arith, inside)) c.lowest.ensures.below)

pub returns-else-is_named_before-clause-next : goal.returns-else-is_named_before-clause-next
returns-else-is_named_before-clause-next c _ before =
    let fields = c.args.fields.now in
    let bits = c.candidates-bits.ensures.bits in
    let inside = c.candidates-bits.ensures.within c.lowest.result c.lowest.ensures.set in
    stands-on fields c.args.name.now (c.args.place + c.lowest.result)
    (stands-up_to fields c.args.name.now c.candidates-bits.result c.args.place (min (c.args.place + 16) (length fields - length c.args.name.now))
    before c.requires.low bits c.lowest.result (omega (arith, inside)) c.lowest.ensures.below)
    (sym c.is_named_before.ensures ∙ c.if-is_named_before.false)
