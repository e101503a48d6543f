use Rattle.std.proofs.Common.{◌+◌, ◌<◌, length, Option, ℕ, sym, ◌∙◌, ap, subst, Some, arith}
use Rattle.std.specs.Prelude.{IfSome, IfNone}
use Rattle.rv_trace.specs.inner.FieldPlaces.{StandsFirst, StandsNowhere}
use Rattle.rv_trace.proofs.FieldLemmas.{field-some, field-none}
use Rattle.rv_trace.proofs.fields.value_at.Goals as goal

pub returns-in-Some-clause-value : goal.returns-in-Some-clause-value
returns-in-Some-clause-value c =
    let fields = c.args.fields.now in
    let name = c.args.name.now in
    let first = subst (λ (p : Option ℕ). IfSome p (StandsFirst fields name)) c.in-Some.is c.requires.some in
    let inside = subst (λ (p : Option ℕ). IfSome p (λ place. place + length name < length fields)) c.in-Some.is c.requires.inside in
    ap (λ to. Some (record { from = c.in-Some.place + length name + 1; to = to })) c.word_end-to.ensures.value
    ∙ sym (field-some fields name c.in-Some.place (omega (arith, inside)) first)

pub returns-in-None-clause-value : goal.returns-in-None-clause-value
returns-in-None-clause-value c =
    sym (field-none c.args.fields.now c.args.name.now (subst (λ (p : Option ℕ). IfNone p (StandsNowhere c.args.fields.now c.args.name.now)) c.in-None.is c.requires.none))
