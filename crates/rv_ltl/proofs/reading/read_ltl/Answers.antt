use Rattle.std.proofs.Common.{◌≡◌, List, ℕ, Some, Bor, sym, ap, subst, ◌∙◌}
use Rattle.std.specs.Cmp.Lexicographic.{slice_cmp}
use Rattle.std.specs.Ordering.{nat_cmp}
use Rattle.rv_ltl.specs.inner.Texts.{texts}
use Rattle.rv_text.specs.inner.Ascending.{Ascends}
use Rattle.rv_ltl.specs.Names.{names_of}
use Rattle.rv_ltl.specs.declared.definitions.Definition.{Definition}
use Rattle.rv_ltl.specs.inner.Machine.{defs}
use Rattle.rv_ltl.proofs.NameSets.{names_ascend}
use Rattle.rv_ltl.proofs.LightRules.{gives-light}
use Rattle.rv_ltl.proofs.ReadingSteps.{too_long, no_pieces, no_definitions, the_rule}
use Rattle.rv_ltl.proofs.reading.read_ltl.Goals as goal

pub returns-then-bytes-gt-MAX_BYTES-clause-gives : goal.returns-then-bytes-gt-MAX_BYTES-clause-gives
returns-then-bytes-gt-MAX_BYTES-clause-gives c = rw c.refused.ensures (too_long c.args.bytes.now c.if-bytes-gt-MAX_BYTES.true)

pub returns-in-Err-clause-gives : goal.returns-in-Err-clause-gives
returns-in-Err-clause-gives c = rw c.refused_by.ensures (no_pieces c.args.bytes.now c.in-Err.unread c.if-bytes-gt-MAX_BYTES.false c.in-Err.ensures)

pub returns-in-Err-definitions_in-clause-gives : goal.returns-in-Err-definitions_in-clause-gives
returns-in-Err-definitions_in-clause-gives c =
    rw c.refused_by-in-Err-definitions_in.ensures (no_definitions c.args.bytes.now (texts c.deref-3.result.now) c.in-Err-definitions_in.unread c.if-bytes-gt-MAX_BYTES.false
    (c.in-Ok.ensures ∙ ap (λ (ps : List (Bor (List ℕ))). Some (texts ps)) (sym c.deref-3.ensures.value)) c.in-Err-definitions_in.ensures)

pub rule_in-requires-clause-ascending : goal.rule_in-requires-clause-ascending
rule_in-requires-clause-ascending c =
    let P : List (List ℕ) → Type 0 = λ ns. Ascends (slice_cmp nat_cmp) ns in
    subst P (sym (ap texts c.deref-4.ensures.value ∙ c.in_ok-names.ensures)) (names_ascend (texts c.deref.result.now))

pub returns-clause-gives : goal.returns-clause-gives
returns-clause-gives c =
    let same : texts c.deref.result.now ≡ texts c.deref-3.result.now = ap texts (c.deref.ensures.value ∙ sym c.deref-3.ensures.value) in
    let names : texts c.deref-4.result.now ≡ names_of (texts c.deref-3.result.now) = ap texts c.deref-4.ensures.value ∙ c.in_ok-names.ensures ∙ ap names_of same in
    let pieces = c.in-Ok.ensures ∙ ap (λ (ps : List (Bor (List ℕ))). Some (texts ps)) (sym c.deref-3.ensures.value) in
    let definitions = c.in-Ok-definitions_in.ensures.0 ∙ ap (λ (xs : List Definition). Some (defs xs)) (sym c.deref-5.ensures.value) in
    rw (the_rule c.args.bytes.now (texts c.deref-3.result.now) (texts c.deref-4.result.now) (defs c.deref-5.result.now) c.if-bytes-gt-MAX_BYTES.false pieces names definitions) c.rule_in.ensures

pub returns-clause-light : goal.returns-clause-light
returns-clause-light c = gives-light c.args.bytes.now c.rule_in.result (returns-clause-gives c)
