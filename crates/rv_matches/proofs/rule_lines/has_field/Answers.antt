use Rattle.std.proofs.Common.{◌≡◌, true, false, List, ℕ, sym, ap, ◌∙◌, arith}
use Rattle.std.specs.Prelude.{bytes_eq}
use Rattle.rv_matches.proofs.KeptFieldLemmas.{field_not, field_there}
use Rattle.rv_matches.proofs.rule_lines.has_field.Goals as goal

pub returns-then-eq : goal.returns-then-eq
returns-then-eq c =
    let same : bytes_eq c.field-item.result.field c.args.name.now ≡ true = ap (λ (n : List ℕ). bytes_eq n c.args.name.now) (sym c.bytes.ensures) ∙ sym c.eq.ensures ∙ c.if-eq.true in
    sym (field_there c.args.fields.now c.loop-field.field-index c.field-item.result c.args.name.now (omega arith) c.field-item.is same)

pub loop-field-preserved : goal.loop-field-preserved
loop-field-preserved c =
    let differs : bytes_eq c.field-item.result.field c.args.name.now ≡ false = ap (λ (n : List ℕ). bytes_eq n c.args.name.now) (sym c.bytes.ensures) ∙ sym c.eq.ensures ∙ c.if-eq.false in
    field_not c.args.fields.now c.loop-field.field-index c.field-item.result c.args.name.now (omega arith) c.field-item.is differs c.loop-field.invariant
