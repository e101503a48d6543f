use Rattle.std.proofs.Common.{refl, ap, ◌∙◌}
use Rattle.std.specs.Prelude.{option_copied}
use Rattle.rv_matches.specs.declared.rule_lines.FieldLines.{FieldLines}
use Rattle.rv_matches.proofs.FieldLemmas.{missing_counted, value_counted}
use Rattle.rv_matches.proofs.rule_lines.add_value.Goals as goal

pub returns-in_ok-add-in-Some-clause-counts : goal.returns-in_ok-add-in-Some-clause-counts
returns-in_ok-add-in-Some-clause-counts c = λ lines line is was.
    let old : FieldLines = c.args.count.now in
    let new : FieldLines = record old { values = c.add.new.self } in
    value_counted lines line old.field old new refl was c.requires c.in-Some.value.now (is ∙ ap option_copied c.in-Some.is) c.in_ok-add-in-Some.ensures.counts refl

pub returns-in_ok-count-in-None-clause-counts : goal.returns-in_ok-count-in-None-clause-counts
returns-in_ok-count-in-None-clause-counts c = λ lines line is was.
    let old : FieldLines = c.args.count.now in
    let new : FieldLines = record old { missing = c.in_ok-count-in-None.field-0 } in
    missing_counted lines line old.field old new refl was c.requires (is ∙ ap option_copied c.in-None.is) refl c.in_ok-count-in-None.ensures
