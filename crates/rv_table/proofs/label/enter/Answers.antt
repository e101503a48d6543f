-- The row is put among those that have the label.
use Rattle.std.proofs.Common.{◌≡◌, ◌<◌, ◌==◌, length, subst}
use Rattle.rv_model.specs.Formulas.{ltl}
use Rattle.rv_table.specs.inner.Numbered.{label_at}
use Rattle.rv_table.proofs.KeepLemmas.{Keeps-set}
use Rattle.rv_table.proofs.PassLemmas.{row_passes-put}
use Rattle.rv_table.proofs.label.enter.Goals as goal

pub returns-in-Some-clause-told : goal.returns-in-Some-clause-told
returns-in-Some-clause-told c =
    let labels = c.args.labels.now.items in
    let lt = subst (λ ls. c.in-Some.number < length ls) c.deref.ensures.value c.in-Some.ensures.within in
    let names = subst (λ ls. label_at ls c.in-Some.number ≡ ltl c.args.label.now) c.deref.ensures.value c.in-Some.ensures.label in
    λ q letter below. row_passes-put labels c.in-Some.number c.index_mut.result.now c.index.result.now c.with.result (c.args.row == q) q letter (ltl c.args.label.now) lt c.index_mut.ensures.value c.index.ensures names (c.with.ensures q below)

pub returns-in-Some-clause-kept : goal.returns-in-Some-clause-kept
returns-in-Some-clause-kept c =
    let lt = subst (λ ls. c.in-Some.number < length ls) c.deref.ensures.value c.in-Some.ensures.within in
    Keeps-set c.args.labels.now.items c.in-Some.number c.index_mut.result.now c.with.result lt c.index_mut.ensures.value
