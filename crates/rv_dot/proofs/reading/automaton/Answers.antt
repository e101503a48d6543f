use Rattle.std.proofs.Common.{◌≡◌, true, sym, ap, ◌∙◌, subst, map}
use Rattle.std.specs.Prelude.{Result}
use Rattle.std.proofs.lemmas.Result.{err_from_is_err_and}
use Rattle.rv_text.specs.declared.refusals.Refusal.{Refusal}
use Rattle.rv_text.specs.Readings.{Gives}
use Rattle.rv_model.specs.Machine.{Machine}
use Rattle.rv_dot.specs.Gathered.{events_fit, all_fit}
use Rattle.rv_dot.specs.inner.Held.{sayings_claims, arc}
use Rattle.rv_dot.proofs.WholeLaws.{unfit_refused, events_unfit, both_fit, initial_refused, from_initial}
use Rattle.rv_dot.proofs.reading.automaton.Goals as goal
use Rattle.rv_dot.proofs.reading.automaton.Goals.{then-not-all_fit-via-then-not-all_fit, then-not-all_fit-via-else-not-all_fit+then-not-events_fit}

pub returns-then-not-all_fit : goal.returns-then-not-all_fit
returns-then-not-all_fit c =
    rw c.refused.ensures (elim c.then-not-all_fit.branch [
      | then-not-all_fit-via-then-not-all_fit w ↦ unfit_refused (sayings_claims c.args.said.now) (sym c.all_fit.ensures ∙ w.if-not-all_fit.true)
      | then-not-all_fit-via-else-not-all_fit+then-not-events_fit w ↦ events_unfit (sayings_claims c.args.said.now) (ap events_fit (sym (ap (map arc) w.deref.ensures.value ∙ c.in_ok-arcs.ensures)) ∙ sym w.events_fit.ensures ∙ w.if-not-events_fit.true)
    ])

pub returns-in_err-first : goal.returns-in_err-first
returns-in_err-first c =
    let p = err_from_is_err_and c.from_residual-in_err-first.result c.from_residual-in_err-first.ensures.1 in
    let fit : all_fit (sayings_claims c.args.said.now) ≡ true = both_fit (sayings_claims c.args.said.now) (sym c.all_fit.ensures ∙ c.if-not-all_fit.false) (ap events_fit (sym (ap (map arc) c.deref.ensures.value ∙ c.in_ok-arcs.ensures)) ∙ sym c.events_fit.ensures ∙ c.if-not-events_fit.false) in
    rw (p.1, p.2) (initial_refused (sayings_claims c.args.said.now) c.in_err-first.field-0.0 fit c.in_err-first.ensures)

pub returns : goal.returns
returns c =
    let fit : all_fit (sayings_claims c.args.said.now) ≡ true = both_fit (sayings_claims c.args.said.now) (sym c.all_fit.ensures ∙ c.if-not-all_fit.false) (ap events_fit (sym (ap (map arc) c.deref.ensures.value ∙ c.in_ok-arcs.ensures)) ∙ sym c.events_fit.ensures ∙ c.if-not-events_fit.false) in
    let read = from_initial (sayings_claims c.args.said.now) c.in_ok-first.first.now fit c.in_ok-first.ensures in
    subst (λ (r : Result Machine Refusal). Gives (λ a. a) c.with_initial.result r) (sym read) c.with_initial.ensures
