-- A new task leaves the list as it was.
use Rattle.std.proofs.Common.{sym, ap, ◌∙◌, subst, arith}
use Rattle.std.proofs.lemmas.Option.{slice_get_within}
use Rattle.rv_route.specs.Listing.{AreBelow}
use Rattle.rv_route.specs.inner.Gathering.{Gathered}
use Rattle.rv_route.proofs.deliveries.Deliveries.answer.Goals as goal

pub returns-in-Ok-clause-kept : goal.returns-in-Ok-clause-kept
returns-in-Ok-clause-kept c =
    let kept = c.deliver-in-Ok.ensures.kept in
    record {
      targets = kept.targets ∙ ap (λ (g : Gathered). g.targets) c.self.view_is;
      listed = kept.listed ∙ ap (λ (g : Gathered). g.listed) c.self.view_is;
      lines = λ next le below. kept.lines next le (subst (AreBelow next) (sym (ap (λ (g : Gathered). g.list) c.self.view_is)) below);
    }

-- the number is that of a task, of which there are no more
pub deliver-requires-in-Ok-clause-instance : goal.deliver-requires-in-Ok-clause-instance
deliver-requires-in-Ok-clause-instance c =
    let within = slice_get_within c.number.new.self c.in-Ok.number _ c.in-Ok.ensures.numbered in
    let few = c.len.ensures in
    omega (arith, within, few.length, few.few)
