-- A run without an entry.
use Rattle.std.proofs.Common.{List, [], length, sym, ap, subst, ◌∙◌}
use Rattle.std.specs.Prelude.{replicate}
use Rattle.rv_model.specs.declared.entry.Entry.{Entry}
use Rattle.rv_model.specs.Works.{Work}
use Rattle.rv_check.specs.declared.next.Next.{Next}
use Rattle.rv_check.specs.declared.next.Next.TheVariants.{Look}
use Rattle.rv_check.specs.inner.Standing.{IsRun}
use Rattle.rv_check.proofs.RunLemmas.{run-opens}
use Rattle.rv_check.proofs.run.Run.new.Goals as goal

pub invariant_of-result : goal.invariant_of-result
invariant_of-result c =
    let s = c.args.setup in
    let p = c.args.panics in
    let works : List Work = c.args.works.items in
    let words = c.in_ok-words.words.items in
    let looks = c.in_ok-nexts.ensures ∙ ap (λ (ws : List Work). replicate (length ws) (Look 0)) c.as_slice.ensures.value in
    let opens = run-opens s p works words c.in_ok-words.ensures c.requires in
    subst (λ (h : List Entry). IsRun s p works words c.in_ok-nexts.nexts.items h) (sym c.new.ensures)
    (subst (λ (ns : List Next). IsRun s p works words ns []) (sym looks) opens)
