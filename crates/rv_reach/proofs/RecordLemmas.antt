-- What the delivery of a record makes of what a monitor has reached.
use Rattle.std.proofs.Common.{◌≡◌, ◌≢◌, ℕ, Bool, true, false, List, [], ◌∷◌, reverse, sym, ap, ◌∙◌, subst}
use Rattle.std.specs.Bool.{if◌then◌else◌}
use Rattle.std.proofs.lemmas.List.{reverse-append}
use Rattle.rv_model.specs.declared.entry.Act.TheVariants.{Deliver, End}
use Rattle.rv_model.specs.declared.entry.Answer.{Answer}
use Rattle.rv_model.specs.declared.entry.Answer.TheVariants.{Passed}
use Rattle.rv_model.specs.declared.entry.Entry.{Entry}
use Rattle.rv_model.specs.declared.formula.Spec.{Spec}
use Rattle.rv_model.specs.declared.record.Delivered.TheVariants.{Done}
use Rattle.rv_model.specs.declared.record.Record.{Record}
use Rattle.rv_model.specs.Phases.{letter_at, level, rows_of, stopped}
use Rattle.rv_model.specs.Scripts.{is_end}
use Rattle.rv_model.specs.Setups.{judge_of, slot_of, start_of}
use Rattle.rv_model.specs.SharedWords.{answer_at}
use Rattle.rv_core.specs.declared.phase.RowPhase.{RowPhase}
use Rattle.rv_core.specs.Core.{CoreValue}
use Rattle.rv_core.specs.RowPhases.{phase_at, row_phase}
use Rattle.rv_core.specs.Setup.{judges_of}
use Rattle.rv_replay.specs.Observing.{MakesRecord}
use Rattle.rv_reach.specs.declared.judged.Judged.{Judged}
use Rattle.rv_reach.specs.declared.monitor.MonitorReach.{MonitorReach}
use Rattle.rv_reach.specs.Counts.{edges_of}
use Rattle.rv_reach.specs.Reached.{rows_from}
use Rattle.rv_reach.specs.Watching.{IsReach}
use Rattle.rv_reach.specs.inner.RowSets.{rows_before}
use Rattle.rv_reach.specs.inner.Counters.{EndsInstance, IsJudged, JudgesLetter, PassesDelivery, ReachesRecord}
use Rattle.rv_reach.specs.Passing.{with_entry}
use Rattle.rv_reach.proofs.ActLemmas.{answer-here, answer_here, letter_here, phase-behind, phase_behind, turn-behind}
use Rattle.rv_reach.proofs.DeliverLemmas.{grows-judged, grows-passed}
use Rattle.rv_reach.proofs.EndLemmas.{grows-ended}
use Rattle.rv_reach.proofs.GrowLemmas.{grown}
use Rattle.rv_reach.proofs.TurnLemmas.{before-by, judged-goes}

module _ (of : Spec) (new : CoreValue) (slot : ℕ) (before : RowPhase) (r : Record) (m : MonitorReach) where
  -- the act of the record
  act-by : (old : CoreValue) (makes : MakesRecord old new slot before r) (b : Bool) → is_end r.hit.mode ≡ b → makes.entry.act ≡ (if b then End slot else Deliver slot r.hit)
  act-by old makes b is = makes.act_is ∙ ap (λ (t : Bool). if t then End slot else Deliver slot r.hit) is

  -- it is an end
  pub record-ended : (m' : MonitorReach) → is_end r.hit.mode ≡ true → EndsInstance r.instance m m' → ReachesRecord of new slot before r m m'
  record-ended m' is ends old makes was =
      subst (λ (core : CoreValue). IsReach core r.monitor of m') (sym makes.grows)
      (grown old makes.entry r.monitor of m m' (grows-ended old makes.entry r.monitor slot r.instance (act-by old makes true is) makes.monitor_is makes.slot_is of m m' ends) was)

  module _ (no_end : is_end r.hit.mode ≡ false) where
    -- it is passed over
    pub record-passed : (m' : MonitorReach) → r.outcome ≡ Done Passed → PassesDelivery m m' → ReachesRecord of new slot before r m m'
    record-passed m' is passes old makes was =
        let e : Entry = makes.entry in
        let act : e.act ≡ Deliver slot r.hit = act-by old makes false no_end in
        let answer : answer_here old e slot r.hit act ≡ Passed = let d : Done (answer_at old.setup (judges_of old.setup) (reverse old.history) e e.act) ≡ Done Passed = sym makes.outcome_is ∙ is in cc in
        subst (λ (core : CoreValue). IsReach core r.monitor of m') (sym makes.grows)
        (subst (λ (n : MonitorReach). IsReach (with_entry old e) r.monitor of n) (sym passes)
        (grown old e r.monitor of m _ (grows-passed old e r.monitor slot r.hit act makes.monitor_is answer of m) was))

    -- its letter is judged
    pub record-judged : (m' : MonitorReach) (a : Answer) (judged : Judged) → r.outcome ≡ Done a → a ≢ Passed → IsJudged new slot before r a judged → JudgesLetter (edges_of of) judged m m' → ReachesRecord of new slot before r m m'
    record-judged m' a judged is some judged_is judges old makes was =
        let e : Entry = makes.entry in
        let act : e.act ≡ Deliver slot r.hit = act-by old makes false no_end in
        let answer : a ≡ answer_here old e slot r.hit act = let d : Done a ≡ Done (answer_at old.setup (judges_of old.setup) (reverse old.history) e e.act) = sym is ∙ makes.outcome_is in cc in
        let on : IsJudged (with_entry old e) slot before r a judged = subst (λ (core : CoreValue). IsJudged core slot before r a judged) makes.grows judged_is in
        let j = judge_of old.setup (judges_of old.setup) slot in
        let judged_here : answer_here old e slot r.hit act ≢ Passed = λ p. some (answer ∙ p) in
        let goes : phase_at (with_entry old e) slot ≢ stopped = λ p.
        judged-goes j (phase_at old slot) r.hit.mode (letter_here old e slot r.hit act) (λ q. judged_here (answer-here old e slot r.hit act ∙ q)) (sym (turn-behind old e slot r.hit act) ∙ sym (phase-behind old e slot) ∙ p) in
        let letter : judged.letter ≡ letter_here old e slot r.hit act =
        on.letter goes ∙ ap (λ (z : List Entry). letter_at (level (start_of old.setup slot) z slot) r.hit.what) (reverse-append old.history (e ∷ [])) in
        let from : judged.from ≡ rows_from j (phase_at old slot) = on.from ∙ ap (rows_before (rows_of j [])) makes.before_is ∙ before-by j (phase_at old slot) in
        let after : judged.after ≡ row_phase j (phase_behind old e slot) = on.after ∙ ap (row_phase j) (phase-behind old e slot) in
        let at : slot ≡ slot_of old.setup.shape r.monitor judged.instance = makes.slot_is ∙ ap (slot_of old.setup.shape r.monitor) (sym on.instance) in
        subst (λ (core : CoreValue). IsReach core r.monitor of m') (sym makes.grows)
        (grown old e r.monitor of m m' (grows-judged old e r.monitor slot r.hit act makes.monitor_is judged (on.answer_is ∙ answer) judged_here on.mode letter from after at of m m' judges) was)
