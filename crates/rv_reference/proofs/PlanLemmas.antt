-- The judge of a plan's monitor, and answers by it.
use Rattle.std.proofs.Common.{◌≡◌, ℕ, zero, suc, ◌<◌, List, [], ◌∷◌, length, map, reverse, get_or, arith, sym, ap, ◌∙◌, subst}
use Rattle.std.specs.Prelude.{Result, IfOk}
use Rattle.std.specs.declared.alloc.AllocError.{AllocError}
use Rattle.rv_model.specs.declared.entry.Answer.{Answer}
use Rattle.rv_model.specs.declared.entry.Act.TheVariants.{Deliver}
use Rattle.rv_model.specs.declared.entry.Entry.{Entry}
use Rattle.rv_model.specs.declared.hit.Hit.{Hit}
use Rattle.rv_model.specs.Judging.{Judge, JudgesBySpec}
use Rattle.rv_model.specs.Histories.{AreJudges}
use Rattle.rv_model.specs.Phases.{answer_to}
use Rattle.rv_model.specs.Setups.{no_judge, monitor_of, judge_of, start_of}
use Rattle.rv_model.specs.SharedWords.{answer_at}
use Rattle.rv_reference.specs.declared.monitor.Monitor.{Monitor}
use Rattle.rv_reference.specs.declared.plan.Plan.{Plan}
use Rattle.rv_reference.specs.Monitors.{table_by}
use Rattle.rv_reference.specs.PlainPhases.{IsAnswer}
use Rattle.rv_reference.specs.Plans.{spec_in, slots_in, setup_of, ByJudges}
use Rattle.rv_reference.proofs.PhaseLemmas.{if_ok-more}

-- the judge at a monitor's place is by its specification and table
pub judge-at : (ms : List Monitor) (js : List Judge) (k : ℕ) (m : Monitor) → AreJudges (map spec_in ms) (map table_by ms) js → k < length ms → m ≡ get_or ms k m → JudgesBySpec m.spec (table_by m) (get_or js k no_judge)
judge-at [] js k m are lt is = absurd (omega arith)
judge-at (n ∷ ms) [] k m are lt is = absurd are
judge-at (n ∷ ms) (j ∷ js) zero m are lt is = subst (λ (x : Monitor). JudgesBySpec x.spec (table_by x) j) (sym is) are.0
judge-at (n ∷ ms) (j ∷ js) (suc k) m are lt is = judge-at ms js k m are.1 (omega arith) is

-- the judge of a slot is that of its monitor
pub judged-at : (p : Plan) (slot k : ℕ) (m : Monitor) → k ≡ monitor_of (map slots_in p.monitors.items) slot → monitor_of (map slots_in p.monitors.items) slot < length p.monitors.items → m ≡ get_or p.monitors.items k m → ByJudges p (λ js. JudgesBySpec m.spec (table_by m) (judge_of (setup_of p) js slot))
judged-at p slot k m place in_range is js are =
    subst (λ (i : ℕ). JudgesBySpec m.spec (table_by m) (get_or js i no_judge)) place (judge-at p.monitors.items js k m are (rw place in_range) is)

-- an answer by the monitor of the slot is the answer at the entry
pub answer-is : (p : Plan) (m : Monitor) (before : List Entry) (entry : Entry) (slot : ℕ) (hit : Hit) (r : Result Answer AllocError) → entry.act ≡ Deliver slot hit
    → ByJudges p (λ js. JudgesBySpec m.spec (table_by m) (judge_of (setup_of p) js slot)) → start_of (setup_of p) slot ≡ m.start
    → IfOk r (λ answer. IsAnswer m before entry answer) → IfOk r (λ answer. ByJudges p (λ js. answer ≡ answer_at (setup_of p) js (reverse before) entry entry.act))
answer-is p m before entry slot hit r act judged started =
    if_ok-more r (λ answer. IsAnswer m before entry answer) (λ answer. ByJudges p (λ js. answer ≡ answer_at (setup_of p) js (reverse before) entry entry.act)) (λ answer is js are.
    let j = judge_of (setup_of p) js slot in
    let one : answer ≡ answer_to j m.start (reverse before) entry entry.act = is j (judged js are) in
    let two : answer_to j m.start (reverse before) entry entry.act ≡ answer_to j m.start (reverse before) entry (Deliver slot hit) = ap (answer_to j m.start (reverse before) entry) act in
    let three : answer_to j m.start (reverse before) entry (Deliver slot hit) ≡ answer_at (setup_of p) js (reverse before) entry (Deliver slot hit) = ap (λ (s : ℕ). answer_to j s (reverse before) entry (Deliver slot hit)) (sym started) in
    let four : answer_at (setup_of p) js (reverse before) entry (Deliver slot hit) ≡ answer_at (setup_of p) js (reverse before) entry entry.act = ap (answer_at (setup_of p) js (reverse before) entry) (sym act) in
    ((one ∙ two) ∙ three) ∙ four)
