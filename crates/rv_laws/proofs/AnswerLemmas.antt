-- What a slot answers follows from the acts on it alone.
use Rattle.std.proofs.Common.{◌≡◌, ℕ, Bool, List, [], ◌∷◌, map, refl, ap, ◌∙◌}
use Rattle.rv_model.specs.declared.entry.Act.{Act}
use Rattle.rv_model.specs.declared.entry.Act.TheVariants.{Deliver}
use Rattle.rv_model.specs.declared.entry.Answer.{Answer}
use Rattle.rv_model.specs.declared.entry.Entry.{Entry}
use Rattle.rv_model.specs.declared.hit.Hit.{Hit}
use Rattle.rv_model.specs.Judging.{Judge}
use Rattle.rv_model.specs.Phases.{Phase, level, level_after, letter_at, phase_of, phase_after, turn}
use Rattle.rv_model.specs.Scripts.{hit_act}
use Rattle.rv_model.specs.Setups.{Setup, judge_of, start_of}
use Rattle.rv_model.specs.SharedWords.{answer_at}
use Rattle.rv_model.specs.Slots.{on_slot}
use Rattle.rv_model.proofs.HitLemmas.{by_hit}
use Rattle.rv_model.proofs.SlotLemmas.{levels-on, phases-on}

-- an entry of which the act alone is kept
abbrev pub bare : Act → Entry
bare act = record { seat = 0; act = act; before = 0; after = 0 }

-- a past of which the acts alone are kept
abbrev pub bares : List Entry → List Entry
bares past = map (λ e. bare e.act) past

-- the levels follow from the acts
level-bare : (start : ℕ) (past : List Entry) (i atom : ℕ) → level start past i atom ≡ level start (bares past) i atom
level-bare start [] i atom = refl
level-bare start (e ∷ past) i atom = ap (level_after start i atom e.act) (level-bare start past i atom)

-- the phase follows from the acts
phase-bare : (j : Judge) (start : ℕ) (past : List Entry) (i : ℕ) → phase_of j start past i ≡ phase_of j start (bares past) i
phase-bare j start [] i = refl
phase-bare j start (e ∷ past) i =
    let same : level start (e ∷ past) i ≡ level start (bare e.act ∷ bares past) i = λ k atom. level_after start i atom e.act (level-bare start past i atom k) in
    ap (λ (on : ℕ → Bool). phase_after j on i e.act (phase_of j start past i)) same ∙ ap (phase_after j (level start (bare e.act ∷ bares past) i) i e.act) (phase-bare j start past i)

-- the acts on a slot, as a past of their own
abbrev pub acts_on : ℕ → List Entry → List Entry
acts_on i past = bares (on_slot i past)

-- what an act answers after a past
abbrev answer_alone : Setup → List Judge → List Entry → Act → Answer
answer_alone s js past act = answer_at s js past (bare act) act

-- a slot's answer to a hit after a past
abbrev pub answer_by : Setup → List Judge → ℕ → List Entry → Hit → Answer
answer_by s js i past hit = answer_alone s js past (hit_act i hit)

-- a delivery's answer is that after the acts on its slot
delivered-on : (s : Setup) (js : List Judge) (i : ℕ) (past : List Entry) (e : Entry) (hit : Hit) → e.act ≡ Deliver i hit → answer_at s js past e e.act ≡ answer_alone s js (acts_on i past) (Deliver i hit)
delivered-on s js i past e hit act =
    let j : Judge = judge_of s js i in
    let start : ℕ = start_of s i in
    let before : (atom : ℕ) → level start past i atom ≡ level start (acts_on i past) i atom = λ atom. levels-on start past i atom ∙ level-bare start (on_slot i past) i atom in
    let levels : level start (e ∷ past) i ≡ level start (bare (Deliver i hit) ∷ acts_on i past) i =
    λ k atom. (ap (λ (a : Act). level_after start i atom a (level start past i atom)) act ∙ ap (level_after start i atom (Deliver i hit)) (before atom)) k in
    let phases : phase_of j start past i ≡ phase_of j start (acts_on i past) i = phases-on j start past i ∙ phase-bare j start (on_slot i past) i in
    ap (answer_at s js past e) act
    ∙ ap (λ (on : ℕ → Bool). (turn j (phase_of j start past i) hit.mode (letter_at on hit.what)).0) levels
    ∙ ap (λ (p : Phase). (turn j p hit.mode (letter_at (level start (bare (Deliver i hit) ∷ acts_on i past) i) hit.what)).0) phases

-- an entry's answer to a hit is the slot's answer after the acts on it; an end has always the same
pub answer-on : (s : Setup) (js : List Judge) (i : ℕ) (past : List Entry) (e : Entry) (hit : Hit) → e.act ≡ hit_act i hit → answer_at s js past e e.act ≡ answer_by s js i (acts_on i past) hit
answer-on s js i past e hit = by_hit (λ act. e.act ≡ act → answer_at s js past e e.act ≡ answer_alone s js (acts_on i past) act) i hit (λ act. ap (answer_at s js past e) act) (delivered-on s js i past e hit)
