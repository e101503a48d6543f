-- Entries on other slots change nothing of a slot.
use Rattle.std.proofs.Common.{◌≡◌, ℕ, Bool, true, false, List, [], ◌∷◌, refl, ap, ◌∙◌, cond}
use Rattle.rv_model.specs.declared.entry.Act.{Act}
use Rattle.rv_model.specs.declared.entry.Act.TheVariants.{Deliver, Stop, Look, Raise, Lower, Clear, End}
use Rattle.rv_model.specs.declared.entry.Entry.{Entry}
use Rattle.rv_model.specs.Numbers.{number_of}
use Rattle.rv_model.specs.Judging.{Judge}
use Rattle.rv_model.specs.Histories.{is_on}
use Rattle.rv_model.specs.Phases.{Phase, level, level_after, levels_of, phase_of, phase_after}
use Rattle.rv_model.specs.Slots.{on_slot, SlotsApart}
use Rattle.rv_model.specs.SharedWords.{packed, slot_word}

-- an act that is not on the slot leaves the slot's levels as they were
level-off : (start i atom : ℕ) (act : Act) (was : Bool) → is_on i act ≡ false → level_after start i atom act was ≡ was
level-off start i atom (Deliver slot hit) was off = rw off refl
level-off start i atom (Stop slot) was off = refl
level-off start i atom (Clear slot) was off = rw off refl
level-off start i atom (End slot) was off = rw off refl
level-off start i atom Look was off = refl
level-off start i atom (Raise _) was off = refl
level-off start i atom (Lower _) was off = refl

-- an act that is not on the slot leaves the slot's phase as it was
phase-off : (j : Judge) (on : ℕ → Bool) (i : ℕ) (act : Act) (p : Phase) → is_on i act ≡ false → phase_after j on i act p ≡ p
phase-off j on i (Deliver slot hit) p off = rw off refl
phase-off j on i (Stop slot) p off = rw off refl
phase-off j on i (Clear slot) p off = rw off refl
phase-off j on i (End slot) p off = rw off refl
phase-off j on i Look p off = refl
phase-off j on i (Raise _) p off = refl
phase-off j on i (Lower _) p off = refl

-- the levels of a slot depend on the entries on it alone
pub levels-on : (start : ℕ) (past : List Entry) (i atom : ℕ) → level start past i atom ≡ level start (on_slot i past) i atom
levels-on start [] i atom = refl
levels-on start (e ∷ past) i atom = go (is_on i e.act) refl (levels-on start past i atom)
  where
    go : (b : Bool) → is_on i e.act ≡ b → level start past i atom ≡ level start (on_slot i past) i atom → level start (e ∷ past) i atom ≡ level start (cond b (e ∷ on_slot i past) (on_slot i past)) i atom
    go true yes' rest = ap (level_after start i atom e.act) rest
    go false off rest = level-off start i atom e.act (level start past i atom) off ∙ rest

-- the phase of a slot depends on the entries on it alone
pub phases-on : (j : Judge) (start : ℕ) (past : List Entry) (i : ℕ) → phase_of j start past i ≡ phase_of j start (on_slot i past) i
phases-on j start [] i = refl
phases-on j start (e ∷ past) i = go (is_on i e.act) refl (phases-on j start past i)
  where
    same : level start (e ∷ past) i ≡ level start (e ∷ on_slot i past) i
    same = λ k atom. level_after start i atom e.act (levels-on start past i atom k)

    go : (b : Bool) → is_on i e.act ≡ b → phase_of j start past i ≡ phase_of j start (on_slot i past) i → phase_of j start (e ∷ past) i ≡ phase_of j start (cond b (e ∷ on_slot i past) (on_slot i past)) i
    go true yes' rest = ap (λ (on : ℕ → Bool). phase_after j on i e.act (phase_of j start past i)) same ∙ ap (phase_after j (level start (e ∷ on_slot i past) i) i e.act) rest
    go false off rest = phase-off j (level start (e ∷ past) i) i e.act (phase_of j start past i) off ∙ rest

-- the word of a slot depends on the entries on it alone
words-on : (j : Judge) (start : ℕ) (past : List Entry) (i : ℕ) → slot_word j start past i ≡ slot_word j start (on_slot i past) i
words-on j start past i =
    let same : level start past i ≡ level start (on_slot i past) i = λ k atom. levels-on start past i atom k in
    ap (λ (on : ℕ → Bool). packed j (number_of on 32) (phase_of j start past i)) same ∙ ap (packed j (levels_of start (on_slot i past) i)) (phases-on j start past i)

-- so the law of slots holds
pub slots_apart : SlotsApart
slots_apart = record { phases = phases-on; words = words-on }
