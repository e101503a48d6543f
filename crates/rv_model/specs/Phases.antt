-- What an instance is doing, and what it answers. A past has the newest entry first.
use Rattle.std.specs.Prelude.{ℕ, Bool, true, false, ◌||◌, ◌==◌, List, [], ◌∷◌, ◌++◌, if◌then◌else◌}
use Rattle.rv_model.specs.declared.hit.Letter.{Letter}
use Rattle.rv_model.specs.declared.hit.Letter.TheVariants.{Event, Atoms}
use Rattle.rv_model.specs.declared.hit.Mode.{Mode}
use Rattle.rv_model.specs.declared.hit.Mode.TheVariants as mode
use Rattle.rv_model.specs.declared.hit.What.{What}
use Rattle.rv_model.specs.declared.hit.What.TheVariants.{Da, Ltl, Nothing}
use Rattle.rv_model.specs.declared.entry.Act.{Act}
use Rattle.rv_model.specs.declared.entry.Act.TheVariants.{Deliver, Stop, Look, Clear, End}
use Rattle.rv_model.specs.declared.entry.Entry.{Entry}
use Rattle.rv_model.specs.declared.entry.Answer.{Answer}
use Rattle.rv_model.specs.declared.entry.Answer.TheVariants.{Passed, Started, Kept, Failed, Stopped, Cleared, Ended, Looked, Switched}
use Rattle.rv_model.specs.Numbers.{has_bit, number_of}
use Rattle.rv_model.specs.Judging.{Judge}

-- an instance waits, runs with the letters since its start, or is stopped
pub data Phase : Type 0 where
  waiting : Phase
  running : List Letter → Phase
  stopped : Phase

-- ---- levels and letters

-- a hit's `on` wins over its `off`
abbrev pub level_by : What → ℕ → Bool → Bool
level_by (Da event) atom was = was
level_by Nothing atom was = was
level_by (Ltl on off pulse) atom was = if has_bit on atom then true else if has_bit off atom then false else was

-- whether the atom is on after the act, from whether it was
abbrev pub level_after : ℕ → ℕ → ℕ → Act → Bool → Bool
level_after start i atom (Deliver slot hit) was = if slot == i then level_by hit.what atom was else was
level_after start i atom (Clear slot) was = if slot == i then has_bit start atom else was
level_after start i atom (End slot) was = if slot == i then has_bit start atom else was
level_after start i atom _ was = was

-- the newest hit on the slot since it was cleared or ended decides
abbrev pub level : ℕ → List Entry → ℕ → ℕ → Bool
level start [] i atom = has_bit start atom
level start (e ∷ past) i atom = level_after start i atom e.act (level start past i atom)

-- the set of the atoms that are on
abbrev pub levels_of : ℕ → List Entry → ℕ → ℕ
levels_of start past i = number_of (level start past i) 32

-- the letter of a hit, by the levels with it; an end has none, and is not delivered
abbrev pub letter_at : (ℕ → Bool) → What → Letter
letter_at on (Da event) = Event event
letter_at on Nothing = Atoms 0
letter_at on (Ltl _ _ pulse) = Atoms (number_of (λ atom. on atom || has_bit pulse atom) 32)

-- ---- phase and answer

-- the set of the rows that letters reach
abbrev pub rows_of : Judge → List Letter → ℕ
rows_of j letters = number_of (j.reaches letters) 32

-- the answer to a letter, and the phase after it
abbrev pub turn : Judge → Phase → Mode → Letter → Answer × Phase
turn j stopped _ x = (Passed, stopped)
turn j waiting mode.Event x = (Passed, waiting)
turn j waiting mode.End x = (Passed, waiting)
turn j waiting mode.Start x = (Started, running [])
turn j waiting mode.StartRun x = if j.holds (x ∷ []) then (Started, running (x ∷ [])) else (Failed (rows_of j []), waiting)
turn j (running letters) _ x = if j.holds (letters ++ x ∷ []) then (Kept, running (letters ++ x ∷ [])) else (Failed (rows_of j letters), waiting)

-- the phase after an act, from the one before it; the levels are those with the act
abbrev pub phase_after : Judge → (ℕ → Bool) → ℕ → Act → Phase → Phase
phase_after j on i (Deliver slot hit) p = if slot == i then (turn j p hit.mode (letter_at on hit.what)).1 else p
phase_after j on i (Stop slot) p = if slot == i then stopped else p
phase_after j on i (Clear slot) p = if slot == i then waiting else p
phase_after j on i (End slot) p = if slot == i then waiting else p
phase_after j on i _ p = p

-- the phase of an instance after a past
abbrev pub phase_of : Judge → ℕ → List Entry → ℕ → Phase
phase_of j start [] i = waiting
phase_of j start (e ∷ past) i = phase_after j (level start (e ∷ past) i) i e.act (phase_of j start past i)

-- the answer of an entry with this act, after this past
abbrev pub answer_to : Judge → ℕ → List Entry → Entry → Act → Answer
answer_to j start past e (Deliver slot hit) = (turn j (phase_of j start past slot) hit.mode (letter_at (level start (e ∷ past) slot) hit.what)).0
answer_to j start past e (Stop slot) = Stopped
answer_to j start past e (Clear slot) = Cleared
answer_to j start past e (End slot) = Ended
answer_to j start past e Look = Looked e.after
answer_to j start past e _ = Switched
