-- The words that a past gives. A past has the newest entry first.
use Rattle.std.specs.Prelude.{ℕ, ◌+◌, ◌*◌, ◌^◌, Bool, true, false, List, [], ◌∷◌, if◌then◌else◌}
use Rattle.rv_model.specs.declared.entry.Act.{Act}
use Rattle.rv_model.specs.declared.entry.Act.TheVariants.{Deliver, Stop, Raise, Lower, Clear, End}
use Rattle.rv_model.specs.declared.entry.Answer.{Answer}
use Rattle.rv_model.specs.declared.entry.Entry.{Entry}
use Rattle.rv_model.specs.Numbers.{has_bit, number_of}
use Rattle.rv_model.specs.Judging.{Judge}
use Rattle.rv_model.specs.Setups.{Setup, no_judge, judge_of, start_of}
use Rattle.rv_model.specs.Phases.{Phase, waiting, running, stopped, rows_of, levels_of, phase_of, answer_to}

-- whether the switch is on after the act, from whether it was
abbrev pub switch_after : ℕ → Act → Bool → Bool
switch_after b (Raise bits) was = if has_bit bits b then true else was
switch_after b (Lower bits) was = if has_bit bits b then false else was
switch_after b _ was = was

-- whether a switch is on: the newest act that names it decides
abbrev pub switch : ℕ → List Entry → ℕ → Bool
switch opening [] b = has_bit opening b
switch opening (e ∷ past) b = switch_after b e.act (switch opening past b)

-- the word of the switches
abbrev pub switches_of : ℕ → List Entry → ℕ
switches_of opening past = number_of (switch opening past) 64

-- the rows in the high half, the levels in the low half
abbrev pub packed : Judge → ℕ → Phase → ℕ
packed j on waiting = 2 ^ 32 + on
packed j on (running letters) = rows_of j letters * 2 ^ 32 + on
packed j on stopped = 0

-- the word of a slot, by its judge and its starting levels
abbrev pub slot_word : Judge → ℕ → List Entry → ℕ → ℕ
slot_word j start past i = packed j (levels_of start past i) (phase_of j start past i)

-- the word of a slot after a past
abbrev pub word_of : Setup → List Judge → List Entry → ℕ → ℕ
word_of s js past i = slot_word (judge_of s js i) (start_of s i) past i

-- the word that an act is on
abbrev pub word_on : Setup → List Judge → List Entry → Act → ℕ
word_on s js past (Deliver slot _) = word_of s js past slot
word_on s js past (Stop slot) = word_of s js past slot
word_on s js past (Clear slot) = word_of s js past slot
word_on s js past (End slot) = word_of s js past slot
word_on s js past _ = switches_of s.switches past

-- the answer of an entry after a past
abbrev pub answer_at : Setup → List Judge → List Entry → Entry → Act → Answer
answer_at s js past e (Deliver slot hit) = answer_to (judge_of s js slot) (start_of s slot) past e (Deliver slot hit)
answer_at s js past e act = answer_to no_judge 0 past e act
