-- What the deliveries of a history reach: answers, rows, edges and atoms, each counted over its entries.
use Rattle.std.specs.Prelude.{ℕ, ◌+◌, Bool, true, false, not, ◌&&◌, ◌==◌, List, [], ◌∷◌, reverse, count_by}
use Rattle.rv_model.specs.declared.automaton.Edge.{Edge}
use Rattle.rv_model.specs.declared.entry.Act.{Act}
use Rattle.rv_model.specs.declared.entry.Act.TheVariants.{Deliver, End}
use Rattle.rv_model.specs.declared.entry.Answer.{Answer}
use Rattle.rv_model.specs.declared.entry.Answer.TheVariants as answers
use Rattle.rv_model.specs.declared.entry.Entry.{Entry}
use Rattle.rv_model.specs.declared.hit.Hit.{Hit}
use Rattle.rv_model.specs.declared.hit.Letter.{Letter}
use Rattle.rv_model.specs.declared.hit.Letter.TheVariants as letters
use Rattle.rv_model.specs.declared.hit.Mode.{Mode}
use Rattle.rv_model.specs.declared.hit.Mode.TheVariants as modes
use Rattle.rv_model.specs.Judging.{Judge}
use Rattle.rv_model.specs.Letters.{atoms_in}
use Rattle.rv_model.specs.Numbers.{has_bit, list_of}
use Rattle.rv_model.specs.Phases.{Phase, waiting, running, stopped, level, letter_at, phase_of, rows_of}
use Rattle.rv_model.specs.Setups.{Setup, monitor_of, slot_of, judge_of, start_of}
use Rattle.rv_model.specs.SharedWords.{answer_at}
use Rattle.rv_reach.specs.Counting.{count_at, any_at}

-- ---- one delivery

-- what is asked of a delivery, by its slot and its hit; of no other act it is so
abbrev pub of_delivery : (ℕ → Hit → Bool) → Act → Bool
of_delivery asked (Deliver slot hit) = asked slot hit
of_delivery asked _ = false

-- the entry is a delivery of the monitor, and this is so of it
abbrev pub delivers : Setup → ℕ → (ℕ → Hit → Bool) → Entry → Bool
delivers s monitor asked e = of_delivery (λ slot hit. monitor_of s.shape slot == monitor && asked slot hit) e.act

-- the phase of a slot after a past
abbrev pub phase_past : Setup → List Judge → List Entry → ℕ → Phase
phase_past s js past slot = phase_of (judge_of s js slot) (start_of s slot) past slot

-- the rows in which an instance runs, and none where it does not
abbrev pub rows_run : Judge → Phase → ℕ
rows_run j waiting = 0
rows_run j (running letters) = rows_of j letters
rows_run j stopped = 0

-- the rows from which a letter is judged: of an instance that waits, those of no letters
abbrev pub rows_from : Judge → Phase → ℕ
rows_from j waiting = rows_of j []
rows_from j (running letters) = rows_of j letters
rows_from j stopped = 0

-- the letter of a delivery, by the levels with it
abbrev pub letter_of : Setup → List Entry → Entry → ℕ → Hit → Letter
letter_of s past e slot hit = letter_at (level (start_of s slot) (e ∷ past) slot) hit.what

-- ---- answers

abbrev pub is_passed : Answer → Bool
is_passed answers.Passed = true
is_passed _ = false

abbrev pub is_started : Answer → Bool
is_started answers.Started = true
is_started _ = false

abbrev pub is_kept : Answer → Bool
is_kept answers.Kept = true
is_kept _ = false

-- the entry is a delivery of the monitor with such an answer
abbrev pub answers_so : Setup → List Judge → (Answer → Bool) → ℕ → List Entry → Entry → Bool
answers_so s js is monitor past e = delivers s monitor (λ slot hit. is (answer_at s js past e e.act)) e

-- how many of the monitor's deliveries have such an answer
abbrev pub answered : Setup → List Judge → List Entry → (Answer → Bool) → ℕ → ℕ
answered s js h is monitor = count_at (answers_so s js is monitor) h

-- the entry ends an instance of the monitor
abbrev pub ends : Setup → ℕ → Act → Bool
ends s monitor (End slot) = monitor_of s.shape slot == monitor
ends s monitor _ = false

-- how many ends the monitor has
abbrev pub ended : Setup → List Entry → ℕ → ℕ
ended s h monitor = count_by (λ e. ends s monitor e.act) h

-- ---- instances

-- the entry is a delivery on this slot with such an answer
abbrev pub answers_on : Setup → List Judge → (Answer → Bool) → ℕ → List Entry → Entry → Bool
answers_on s js is place past e = of_delivery (λ slot hit. slot == place && is (answer_at s js past e e.act)) e.act

-- how many of the monitor's first n instances have a delivery with such an answer
abbrev pub instances_answered : Setup → List Judge → List Entry → (Answer → Bool) → ℕ → ℕ → ℕ
instances_answered s js h is monitor n = count_by (λ instance. any_at (answers_on s js is (slot_of s.shape monitor instance)) h) (list_of (λ instance. instance) n)

abbrev pub is_running : Phase → Bool
is_running waiting = false
is_running (running letters) = true
is_running stopped = false

-- how many of the monitor's first n instances run after the whole history
abbrev pub instances_running : Setup → List Judge → List Entry → ℕ → ℕ → ℕ
instances_running s js h monitor n = count_by (λ instance. is_running (phase_past s js (reverse h) (slot_of s.shape monitor instance))) (list_of (λ instance. instance) n)

-- ---- rows and edges

-- the entry is a delivery of the monitor behind which its instance runs in the row, among others
abbrev pub reaches_row : Setup → List Judge → ℕ → ℕ → List Entry → Entry → Bool
reaches_row s js monitor row past e = delivers s monitor (λ slot hit. has_bit (rows_run (judge_of s js slot) (phase_past s js (e ∷ past) slot)) row) e

-- how many of the monitor's deliveries reach the row
abbrev pub row_reached : Setup → List Judge → List Entry → ℕ → ℕ → ℕ
row_reached s js h monitor row = count_at (reaches_row s js monitor row) h

-- the letter was judged, and holds: it is kept, or starts an instance that runs it
abbrev pub is_run : Mode → Answer → Bool
is_run modes.StartRun answers.Started = true
is_run mode answer = is_kept answer

abbrev pub is_event : ℕ → Letter → Bool
is_event event (letters.Event brought) = brought == event
is_event event (letters.Atoms set) = false

-- a letter takes the edge, from these rows to those; state k of an automaton has the row k + 1
abbrev pub takes : Edge → Mode → Answer → Letter → ℕ → ℕ → Bool
takes edge mode answer letter from to = is_run mode answer && is_event edge.event letter && has_bit from (edge.from + 1) && has_bit to (edge.to + 1)

-- the entry is a delivery of the monitor that takes the edge
abbrev pub takes_edge : Setup → List Judge → ℕ → Edge → List Entry → Entry → Bool
takes_edge s js monitor edge past e =
    delivers s monitor (λ slot hit. takes edge hit.mode (answer_at s js past e e.act) (letter_of s past e slot hit) (rows_from (judge_of s js slot) (phase_past s js past slot)) (rows_run (judge_of s js slot) (phase_past s js (e ∷ past) slot))) e

-- how many of the monitor's deliveries take the edge
abbrev pub edge_taken : Setup → List Judge → List Entry → ℕ → Edge → ℕ
edge_taken s js h monitor edge = count_at (takes_edge s js monitor edge) h

-- ---- letters and atoms of a rule

-- how many letters of the monitor were judged: all that its instances did not pass over
abbrev pub letters_judged : Setup → List Judge → List Entry → ℕ → ℕ
letters_judged s js h monitor = answered s js h (λ answer. not (is_passed answer)) monitor

-- the entry is a delivery of the monitor whose letter was judged, and has the atom
abbrev pub has_true : Setup → List Judge → ℕ → ℕ → List Entry → Entry → Bool
has_true s js monitor atom past e = delivers s monitor (λ slot hit. not (is_passed (answer_at s js past e e.act)) && has_bit (atoms_in (letter_of s past e slot hit)) atom) e

-- in how many letters of the monitor the atom is true
abbrev pub atom_true : Setup → List Judge → List Entry → ℕ → ℕ → ℕ
atom_true s js h monitor atom = count_at (has_true s js monitor atom) h
