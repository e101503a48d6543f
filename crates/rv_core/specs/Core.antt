-- The machine as contracts see it.
use Rattle.std.specs.Prelude.{◌≡◌, ◌≢◌, ℕ, ◌+◌, ◌<◌, List, [], ◌∷◌, ◌++◌, reverse, length, sum, slice_index}
use Rattle.std.specs.Coded.{Coded, code_by, coded×, coded_list}
use Rattle.std.proofs.Common.{refl}
use Rattle.rv_model.specs.declared.entry.Act.{Act}
use Rattle.rv_model.specs.declared.entry.Entry.{Entry}
use Rattle.rv_model.specs.declared.entry.Answer.{Answer}
use Rattle.rv_model.specs.Judging.{Judge}
use Rattle.rv_model.specs.Stepping.{table_judge}
use Rattle.rv_model.specs.Setups.{Setup, coded_setup, start_of}
use Rattle.rv_model.specs.Phases.{Phase, waiting, running, stopped, rows_of, phase_of}
use Rattle.rv_model.specs.SharedWords.{switches_of, word_of, answer_at}
use Rattle.rv_model.specs.Histories.{FitsWords, Replays}
use Rattle.rv_core.specs.Setup.{IsSetup, judges_of, table_at}

-- what it began with, and its entries, the first one first
pub record CoreValue : Type 0 where
  pub setup : Setup
  pub history : List Entry

-- its parts, from the code of an entry
abbrev pub coded_core : Coded Entry → Coded CoreValue
coded_core entry = code_by (Setup × List Entry) (coded× coded_setup (coded_list entry)) (λ c. (c.setup, c.history)) (λ p. record { setup = p.0; history = p.1 }) (λ _. refl)

-- the history grows by one entry of this seat and act with the words that it gives, and the answer is the entry's
pub record Steps (old new : CoreValue) (seat : ℕ) (act : Act) (result : Answer) : Type 0 where
  pub entry : Entry
  pub seat_is : entry.seat ≡ seat
  pub act_is : entry.act ≡ act
  pub grows : new ≡ record old { history = old.history ++ entry ∷ [] }
  pub fits : FitsWords old.setup (judges_of old.setup) old.history entry
  pub answer : result ≡ answer_at old.setup (judges_of old.setup) (reverse old.history) entry act

-- ---- what the machine keeps; a past has the newest entry first

-- what runs has rows, and not row 0 alone, so its word is neither stopped nor waiting
abbrev pub IsLive : Judge → Phase → Type 0
IsLive j waiting = Unit {0}
IsLive j (running word) = (rows_of j word ≢ 0) × (rows_of j word ≢ 1)
IsLive j stopped = Unit {0}

-- the phase of a slot, by its own table
abbrev pub slot_phase : Setup → List Entry → ℕ → Phase
slot_phase s past i = phase_of (table_judge (table_at s i)) (start_of s i) past i

-- the words are those that the history gives, and the history replays
pub record IsCore (s : Setup) (words : List ℕ) (h : List Entry) : Type 0 where
  pub is_setup : IsSetup s
  pub count : length words ≡ sum s.shape + 1
  pub live : (i : ℕ) → i < sum s.shape → IsLive (table_judge (table_at s i)) (slot_phase s (reverse h) i)
  pub switches_are : slice_index words 0 ≡ switches_of s.switches (reverse h)
  pub words_are : (i : ℕ) → i < sum s.shape → slice_index words (i + 1) ≡ word_of s (judges_of s) (reverse h) i
  pub replays : Replays s (judges_of s) h
