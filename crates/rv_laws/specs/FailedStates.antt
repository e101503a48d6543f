-- Which state a failure of an automaton names.
use Rattle.std.specs.Prelude.{◌≡◌, ◌↔◌, ℕ, ◌+◌, ◌<◌, List, [], ◌∷◌, length, IsTrue, slice_index_or}
use Rattle.rv_model.specs.declared.entry.Act.TheVariants.{Deliver}
use Rattle.rv_model.specs.declared.entry.Answer.TheVariants.{Failed}
use Rattle.rv_model.specs.declared.entry.Entry.{Entry}
use Rattle.rv_model.specs.declared.formula.Spec.TheVariants.{Da}
use Rattle.rv_model.specs.declared.hit.Hit.{Hit}
use Rattle.rv_model.specs.declared.hit.Letter.{Letter}
use Rattle.rv_model.specs.Judging.{Judge, JudgesBySpec}
use Rattle.rv_model.specs.Language.{HasEdge, IsPath}
use Rattle.rv_model.specs.Machine.{Machine}
use Rattle.rv_model.specs.Numbers.{has_bit}
use Rattle.rv_model.specs.Phases.{Phase, waiting, running, stopped, level, letter_at, phase_of, answer_to}
use Rattle.rv_model.specs.Reports.{state_text}
use Rattle.rv_model.specs.Table.{end_of, table_of}
use Rattle.rv_model.specs.WellFormed.{IsAutomaton}

-- the letters since the start, where a run has begun
abbrev pub letters_in : Phase → List Letter
letters_in waiting = []
letters_in (running letters) = letters
letters_in stopped = []

-- the letters lead along one path to a state, which no edge leaves by the letter; its row is the one row of the set, and
-- the report names it
pub record NamesState (a : Machine) (letters : List Letter) (x : Letter) (set : ℕ) : Type 0 where
  pub path : List ℕ
  pub leads : IsPath (HasEdge a) 0 path letters
  pub only : (other : List ℕ) → IsPath (HasEdge a) 0 other letters → other ≡ path
  pub in_range : end_of 0 path < length a.states
  pub denied : (next : ℕ) → ¬ HasEdge a (end_of 0 path) x next
  pub one_row : (row : ℕ) → IsTrue (has_bit set row) ↔ (row ≡ end_of 0 path + 1)
  pub named : state_text 1 a.states set ≡ slice_index_or a.states (end_of 0 path) []

-- a law: where an instance of an automaton fails, the report names the state in which the event was not allowed, to which
-- the events since the start lead
abbrev pub FailureNamesItsState : Type 0
FailureNamesItsState = (a : Machine) (j : Judge) (start : ℕ) (past : List Entry) (e : Entry) (slot : ℕ) (hit : Hit) (set : ℕ)
    → IsAutomaton a → JudgesBySpec (Da a) (table_of a) j → answer_to j start past e (Deliver slot hit) ≡ Failed set
    → NamesState a (letters_in (phase_of j start past slot)) (letter_at (level start (e ∷ past) slot) hit.what) set
