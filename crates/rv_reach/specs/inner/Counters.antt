-- What one delivery adds to the counts of its monitor.
use Rattle.std.specs.Prelude.{◌≡◌, ◌≢◌, ℕ, ◌+◌, ◌<◌, ◌≤◌, ◌^◌, ◌==◌, ◌||◌, Bool, true, false, List, [], length, reverse, replicate, slice_index, slice_index_or, if◌then◌else◌}
use Rattle.rv_model.specs.declared.automaton.Edge.{Edge}
use Rattle.rv_model.specs.declared.entry.Answer.{Answer}
use Rattle.rv_model.specs.declared.formula.Spec.{Spec}
use Rattle.rv_model.specs.declared.record.Record.{Record}
use Rattle.rv_model.specs.Letters.{atoms_in}
use Rattle.rv_model.specs.Numbers.{has_bit, one_if}
use Rattle.rv_model.specs.Phases.{level, letter_at, rows_of, stopped}
use Rattle.rv_model.specs.Scripts.{fails}
use Rattle.rv_model.specs.Setups.{judge_of, start_of}
use Rattle.rv_core.specs.declared.phase.RowPhase.{RowPhase}
use Rattle.rv_core.specs.Core.{CoreValue}
use Rattle.rv_core.specs.RowPhases.{phase_at, row_phase}
use Rattle.rv_core.specs.Setup.{judges_of}
use Rattle.rv_replay.specs.Observing.{MakesRecord}
use Rattle.rv_reach.specs.declared.judged.Judged.{Judged}
use Rattle.rv_reach.specs.declared.monitor.InstanceReach.{InstanceReach}
use Rattle.rv_reach.specs.declared.monitor.MonitorReach.{MonitorReach}
use Rattle.rv_reach.specs.Counts.{atom_count, edges_of}
use Rattle.rv_reach.specs.Reached.{is_kept, is_started, takes}
use Rattle.rv_reach.specs.Watching.{IsReach}
use Rattle.rv_reach.specs.inner.RowSets.{rows_before, rows_behind, runs_behind}

-- each count goes up by one where this is so of its place
pub record CountsMore (counts : ℕ → Bool) (old new : List ℕ) : Type 0 where
  pub many : length new ≡ length old
  pub each : (k : ℕ) → k < length old → slice_index new k ≡ slice_index old k + one_if (counts k)

-- the counts before the place have gone up, and the others not yet
pub record CountedTo (counts : ℕ → Bool) (place : ℕ) (old cur : List ℕ) : Type 0 where
  pub many : length cur ≡ length old
  pub done : (k : ℕ) → k < length old → k < place → slice_index cur k ≡ slice_index old k + one_if (counts k)
  pub rest : (k : ℕ) → k < length old → place ≤ k → slice_index cur k ≡ slice_index old k

-- the counts have gone up but for those whose bits are left
pub record CountedBut (left : ℕ) (counts : ℕ → Bool) (old cur : List ℕ) : Type 0 where
  pub fits : left < 2 ^ 32
  pub many : length cur ≡ length old
  pub each : (k : ℕ) → k < length old → slice_index cur k + one_if (has_bit left k) ≡ slice_index old k + one_if (counts k)

-- one instance is now another, and the others stay
pub record Becomes (instance : ℕ) (next : InstanceReach → InstanceReach) (old new : List InstanceReach) : Type 0 where
  pub many : length new ≡ length old
  pub each : (k : ℕ) (any : InstanceReach) → k < length old → slice_index_or new k any ≡ (if instance == k then next (slice_index_or old k any) else slice_index_or old k any)

-- a letter was judged on it
abbrev pub marked : Judged → InstanceReach → InstanceReach
marked judged i = record { started = true; failed = i.failed || fails judged.answer; running = runs_behind judged.after }

abbrev pub IsMarked : Judged → List InstanceReach → List InstanceReach → Type 0
IsMarked judged = Becomes judged.instance (marked judged)

-- it no longer runs
abbrev pub waits : InstanceReach → InstanceReach
waits i = record i { running = false }

pub record EndsInstance (instance : ℕ) (old new : MonitorReach) : Type 0 where
  pub becomes : Becomes instance waits old.instances.items new.instances.items
  pub rest : new ≡ record old { ended = old.ended + 1; instances = new.instances }

abbrev pub PassesDelivery : MonitorReach → MonitorReach → Type 0
PassesDelivery old new = new ≡ record old { passed = old.passed + 1 }

-- a letter has this answer
pub record CountsAnswer (answer : Answer) (old new : MonitorReach) : Type 0 where
  pub started : new.started ≡ old.started + one_if (is_started answer)
  pub kept : new.kept ≡ old.kept + one_if (is_kept answer)
  pub failed : new.failed ≡ old.failed + one_if (fails answer)
  pub letters : new.letters ≡ old.letters + 1
  pub rest : new ≡ record old { started = new.started; kept = new.kept; failed = new.failed; letters = new.letters }

-- and it is judged
pub record JudgesLetter (all : List Edge) (judged : Judged) (old new : MonitorReach) : Type 0 where
  pub passed : new.passed ≡ old.passed
  pub started : new.started ≡ old.started + one_if (is_started judged.answer)
  pub kept : new.kept ≡ old.kept + one_if (is_kept judged.answer)
  pub failed : new.failed ≡ old.failed + one_if (fails judged.answer)
  pub ended : new.ended ≡ old.ended
  pub letters : new.letters ≡ old.letters + 1
  pub instances : IsMarked judged old.instances.items new.instances.items
  pub rows : CountsMore (λ k. has_bit (rows_behind judged.after) (k + 1)) old.rows.items new.rows.items
  pub edges : (none : Edge) → length all ≡ length old.edges.items → CountsMore (λ k. takes (slice_index_or all k none) judged.mode judged.answer judged.letter judged.from (rows_behind judged.after)) old.edges.items new.edges.items
  pub atoms : CountsMore (λ k. has_bit (atoms_in judged.letter) (k + 0)) old.atoms.items new.atoms.items

-- the letter of the record was judged on the machine that has made its delivery; what is stopped judges none
pub record IsJudged (core : CoreValue) (slot : ℕ) (before : RowPhase) (r : Record) (answer : Answer) (judged : Judged) : Type 0 where
  pub instance : judged.instance ≡ r.instance
  pub mode : judged.mode ≡ r.hit.mode
  pub answer_is : judged.answer ≡ answer
  pub letter : phase_at core slot ≢ stopped → judged.letter ≡ letter_at (level (start_of core.setup slot) (reverse core.history) slot) r.hit.what
  pub from : judged.from ≡ rows_before (rows_of (judge_of core.setup (judges_of core.setup) slot) []) before
  pub after : judged.after ≡ row_phase (judge_of core.setup (judges_of core.setup) slot) (phase_at core slot)

-- what a monitor has reached up to the delivery of a record becomes what it has reached with it
abbrev pub ReachesRecord : Spec → CoreValue → ℕ → RowPhase → Record → MonitorReach → MonitorReach → Type 0
ReachesRecord of new slot before r m m' = (old : CoreValue) → MakesRecord old new slot before r → IsReach old r.monitor of m → IsReach new r.monitor of m'

-- nothing was counted of a monitor with so many instances and rows
pub record IsUnreached (many many_rows : ℕ) (of : Spec) (r : MonitorReach) : Type 0 where
  pub passed : r.passed ≡ 0
  pub started : r.started ≡ 0
  pub kept : r.kept ≡ 0
  pub failed : r.failed ≡ 0
  pub ended : r.ended ≡ 0
  pub letters : r.letters ≡ 0
  pub instances : r.instances.items ≡ replicate many (record { started = false; failed = false; running = false })
  pub rows : r.rows.items ≡ replicate many_rows 0
  pub edges : r.edges.items ≡ replicate (length (edges_of of)) 0
  pub atoms : r.atoms.items ≡ replicate (atom_count of) 0
