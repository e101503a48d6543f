-- Which lists of entries are histories.
use Rattle.std.specs.Prelude.{◌≡◌, ◌⊎◌, ℕ, ◌+◌, ◌-◌, ◌<◌, ◌≤◌, ◌^◌, Bool, false, ◌==◌, ◌&&◌, not, List, [], ◌∷◌, ◌++◌, map, filter, length, reverse, All, Any, Contains, slice_index, if◌then◌else◌}
use Rattle.rv_model.specs.declared.entry.Act.{Act}
use Rattle.rv_model.specs.declared.entry.Act.TheVariants.{Deliver, Stop, Look, Raise, Lower, Clear, End}
use Rattle.rv_model.specs.declared.entry.Entry.{Entry}
use Rattle.rv_model.specs.declared.work.Change.{Change}
use Rattle.rv_model.specs.declared.work.Turn.{Turn}
use Rattle.rv_model.specs.declared.formula.Spec.{Spec}
use Rattle.rv_model.specs.Table.{Table}
use Rattle.rv_model.specs.Cuts.{AtEach}
use Rattle.rv_model.specs.Judging.{Judge, JudgesBySpec}
use Rattle.rv_model.specs.Setups.{Setup}
use Rattle.rv_model.specs.SharedWords.{word_on}
use Rattle.rv_model.specs.Scripts.{played, Plays, control_acts}
use Rattle.rv_model.specs.Works.{Work}

-- each entry's words are those that the entries before it give, and they and it
pub record FitsWords (s : Setup) (js : List Judge) (before : List Entry) (e : Entry) : Type 0 where
  pub found : e.before ≡ word_on s js (reverse before) e.act
  pub left : e.after ≡ word_on s js (e ∷ reverse before) e.act

-- every entry has the words that the history gives
abbrev pub Replays : Setup → List Judge → List Entry → Type 0
Replays s js = AtEach (FitsWords s js)

-- the act is on the slot; those on the switches are on none
abbrev pub is_on : ℕ → Act → Bool
is_on i (Deliver slot _) = slot == i
is_on i (Stop slot) = slot == i
is_on i (Clear slot) = slot == i
is_on i (End slot) = slot == i
is_on i _ = false

-- the entry is on the slot, and its words differ
abbrev pub changed : ℕ → Entry → Bool
changed i e = is_on i e.act && not (e.before == e.after)

-- the seat has no entry in the list
abbrev pub NoneOf : ℕ → List Entry → Type 0
NoneOf seat [] = Unit {0}
NoneOf seat (e ∷ h) = ((e.seat == seat) ≡ false) × NoneOf seat h

-- since the seat's last entry, three entries changed the slot's word
pub record LostThrice (slot seat : ℕ) (before : List Entry) : Type 0 where
  pub until : List Entry
  pub since : List Entry
  pub is : before ≡ until ++ since
  pub none : NoneOf seat since
  pub three : 3 ≤ length (filter (changed slot) since)

-- a Stop is justified where three entries changed the slot since the seat acted last; no other act has to be
abbrev pub IsJustifiedBy : Act → ℕ → List Entry → Type 0
IsJustifiedBy (Stop slot) seat before = LostThrice slot seat before
IsJustifiedBy _ seat before = Unit {0}

-- every Stop is justified
abbrev pub IsJustified : List Entry → Type 0
IsJustified = AtEach (λ before e. IsJustifiedBy e.act e.seat before)

-- who may do an act
abbrev pub IsPermittedTo : Act → ℕ → Type 0
IsPermittedTo (Clear _) seat = seat ≡ 1
IsPermittedTo (Lower _) seat = seat ≡ 1
IsPermittedTo (Raise bits) seat = (seat ≡ 1) ⊎ (bits ≡ 0) ⊎ (bits ≡ 2 ^ 34)
IsPermittedTo _ seat = Unit {0}

-- every entry is by a seat below 67 that may do its act
abbrev pub IsPermitted : List Entry → Type 0
IsPermitted = AtEach (λ before e. (e.seat < 67) × IsPermittedTo e.act e.seat)

-- a history replays, its stops are justified, and its acts are permitted
pub record IsSound (s : Setup) (js : List Judge) (h : List Entry) : Type 0 where
  pub replays : Replays s js h
  pub justified : IsJustified h
  pub permitted : IsPermitted h

-- ---- a whole run

-- what a run is made of: its setup, the specifications, whose reactor is panic, what each CPU has to do, and the changes of the control actor
pub record Input : Type 0 where
  pub setup : Setup
  pub specs : List Spec
  pub panics : ℕ → Bool
  pub works : List Work
  pub changes : List Change

-- all of it
abbrev pub input_with : Setup → List Spec → (ℕ → Bool) → List Work → List Change → Input
input_with s specs panics works changes = record { setup = s; specs = specs; panics = panics; works = works; changes = changes }

-- one judge for each monitor, by its specification
abbrev pub AreJudges : List Spec → List Table → List Judge → Type 0
AreJudges [] [] [] = Unit {0}
AreJudges (a ∷ specs) (t ∷ tables) (j ∷ js) = JudgesBySpec a t j × AreJudges specs tables js
AreJudges _ _ _ = ⊥

-- the acts of a seat, in order
abbrev pub acts_of : ℕ → List Entry → List Act
acts_of seat [] = []
acts_of seat (e ∷ h) = if e.seat == seat then e.act ∷ acts_of seat h else acts_of seat h

-- it is sound, each CPU plays its script, the control actor does its changes, and nobody else has an entry. By judges of
-- the specifications and by tables that mean them it says the same (`TablesAreJudges` of rv_core)
pub record IsLegal (input : Input) (js : List Judge) (h : List Entry) : Type 0 where
  pub sound : IsSound input.setup js h
  pub cpus : All (λ w. Plays input.setup input.panics w (played input.setup js (2 + w.cpu) (reverse h))) input.works
  pub control : acts_of 1 h ≡ control_acts input.setup.shape input.changes
  pub nobody_else : AtEach (λ before e. (e.seat ≡ 1) ⊎ Any (λ w. e.seat ≡ 2 + w.cpu) input.works) h

-- ---- in the order of the trace

-- 1 for a look, 0 for every other act
abbrev pub look_count : Act → ℕ
look_count Look = 1
look_count _ = 0

-- how many looks a seat has made
abbrev pub looks_of : ℕ → List Entry → ℕ
looks_of seat [] = 0
looks_of seat (e ∷ h) = (if e.seat == seat then look_count e.act else 0) + looks_of seat h

-- the work of a seat, and no work where it has none
abbrev pub work_of : List Work → ℕ → Work
work_of [] seat = record { cpu = 0; turns = []; deliveries = [] }
work_of (w ∷ works) seat = if 2 + w.cpu == seat then w else work_of works seat

-- the trace line of a turn, which is counted from 1
abbrev pub line_in : List Turn → ℕ → ℕ
line_in turns turn = slice_index (map (λ t. t.line) turns) (turn - 1)

-- the trace line of an entry's turn, which is numbered by the seat's looks
abbrev pub line_at : List Work → List Entry → Entry → ℕ
line_at works before e = line_in (work_of works e.seat).turns (looks_of e.seat before + look_count e.act)

-- the trace lines of the turns never descend; it is said of histories without changes, in which every entry is a CPU's
abbrev pub IsInOrder : List Work → List Entry → Type 0
IsInOrder works = AtEach (λ before f. AtEach (λ earlier e. line_at works earlier e ≤ line_at works before f) before)

-- the history of one thread
pub record IsOneHistory (input : Input) (js : List Judge) (h : List Entry) : Type 0 where
  pub legal : IsLegal input js h
  pub in_order : IsInOrder input.works h
  pub no_changes : input.changes ≡ []

-- no line makes turns of two CPUs
abbrev pub LinesApart : List Work → Type 0
LinesApart works = (w v : Work) (t u : Turn) → Contains works w → Contains works v → Contains w.turns t → Contains v.turns u → t.line ≡ u.line → w.cpu ≡ v.cpu

-- the act is no Stop
abbrev pub IsNoStop : Act → Type 0
IsNoStop (Stop _) = ⊥
IsNoStop _ = Unit {0}

-- a law: one thread stops nothing
abbrev pub OneHasNoStop : Type 0
OneHasNoStop = (input : Input) (js : List Judge) (h : List Entry) → LinesApart input.works → IsOneHistory input js h → AtEach (λ before e. IsNoStop e.act) h

-- a law: the input determines it
abbrev pub OneIsUnique : Type 0
OneIsUnique = (input : Input) (js ks : List Judge) (h k : List Entry) → LinesApart input.works → AreJudges input.specs input.setup.tables js → AreJudges input.specs input.setup.tables ks → IsOneHistory input js h → IsOneHistory input ks k → h ≡ k
