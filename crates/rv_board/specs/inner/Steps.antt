-- What the seat that takes a step learns by it, for each kind of step of a board.
use Rattle.std.specs.Prelude.{◌≡◌, ℕ, ◌-◌, ◌==◌, List, [], ◌∷◌, ◌++◌, reverse, sum, MatchBool}
use Rattle.std.specs.Int.{bit_not, w64}
use mathlib.Core.Option.{Option, some, none}
use Rattle.atomic_table.specs.Table.{Me, Step}
use Rattle.rv_model.specs.declared.entry.Act.{Act}
use Rattle.rv_model.specs.declared.entry.Act.TheVariants.{Stop, Look, Raise, Lower, Clear, End}
use Rattle.rv_model.specs.declared.entry.Entry.{Entry}
use Rattle.rv_model.specs.Setups.{Setup}
use Rattle.rv_model.specs.SharedWords.{answer_at}
use Rattle.rv_model.specs.Histories.{IsSound}
use Rattle.rv_core.specs.Advance.{acted}
use Rattle.rv_core.specs.Setup.{judges_of, word_index, table_of_act, start_of_act}
use Rattle.rv_board.specs.declared.view.View.{View}
use Rattle.rv_model.specs.Seats.{entries_of}
use Rattle.rv_board.specs.inner.Known.{knows, Begun}
use Rattle.rv_board.specs.inner.Rule.{word_at, with_seen, index_at}

-- from the view `v` on, the seat has seen the history so far, which has no new entry of its own, and found the word
-- that this history gives
pub record Saw (code : Setup → List Entry → ℕ → ℕ) (v w : View) (index found : ℕ) : Type 0 where
  pub same : w ≡ with_seen v w.part.seen
  pub rest : List Entry
  pub list : w.part.seen ≡ v.part.seen ++ rest
  pub none : entries_of (knows v.part) rest ≡ []
  pub word : found ≡ code v.setup w.part.seen index
  pub sound : IsSound v.setup (judges_of v.setup) w.part.seen
  pub left : Begun w.part.seen v.left
  pub right : Begun w.part.seen v.right

-- the entry of a seat whose act found a word: before it this word, after it what the act makes of it
abbrev pub entry_made : Setup → ℕ → Act → ℕ → Entry
entry_made s seat act word = record { seat = seat; act = act; before = word; after = (acted (table_of_act s act) (start_of_act s act) word act).1 }

-- the entry of a seat whose act comes next after a history
abbrev pub made_after : Setup → ℕ → Act → List Entry → Entry
made_after s seat act history = entry_made s seat act (word_at s history (word_index act))

-- from the view `v` on, the seat has seen the history so far and added its act, which found the word of that history
pub record Made (code : Setup → List Entry → ℕ → ℕ) (v w : View) (act : Act) (found : ℕ) : Type 0 where
  pub same : w ≡ with_seen v w.part.seen
  pub rest : List Entry
  pub list : w.part.seen ≡ (v.part.seen ++ rest) ++ made_after v.setup v.part.number act (v.part.seen ++ rest) ∷ []
  pub none : entries_of (knows v.part) rest ≡ []
  pub word : found ≡ code v.setup (v.part.seen ++ rest) (word_index act)
  pub sound : IsSound v.setup (judges_of v.setup) w.part.seen
  pub answer : (acted (table_of_act v.setup act) (start_of_act v.setup act) (word_at v.setup (v.part.seen ++ rest) (word_index act)) act).0
      ≡ answer_at v.setup (judges_of v.setup) (reverse (v.part.seen ++ rest)) (made_after v.setup v.part.number act (v.part.seen ++ rest)) act

-- a seat's view, with the list of what it holds
abbrev pub Ours : Type 0
Ours = Me Act View

-- the index of the word that a seat's step is on
abbrev pub index_of : Step Act → Ours → ℕ
index_of st m = index_at (sum m.0.setup.shape) st.word

-- the act that a step names, and a look where it names none
abbrev pub step_answer : Option Act → Act
step_answer (some act) = act
step_answer none = Look

-- ---- the kinds of step of a board

-- a load adds no entry
abbrev pub IsLoadStep : Step Act → Ours → ℕ → Ours → Type 0
IsLoadStep st m found m' = Saw word_at m.0 m'.0 (index_of st m) found × (m'.1 ≡ m.1)

-- the step adds its act, whatever word it finds
abbrev pub IsActStep : Act → Ours → ℕ → Ours → Type 0
IsActStep act m found m' = Made word_at m.0 m'.0 act found × (m'.1 ≡ m.1)

-- a compare-exchange adds its act where it finds the word that it expects, and else no entry
abbrev pub IsExchangeStep : Step Act → Ours → ℕ → Ours → Type 0
IsExchangeStep st m found m' = MatchBool (found == st.first) (Made word_at m.0 m'.0 (step_answer st.said) found) (Saw word_at m.0 m'.0 (index_of st m) found) × (m'.1 ≡ m.1)

-- a swap of 0 into the word of index n + 1 stops slot n
abbrev pub IsStopStep : Step Act → Ours → ℕ → Ours → Type 0
IsStopStep st m = IsActStep (Stop (index_of st m - 1)) m

-- a load of the switches that counts as a look
abbrev pub IsLookStep : Step Act → Ours → ℕ → Ours → Type 0
IsLookStep st = IsActStep Look

-- an `or` of the switches turns on the bits that it has
abbrev pub IsRaiseStep : Step Act → Ours → ℕ → Ours → Type 0
IsRaiseStep st = IsActStep (Raise st.first)

-- an `and` of the switches turns off the bits that it lacks
abbrev pub IsLowerStep : Step Act → Ours → ℕ → Ours → Type 0
IsLowerStep st = IsActStep (Lower (bit_not w64 st.first))

-- a swap of the opening word into the word of index n + 1 clears slot n
abbrev pub IsClearStep : Step Act → Ours → ℕ → Ours → Type 0
IsClearStep st m = IsActStep (Clear (index_of st m - 1)) m

-- a swap of the opening word into the word of index n + 1, at an event that ends it, ends the instance of slot n
abbrev pub IsEndStep : Step Act → Ours → ℕ → Ours → Type 0
IsEndStep st m = IsActStep (End (index_of st m - 1)) m
