-- What is read of the lines of a journal.
use Rattle.std.specs.List.{All}
use Rattle.std.specs.Prelude.{◌≡◌, ◌↔◌, ℕ, List, [], ◌∷◌, map, Option, Some, IfSome}
use Rattle.rv_text.specs.TextLines.{lines_of}
use Rattle.rv_model.specs.declared.entry.Entry.{Entry}
use Rattle.rv_journal.specs.EntryTexts.{entry_text, journal_of, IsEntry}

-- the lines of a text, without their line ends
abbrev pub lines_in : List ℕ → List (List ℕ)
lines_in text = map (λ line. line.bytes) (lines_of text)

-- what `read_entry` gives of a line: the entry whose text it is, and nothing exactly where there is none
pub record IsReading (line : List ℕ) (read : Option Entry) : Type 0 where
  pub some : IfSome read (λ e. entry_text e ≡ line)
  pub fits : IfSome read IsEntry
  pub every : (e : Entry) → IsEntry e → entry_text e ≡ line → read ≡ Some e

-- what it gives of the lines, one by one
abbrev pub AreReadings : List (List ℕ) → List (Option Entry) → Type 0
AreReadings [] [] = Unit {0}
AreReadings (line ∷ lines) (read ∷ reads) = IsReading line read × AreReadings lines reads
AreReadings _ _ = ⊥

-- a law: of the lines of a journal are read its entries, in their order, none missing and nothing besides
abbrev pub JournalsAreReadAgain : Type 0
JournalsAreReadAgain = (h : List Entry) (reads : List (Option Entry)) → All IsEntry h → AreReadings (lines_in (journal_of h)) reads ↔ (reads ≡ map Some h)

-- a law: no text is the journal of two histories
abbrev pub JournalsHaveOneHistory : Type 0
JournalsHaveOneHistory = (h g : List Entry) → All IsEntry h → All IsEntry g → journal_of h ≡ journal_of g → h ≡ g
