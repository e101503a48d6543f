-- What the bits of a counted word are, and the rule that the words of a counted board keep.
use Rattle.std.specs.Prelude.{ℕ, zero, suc, ◌+◌, ◌*◌, ◌/◌, ◌%◌, ◌^◌, List, reverse}
use Rattle.atomic_table.specs.Table.{State}
use Rattle.rv_model.specs.declared.entry.Act.{Act}
use Rattle.rv_model.specs.declared.entry.Entry.{Entry}
use Rattle.rv_model.specs.Setups.{Setup}
use Rattle.rv_model.specs.SharedWords.{switches_of, word_of}
use Rattle.rv_word.specs.Words.{packed, set_in, atoms_in}
use Rattle.rv_core.specs.Setup.{judges_of}
use Rattle.rv_board.specs.declared.view.View.{View}
use Rattle.rv_board.specs.inner.Rule.{Kept}
use Rattle.rv_journal.specs.CountedWords.{count_on, rows_at, FitsCounts}

-- ---- words

-- an instance's word in 32 bits: the set of rows in the low `wide` of them, and the levels above it
abbrev pub word_in_32 : ℕ → ℕ → ℕ
word_in_32 wide word = atoms_in word * 2 ^ wide + set_in word

-- a counted word: an instance's word in 32 bits, and a count of 32 bits below it
abbrev pub counted_word : ℕ → ℕ → ℕ → ℕ
counted_word wide word count = word_in_32 wide word * 2 ^ 32 + count

-- the instance's word, in 64 bits again, that a counted word has
abbrev pub word_in : ℕ → ℕ → ℕ
word_in wide counted = packed (counted / 2 ^ 32 % 2 ^ wide) (counted / 2 ^ 32 / 2 ^ wide)

-- the count that a counted word has
abbrev pub count_in : ℕ → ℕ
count_in counted = counted % 2 ^ 32

-- ---- histories

-- the word at an index, as a history gives it: the switches at 0, and the counted word of slot n at n + 1
abbrev pub counted_at : Setup → List Entry → ℕ → ℕ
counted_at s history zero = switches_of s.switches (reverse history)
counted_at s history (suc slot) = counted_word (rows_at s slot) (word_of s (judges_of s) (reverse history) slot) (count_on slot history)

-- the further fact of the rule: what the history gives fits counts, whatever the seats know
abbrev pub also_counted : Setup → List Entry → List View → Type 0
also_counted s history views = FitsCounts s history

-- the rule of a counted board: one sound history gives the words and their counts, and no count is too large
abbrev pub KeptCounted : Setup → State Act View → Type 0
KeptCounted s = Kept counted_at (also_counted s) s
