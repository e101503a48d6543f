-- Words of a slot along a history, and which of them a watcher keeps.
use Rattle.std.specs.Prelude.{◌≡◌, ◌≢◌, ℕ, ◌+◌, ◌-◌, ◌<◌, ◌≤◌, List, map, take, length, reverse, slice_index, All}
use Rattle.std.specs.List.Sorted.{IsNonDecreasing}
use Rattle.rv_model.specs.declared.entry.Entry.{Entry}
use Rattle.rv_model.specs.Judging.{Judge}
use Rattle.rv_model.specs.Setups.{Setup}
use Rattle.rv_model.specs.SharedWords.{word_of}

-- the slot's word after the first so many entries
abbrev pub word_after : Setup → List Judge → List Entry → ℕ → ℕ → ℕ
word_after s js h slot place = word_of s js (reverse (take place h)) slot

-- the words are the slot's, each after a beginning of the history; the beginnings never get shorter, and have at least so many entries
pub record AreWords (s : Setup) (js : List Judge) (h : List Entry) (slot least : ℕ) (words : List ℕ) : Type 0 where
  pub places : List ℕ
  pub ascend : IsNonDecreasing places
  pub within : All (λ place. (least ≤ place) × (place ≤ length h)) places
  pub words_are : words ≡ map (word_after s js h slot) places

-- ---- what is kept

-- the last word, and 0 where there is none
abbrev pub last_word : List ℕ → ℕ
last_word words = slice_index words (length words - 1)

-- no word is the one before it
abbrev pub AreApart : List ℕ → Type 0
AreApart words = (k : ℕ) → k + 1 < length words → slice_index words k ≢ slice_index words (k + 1)

-- one word at least and 1,024 at most, none of which is the one before it
pub record AreKept (words : List ℕ) : Type 0 where
  pub some : 0 < length words
  pub few : length words ≤ 1024
  pub apart : AreApart words

-- the word is the last one, or there are 1,024
abbrev pub IsSeen : List ℕ → ℕ → Type 0
IsSeen words word = length words < 1024 → (0 < length words) × (last_word words ≡ word)
