-- What a watched run comes to.
use Rattle.std.specs.Prelude.{◌≡◌, ℕ, List, length}
use Rattle.rv_model.specs.declared.entry.Entry.{Entry}
use Rattle.rv_model.specs.Judging.{Judge}
use Rattle.rv_model.specs.Histories.{Input, IsLegal}
use Rattle.rv_watch.specs.Words.{AreWords, word_after}

-- the history is a legal one of the input, and by the same judges these are the slot's words at places of it that never fall, the last one at its end
pub record IsWatched (slot : ℕ) (words : List ℕ) (last : ℕ) (input : Input) (js : List Judge) (h : List Entry) : Type 0 where
  pub legal : IsLegal input js h
  pub kept_are : AreWords input.setup js h slot 0 words
  pub last_is : last ≡ word_after input.setup js h slot (length h)
