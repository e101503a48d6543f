-- How `watch` ends.
use Rattle.std.specs.Prelude.{◌≡◌, ℕ, List, [], ◌∷◌, ◌++◌}
use Rattle.rv_model.specs.declared.entry.Entry.{Entry}
use Rattle.rv_watch.specs.Runs.{IsWatched}
use Rattle.rv_watch.specs.Texts.{words_text}
use Rattle.rv_watch.specs.Words.{AreKept}
use Rattle.rv_tool.specs.Headline.{Ending, IsReported, PrintsSome}
use Rattle.rv_tool.specs.Watched.{WatchValue}

-- a report of a legal history of the input, and behind it the slot's words at places of this history that never fall, the last of which is its end; before it stand at most 1,024, none of which is the one before it
pub record IsWatchReport (w : WatchValue) (h : List Entry) (text : List ℕ) (status : ℕ) : Type 0 where
  pub words : List ℕ
  pub kept : AreKept words
  pub last : ℕ
  pub report : List ℕ
  pub reported : IsReported (IsWatched w.slot words last) w.input h report status
  pub text_is : text ≡ report ++ words_text (words ++ last ∷ [])

-- an accepted input is run and watched
abbrev pub Watches : WatchValue → Ending
Watches w = PrintsSome (IsWatchReport w)
