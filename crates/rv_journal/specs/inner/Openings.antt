-- The words that a counted board opens with, one behind another.
use Rattle.std.specs.Prelude.{◌≡◌, ℕ, ◌<◌, List, [], length, slice_index}
use Rattle.rv_model.specs.Setups.{Setup}
use Rattle.rv_core.specs.Setup.{IsSetup}
use Rattle.rv_board.specs.inner.Rule.{width}
use Rattle.rv_journal.specs.CountedWords.{FitsCounts}
use Rattle.rv_journal.specs.inner.CountedWords.{counted_at}

-- the words are the counted words of an empty history
pub record OpensCounted (s : Setup) (words : List ℕ) : Type 0 where
  pub is_setup : IsSetup s
  pub wide : length words ≡ width s
  pub each : (i : ℕ) → i < width s → slice_index words i ≡ counted_at s [] i
  pub counted : FitsCounts s []
