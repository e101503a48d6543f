-- Short timestamps as numbers.
use Rattle.std.specs.Prelude.{◌≡◌, ℕ, List, true}
use Rattle.rv_text.specs.Decimal.{number_of}
use Rattle.rv_matches.specs.declared.short_times.ShortTime.{ShortTime}
use Rattle.rv_matches.specs.Times.{decimals_in, digits_in, is_time}

-- the timestamp can be compared, its digits spell the number, and so many stand behind its point
pub record IsShortTime (stamp : List ℕ) (short : ShortTime) : Type 0 where
  pub time : is_time stamp ≡ true
  pub number : short.number ≡ number_of (digits_in stamp)
  pub decimals : short.decimals ≡ decimals_in stamp
