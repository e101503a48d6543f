-- The calls of a store or a sink in memory (this project's choice: calls are counted from 1, and listed ones fail).
use Rattle.std.specs.Prelude.{ℕ, ◌+◌, ◌-◌, ◌^◌, ◌==◌, List, Bool, min}
use Rattle.std.specs.List.{list_any}

-- the calls that shall fail, how many were made, and how many faults there were
pub record Calls : Type 0 where
  pub listed : List ℕ
  pub made : ℕ
  pub faults : ℕ

-- one more, standing still at the last value of a `u64`
abbrev pub risen : ℕ → ℕ
risen count = min (count + 1) (2 ^ 64 - 1)

-- whether the next call is listed
abbrev pub is_listed : Calls → Bool
is_listed calls = list_any (λ call. call == risen calls.made) calls.listed

-- after a call
abbrev pub passed : Calls → Calls
passed calls = record calls { made = risen calls.made }

-- after a call that failed
abbrev pub failed : Calls → Calls
failed calls = record calls { made = risen calls.made; faults = risen calls.faults }
