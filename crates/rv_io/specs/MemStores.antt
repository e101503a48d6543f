-- A store in memory.
use Rattle.std.specs.Prelude.{◌≡◌, ℕ, List, Option, Some, if◌then◌else◌, bytes_eq, option_map, find}
use Rattle.rv_io.specs.Calls.{Calls, is_listed, passed, failed}

-- files with their names and bytes, the most bytes of a piece, and the calls
pub record StoreValue : Type 0 where
  pub files : List (List ℕ × List ℕ)
  pub most : Option ℕ
  pub calls : Calls

-- the bytes of the file of the name
abbrev pub lookup : List (List ℕ × List ℕ) → List ℕ → Option (List ℕ)
lookup files name = option_map (λ file. file.1) (find (λ file. bytes_eq file.0 name) files)

-- the name has these bytes, and every other name what it had
abbrev pub IsReplaced : List (List ℕ × List ℕ) → List (List ℕ × List ℕ) → List ℕ → List ℕ → Type 0
IsReplaced old new name bytes = (other : List ℕ) → lookup new other ≡ (if bytes_eq name other then Some bytes else lookup old other)

-- after a call: a fault is counted exactly where the call is listed
abbrev pub counted : Calls → Calls
counted calls = if is_listed calls then failed calls else passed calls
