-- A file that is read from a store in pieces: how much of it was fed.
use Rattle.std.specs.Prelude.{◌≡◌, ◌≤◌, ℕ, List, [], length, take, Option, Some, None}
use Rattle.rv_io.specs.Files.{Files}
use Rattle.rv_bind.specs.Outcomes.{of_name, accepted}

-- so many bytes of a file were fed, and none where there is no file
abbrev pub FedOf : Option (List ℕ) → ℕ → List ℕ → Type 0
FedOf (Some bytes) place fed = (fed ≡ take place bytes) × (place ≤ length bytes)
FedOf None place fed = (place ≡ 0) × (fed ≡ [])

-- so many bytes of the name's file were fed, where the store tells its files
abbrev pub IsFileFed : Option Files → List ℕ → ℕ → List ℕ → Type 0
IsFileFed told name place fed = (files : Files) → told ≡ Some files → FedOf (files name) place fed

-- what reading the name's file gives was fed, where the store tells its files
abbrev pub IsAll : Option Files → List ℕ → List ℕ → Type 0
IsAll told name fed = (files : Files) → told ≡ Some files → of_name files name accepted ≡ accepted fed
