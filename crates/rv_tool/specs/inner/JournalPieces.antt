-- A journal that is read from a store in pieces: how much of it was fed.
use Rattle.std.specs.Prelude.{◌≡◌, ◌⊎◌, ℕ, List, [], ◌++◌, true, Option, Some, None}
use Rattle.rv_io.specs.Files.{Files}
use Rattle.rv_check.specs.Readings.{ReaderValue}
use Rattle.rv_check.specs.Verdicts.{Journal}

-- but for the text it is the same
abbrev pub IsSameRun : Journal → Journal → Type 0
IsSameRun old new = new ≡ record old { text = new.text }

-- all of the bytes were fed, or a front of them behind which the reader has stopped
abbrev pub EnoughOf : Option (List ℕ) → ReaderValue → Type 0
EnoughOf None r = ⊥
EnoughOf (Some bytes) r = (rest : List ℕ) × (bytes ≡ r.journal.text ++ rest) × ((rest ≡ []) ⊎ (r.stopped ≡ true))

-- the same of the name's file, where the store tells its files
abbrev pub IsEnough : Option Files → List ℕ → ReaderValue → Type 0
IsEnough told name r = (files : Files) → told ≡ Some files → EnoughOf (files name) r
