-- A piece of a file: what a store may answer that is asked for the bytes from a place on.
use Rattle.std.specs.Prelude.{◌≡◌, ◌⊎◌, ℕ, ◌-◌, ◌≤◌, List, [], ◌++◌, length, take, drop, Option, Some, None, Result, Ok, Err}
use Rattle.rv_io.specs.declared.store.ReadError.{ReadError}
use Rattle.rv_io.specs.declared.store.ReadError.TheVariants.{NoFile, Failed, Memory}
use Rattle.rv_io.specs.Files.{Files, Rose}

-- so many of the bytes from a place on stand at the front, and the rest is as it was; there are none only without room, or without a byte
pub record IsPiece (bytes : List ℕ) (from : ℕ) (old new : List ℕ) (count : ℕ) : Type 0 where
  pub room : count ≤ length old
  pub within : count ≤ length bytes - from
  pub front : new ≡ take count (drop from bytes) ++ drop count old
  pub none : count ≡ 0 → (old ≡ []) ⊎ (length bytes ≤ from)

-- a piece where the files are told: of that file's bytes, or what there is of them; a failed read alone is counted as a fault
abbrev pub PiecesKnown : Option (List ℕ) → ℕ → List ℕ → List ℕ → ℕ → ℕ → Result ℕ ReadError → Type 0
PiecesKnown (Some bytes) from old new before now (Ok count) = IsPiece bytes from old new count × (now ≡ before)
PiecesKnown None from old new before now (Ok count) = ⊥
PiecesKnown (Some bytes) from old new before now (Err NoFile) = ⊥
PiecesKnown None from old new before now (Err NoFile) = (new ≡ old) × (now ≡ before)
PiecesKnown _ from old new before now (Err Failed) = (new ≡ old) × Rose before now
PiecesKnown _ from old new before now (Err Memory) = (new ≡ old) × (now ≡ before)

-- a piece where the files are not told: no error without a fault, but for want of memory, and no fault without an error
abbrev pub PiecesOpaque : List ℕ → List ℕ → ℕ → ℕ → Result ℕ ReadError → Type 0
PiecesOpaque old new before now (Ok count) = (count ≤ length old) × (length new ≡ length old) × (now ≡ before)
PiecesOpaque old new before now (Err NoFile) = (new ≡ old) × Rose before now
PiecesOpaque old new before now (Err Failed) = (new ≡ old) × Rose before now
PiecesOpaque old new before now (Err Memory) = (new ≡ old) × (now ≡ before)

-- what a piece of a name may be, by what the store tells
abbrev pub ReadsPiece : Option Files → List ℕ → ℕ → List ℕ → List ℕ → ℕ → ℕ → Result ℕ ReadError → Type 0
ReadsPiece (Some files) name from old new before now result = PiecesKnown (files name) from old new before now result
ReadsPiece None name from old new before now result = PiecesOpaque old new before now result
