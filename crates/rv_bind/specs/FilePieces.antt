-- A piece of a file, and the fault where none is read.
use Rattle.std.specs.Prelude.{◌≡◌, ℕ, List, Option, Some, None, Result, Err, IfErr}
use Rattle.rv_io.specs.Files.{Files}
use Rattle.rv_io.specs.Pieces.{IsPiece}
use Rattle.rv_bind.specs.declared.fault.BindFault.{BindFault}
use Rattle.rv_bind.specs.Outcomes.{Outcome, CountsFaults, Refines, BlamesReached}

-- what `Refines` asks of a fault, whatever value the reader would have given
abbrev pub FaultRefines : {Y : Type 0} → Option Files → ℕ → ℕ → BindFault → (Files → Outcome Y) → Type 0
FaultRefines {Y} told before now fault outcome = Refines {X = Y} (λ y. y) told before now (Err fault) outcome

-- what `BlamesReached` asks of a fault, whatever value the reader would have given
abbrev pub FaultBlamesReached : {Y : Type 0} → Option Files → BindFault → (Files → Outcome Y) → Type 0
FaultBlamesReached {Y} told fault outcome = BlamesReached {X = Y} told (Err fault) outcome

-- how a reader of a part of the files ends: what is known of them stays, at most one fault is counted, and a fault
-- is the outcome's, whose unread file is reached
pub record FailsAs {X Y : Type 0} (told left : Option Files) (before now : ℕ) (result : Result X BindFault) (outcome : Files → Outcome Y) : Type 0 where
  pub kept : left ≡ told
  pub counts : CountsFaults before now result
  pub fault : IfErr result (λ fault. FaultRefines told before now fault outcome)
  pub named : IfErr result (λ fault. FaultBlamesReached told fault outcome)

-- the buffer has the bytes of a file from an offset on, where there is the file
abbrev pub PieceIn : Option (List ℕ) → ℕ → List ℕ → List ℕ → ℕ → Type 0
PieceIn (Some bytes) place old new count = IsPiece bytes place old new count
PieceIn None place old new count = ⊥

-- where the files are known, the buffer has the bytes of the named file from an offset on
abbrev pub IsFilePiece : Option Files → List ℕ → ℕ → List ℕ → List ℕ → ℕ → Type 0
IsFilePiece told name place old new count = (files : Files) → told ≡ Some files → PieceIn (files name) place old new count
