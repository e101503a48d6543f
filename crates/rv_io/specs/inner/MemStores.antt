-- What a store in memory gives of the bytes of a name: a copy of them, or a piece.
use Rattle.std.specs.Prelude.{◌≡◌, ℕ, List, Option, Some, None, Vec, Result, Ok, Err}
use Rattle.std.specs.declared.alloc.Global.{Global}
use Rattle.rv_io.specs.declared.store.ReadError.{ReadError}
use Rattle.rv_io.specs.declared.store.ReadError.TheVariants.{NoFile, Memory}
use Rattle.rv_io.specs.Files.{front_read}
use Rattle.rv_io.specs.Pieces.{IsPiece}

-- a copy of the bytes that a name has, cut
abbrev pub Copies : Option (List ℕ) → Result (Vec ℕ Global) ReadError → Type 0
Copies None result = result ≡ Err NoFile
Copies (Some bytes) (Ok read) = read.items ≡ front_read bytes
Copies (Some bytes) (Err refused) = refused ≡ Memory

-- a piece of the bytes that a name has
abbrev pub CopiesPiece : Option (List ℕ) → ℕ → List ℕ → List ℕ → Result ℕ ReadError → Type 0
CopiesPiece None from old new result = (result ≡ Err NoFile) × (new ≡ old)
CopiesPiece (Some bytes) from old new (Ok count) = IsPiece bytes from old new count
CopiesPiece (Some bytes) from old new (Err refused) = ⊥
