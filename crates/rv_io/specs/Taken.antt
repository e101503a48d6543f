-- What a sink tells of the bytes that it took, and what a put may answer.
use Rattle.std.specs.Prelude.{◌≡◌, ℕ, ◌<◌, ◌≤◌, List, ◌++◌, length, take, Option, Some, None, Result, Ok, Err}
use Rattle.rv_io.specs.declared.sink.PutFault.{PutFault}
use Rattle.rv_io.specs.Files.{Rose}

-- the sink took these bytes after what was there, where it tells what it took
abbrev pub Takes : Option (List ℕ) → Option (List ℕ) → List ℕ → Type 0
Takes (Some old) (Some new) bytes = new ≡ old ++ bytes
Takes None None bytes = Unit {0}
Takes (Some old) None bytes = ⊥
Takes None (Some new) bytes = ⊥

-- a put: some of the front of the piece is taken and no fault is counted, or nothing and a fault
abbrev pub Puts : Option (List ℕ) → Option (List ℕ) → ℕ → ℕ → List ℕ → Result ℕ PutFault → Type 0
Puts old new before now piece (Ok count) = (count ≤ length piece) × (0 < length piece → 0 < count) × Takes old new (take count piece) × (now ≡ before)
Puts old new before now piece (Err fault) = (new ≡ old) × Rose before now

-- a whole text is put: it is taken and no fault is counted, or a front of it and a fault
abbrev pub PutsWhole : Option (List ℕ) → Option (List ℕ) → ℕ → ℕ → List ℕ → Result Unit PutFault → Type 0
PutsWhole old new before now text (Ok done) = Takes old new text × (now ≡ before)
PutsWhole old new before now text (Err fault) = ((front : List ℕ) × (back : List ℕ) × (text ≡ front ++ back) × Takes old new front) × Rose before now
