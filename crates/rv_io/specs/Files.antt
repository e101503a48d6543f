-- What a store tells of its files, and what a read of it may answer.
use Rattle.std.specs.Prelude.{◌≡◌, ◌⊎◌, ℕ, ◌+◌, ◌-◌, ◌^◌, List, take, Option, Some, None, Vec, Result, Ok, Err}
use Rattle.std.specs.declared.alloc.Global.{Global}
use Rattle.rv_io.specs.declared.store.ReadError.{ReadError}
use Rattle.rv_io.specs.declared.store.ReadError.TheVariants.{NoFile, Failed, Memory}
use Rattle.rv_io.specs.declared.store.TheConstants.{READ_LIMIT}

-- the bytes of each name that there is
abbrev pub Files : Type 0
Files = List ℕ → Option (List ℕ)

-- the count is one more than before, or stands still at the last value of a `u64`
abbrev pub Rose : ℕ → ℕ → Type 0
Rose before now = (now ≡ before + 1) ⊎ ((before ≡ 2 ^ 64 - 1) × (now ≡ before))

-- what one read gives of a file's bytes
unfoldable pub front_read : List ℕ → List ℕ
front_read bytes = take READ_LIMIT bytes

-- the two texts are the same up to one byte past `most`
abbrev pub AreAlikeTo : ℕ → List ℕ → List ℕ → Type 0
AreAlikeTo most text other = take (most + 1) text ≡ take (most + 1) other

-- a read of a name where the files are told: what may be read for that file's bytes, cut, or what there is of them; a failed read alone is counted as a fault
abbrev pub ReadsKnown : (List ℕ → List ℕ → Type 0) → Option (List ℕ) → ℕ → ℕ → Result (Vec ℕ Global) ReadError → Type 0
ReadsKnown IsRead (Some bytes) before now (Ok read) = IsRead read.items (front_read bytes) × (now ≡ before)
ReadsKnown IsRead None before now (Ok read) = ⊥
ReadsKnown IsRead (Some bytes) before now (Err NoFile) = ⊥
ReadsKnown IsRead None before now (Err NoFile) = now ≡ before
ReadsKnown IsRead _ before now (Err Failed) = Rose before now
ReadsKnown IsRead _ before now (Err Memory) = now ≡ before

-- a read where the files are not told: no error without a fault, but for want of memory, and no fault without an error
abbrev pub ReadsOpaque : ℕ → ℕ → Result (Vec ℕ Global) ReadError → Type 0
ReadsOpaque before now (Ok read) = now ≡ before
ReadsOpaque before now (Err NoFile) = Rose before now
ReadsOpaque before now (Err Failed) = Rose before now
ReadsOpaque before now (Err Memory) = now ≡ before

-- what a read of a name may answer, by what the store tells and what may be read for a file's bytes
abbrev pub ReadsAs : (List ℕ → List ℕ → Type 0) → Option Files → List ℕ → ℕ → ℕ → Result (Vec ℕ Global) ReadError → Type 0
ReadsAs IsRead (Some files) name before now result = ReadsKnown IsRead (files name) before now result
ReadsAs IsRead None name before now result = ReadsOpaque before now result

-- a read of the whole file
abbrev pub Reads : Option Files → List ℕ → ℕ → ℕ → Result (Vec ℕ Global) ReadError → Type 0
Reads told name before now result = ReadsAs (λ read bytes. read ≡ bytes) told name before now result

-- a read for one who looks no further than one byte past `most`
abbrev pub ReadsShort : ℕ → Option Files → List ℕ → ℕ → ℕ → Result (Vec ℕ Global) ReadError → Type 0
ReadsShort most told name before now result = ReadsAs (AreAlikeTo most) told name before now result
