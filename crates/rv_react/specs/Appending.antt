-- A text is appended, or after a refusal some front of it.
use Rattle.std.specs.Prelude.{◌≡◌, ℕ, List, ◌++◌, Result, Ok, Err}

-- the text was appended; after a refusal, a front of it
abbrev pub Appends : {E : Type 0} → List ℕ → List ℕ → List ℕ → Result Unit E → Type 0
Appends old new text (Ok done) = new ≡ old ++ text
Appends old new text (Err refused) = (front : List ℕ) × (back : List ℕ) × (text ≡ front ++ back) × (new ≡ old ++ front)
