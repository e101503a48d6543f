-- What decides an answer: of each text but a trace, its front, which ends one byte past the limit.
use Rattle.std.specs.Prelude.{◌≡◌, ℕ, List, option_map}
use Rattle.rv_io.specs.Files.{Files}
use Rattle.rv_bind.specs.Outcomes.{text_front}

-- texts that have one front come to the same, whatever follows it
abbrev pub FrontDecides : {X : Type 0} → (List ℕ → X) → Type 0
FrontDecides read = (text other : List ℕ) → text_front text ≡ text_front other → read text ≡ read other

-- each name has texts with one front in both, or no text in either
abbrev pub HaveSameFronts : Files → Files → Type 0
HaveSameFronts files others = (name : List ℕ) → option_map text_front (files name) ≡ option_map text_front (others name)
