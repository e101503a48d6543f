-- How many words a command has.
use Rattle.std.proofs.Common.{◌≡◌, ◌≢◌, List, [], ◌∷◌, length, refl}
use Rattle.std.specs.Prelude.{None, String}
use Rattle.std.specs.declared.alloc.Global.{Global}
use Rattle.rv_tool.specs.Words.{command_of, texts_of}

-- words of another number are no command
pub no_command : (words : List (String Global)) → length words ≢ 2 → length words ≢ 3 → length words ≢ 4 → length words ≢ 5 → command_of (texts_of words) ≡ None
no_command [] two three four five = refl
no_command (a ∷ []) two three four five = refl
no_command (a ∷ b ∷ []) two three four five = absurd (two refl)
no_command (a ∷ b ∷ c ∷ []) two three four five = absurd (three refl)
no_command (a ∷ b ∷ c ∷ d ∷ []) two three four five = absurd (four refl)
no_command (a ∷ b ∷ c ∷ d ∷ e ∷ []) two three four five = absurd (five refl)
no_command (a ∷ b ∷ c ∷ d ∷ e ∷ f ∷ rest) two three four five = refl
