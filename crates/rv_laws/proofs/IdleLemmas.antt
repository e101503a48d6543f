-- A control script that asks for no change has no acts, so it is none.
use Rattle.std.proofs.Common.{◌≡◌, ℕ, List, [], ◌∷◌, refl, sym, ◌∙◌}
use Rattle.std.specs.Prelude.{All, flat_map, length, slice_index, if◌then◌else◌}
use Rattle.std.proofs.lemmas.List.Elements.{All-head, All-tail}
use Rattle.rv_model.specs.declared.entry.Act.TheVariants.{Clear}
use Rattle.rv_model.specs.declared.work.Change.{Change}
use Rattle.rv_model.specs.Numbers.{has_bit, list_of}
use Rattle.rv_model.specs.Scripts.{change_acts, control_acts}
use Rattle.rv_model.specs.Setups.{slot_of}
use Rattle.rv_model.proofs.SetLemmas.{has_none}
use Rattle.rv_laws.specs.Changes.{AsksNothing, IdleScriptIsNone}

-- an empty set clears no slot
clears-none : (shape monitors : List ℕ) → flat_map (λ monitor. if has_bit 0 monitor then list_of (λ k. Clear (slot_of shape monitor k)) (slice_index shape monitor) else []) monitors ≡ []
clears-none shape [] = refl
clears-none shape (monitor ∷ monitors) = rw (has_none monitor) (clears-none shape monitors)

-- a change that asks for nothing has no acts
change-none : (shape : List ℕ) (c : Change) → AsksNothing c → change_acts shape c ≡ []
change-none shape c nothing = rw (nothing.lower, nothing.clear, nothing.raise) (rw (clears-none shape (list_of (λ m. m) (length shape))) refl)

-- nor do many of them
control-none : (shape : List ℕ) (changes : List Change) → All AsksNothing changes → control_acts shape changes ≡ []
control-none shape [] nothing = refl
control-none shape (c ∷ changes) nothing = rw (change-none shape c (All-head AsksNothing c changes nothing)) (control-none shape changes (All-tail AsksNothing c changes nothing))

-- a script that asks for no change is none
pub idle_script_is_none : IdleScriptIsNone
idle_script_is_none input js h nothing =
    let none = control-none input.setup.shape input.changes nothing in (
      (
        λ legal. record { sound = legal.sound; cpus = legal.cpus; control = legal.control ∙ none; nobody_else = legal.nobody_else },
        λ legal. record { sound = legal.sound; cpus = legal.cpus; control = legal.control ∙ sym none; nobody_else = legal.nobody_else },
      ),
      refl,
    )
