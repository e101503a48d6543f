-- Sets of monitors, the bit of each being its place.
use Rattle.std.specs.Prelude.{ℕ, Bool, true, false, not, ◌&&◌, ◌==◌, length, Option, Some, None}
use Rattle.rv_model.specs.Numbers.{has_bit, number_of}
use Rattle.rv_bind.specs.declared.bindings.Item.{Item}
use Rattle.rv_control.specs.declared.sets.Those.{Those}
use Rattle.rv_control.specs.declared.sets.Those.TheVariants as those
use Rattle.rv_control.specs.Trees.{ControlValue, belongs_to}

-- all, or those that are enabled, or those that are not
abbrev pub is_those : ℕ → Those → ℕ → Bool
is_those switches those.All place = true
is_those switches those.Enabled place = has_bit switches place
is_those switches those.Disabled place = not (has_bit switches place)

-- any monitor, or those of a container, or a monitor itself
abbrev pub is_of_any : ControlValue → Option Item → ℕ → Bool
is_of_any tree None place = true
is_of_any tree (Some item) place = belongs_to tree item place

-- the monitor at this place is one of the item's, where there is an item, and one of those that are meant
abbrev pub is_chosen : ControlValue → Option Item → Those → ℕ → Bool
is_chosen tree item which place = is_of_any tree item place && is_those tree.switches which place

-- the monitors that are chosen
abbrev pub chosen_set : ControlValue → Option Item → Those → ℕ
chosen_set tree item which = number_of (is_chosen tree item which) (length tree.monitors)

-- a container or a monitor is enabled where it has a monitor, and none of its monitors is disabled
abbrev pub is_enabled : ControlValue → Item → Bool
is_enabled tree item = not (chosen_set tree (Some item) those.All == 0) && chosen_set tree (Some item) those.Disabled == 0
