-- How the events of rules are found by their names.
use Rattle.std.specs.Prelude.{◌≡◌, ℕ, ◌+◌, ◌-◌, ◌*◌, ◌/◌, ◌%◌, true, List, All, length, Option, None, is_some, slice_index, slice_index_or, Vec}
use Rattle.std.specs.declared.alloc.Global.{Global}
use Rattle.rv_route.specs.declared.event.Event.{Event}
use Rattle.rv_route.specs.declared.index.TheConstants.{KEYS}

-- a number that most names have for themselves
unfoldable pub key_of : List ℕ → ℕ
key_of name = (((slice_index name 0 * 3 + slice_index name (length name / 2)) * 3 + slice_index name (length name - 1)) * 3 + length name % 256) % KEYS

-- each event stands under its own name
abbrev pub AreByName : List (Vec ℕ Global × Event) → Type 0
AreByName entries = All (λ entry. entry.0.items ≡ entry.1.name) entries

-- the table has a place for the key of each event
pub record HaveKeys (firsts : List (Option ℕ)) (events : List Event) : Type 0 where
  pub keys : length firsts ≡ KEYS
  pub each : All (λ event. is_some (slice_index_or firsts (key_of event.name) None) ≡ true) events
