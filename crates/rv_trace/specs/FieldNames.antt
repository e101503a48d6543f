-- Names of fields with their places.
use Rattle.std.specs.Prelude.{◌≡◌, ℕ, Bool, true, not, ◌&&◌, ◌==◌, List, Option, Some, slice_get, Vec}
use Rattle.std.specs.List.{list_all}
use Rattle.std.specs.Ordering.{nat_cmp}
use Rattle.std.specs.Cmp.Lexicographic.{slice_cmp}
use Rattle.std.specs.BTreeMap.{BTreeMap, get_by}
use Rattle.std.specs.declared.alloc.Global.{Global}
use Rattle.rv_text.specs.Places.{is_blank}

-- no `=` and no blank
abbrev pub is_plain_byte : ℕ → Bool
is_plain_byte byte = not (byte == 61) && not (is_blank byte)

-- the name lies within a word, before its first `=`
abbrev pub IsPlain : List ℕ → Type 0
IsPlain name = list_all is_plain_byte name ≡ true

-- the place that a map has for a name
abbrev pub place_in : BTreeMap (Vec ℕ Global) ℕ → List ℕ → Option ℕ
place_in places name = get_by (λ key. slice_cmp nat_cmp name key.items) places

-- the map has the place of each name, and no other place
pub record ArePlaces (names : List (List ℕ)) (places : BTreeMap (Vec ℕ Global) ℕ) : Type 0 where
  pub each : (place : ℕ) (name : List ℕ) → place_in places name ≡ Some place → slice_get names place ≡ Some name
  pub has : (place : ℕ) (name : List ℕ) → slice_get names place ≡ Some name → place_in places name ≡ Some place
