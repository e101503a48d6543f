-- The slot that two words name, from the place of the monitor.
use Rattle.std.proofs.Common.{◌≡◌, ℕ, ◌<◌, List, length, map, get_or, sym, ap, ◌∙◌, subst}
use Rattle.std.specs.Prelude.{Some, position, slice_index, slice_index_or, slice_get}
use Rattle.std.specs.Option.{option_and_then}
use Rattle.std.proofs.lemmas.List.{get_or-map, length-map}
use Rattle.std.proofs.lemmas.List.Quantifiers.{position-Some}
use Rattle.std.proofs.lemmas.Option.{slice_get-get_or}
use Rattle.rv_model.specs.declared.record.Task.{Task}
use Rattle.rv_slots.specs.Shapes.{count_of}
use Rattle.rv_bind.specs.declared.bindings.Monitor.{Monitor}
use Rattle.rv_watch.specs.Instances.{is_named, shape_of, slot_in, slot_named}

module _ (containers : List (List ℕ)) (monitors : List Monitor) (name : List ℕ) (place : ℕ) (m : Monitor) (found : position (is_named containers name) monitors ≡ Some place) (at : m ≡ slice_index_or monitors place m) where
  -- the place is a monitor's
  within : place < length monitors
  within = (position-Some (is_named containers name) monitors place m found).0

  -- it has the slots of its scope
  pub scope-at : (tasks : ℕ) (shape : List ℕ) → shape ≡ shape_of monitors tasks → slice_index shape place ≡ count_of tasks m.scope
  scope-at tasks shape is =
      let scopes : get_or (map (λ (m : Monitor). m.scope) monitors) place m.scope ≡ m.scope = get_or-map (λ (m : Monitor). m.scope) monitors place m m.scope within ∙ ap (λ (m : Monitor). m.scope) (sym at) in
      let many : place < length (map (λ (m : Monitor). m.scope) monitors) = subst (λ (n : ℕ). place < n) (sym (length-map monitors (λ (m : Monitor). m.scope))) within in
      ap (λ (l : List ℕ). slice_index l place) is ∙ get_or-map (count_of tasks) (map (λ (m : Monitor). m.scope) monitors) place m.scope 0 many ∙ ap (count_of tasks) scopes

  -- and the words name its slot
  pub named-at : (tasks : List Task) (shape text : List ℕ) → shape ≡ shape_of monitors (length tasks) → slot_in shape tasks place text m.scope ≡ slot_named containers monitors tasks name text
  named-at tasks shape text is =
      let there : slice_get monitors place ≡ Some m = slice_get-get_or monitors place m within ∙ ap (λ (m : Monitor). Some m) (sym at) in
      ap (λ (l : List ℕ). slot_in l tasks place text m.scope) is
      ∙ sym (ap (option_and_then (λ (m : Monitor). slot_in (shape_of monitors (length tasks)) tasks place text m.scope)) there)
      ∙ sym (ap (option_and_then (λ (place : ℕ). option_and_then (λ (m : Monitor). slot_in (shape_of monitors (length tasks)) tasks place text m.scope) (slice_get monitors place))) found)
