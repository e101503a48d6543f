-- One more label.
use Rattle.std.proofs.Common.{◌≡◌, ℕ, ◌+◌, ◌<◌, true, false, List, ◌++◌, length, get_or, refl, add-one, append-nil}
use Rattle.std.proofs.lemmas.List.{get_or-map}
use Rattle.rv_model.specs.Ltl.{False}
use Rattle.rv_model.specs.Numbers.{has_bit}
use Rattle.rv_tableau.specs.Rows.{labels_below, piece_labels}
use Rattle.rv_nnf.specs.Parts.{PartValue, Label, part_value_at}
use Rattle.rv_nnf.specs.Views.{part_value, part_values}
use Rattle.rv_nnf.specs.declared.parts.Part.{Part}

-- a part that was read, as plain data
part_value_read : (parts : List Part) (k : ℕ) (d : Part) → k < length parts → part_value_at (part_values parts) k ≡ part_value (get_or parts k d)
part_value_read parts k d h = get_or-map part_value parts k d (Label False) h

-- the labels below the next number, whose part is in the set
pub labels_next : (parts : List Part) (set k : ℕ) (d : Part) → true ≡ has_bit set k → k < length parts → labels_below (part_values parts) set (k + 1) ≡ labels_below (part_values parts) set k ++ piece_labels (part_value (get_or parts k d))
labels_next parts set k d h l = rw (add-one, ← h, part_value_read parts k d l) refl

-- the labels below the next number, whose part is not in the set
pub labels_same : (parts : List Part) (set k : ℕ) → false ≡ has_bit set k → labels_below (part_values parts) set (k + 1) ≡ labels_below (part_values parts) set k
labels_same parts set k h = rw (add-one, ← h) (append-nil _)
