-- A formula's rows by the numbers of their labels, and the rows next to a set.
use Rattle.std.specs.Prelude.{◌≡◌, ◌≢◌, ℕ, zero, suc, ◌<◌, ◌≤◌, ◌==◌, ◌&&◌, ◌||◌, not, Bool, false, List, All, length, map, slice_index_or}
use Rattle.std.specs.List.{list_all}
use Rattle.rv_model.specs.Ltl.{Ltl, True}
use Rattle.rv_model.specs.Meaning.{true_on}
use Rattle.rv_model.specs.Numbers.{has_bit}
use Rattle.rv_model.specs.Table.{Node, node_at}
use Rattle.rv_table.specs.declared.label.Label.{Label}
use Rattle.rv_table.specs.declared.nodes.NumberedRow.{NumberedRow}

-- the label with this number
abbrev pub label_at : List Label → ℕ → Ltl
label_at labels number = (slice_index_or labels number (record { masks = True; rows = 0 })).masks

-- each is the number of a label
abbrev pub AreNumbers : List Label → List ℕ → Type 0
AreNumbers labels numbers = All (λ number. number < length labels) numbers

-- no label stands twice
abbrev pub AreDistinct : List Label → Type 0
AreDistinct labels = (number other : ℕ) → number < other → other < length labels → label_at labels number ≢ label_at labels other

-- each number of the old list is that of the same label in the new one, and where no label stood twice, none does
pub record KeepsNumbers (old new : List Label) : Type 0 where
  pub longer : length old ≤ length new
  pub same : (number : ℕ) → number < length old → label_at new number ≡ label_at old number
  pub once : AreDistinct old → AreDistinct new

-- the row with its labels in the place of their numbers
abbrev pub node_by : List Label → NumberedRow → Node
node_by labels row = record { labels = map (label_at labels) row.labels.items; next = row.next }

-- the rows with their labels in the place of their numbers
abbrev pub nodes_by : List Label → List NumberedRow → List Node
nodes_by labels rows = map (node_by labels) rows

-- whether no label that is false on the letter has the row in its set
abbrev pub row_passes : List Label → ℕ → ℕ → Bool
row_passes labels row letter = list_all (λ label. not (has_bit label.rows row) || true_on letter label.masks) labels

-- whether the letter makes all labels of the row true
abbrev pub allows : List Node → ℕ → ℕ → Bool
allows nodes row letter = list_all (true_on letter) (node_at nodes row).labels

-- these are the numbers of a row's labels, and the row is put among those that have them
pub record AreEntered (old new : List Label) (row : ℕ) (labels : List Ltl) (numbers : List ℕ) : Type 0 where
  pub within : AreNumbers new numbers
  pub named : map (label_at new) numbers ≡ labels
  pub kept : KeepsNumbers old new
  pub told : (q letter : ℕ) → q < 32 → row_passes new q letter ≡ (row_passes old q letter && (not (row == q) || list_all (true_on letter) labels))

-- no label stands twice, each number is that of a label, and on every letter the sets of rows say which rows may be entered
pub record AreNumberedRows (labels : List Label) (rows : List NumberedRow) : Type 0 where
  pub once : AreDistinct labels
  pub within : All (λ row. AreNumbers labels row.labels.items) rows
  pub told : (row letter : ℕ) → row < 32 → row_passes labels row letter ≡ allows (nodes_by labels rows) row letter

-- whether the row is a next row of some row of the set below n
abbrev pub some_next : List Node → ℕ → ℕ → ℕ → Bool
some_next nodes set zero next = false
some_next nodes set (suc row) next = some_next nodes set row next || (has_bit set row && has_bit (node_at nodes row).next next)
