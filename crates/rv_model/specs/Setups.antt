-- What a run begins with: how many slots each monitor has, its table, its starting levels, and the opening switches.
use Rattle.std.specs.Prelude.{ℕ, ◌+◌, ◌-◌, List, [], ◌∷◌, false, sum, take, nat_lt, slice_index, slice_index_or, if◌then◌else◌}
use Rattle.std.specs.Coded.{Coded, code_by, coded×, coded_ℕ, coded_list}
use Rattle.std.proofs.Common.{refl}
use Rattle.rv_model.specs.Table.{Table, coded_table}
use Rattle.rv_model.specs.Judging.{Judge}

-- a run's shape, tables, starting levels and opening switches
pub record Setup : Type 0 where
  pub shape : List ℕ
  pub tables : List Table
  pub starts : List ℕ
  pub switches : ℕ

-- a setup by the code of its parts
abbrev pub coded_setup : Coded Setup
coded_setup =
    code_by (List ℕ × (List Table × (List ℕ × ℕ))) (coded× (coded_list coded_ℕ) (coded× (coded_list coded_table) (coded× (coded_list coded_ℕ) coded_ℕ)))
    (λ s. (s.shape, (s.tables, (s.starts, s.switches)))) (λ p. record { shape = p.0; tables = p.1.0; starts = p.1.1.0; switches = p.1.1.1 }) (λ _. refl)

-- the monitor of a slot
abbrev pub monitor_of : List ℕ → ℕ → ℕ
monitor_of [] slot = 0
monitor_of (count ∷ shape) slot = if nat_lt slot count then 0 else 1 + monitor_of shape (slot - count)

-- the slot of an instance of a monitor
abbrev pub slot_of : List ℕ → ℕ → ℕ → ℕ
slot_of shape monitor instance = sum (take monitor shape) + instance

-- the judge where there is no monitor
abbrev pub no_judge : Judge
no_judge = record { holds = λ _. false; reaches = λ _ _. false }

-- the judge of a slot's monitor
abbrev pub judge_of : Setup → List Judge → ℕ → Judge
judge_of s js slot = slice_index_or js (monitor_of s.shape slot) no_judge

-- the starting levels of a slot's monitor
abbrev pub start_of : Setup → ℕ → ℕ
start_of s slot = slice_index s.starts (monitor_of s.shape slot)
