-- What a setup keeps, and which acts fit it.
use Rattle.std.specs.Prelude.{◌≡◌, ℕ, ◌+◌, ◌^◌, ◌<◌, List, [], map, length, sum, All, slice_index_or}
use Rattle.rv_model.specs.declared.entry.Act.{Act}
use Rattle.rv_model.specs.declared.entry.Act.TheVariants.{Deliver, Stop, Raise, Lower, Clear, End}
use Rattle.rv_model.specs.Table.{Table, of_events}
use Rattle.rv_model.specs.Judging.{Judge}
use Rattle.rv_model.specs.Stepping.{IsTable, table_judge}
use Rattle.rv_model.specs.Setups.{Setup, monitor_of, start_of}
use Rattle.rv_core.specs.Advance.{FitsTable, WhatFits}

-- one table and one starting value for each monitor, and no unknown switch
pub record FitsShape (s : Setup) : Type 0 where
  pub many : length s.tables ≡ length s.shape
  pub many_starts : length s.starts ≡ length s.shape
  pub known_switches : s.switches < 2 ^ 35

-- what is known of every setup
pub record IsSetup (s : Setup) : Type 0 where
  pub fits : FitsShape s
  pub are_tables : All IsTable s.tables

-- where there is no monitor
abbrev pub no_table : Table
no_table = of_events 0 []

-- the table of a slot
abbrev pub table_at : Setup → ℕ → Table
table_at s slot = slice_index_or s.tables (monitor_of s.shape slot) no_table

-- its tables are the judges, by steps; the law `EveryTableIsJudged` of rv_model says that they judge by paths
abbrev pub judges_of : Setup → List Judge
judges_of s = map table_judge s.tables

-- the table that an act uses
abbrev pub table_of_act : Setup → Act → Table
table_of_act s (Deliver slot _) = table_at s slot
table_of_act s _ = no_table

-- the starting levels that an act uses
abbrev pub start_of_act : Setup → Act → ℕ
start_of_act s (Clear slot) = start_of s slot
start_of_act s (End slot) = start_of s slot
start_of_act s _ = 0

-- a slot is in range, and a hit fits its table
abbrev pub FitsAct : Setup → Act → Type 0
FitsAct s (Deliver slot hit) = (slot < sum s.shape) × FitsTable (table_at s slot) hit
FitsAct s (Stop slot) = slot < sum s.shape
FitsAct s (Clear slot) = slot < sum s.shape
FitsAct s (End slot) = slot < sum s.shape
FitsAct s _ = Unit {0}

-- an act's numbers fit the words
abbrev pub ActFits : Setup → Act → Type 0
ActFits s (Deliver _ hit) = WhatFits hit.what
ActFits s (Clear slot) = start_of s slot < 2 ^ 32
ActFits s (End slot) = start_of s slot < 2 ^ 32
ActFits s (Raise bits) = bits < 2 ^ 64
ActFits s (Lower bits) = bits < 2 ^ 64
ActFits s _ = Unit {0}

-- the word of an act, among the words
abbrev pub word_index : Act → ℕ
word_index (Deliver slot _) = slot + 1
word_index (Stop slot) = slot + 1
word_index (Clear slot) = slot + 1
word_index (End slot) = slot + 1
word_index _ = 0
