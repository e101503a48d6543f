-- The lanes as a merge goes through them, and the ranges of an item's numbers.
use Rattle.std.specs.Prelude.{◌<◌, ◌^◌, List, [], length, slice_index_or}
use Rattle.rv_model.specs.declared.entry.Act.{Act}
use Rattle.rv_model.specs.declared.entry.Act.TheVariants.{Deliver}
use Rattle.rv_core.specs.Advance.{WhatFits}
use Rattle.rv_journal.specs.declared.counted.Counted.{Counted}
use Rattle.rv_journal.specs.CountedLanes.{CountedLaneValue}
use Rattle.rv_journal.specs.inner.MergeSteps.{rest_of}
use Rattle.rv_journal.specs.inner.MergeStates.{Lanes}
use Rattle.rv_journal.specs.Merging.{seat_of}

-- ---- what can be merged

-- the lane with nothing to do, which is read where an index is past the end
abbrev pub no_lane : CountedLaneValue
no_lane = record { work = record { cpu = 0; turns = []; deliveries = [] }; counted = []; room = 0 }

-- the lanes by their indexes, each with all of its steps
abbrev pub lanes_of : List CountedLaneValue → Lanes
lanes_of lanes = record {
  many = length lanes;
  seat = λ l. seat_of (slice_index_or lanes l no_lane);
  script = λ l. rest_of (slice_index_or lanes l no_lane) (record { turns = 0; items = 0 });
}

-- ---- what the machine's numbers give

-- the sets of atoms of a delivery's hit take 32 bits each
abbrev pub HitFits : Act → Type 0
HitFits (Deliver slot hit) = WhatFits hit.what
HitFits _ = Unit {0}

-- the sets of atoms of an item's hit take 32 bits each, and the word after its entry 64
pub record NumbersFit (c : Counted) : Type 0 where
  pub hit : HitFits c.entry.act
  pub word : c.entry.after < 2 ^ 64
