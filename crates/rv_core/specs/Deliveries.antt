-- Which deliveries fit a setup.
use Rattle.std.specs.Prelude.{◌<◌, length, slice_index}
use Rattle.rv_model.specs.declared.work.Delivery.{Delivery}
use Rattle.rv_model.specs.Setups.{Setup, slot_of}
use Rattle.rv_core.specs.Advance.{FitsHit}
use Rattle.rv_core.specs.Setup.{table_at}

-- the monitor and the instance are the setup's, and the hit ends it or fits the monitor's table
pub record FitsDelivery (s : Setup) (d : Delivery) : Type 0 where
  pub monitor : d.monitor < length s.shape
  pub instance_fits : d.instance < slice_index s.shape d.monitor
  pub hit : FitsHit (table_at s (slot_of s.shape d.monitor d.instance)) d.hit
