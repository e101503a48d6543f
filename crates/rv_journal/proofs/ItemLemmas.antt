-- An item's act delivers or stops.
use Rattle.std.proofs.Common.{ℕ}
use Rattle.rv_model.specs.declared.entry.Act.{Act}
use Rattle.rv_model.specs.declared.entry.Act.TheVariants.{Deliver, Stop, Look, Raise, Lower, Clear, End}
use Rattle.rv_model.specs.declared.hit.Hit.{Hit}
use Rattle.rv_journal.specs.inner.MergeStates.{IsItemAct}

-- what holds of each delivery and of each stop holds of it
pub by-item : (P : Act → Type 0) → ((slot : ℕ) (hit : Hit) → P (Deliver slot hit)) → ((slot : ℕ) → P (Stop slot)) → (act : Act) → IsItemAct act → P act
by-item P delivers stops (Deliver slot hit) is = delivers slot hit
by-item P delivers stops (Stop slot) is = stops slot
by-item P delivers stops Look is = absurd is
by-item P delivers stops (Raise _) is = absurd is
by-item P delivers stops (Lower _) is = absurd is
by-item P delivers stops (Clear _) is = absurd is
by-item P delivers stops (End _) is = absurd is
