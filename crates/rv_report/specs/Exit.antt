-- What an exit status says of records.
use Rattle.std.specs.Prelude.{◌≡◌, ◌↔◌, ℕ, List, Any}
use Rattle.rv_model.specs.declared.entry.Answer.TheVariants.{Failed}
use Rattle.rv_model.specs.declared.record.Delivered.TheVariants.{Done, Racing}
use Rattle.rv_model.specs.declared.record.Record.{Record}
use Rattle.rv_model.specs.Records.{status_of}

-- its letter was not allowed
abbrev pub HasFailed : Record → Type 0
HasFailed r = (set : ℕ) × (r.outcome ≡ Done (Failed set))

-- its instance was stopped
abbrev pub WasStopped : Record → Type 0
WasStopped r = r.outcome ≡ Racing

-- the status of the records: 1 exactly where one has failed, 6 where none has and one was stopped, and else 0
pub record IsStatus (rs : List Record) (status : ℕ) : Type 0 where
  pub value : status ≡ status_of rs
  pub clean : (status ≡ 0) ↔ ((¬ Any HasFailed rs) × (¬ Any WasStopped rs))
  pub failure : (status ≡ 1) ↔ Any HasFailed rs
  pub stopped : (status ≡ 6) ↔ ((¬ Any HasFailed rs) × Any WasStopped rs)
