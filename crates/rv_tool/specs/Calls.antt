-- What is seen of a call from outside.
use Rattle.std.specs.Prelude.{◌≡◌, ℕ, List, Option}
use Rattle.rv_io.specs.declared.sink.Sink as sinks
use Rattle.rv_io.specs.declared.store.Store as stores
use Rattle.rv_model.specs.declared.entry.Entry.{Entry}
use Rattle.rv_tool.specs.declared.top.Finished.{Finished}

-- of a sink: the bytes that it took, where it tells them, and its count of faults
pub record SinkState : Type 0 where
  pub taken : Option (List ℕ)
  pub faults : ℕ

-- what a call did to its sink: the sink before the call and after it, the status, and the history
pub record CallEnd : Type 0 where
  pub before : SinkState
  pub after : SinkState
  pub status : ℕ
  pub history : List Entry

-- of the top call: the store's counts of faults before it and after it, and what it did to its sink
pub record Call : Type 0 where
  pub faults_before : ℕ
  pub faults_after : ℕ
  pub end : CallEnd

-- the store counted no fault
abbrev pub CountsNone : Call → Type 0
CountsNone c = c.faults_after ≡ c.faults_before

-- ---- of the code's values

-- a sink at one moment
abbrev pub sink_state : {K : Type 0} → sinks.Ghosts K → K → SinkState
sink_state sink out = record { taken = sink.taken out; faults = sink.faults out }

-- a sink before and after a call that answered this
abbrev pub call_end : {K : Type 0} → sinks.Ghosts K → K → K → Finished → CallEnd
call_end sink old new finished = record { before = sink_state sink old; after = sink_state sink new; status = finished.status; history = finished.closed }

-- a store and a sink before and after a call that answered this
abbrev pub call : {S K : Type 0} → stores.Ghosts S → sinks.Ghosts K → S → S → K → K → Finished → Call
call store sink store_old store_new old new finished = record { faults_before = store.faults store_old; faults_after = store.faults store_new; end = call_end sink old new finished }
