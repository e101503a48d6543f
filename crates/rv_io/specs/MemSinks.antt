-- A sink in memory.
use Rattle.std.specs.Prelude.{ℕ, ◌-◌, List, ◌++◌, length}
use Rattle.rv_io.specs.Calls.{Calls, passed}

-- the bytes taken, the most that one put takes, the room that is left, and the calls
pub record SinkValue : Type 0 where
  pub taken : List ℕ
  pub most : ℕ
  pub room : ℕ
  pub calls : Calls

-- after a put that took these bytes
abbrev pub took : SinkValue → List ℕ → SinkValue
took sink front = record sink { taken = sink.taken ++ front; room = sink.room - length front; calls = passed sink.calls }
