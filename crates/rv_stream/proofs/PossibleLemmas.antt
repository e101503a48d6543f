-- What was read of a file may come of some text of it, and so of a trace.
use Rattle.std.proofs.Common.{ℕ, List, [], ◌++◌, refl, sym, ap}
use Rattle.std.specs.Prelude.{false, Some, Result, Ok, Err}
use Rattle.rv_text.specs.declared.refusals.Refusal.{Refusal}
use Rattle.rv_text.specs.declared.refusals.Refused.{Refused}
use Rattle.rv_text.specs.declared.refusals.Refused.TheVariants as refuseds
use Rattle.rv_text.specs.Readings.{Refuses}
use Rattle.rv_trace.specs.declared.line.TraceLine.{TraceLine}
use Rattle.rv_trace.specs.Streams.{part_read}
use Rattle.rv_trace.specs.Traces.{trace_of}
use Rattle.rv_trace.proofs.FrontLemmas.{read-refused}
use Rattle.rv_bind.specs.declared.fault.BindFault.{BindFault}
use Rattle.rv_bind.specs.declared.fault.BindFault.TheVariants as faults
use Rattle.rv_bind.specs.Outcomes.{Outcome, reading, of_file, of_text, IsFaultIn}
use Rattle.rv_bind.specs.Possible.{Only, MayRead, IsUnread, MayFault, MayCome}
use Rattle.rv_bind.specs.Values.{BoundValue}
use Rattle.rv_bind.proofs.PossibleLemmas.{unread_may}
use Rattle.rv_route.specs.Routing.{route_of}
use Rattle.rv_stream.specs.inner.Faults.{IsOutcome}
use Rattle.rv_stream.specs.RoutedTraces.{routed_text}

-- ---- one file

-- a file may be missing
pub file_unread : {Y : Type 0} (file : List ℕ) (read : List ℕ → Outcome Y) (fault : BindFault) → IsUnread file fault → MayFault fault (MayRead file read)
file_unread file read fault is = unread_may file fault (λ text. of_text file text read) refl is

-- what was told of a text may come
pub tells_may : {X Y : Type 0} (view : X → Y) (file text : List ℕ) (read : List ℕ → Outcome Y) (result : Result X BindFault) → IsOutcome view result (read text) → MayCome view result (MayRead file read)
tells_may view file text read (Ok x) tells = (Some text, sym tells)
tells_may view file text read (Err faults.Memory) tells = tt
tells_may view file text read (Err (faults.Refused named refusal)) tells = (Some text, sym tells.1)
tells_may view file text read (Err (faults.Unread named)) tells = absurd tells

-- what is told is the outcome
pub only_may : {X Y : Type 0} (view : X → Y) (o : Outcome Y) (result : Result X BindFault) → IsOutcome view result o → MayCome view result (Only o)
only_may view o (Ok x) tells = sym tells
only_may view o (Err faults.Memory) tells = tt
only_may view o (Err (faults.Refused named refusal)) tells = sym tells.1
only_may view o (Err (faults.Unread named)) tells = absurd tells

-- ---- a trace

-- an unread trace
pub trace_unread : (trace : List ℕ) (bound : BoundValue) (fault : BindFault) → IsUnread trace fault → MayFault fault (MayRead trace (routed_text trace bound))
trace_unread trace bound fault is = file_unread trace (routed_text trace bound) fault is

-- a refusal of what was fed of a trace
pub trace_refused : (trace : List ℕ) (bound : BoundValue) (fed : List ℕ) (fault : Refused) (given : BindFault) → Refuses fault (trace_of (part_read false fed)) → IsFaultIn trace fault given → MayFault given (MayRead trace (routed_text trace bound))
trace_refused trace bound fed refuseds.Memory given refuses is = rw is tt
trace_refused trace bound fed (refuseds.Because refusal) faults.Memory refuses is = tt
trace_refused trace bound fed (refuseds.Because refusal) (faults.Unread named) refuses is = absurd is
trace_refused trace bound fed (refuseds.Because refusal) (faults.Refused named told) refuses is =
    rw (is.0, is.1) (Some (fed ++ []), sym (ap (λ (read : Result (List TraceLine) Refusal). reading (of_file trace read) (λ lines. of_file trace (route_of bound.monitors bound.rules (fed ++ []) lines))) (read-refused fed [] refusal refuses)))
