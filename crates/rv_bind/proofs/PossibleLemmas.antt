-- What a reader answers may come of some texts.
use Rattle.std.proofs.Common.{◌≡◌, ℕ, List, [], ◌∷◌, refl, sym, ap, inl, inr}
use Rattle.std.specs.Prelude.{Option, Some, None, Result, Ok, Err, IsErrAnd}
use Rattle.rv_text.specs.declared.refusals.Refusal.{Refusal}
use Rattle.rv_text.specs.declared.refusals.Refused.{Refused}
use Rattle.rv_text.specs.declared.refusals.Refused.TheVariants as refuseds
use Rattle.rv_text.specs.Readings.{Refuses}
use Rattle.rv_text.specs.TextLines.{LineText}
use Rattle.rv_model.specs.declared.work.Scope.{Scope}
use Rattle.rv_model.specs.declared.kind.SpecKind.{SpecKind}
use Rattle.rv_bind.specs.declared.compile.Compiled.{Compiled}
use Rattle.rv_bind.specs.declared.fault.LineFault.{LineFault}
use Rattle.rv_bind.specs.declared.fault.LineFault.TheVariants as lines
use Rattle.rv_bind.specs.declared.fault.BindFault.{BindFault}
use Rattle.rv_bind.specs.declared.fault.BindFault.TheVariants as faults
use Rattle.rv_bind.specs.inner.LineReads.{Faults, ReadsValue, InLine}
use Rattle.rv_bind.specs.Values.{BoundValue}
use Rattle.rv_bind.specs.Compiling.{compiled_of}
use Rattle.rv_bind.specs.Bound.{compiled_by, nothing_bound, place_for, with_monitor, monitor_bound}
use Rattle.rv_bind.specs.Outcomes.{Outcome, accepted, refused, missing, reading, of_file, of_line, IsFaultOf, IsFaultIn}
use Rattle.rv_bind.specs.Possible.{MayFind, MayRead, MayLine, MayLines, IsUnread, MayFault, MayCome}

-- ---- one text

-- a missing file may come of no text
pub unread_may : {Y : Type 0} (file : List ℕ) (fault : BindFault) (read : Option (List ℕ) → Outcome Y) → read None ≡ missing file → IsUnread file fault → MayFault fault (MayFind read)
unread_may file fault read none (inl is) = rw is (None, sym none)
unread_may file fault read none (inr is) = rw is tt

-- a reader's refusal may come of its text
pub refused_may : {Y : Type 0} (file text : List ℕ) (read : List ℕ → Result Y Refusal) (fault : Refused) (given : BindFault) → Refuses fault (read text) → IsFaultIn file fault given → MayFault given (MayRead file (λ t. of_file file (read t)))
refused_may file text read refuseds.Memory given refuses is = rw is tt
refused_may file text read (refuseds.Because refusal) faults.Memory refuses is = tt
refused_may file text read (refuseds.Because refusal) (faults.Unread named) refuses is = absurd is
refused_may file text read (refuseds.Because refusal) (faults.Refused named told) refuses is = rw (is.0, is.1) (Some text, sym (ap (of_file file) refuses))

-- a step's fault may come of the whole
pub step_may : {X Y : Type 0} (fault : BindFault) (step : Option (List ℕ) → Outcome X) (next : X → Outcome Y) → MayFault fault (MayFind step) → MayFault fault (MayFind (λ text. reading (step text) next))
step_may faults.Memory step next may = tt
step_may (faults.Refused file refusal) step next may = (may.0, ap (λ o. reading o next) may.1)
step_may (faults.Unread file) step next may = (may.0, ap (λ o. reading o next) may.1)

-- ---- specifications

module _ (kind : SpecKind) (file : List ℕ) where
  -- a specification may be missing
  pub spec_unread : (fault : BindFault) → IsUnread file fault → MayFault fault (MayFind (λ text. compiled_by text kind file))
  spec_unread fault is = unread_may file fault (λ text. compiled_by text kind file) refl is

  -- what a text is compiled to may come
  pub spec_may : (text : List ℕ) (compiled : Compiled) → compiled_of kind text ≡ Ok compiled → MayFind (λ t. compiled_by t kind file) (accepted compiled)
  spec_may text compiled is = (Some text, sym (ap (of_file file) is))

  -- and so may a text's refusal
  pub spec_refused : (text : List ℕ) (fault : Refused) (given : BindFault) → Refuses fault (compiled_of kind text) → IsFaultIn file fault given → MayFault given (MayFind (λ t. compiled_by t kind file))
  spec_refused text fault given refuses is = refused_may file text (compiled_of kind) fault given refuses is

-- ---- lines

module _ (file : List ℕ) (line : ℕ) (new : BoundValue) (result : Result Unit BindFault) where
  -- a line's fault may come, whatever would come behind it
  pub fault_may : {X : Type 0} (read : Result X ℕ) (next : Option (List ℕ) → X → Outcome BoundValue) (fault : LineFault) → InLine file line (Err fault) result → Faults fault read
      → MayCome (λ (_ : Unit). new) result (MayFind (λ text. reading (of_line file line read) (next text)))
  fault_may read next lines.Memory is fault = rw is tt
  fault_may {X} read next (lines.Number number) is fault = go result is
    where
      go : (r : Result Unit BindFault) → IsErrAnd r (λ fault. IsFaultOf fault file (record { number = number; line = line })) → MayCome (λ (_ : Unit). new) r (MayFind (λ text. reading (of_line file line read) (next text)))
      go (Ok done) h = absurd h
      go (Err faults.Memory) h = tt
      go (Err (faults.Unread named)) h = absurd h
      go (Err (faults.Refused named given)) h = (None, rw (fault, h.0, h.1) refl)

  -- what came of a line alone may come
  pub line_may : (done : Result Unit LineFault) (read : Result BoundValue ℕ) → InLine file line done result → ReadsValue (λ (_ : Unit). new) done read → MayCome (λ (_ : Unit). new) result (MayFind (λ text. of_line file line read))
  line_may (Ok done) read is reads = rw (is, reads) (None, refl)
  line_may (Err lines.Memory) read is reads = rw is tt
  line_may (Err (lines.Number number)) read is fault = go result is
    where
      go : (r : Result Unit BindFault) → IsErrAnd r (λ fault. IsFaultOf fault file (record { number = number; line = line })) → MayCome (λ (_ : Unit). new) r (MayFind (λ text. of_line file line read))
      go (Ok done) h = absurd h
      go (Err faults.Memory) h = tt
      go (Err (faults.Unread named)) h = absurd h
      go (Err (faults.Refused named given)) h = (None, rw (fault, h.0, h.1) refl)

  -- where a line was read, what may come behind it may come
  pub goes_on_may : {X : Type 0} (read : Result X ℕ) (x : X) (next : Option (List ℕ) → X → Outcome BoundValue) → read ≡ Ok x → MayCome (λ (_ : Unit). new) result (MayFind (λ text. next text x))
      → MayCome (λ (_ : Unit). new) result (MayFind (λ text. reading (of_line file line read) (next text)))
  goes_on_may read x next is may = rw is may

-- what reads no file may come
pub nothing_may : {Y : Type 0} (o : Outcome Y) → MayFind (λ text. o) o
nothing_may o = (None, refl)

module _ (here : List ℕ) (line : ℕ) (bound : BoundValue) (name : List ℕ) (scope : Scope) (kind : SpecKind) (file : List ℕ) (holder : Option (List ℕ)) (place : Option ℕ) (free : place_for bound name holder ≡ Ok place) where
  -- a monitor whose specification was read may come
  pub monitor_may : (compiled : Compiled) → MayFind (λ text. compiled_by text kind file) (accepted compiled)
      → MayFind (λ text. monitor_bound (compiled_by text) here line bound name scope kind file holder) (accepted (with_monitor bound name place scope file compiled))
  monitor_may compiled may = rw free (may.0, ap (λ o. reading o (λ compiled. accepted (with_monitor bound name place scope file compiled))) may.1)

  -- and so may its specification's fault
  pub monitor_fails : (fault : BindFault) → MayFault fault (MayFind (λ text. compiled_by text kind file)) → MayFault fault (MayFind (λ text. monitor_bound (compiled_by text) here line bound name scope kind file holder))
  monitor_fails fault may = rw free (step_may fault (λ text. compiled_by text kind file) (λ compiled. accepted (with_monitor bound name place scope file compiled)) may)

-- ---- all lines of a text

-- what may come of these lines may come of all
abbrev pub MayRest : List ℕ → List LineText → BoundValue → List LineText → Type 0
MayRest here all bound rest = (o : Outcome BoundValue) → MayLines here bound rest o → MayLines here nothing_bound all o

module _ (here : List ℕ) (all : List LineText) where
  -- all lines are left
  pub lines_may : MayRest here all nothing_bound all
  lines_may o may = may

  -- no line is left
  pub all_may : (bound : BoundValue) (rest : List LineText) → rest ≡ [] → MayRest here all bound rest → MayLines here nothing_bound all (accepted bound)
  all_may bound rest none may = may (accepted bound) (rw none refl)

  module _ (bound : BoundValue) (line : LineText) (rest : List LineText) (may : MayRest here all bound (line ∷ rest)) where
    -- a line was read
    pub next_may : (new : BoundValue) → MayLine here bound line (accepted new) → MayRest here all new rest
    next_may new one o more = may o (accepted new, one, more)

    -- a line has a fault
    pub rest_fails : (fault : BindFault) → MayFault fault (MayLine here bound line) → MayFault fault (MayLines here nothing_bound all)
    rest_fails faults.Memory one = tt
    rest_fails (faults.Refused file refusal) one = may (refused file refusal) (refused file refusal, one, refl)
    rest_fails (faults.Unread file) one = may (missing file) (missing file, one, refl)
