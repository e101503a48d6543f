-- What a reading may come to on any store: each time a file is read there is some text of it, or none, chosen anew.
use Rattle.std.specs.Prelude.{◌≡◌, ◌⊎◌, ℕ, List, [], ◌∷◌, Option, Result, Ok, Err}
use Rattle.rv_text.specs.TextLines.{LineText, lines_of}
use Rattle.rv_bind.specs.declared.fault.BindFault.{BindFault}
use Rattle.rv_bind.specs.declared.fault.BindFault.TheVariants as faults
use Rattle.rv_bind.specs.Values.{BoundValue}
use Rattle.rv_bind.specs.Bound.{compiled_by, line_by, nothing_bound}
use Rattle.rv_bind.specs.Outcomes.{Outcome, accepted, refused, missing, of_text}

-- ---- which outcomes there may be

-- this one alone
abbrev pub Only : {Y : Type 0} → Outcome Y → Outcome Y → Type 0
Only is o = o ≡ is

-- what is read of some text, or of none
abbrev pub MayFind : {Y : Type 0} → (Option (List ℕ) → Outcome Y) → Outcome Y → Type 0
MayFind read o = (text : Option (List ℕ)) × (o ≡ read text)

-- what is read of some text of the file, or that it is missing
abbrev pub MayRead : {Y : Type 0} → List ℕ → (List ℕ → Outcome Y) → Outcome Y → Type 0
MayRead file read = MayFind (λ text. of_text file text read)

-- what may come behind an outcome: a refusal or a missing file stays
abbrev pub MayFollow : {X Y : Type 0} → Outcome X → (X → Outcome Y → Type 0) → Outcome Y → Type 0
MayFollow (accepted x) next o = next x o
MayFollow (refused file refusal) next o = o ≡ refused file refusal
MayFollow (missing file) next o = o ≡ missing file

-- the first may come, and then what may follow it
abbrev pub MayThen : {X Y : Type 0} → (Outcome X → Type 0) → (X → Outcome Y → Type 0) → Outcome Y → Type 0
MayThen {X} first next o = (step : Outcome X) × first step × MayFollow step next o

-- ---- bindings

-- what a line may make of the bindings: a specification that it names has some text
abbrev pub MayLine : List ℕ → BoundValue → LineText → Outcome BoundValue → Type 0
MayLine here bound line = MayFind (λ text. line_by (compiled_by text) here bound line)

-- what the lines may make of the bindings, in order, up to the first refusal or missing file
abbrev pub MayLines : List ℕ → BoundValue → List LineText → Outcome BoundValue → Type 0
MayLines here bound [] = Only (accepted bound)
MayLines here bound (line ∷ lines) = MayThen (MayLine here bound line) (λ next. MayLines here next lines)

-- what the bindings of this name may come to
abbrev pub MayBound : List ℕ → Outcome BoundValue → Type 0
MayBound here = MayThen (MayRead here accepted) (λ text. MayLines here nothing_bound (lines_of text))

-- ---- what a reader answers

-- the file is said to be unread, unless memory ran out
abbrev pub IsUnread : List ℕ → BindFault → Type 0
IsUnread file fault = (fault ≡ faults.Unread file) ⊎ (fault ≡ faults.Memory)

-- the fault is that of an outcome that may come, unless memory ran out
abbrev pub MayFault : {Y : Type 0} → BindFault → (Outcome Y → Type 0) → Type 0
MayFault faults.Memory May = Unit {0}
MayFault (faults.Refused file refusal) May = May (refused file refusal)
MayFault (faults.Unread file) May = May (missing file)

-- the answer is that of an outcome that may come, unless memory ran out
abbrev pub MayCome : {X Y : Type 0} → (X → Y) → Result X BindFault → (Outcome Y → Type 0) → Type 0
MayCome view (Ok x) May = May (accepted (view x))
MayCome view (Err fault) May = MayFault fault May
