-- What a reader of a text answers.
use Rattle.std.specs.Prelude.{◌≡◌, Result, Ok, Err}
use Rattle.rv_bind.specs.declared.fault.BindFault.{BindFault}
use Rattle.rv_bind.specs.declared.fault.BindFault.TheVariants as faults
use Rattle.rv_bind.specs.Outcomes.{Outcome, accepted, refused, IsRefusal}

-- what was answered is the outcome, unless memory ran out; a refusal has one of the numbers
abbrev pub IsOutcome : {X Y : Type 0} → (X → Y) → Result X BindFault → Outcome Y → Type 0
IsOutcome view (Ok x) outcome = outcome ≡ accepted (view x)
IsOutcome view (Err faults.Memory) outcome = Unit {0}
IsOutcome view (Err (faults.Refused file refusal)) outcome = IsRefusal refusal × (outcome ≡ refused file refusal)
IsOutcome view (Err (faults.Unread file)) outcome = ⊥
