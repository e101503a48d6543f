-- What a reader of a line's words answers: the definition's value or the number of its refusal, unless memory ran out.
use Rattle.std.specs.Prelude.{◌≡◌, ℕ, List, Result, Ok, Err, IsErrAnd}
use Rattle.rv_bind.specs.declared.fault.LineFault.{LineFault}
use Rattle.rv_bind.specs.declared.fault.LineFault.TheVariants as lines
use Rattle.rv_bind.specs.declared.fault.BindFault.{BindFault}
use Rattle.rv_bind.specs.declared.fault.BindFault.TheVariants as faults
use Rattle.rv_bind.specs.Outcomes.{IsFaultOf}

-- the fault has the number of the definition's refusal, unless memory ran out
abbrev pub Faults : {Y : Type 0} → LineFault → Result Y ℕ → Type 0
Faults lines.Memory read = Unit {0}
Faults (lines.Number number) read = read ≡ Err number

-- what a reader answers is the definition's value, or the number of its refusal, unless memory ran out
abbrev pub ReadsValue : {X Y : Type 0} → (X → Y) → Result X LineFault → Result Y ℕ → Type 0
ReadsValue view (Ok x) read = read ≡ Ok (view x)
ReadsValue view (Err fault) read = Faults fault read

-- what a reader answers is the definition's value, with the words that it leaves, or the number of its refusal, unless
-- memory ran out
abbrev pub ReadsOn : {X Y : Type 0} → (X → Y) → Result X LineFault → List (List ℕ) → Result (Y × List (List ℕ)) ℕ → Type 0
ReadsOn view (Ok x) rest read = read ≡ Ok (view x, rest)
ReadsOn view (Err fault) rest read = Faults fault read

-- the line's fault with its file and its line, and nothing where it has none
abbrev pub InLine : List ℕ → ℕ → Result Unit LineFault → Result Unit BindFault → Type 0
InLine file line (Ok done) result = result ≡ Ok tt
InLine file line (Err lines.Memory) result = result ≡ Err faults.Memory
InLine file line (Err (lines.Number number)) result = IsErrAnd result (λ fault. IsFaultOf fault file (record { number = number; line = line }))
