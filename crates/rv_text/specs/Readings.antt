-- What a reader answers: the definition's value or refusal, unless memory ran out.
use Rattle.std.specs.Prelude.{◌≡◌, ℕ, List, ◌++◌, Result, Ok, Err}
use Rattle.rv_text.specs.declared.refusals.Refusal.{Refusal}
use Rattle.rv_text.specs.declared.refusals.Refused.{Refused}
use Rattle.rv_text.specs.declared.refusals.Refused.TheVariants as refuseds

-- a reader's refusal is the definition's
abbrev pub Refuses : {Y : Type 0} → Refused → Result Y Refusal → Type 0
Refuses refuseds.Memory read = Unit {0}
Refuses (refuseds.Because refusal) read = read ≡ Err refusal

-- what was returned, seen by view, is what the definition reads
abbrev pub Gives : {X Y : Type 0} → (X → Y) → Result X Refused → Result Y Refusal → Type 0
Gives view (Ok x) read = read ≡ Ok (view x)
Gives view (Err refused) read = Refuses refused read

-- a refusal that names no line
abbrev pub refused_with : {Y : Type 0} → ℕ → Result Y Refusal
refused_with number = Err (record { number = number; line = 0 })

-- a refusal that names its line
abbrev pub refused_at : {Y : Type 0} → ℕ → ℕ → Result Y Refusal
refused_at number line = Err (record { number = number; line = line })

-- reads, and then reads on from the value; the first refusal is the whole's
abbrev pub and_then : {X Y : Type 0} → Result X Refusal → (X → Result Y Refusal) → Result Y Refusal
and_then (Ok x) next = next x
and_then (Err refusal) next = Err refusal

-- these items, and then those that are read later
abbrev pub onto : {X : Type 0} → List X → Result (List X) Refusal → Result (List X) Refusal
onto items later = and_then later (λ more. Ok (items ++ more))
