-- What the readers of parts answer, joined to what the reader of the whole answers.
use Rattle.std.proofs.Common.{◌≡◌, ℕ, refl, sym, ap, ◌∙◌, subst, inl, inr}
use Rattle.std.specs.Prelude.{Option, Some, Result, Ok, Err}
use Rattle.rv_io.specs.Files.{Files}
use Rattle.rv_bind.specs.declared.fault.BindFault.{BindFault}
use Rattle.rv_bind.specs.declared.fault.BindFault.TheVariants as faults
use Rattle.rv_bind.specs.Outcomes.{Outcome, accepted, reading, BlamesReached, Refines, ReadsOutcome, files_without}
use Rattle.rv_bind.proofs.OutcomeLemmas.{later_counted, fault_counted, step_fault, Refines-later, Refines-behind}
use Rattle.rv_bind.proofs.ReachedLemmas.{IsLocal, step_named, behind_named}

-- a step's fault is the whole's
pub step_reads : {X Y Z W : Type 0} (view : X → Y) (whole_view : Z → W) (told left : Option Files) (before now : ℕ) (fault : BindFault) (step : Files → Outcome Y) (next : Files → Y → Outcome W)
    → ReadsOutcome view told left before now (Err fault) step → ReadsOutcome whole_view told left before now (Err fault) (λ files. reading (step files) (next files))
step_reads {X} {Y} {Z} {W} view whole_view told left before now fault step next reads = record {
  kept = reads.kept;
  counts = fault_counted X Z before now fault reads.counts;
  value = step_fault told before now fault view whole_view step next (λ files. reading (step files) (next files)) (λ files known. refl) reads.value;
  named = step_named X Z told fault step next (λ files. reading (step files) (next files)) (λ files. refl) reads.named;
}

-- what was read behind a step is what is read
pub later_reads : {X Y : Type 0} (view : X → Y) (told mid left : Option Files) (before count now : ℕ) (result : Result X BindFault) (outcome : Files → Outcome Y) → mid ≡ told → count ≡ before
    → ReadsOutcome view mid left count now result outcome → ReadsOutcome view told left before now result outcome
later_reads view told mid left before count now result outcome same le reads = record {
  kept = subst (λ (t : Option Files). left ≡ t) same reads.kept;
  counts = later_counted before count now result le reads.counts;
  value = Refines-later view told mid before count now result outcome same le reads.value;
  named = subst (λ (t : Option Files). BlamesReached t result outcome) same reads.named;
}

-- where the step was read, it is what both come to
pub behind_reads : {X Y W : Type 0} (view : X → W) (told left : Option Files) (before now : ℕ) (result : Result X BindFault) (step : Files → Outcome Y) (y : Y) (next : Files → Y → Outcome W) → IsLocal step
    → ((files : Files) → told ≡ Some files → step files ≡ accepted y) → ReadsOutcome view told left before now result (λ files. next files y) → ReadsOutcome view told left before now result (λ files. reading (step files) (next files))
behind_reads {X} {Y} {W} view told left before now result step y next is read reads = record {
  kept = reads.kept;
  counts = reads.counts;
  value = Refines-behind view told before now result step y next read reads.value;
  named = go result reads.named;
}
  where
    go : (r : Result X BindFault) → BlamesReached told r (λ files. next files y) → BlamesReached told r (λ files. reading (step files) (next files))
    go (Ok x) named = tt
    go (Err fault) named = behind_named X X told fault step y next is read named

-- the same outcomes are read alike
pub same_reads : {X Y : Type 0} (view : X → Y) (told left : Option Files) (before now : ℕ) (result : Result X BindFault) (outcome other : Files → Outcome Y) → ((files : Files) → outcome files ≡ other files)
    → ReadsOutcome view told left before now result outcome → ReadsOutcome view told left before now result other
same_reads {X} view told left before now result outcome other same reads = record {
  kept = reads.kept;
  counts = reads.counts;
  value = read result reads.value;
  named = named result reads.named;
}
  where
    read : (r : Result X BindFault) → Refines view told before now r outcome → Refines view told before now r other
    read (Ok x) is = λ files known. sym (same files) ∙ is files known
    read (Err faults.Memory) is = tt
    read (Err (faults.Refused file refusal)) is = (is.0, λ files known. sym (same files) ∙ is.1 files known)
    read (Err (faults.Unread file)) (inl lacks) = inl (lacks.0, lacks.1, sym (same lacks.0) ∙ lacks.2)
    read (Err (faults.Unread file)) (inr rose) = inr rose

    named : (r : Result X BindFault) → BlamesReached told r outcome → BlamesReached told r other
    named (Ok x) is = tt
    named (Err faults.Memory) is = tt
    named (Err (faults.Refused file refusal)) is = tt
    named (Err (faults.Unread file)) is = λ files known. sym (same (files_without file files)) ∙ is files known

-- what is made of the value that was read
pub mapped_reads : {X Y W : Type 0} (view : X → Y) (made : Y → W) (told left : Option Files) (before now : ℕ) (result : Result X BindFault) (outcome : Files → Outcome Y)
    → ReadsOutcome view told left before now result outcome → ReadsOutcome (λ x. made (view x)) told left before now result (λ files. reading (outcome files) (λ y. accepted (made y)))
mapped_reads {X} {Y} {W} view made told left before now result outcome reads = record {
  kept = reads.kept;
  counts = reads.counts;
  value = value result reads.value;
  named = named result reads.named;
}
  where
    whole : Files → Outcome W
    whole files = reading (outcome files) (λ y. accepted (made y))

    then : Outcome Y → Outcome W
    then o = reading o (λ y. accepted (made y))

    value : (r : Result X BindFault) → Refines view told before now r outcome → Refines (λ x. made (view x)) told before now r whole
    value (Ok x) is = λ files known. ap then (is files known)
    value (Err faults.Memory) is = tt
    value (Err (faults.Refused file refusal)) is = (is.0, λ files known. ap then (is.1 files known))
    value (Err (faults.Unread file)) (inl lacks) = inl (lacks.0, lacks.1, ap then lacks.2)
    value (Err (faults.Unread file)) (inr rose) = inr rose

    named : (r : Result X BindFault) → BlamesReached told r outcome → BlamesReached told r whole
    named (Ok x) is = tt
    named (Err faults.Memory) is = tt
    named (Err (faults.Refused file refusal)) is = tt
    named (Err (faults.Unread file)) is = λ files known. ap then (is files known)

-- a fault is the same whatever would have been read
pub fault_reads : {X Z Y : Type 0} (view : X → Y) (other : Z → Y) (told left : Option Files) (before now : ℕ) (fault : BindFault) (outcome : Files → Outcome Y)
    → ReadsOutcome view told left before now (Err fault) outcome → ReadsOutcome other told left before now (Err fault) outcome
fault_reads {X} {Z} view other told left before now fault outcome reads = record {
  kept = reads.kept;
  counts = fault_counted X Z before now fault reads.counts;
  value = value fault reads.value;
  named = named fault reads.named;
}
  where
    value : (f : BindFault) → Refines view told before now (Err f) outcome → Refines other told before now (Err f) outcome
    value faults.Memory is = tt
    value (faults.Refused file refusal) is = is
    value (faults.Unread file) is = is

    named : (f : BindFault) → BlamesReached {X = X} told (Err f) outcome → BlamesReached {X = Z} told (Err f) outcome
    named faults.Memory is = tt
    named (faults.Refused file refusal) is = tt
    named (faults.Unread file) is = is
