-- What a reader's parts answer, joined to what the whole comes to.
use Rattle.std.proofs.Common.{◌≡◌, ℕ, List, refl, sym, ap, ◌∙◌, subst, inl, inr, arith}
use Rattle.std.specs.Prelude.{Option, Some, None, Result, Ok, Err, OnOk, IsOk, IsErrAnd, IfErr}
use Rattle.rv_io.specs.Files.{Files, Rose, front_read}
use Rattle.rv_bind.specs.declared.fault.LineFault.{LineFault}
use Rattle.rv_bind.specs.declared.fault.LineFault.TheVariants as lines
use Rattle.rv_bind.specs.declared.fault.BindFault.{BindFault}
use Rattle.rv_bind.specs.declared.fault.BindFault.TheVariants as faults
use Rattle.rv_bind.specs.inner.LineReads.{Faults, ReadsValue, InLine}
use Rattle.rv_bind.specs.Values.{BoundValue}
use Rattle.rv_bind.specs.Outcomes.{Outcome, accepted, reading, of_line, of_text, of_name, IsNumber, IsBindingsNumber, CountsFaults, Refines, IsFaultOf}

-- the number of a reading that is refused
in_range : {X : Type 0} (read : Result X ℕ) (number : ℕ) → read ≡ Err number → IfErr read IsBindingsNumber → IsNumber number
in_range {X} read number is numbered =
    let within : IsBindingsNumber number = subst (λ (r : Result X ℕ). IfErr r IsBindingsNumber) is numbered in
    let low = within.0 in let high = within.1 in
    (omega arith, omega arith)

module _ (file : List ℕ) (line : ℕ) (new : BoundValue) (told : Option Files) (before now : ℕ) (result : Result Unit BindFault) where
  -- a line's fault is the whole's, whatever comes behind it
  pub line_fault : {X : Type 0} (read : Result X ℕ) (next : Files → X → Outcome BoundValue) (fault : LineFault) → IfErr read IsBindingsNumber → InLine file line (Err fault) result → Faults fault read
      → Refines (λ (_ : Unit). new) told before now result (λ files. reading (of_line file line read) (next files))
  line_fault read next lines.Memory numbered is fault = rw is tt
  line_fault {X} read next (lines.Number number) numbered is fault = go result is
    where
      go : (r : Result Unit BindFault) → IsErrAnd r (λ fault. IsFaultOf fault file (record { number = number; line = line })) → Refines (λ (_ : Unit). new) told before now r (λ files. reading (of_line file line read) (next files))
      go (Ok done) h = absurd h
      go (Err faults.Memory) h = tt
      go (Err (faults.Unread named)) h = absurd h
      go (Err (faults.Refused named given)) h = (rw h.1 (in_range read number fault numbered), λ files is. rw (fault, h.0, h.1) refl)

  -- what came of a line alone
  pub line_comes : (done : Result Unit LineFault) (read : Result BoundValue ℕ) → IfErr read IsBindingsNumber → InLine file line done result → ReadsValue (λ (_ : Unit). new) done read
      → Refines (λ (_ : Unit). new) told before now result (λ files. of_line file line read)
  line_comes (Ok done) read numbered is reads = rw (is, reads) (λ files told. refl)
  line_comes (Err lines.Memory) read numbered is reads = rw is tt
  line_comes (Err (lines.Number number)) read numbered is fault = go result is
    where
      go : (r : Result Unit BindFault) → IsErrAnd r (λ fault. IsFaultOf fault file (record { number = number; line = line })) → Refines (λ (_ : Unit). new) told before now r (λ files. of_line file line read)
      go (Ok done) h = absurd h
      go (Err faults.Memory) h = tt
      go (Err (faults.Unread named)) h = absurd h
      go (Err (faults.Refused named given)) h = (rw h.1 (in_range read number fault numbered), λ files is. rw (fault, h.0, h.1) refl)

  -- where a line was read, the whole is what comes behind it
  pub line_goes_on : {X : Type 0} (read : Result X ℕ) (x : X) (next : Files → X → Outcome BoundValue) → read ≡ Ok x → Refines (λ (_ : Unit). new) told before now result (λ files. next files x)
      → Refines (λ (_ : Unit). new) told before now result (λ files. reading (of_line file line read) (next files))
  line_goes_on read x next is comes = rw is comes

-- a line that is done was read
pub line_done : (file : List ℕ) (line : ℕ) (P : Type 0) (done : Result Unit LineFault) (result : Result Unit BindFault) → InLine file line done result → OnOk done P → OnOk result P
line_done file line P (Ok done) result is h = rw is h
line_done file line P (Err lines.Memory) result is h = rw is tt
line_done file line P (Err (lines.Number number)) result is h = go result is
  where
    go : (r : Result Unit BindFault) → IsErrAnd r (λ fault. IsFaultOf fault file (record { number = number; line = line })) → OnOk r P
    go (Ok done) h = absurd h
    go (Err fault) h = tt

-- where the count stood still it is not counted wrong, whatever is answered
pub none_counted : {X : Type 0} (before now : ℕ) (result : Result X BindFault) → now ≡ before → CountsFaults before now result
none_counted before now (Ok x) same = same
none_counted before now (Err faults.Memory) same = inl same
none_counted before now (Err (faults.Refused file refusal)) same = same
none_counted before now (Err (faults.Unread file)) same = inl same

-- what is counted behind a step that counted nothing is what both count
pub later_counted : {X : Type 0} (before mid now : ℕ) (result : Result X BindFault) → mid ≡ before → CountsFaults mid now result → CountsFaults before now result
later_counted before mid now result same counts = subst (λ (n : ℕ). CountsFaults n now result) same counts

-- a fault counts alike whatever would have been read
pub fault_counted : (X Z : Type 0) (before now : ℕ) (fault : BindFault) → CountsFaults {X = X} before now (Err fault) → CountsFaults {X = Z} before now (Err fault)
fault_counted X Z before now faults.Memory counts = counts
fault_counted X Z before now (faults.Refused file refusal) counts = counts
fault_counted X Z before now (faults.Unread file) counts = counts

-- so does one behind a step that counted nothing
pub behind_counted : (X Z : Type 0) (before mid now : ℕ) (fault : BindFault) → mid ≡ before → CountsFaults {X = X} mid now (Err fault) → CountsFaults {X = Z} before now (Err fault)
behind_counted X Z before mid now fault same counts = later_counted {X = Z} before mid now (Err fault) same (fault_counted X Z mid now fault counts)

-- what was read later is what is read
pub Refines-later : {X Y : Type 0} (view : X → Y) (told later : Option Files) (before mid now : ℕ) (result : Result X BindFault) (outcome : Files → Outcome Y) → later ≡ told → mid ≡ before → Refines view later mid now result outcome → Refines view told before now result outcome
Refines-later view told later before mid now (Ok x) outcome same le comes = λ files known. comes files (same ∙ known)
Refines-later view told later before mid now (Err faults.Memory) outcome same le comes = tt
Refines-later view told later before mid now (Err (faults.Refused file refusal)) outcome same le comes = (comes.0, λ files known. comes.1 files (same ∙ known))
Refines-later view told later before mid now (Err (faults.Unread file)) outcome same le (inl lacks) = inl (lacks.0, sym same ∙ lacks.1, lacks.2)
Refines-later view told later before mid now (Err (faults.Unread file)) outcome same le (inr rose) = inr (subst (λ (n : ℕ). Rose n now) le rose)

-- where a step was read, what is read on from it is what both come to
pub Refines-behind : {X Y W : Type 0} (view : X → W) (told : Option Files) (before now : ℕ) (result : Result X BindFault) (step : Files → Outcome Y) (y : Y) (next : Files → Y → Outcome W) → ((files : Files) → told ≡ Some files → step files ≡ accepted y)
    → Refines view told before now result (λ files. next files y) → Refines view told before now result (λ files. reading (step files) (next files))
Refines-behind view told before now (Ok x) step y next read comes = λ files known. ap (λ o. reading o (next files)) (read files known) ∙ comes files known
Refines-behind view told before now (Err faults.Memory) step y next read comes = tt
Refines-behind view told before now (Err (faults.Refused file refusal)) step y next read comes = (comes.0, λ files known. ap (λ o. reading o (next files)) (read files known) ∙ comes.1 files known)
Refines-behind view told before now (Err (faults.Unread file)) step y next read (inl lacks) = inl (lacks.0, lacks.1, ap (λ o. reading o (next lacks.0)) (read lacks.0 lacks.1) ∙ lacks.2)
Refines-behind view told before now (Err (faults.Unread file)) step y next read (inr rose) = inr rose

-- a step's fault is the whole's
pub step_fault : {X Y Z W : Type 0} (told : Option Files) (before now : ℕ) (fault : BindFault) (view : X → Y) (whole_view : Z → W) (step : Files → Outcome Y) (next : Files → Y → Outcome W) (whole : Files → Outcome W)
    → ((files : Files) → told ≡ Some files → whole files ≡ reading (step files) (next files)) → Refines view told before now (Err fault) step → Refines whole_view told before now (Err fault) whole
step_fault told before now faults.Memory view whole_view step next whole is comes = tt
step_fault told before now (faults.Refused file refusal) view whole_view step next whole is comes = (comes.0, λ files known. is files known ∙ ap (λ o. reading o (next files)) (comes.1 files known))
step_fault told before now (faults.Unread file) view whole_view step next whole is (inl lacks) = inl (lacks.0, lacks.1, is lacks.0 lacks.1 ∙ ap (λ o. reading o (next lacks.0)) lacks.2)
step_fault told before now (faults.Unread file) view whole_view step next whole is (inr rose) = inr rose

-- what is read of a file is read of its text
pub of_name-reading : {X : Type 0} (files : Files) (file : List ℕ) (read : List ℕ → Outcome X) → of_name files file read ≡ reading (of_name files file accepted) read
of_name-reading files file read = go (files file)
  where
    go : (text : Option (List ℕ)) → of_text file (Rattle.std.specs.Prelude.option_map front_read text) read ≡ reading (of_text file (Rattle.std.specs.Prelude.option_map front_read text) accepted) read
    go None = refl
    go (Some text) = refl
