-- Without a file the reading goes the same way up to that file, so an unread file that a part names is reached in the whole.
use Rattle.std.proofs.Common.{◌≡◌, ℕ, Bool, true, false, List, [], ◌∷◌, refl, ap, ◌∙◌, ◌⊎◌, inl, inr}
use Rattle.std.specs.Prelude.{Option, Some, None, Result, Ok, Err, bytes_eq, option_map, IsErrAnd, if◌then◌else◌}
use Rattle.std.proofs.lemmas.Slice.Eq.{bytes_eq-Decides}
use Rattle.rv_text.specs.declared.refusals.Refusal.{Refusal}
use Rattle.rv_text.specs.declared.refusals.Refused.{Refused}
use Rattle.rv_text.specs.declared.refusals.Refused.TheVariants as refuseds
use Rattle.rv_text.specs.TextLines.{LineText, lines_of}
use Rattle.rv_io.specs.Files.{Files, front_read}
use Rattle.rv_model.specs.declared.work.Scope.{Scope}
use Rattle.rv_model.specs.declared.kind.SpecKind.{SpecKind}
use Rattle.rv_bind.specs.declared.fault.LineFault.{LineFault}
use Rattle.rv_bind.specs.declared.fault.LineFault.TheVariants as lines
use Rattle.rv_bind.specs.declared.fault.BindFault.{BindFault}
use Rattle.rv_bind.specs.declared.fault.BindFault.TheVariants as faults
use Rattle.rv_bind.specs.Values.{BoundValue}
use Rattle.rv_bind.specs.Forms.{FormValue, skipped, container, monitor, on, react, off, begin}
use Rattle.rv_bind.specs.Compiling.{compiled_of}
use Rattle.rv_bind.specs.Bound.{nothing_bound, place_for, with_monitor, compiled_in, monitor_bound, form_bound, form_in, line_bound, lines_bound, bound_of}
use Rattle.rv_bind.specs.inner.LineReads.{InLine}
use Rattle.rv_bind.specs.Outcomes.{Outcome, accepted, refused, missing, reading, of_file, of_line, of_text, of_name, text_front, front_named, files_without, IsReached, BlamesReached, IsFaultOf, IsFaultIn}
use Rattle.rv_bind.proofs.FrontLemmas.{front_named-reading, spec-looks}

-- ---- an outcome without a file is that it is missing, or what it is with the file

-- without a file the outcome comes to that file, or stays what it is
abbrev pub IsLocal : {Y : Type 0} → (Files → Outcome Y) → Type 0
IsLocal outcome = (files : Files) → (file : List ℕ) → IsReached outcome files file ⊎ (outcome (files_without file files) ≡ outcome files)

-- where this holds of a step and of what is read on from it, it holds of both together
pub reading-local : {X Y : Type 0} (step : Files → Outcome X) (next : Files → X → Outcome Y) → IsLocal step → ((x : X) → IsLocal (λ files. next files x)) → IsLocal (λ files. reading (step files) (next files))
reading-local {X} {Y} step next step_is next_is files file = go (step_is files file)
  where
    Whole : Outcome X → Outcome X → Type 0
    Whole less all = (reading less (next (files_without file files)) ≡ missing file) ⊎ (reading less (next (files_without file files)) ≡ reading all (next files))

    same : (o less : Outcome X) → less ≡ o → Whole less o
    same (accepted x) less is = rw is (next_is x files file)
    same (refused name refusal) less is = rw is (inr refl)
    same (missing name) less is = rw is (inr refl)

    go : IsReached step files file ⊎ (step (files_without file files) ≡ step files) → Whole (step (files_without file files)) (step files)
    go (inl reached) = inl (ap (λ o. reading o (next (files_without file files))) reached)
    go (inr is) = same (step files) (step (files_without file files)) is

-- where this holds of what is read of each text, it holds of what is read of a file
pub of_name-local : {X : Type 0} (name : List ℕ) (read : Files → List ℕ → Outcome X) → ((text : List ℕ) → IsLocal (λ files. read files text)) → IsLocal (λ files. of_name files name (read files))
of_name-local {X} name read each files file = go (bytes_eq name file) refl
  where
    Whole : Option (List ℕ) → Option (List ℕ) → Type 0
    Whole less all =
        (of_text name (option_map front_read less) (read (files_without file files)) ≡ missing file)
        ⊎ (of_text name (option_map front_read less) (read (files_without file files)) ≡ of_text name (option_map front_read all) (read files))

    same : (text : Option (List ℕ)) → Whole text text
    same None = inr refl
    same (Some text) = each (front_read text) files file

    go : (b : Bool) → bytes_eq name file ≡ b → Whole (if b then None else files name) (files name)
    go true is = inl (ap (λ (f : List ℕ). missing f) ((bytes_eq-Decides name file).0 is))
    go false is = same (files name)

-- a front is read wherever its file is
pub front-local : (name : List ℕ) → IsLocal (λ files. front_named files name)
front-local name = of_name-local name (λ files text. accepted (text_front text)) (λ text files file. inr refl)

spec-local : (kind : SpecKind) (name : List ℕ) → IsLocal (λ files. compiled_in files kind name)
spec-local kind name = of_name-local name (λ files text. of_file name (compiled_of kind text)) (λ text files file. inr refl)

monitor-local : (here : List ℕ) (line : ℕ) (bound : BoundValue) (name : List ℕ) (scope : Scope) (kind : SpecKind) (file : List ℕ) (holder : Option (List ℕ)) → IsLocal (λ files. monitor_bound (compiled_in files) here line bound name scope kind file holder)
monitor-local here line bound name scope kind file holder =
    reading-local (λ files. of_line here line (place_for bound name holder)) (λ files place. reading (compiled_in files kind file) (λ compiled. accepted (with_monitor bound name place scope file compiled))) (λ files f. inr refl)
    (λ place. reading-local (λ files. compiled_in files kind file) (λ files compiled. accepted (with_monitor bound name place scope file compiled)) (spec-local kind file) (λ compiled files f. inr refl))

-- this holds of what a form adds
form-local : (here : List ℕ) (line : ℕ) (bound : BoundValue) (form : FormValue) → IsLocal (λ files. form_bound files here line bound form)
form-local here line bound skipped = λ files file. inr refl
form-local here line bound (container name) = λ files file. inr refl
form-local here line bound (monitor name scope kind spec holder) = monitor-local here line bound name scope kind spec holder
form-local here line bound (on name event by tests mode words) = λ files file. inr refl
form-local here line bound (react name reactor) = λ files file. inr refl
form-local here line bound (off name) = λ files file. inr refl
form-local here line bound (begin name atom) = λ files file. inr refl

-- this holds of what a line adds
pub line-local : (here : List ℕ) (bound : BoundValue) (line : LineText) → IsLocal (λ files. line_bound files here bound line)
line-local here bound line =
    reading-local (λ files. of_line here line.number (form_in line)) (λ files form. form_bound files here line.number bound form) (λ files file. inr refl) (λ form. form-local here line.number bound form)

lines-local : (here : List ℕ) (lines : List LineText) (bound : BoundValue) → IsLocal (λ files. lines_bound files here bound lines)
lines-local here [] bound = λ files file. inr refl
lines-local here (line ∷ lines) bound =
    reading-local (λ files. line_bound files here bound line) (λ files next. lines_bound files here next lines) (line-local here bound line) (λ next. lines-local here lines next)

-- the bindings
pub bound-local : (here : List ℕ) → IsLocal (λ files. bound_of files here)
bound-local here = of_name-local here (λ files text. lines_bound files here nothing_bound (lines_of text)) (λ text. lines-local here (lines_of text) nothing_bound)

-- ---- what a part names, the whole names

-- a step's unread file is the whole's
pub step_named : {Y W : Type 0} (X Z : Type 0) (told : Option Files) (fault : BindFault) (step : Files → Outcome Y) (next : Files → Y → Outcome W) (whole : Files → Outcome W)
    → ((files : Files) → whole files ≡ reading (step files) (next files)) → BlamesReached {X = X} told (Err fault) step → BlamesReached {X = Z} told (Err fault) whole
step_named X Z told faults.Memory step next whole is named = tt
step_named X Z told (faults.Refused file refusal) step next whole is named = tt
step_named X Z told (faults.Unread file) step next whole is named = λ files known. is (files_without file files) ∙ ap (λ o. reading o (next (files_without file files))) (named files known)

-- where a step was read, an unread file behind it is the whole's
pub behind_named : {Y W : Type 0} (X Z : Type 0) (told : Option Files) (fault : BindFault) (step : Files → Outcome Y) (y : Y) (next : Files → Y → Outcome W) → IsLocal step → ((files : Files) → told ≡ Some files → step files ≡ accepted y)
    → BlamesReached {X = X} told (Err fault) (λ files. next files y) → BlamesReached {X = Z} told (Err fault) (λ files. reading (step files) (next files))
behind_named X Z told faults.Memory step y next is read named = tt
behind_named X Z told (faults.Refused file refusal) step y next is read named = tt
behind_named X Z told (faults.Unread file) step y next is read named = λ files known. elim (is files file) [
  | inl reached ↦ ap (λ o. reading o (next (files_without file files))) reached
  | inr same ↦ ap (λ o. reading o (next (files_without file files))) (same ∙ read files known) ∙ named files known
]

module _ (told : Option Files) where
  -- the file itself, whatever is read of its text
  pub unread_named : {Y : Type 0} (X : Type 0) (name : List ℕ) (read : List ℕ → Outcome Y) (fault : BindFault) → (fault ≡ faults.Unread name) ⊎ (fault ≡ faults.Memory) → BlamesReached {X = X} told (Err fault) (λ files. of_name files name read)
  unread_named {Y} X name read fault (inl is) = rw is (λ files known. reached files)
    where
      reached : (files : Files) → of_name (files_without name files) name read ≡ missing name
      reached files = let same : bytes_eq name name ≡ true = (bytes_eq-Decides name name).1 refl in rw same refl
  unread_named X name read fault (inr is) = rw is tt

  -- a refusal names no unread file
  pub refused_named : {Y : Type 0} (X : Type 0) (file : List ℕ) (refusal : Refusal) (fault : BindFault) (outcome : Files → Outcome Y) → IsFaultOf fault file refusal → BlamesReached {X = X} told (Err fault) outcome
  refused_named X file refusal faults.Memory outcome is = tt
  refused_named X file refusal (faults.Refused named given) outcome is = tt
  refused_named X file refusal (faults.Unread named) outcome is = absurd is

  -- nor does a reader's
  pub file_named : {Y : Type 0} (X : Type 0) (file : List ℕ) (fault : Refused) (given : BindFault) (outcome : Files → Outcome Y) → IsFaultIn file fault given → BlamesReached {X = X} told (Err given) outcome
  file_named X file refuseds.Memory given outcome is = rw is tt
  file_named X file (refuseds.Because refusal) given outcome is = refused_named X file refusal given outcome is

  -- nor does a line's fault
  pub line_named : {Y : Type 0} (file : List ℕ) (line : ℕ) (done : Result Unit LineFault) (result : Result Unit BindFault) (outcome : Files → Outcome Y) → InLine file line done result → BlamesReached told result outcome
  line_named file line (Ok done) result outcome is = rw is tt
  line_named file line (Err lines.Memory) result outcome is = rw is tt
  line_named {Y} file line (Err (lines.Number number)) result outcome is = go result is
    where
      go : (r : Result Unit BindFault) → IsErrAnd r (λ fault. IsFaultOf fault file (record { number = number; line = line })) → BlamesReached told r outcome
      go (Ok done) h = absurd h
      go (Err fault) h = refused_named Unit file (record { number = number; line = line }) fault outcome h

  -- an unread specification is read by its file
  pub spec_named : (X Z : Type 0) (kind : SpecKind) (file : List ℕ) (fault : BindFault) → BlamesReached {X = X} told (Err fault) (λ files. front_named files file) → BlamesReached {X = Z} told (Err fault) (λ files. compiled_in files kind file)
  spec_named X Z kind file fault = step_named X Z told fault (λ files. front_named files file) (λ files text. of_file file (compiled_of kind text)) (λ files. compiled_in files kind file) (λ files. front_named-reading (λ text. of_file file (compiled_of kind text)) (spec-looks kind file) files file)

  -- a monitor's specification is reached where there is room for the monitor
  pub monitor_named : (X Z : Type 0) (here : List ℕ) (line : ℕ) (bound : BoundValue) (name : List ℕ) (scope : Scope) (kind : SpecKind) (file : List ℕ) (holder : Option (List ℕ)) (place : Option ℕ) (fault : BindFault)
      → place_for bound name holder ≡ Ok place → BlamesReached {X = X} told (Err fault) (λ files. compiled_in files kind file) → BlamesReached {X = Z} told (Err fault) (λ files. monitor_bound (compiled_in files) here line bound name scope kind file holder)
  monitor_named X Z here line bound name scope kind file holder place fault is named =
      rw is (step_named X Z told fault (λ files. compiled_in files kind file) (λ files compiled. accepted (with_monitor bound name place scope file compiled)) (λ files. reading (compiled_in files kind file) (λ compiled. accepted (with_monitor bound name place scope file compiled))) (λ files. refl) named)

  -- where a line's form was read, the whole names what it names
  pub goes_on_named : {X Y Z : Type 0} (file : List ℕ) (line : ℕ) (result : Result Z BindFault) (read : Result X ℕ) (x : X) (next : Files → X → Outcome Y) → read ≡ Ok x → BlamesReached told result (λ files. next files x)
      → BlamesReached told result (λ files. reading (of_line file line read) (next files))
  goes_on_named file line result read x next is named = rw is named

  -- ---- line by line

  -- without any file all lines come to that file, or go on at these lines
  abbrev pub Leads : List ℕ → List LineText → BoundValue → List LineText → Type 0
  Leads here all bound lines = (files : Files) → (file : List ℕ) → told ≡ Some files
      → IsReached (λ files. lines_bound files here nothing_bound all) files file ⊎ (lines_bound (files_without file files) here nothing_bound all ≡ lines_bound (files_without file files) here bound lines)

  -- all lines lead to themselves
  pub lines_begin : (here : List ℕ) (all : List LineText) → Leads here all nothing_bound all
  lines_begin here all files file known = inr refl

  module _ (here : List ℕ) (all : List LineText) (bound : BoundValue) (line : LineText) (rest : List LineText) (leads : Leads here all bound (line ∷ rest)) where
    -- where a line was read, they lead to the lines behind it
    pub lines_lead : (new : BoundValue) → ((files : Files) → told ≡ Some files → line_bound files here bound line ≡ accepted new) → Leads here all new rest
    lines_lead new read files file known = elim (leads files file known) [
      | inl reached ↦ inl reached
      | inr goes ↦ elim (line-local here bound line files file) [
        | inl reached ↦ inl (goes ∙ ap (λ o. reading o next) reached)
        | inr same ↦ inr (goes ∙ ap (λ o. reading o next) (same ∙ read files known))
      ]
    ]
      where
        next : BoundValue → Outcome BoundValue
        next b = lines_bound (files_without file files) here b rest

    -- what the line names, all lines name
    pub rest_named : (X Z : Type 0) (fault : BindFault) → BlamesReached {X = X} told (Err fault) (λ files. line_bound files here bound line) → BlamesReached {X = Z} told (Err fault) (λ files. lines_bound files here nothing_bound all)
    rest_named X Z faults.Memory named = tt
    rest_named X Z (faults.Refused file refusal) named = tt
    rest_named X Z (faults.Unread file) named = λ files known. elim (leads files file known) [
      | inl reached ↦ reached
      | inr goes ↦ goes ∙ ap (λ o. reading o (λ b. lines_bound (files_without file files) here b rest)) (named files known)
    ]
