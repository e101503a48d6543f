-- What reading files comes to, in the stated order of the reading: a value, a refusal with its file, or a missing file.
use Rattle.std.specs.Prelude.{◌≡◌, ◌≤◌, ◌⊎◌, ℕ, ◌+◌, List, take, bytes_eq, Option, Some, None, Result, Ok, Err, option_map, if◌then◌else◌}
use Rattle.rv_text.specs.declared.numbers.TheConstants.{USAGE, DOT_SYNTAX, TOO_MANY_RULES, NO_INSTANCE}
use Rattle.rv_text.specs.declared.refusals.Refusal.{Refusal}
use Rattle.rv_text.specs.declared.refusals.Refused.{Refused}
use Rattle.rv_text.specs.declared.refusals.Refused.TheVariants as refuseds
use Rattle.rv_io.specs.Files.{Files, Rose, front_read}
use Rattle.rv_bind.specs.declared.fault.BindFault.{BindFault}
use Rattle.rv_bind.specs.declared.fault.BindFault.TheVariants as faults
use Rattle.rv_bind.specs.declared.limits.TheConstants.{TEXT_LIMIT}

-- what files come to: a value, a refusal with its file, or a missing file
pub data Outcome (Y : Type 0) : Type 0 where
  accepted : Y → Outcome Y
  -- the name of the file, and the refusal of its text
  refused : List ℕ → Refusal → Outcome Y
  -- the name of the file that is missing
  missing : List ℕ → Outcome Y

-- goes on from the value, or keeps the first refusal or missing file
abbrev pub reading : {X Y : Type 0} → Outcome X → (X → Outcome Y) → Outcome Y
reading (accepted x) next = next x
reading (refused file refusal) next = refused file refusal
reading (missing file) next = missing file

-- what a file's text comes to: a value, or a refusal with the file
abbrev pub of_file : {X : Type 0} → List ℕ → Result X Refusal → Outcome X
of_file file (Ok x) = accepted x
of_file file (Err refusal) = refused file refusal

-- what a line of a file comes to: a value, or a refusal with the file and the line
abbrev pub of_line : {X : Type 0} → List ℕ → ℕ → Result X ℕ → Outcome X
of_line file line (Ok x) = accepted x
of_line file line (Err number) = refused file (record { number = number; line = line })

-- what is read of a text, or the missing file where there is none
abbrev pub of_text : {X : Type 0} → List ℕ → Option (List ℕ) → (List ℕ → Outcome X) → Outcome X
of_text file None read = missing file
of_text file (Some text) read = read text

-- what is read of the file of this name, of which a store gives no more bytes than its limit
abbrev pub of_name : {X : Type 0} → Files → List ℕ → (List ℕ → Outcome X) → Outcome X
of_name files file read = of_text file (option_map front_read (files file)) read

-- what a reader with a limit looks at: a text up to one byte past its first 1,048,576
unfoldable pub text_front : List ℕ → List ℕ
text_front text = take (TEXT_LIMIT + 1) text

-- the same of the file of this name
abbrev pub front_named : Files → List ℕ → Outcome (List ℕ)
front_named files file = of_name files file (λ text. accepted (text_front text))

-- the number is that of a refusal: `USAGE` is the first and `NO_INSTANCE` the last
abbrev pub IsNumber : ℕ → Type 0
IsNumber number = (USAGE ≤ number) × (number ≤ NO_INSTANCE)

-- the refusal's number is one that refusals have
abbrev pub IsRefusal : Refusal → Type 0
IsRefusal refusal = IsNumber refusal.number

-- the numbers of the refusals of bindings and of the specifications that they name
abbrev pub IsBindingsNumber : ℕ → Type 0
IsBindingsNumber number = (DOT_SYNTAX ≤ number) × (number ≤ TOO_MANY_RULES)

-- where the outcome is a refusal, its number is one of these
abbrev pub IsRefusedBy : {Y : Type 0} → (ℕ → Type 0) → Outcome Y → Type 0
IsRefusedBy Numbers (accepted y) = Unit {0}
IsRefusedBy Numbers (refused file refusal) = Numbers refusal.number
IsRefusedBy Numbers (missing file) = Unit {0}

-- what a reader answers is the outcome on the known files, and on any store a refusal has one of the numbers; where the
-- count of faults rose, a file may be unread though it is not missing
abbrev pub Refines : {X Y : Type 0} → (X → Y) → Option Files → ℕ → ℕ → Result X BindFault → (Files → Outcome Y) → Type 0
Refines view told before now (Ok x) outcome = (files : Files) → told ≡ Some files → outcome files ≡ accepted (view x)
Refines view told before now (Err faults.Memory) outcome = Unit {0}
Refines view told before now (Err (faults.Refused file refusal)) outcome = IsRefusal refusal × ((files : Files) → told ≡ Some files → outcome files ≡ refused file refusal)
Refines view told before now (Err (faults.Unread file)) outcome = ((files : Files) × (told ≡ Some files) × (outcome files ≡ missing file)) ⊎ Rose before now

-- ---- which file is named

-- the files, but for `file`, which is missing
abbrev pub files_without : List ℕ → Files → Files
files_without file files name = if bytes_eq name file then None else files name

-- the reading comes to this file, with no refusal and no missing file before it: if it were missing, it would be the
-- outcome
abbrev pub IsReached : {Y : Type 0} → (Files → Outcome Y) → Files → List ℕ → Type 0
IsReached outcome files file = outcome (files_without file files) ≡ missing file

-- a file that is said to be unread is reached by the reading of the known files
abbrev pub BlamesReached : {X Y : Type 0} → Option Files → Result X BindFault → (Files → Outcome Y) → Type 0
BlamesReached told (Ok x) outcome = Unit {0}
BlamesReached told (Err faults.Memory) outcome = Unit {0}
BlamesReached told (Err (faults.Refused file refusal)) outcome = Unit {0}
BlamesReached told (Err (faults.Unread file)) outcome = (files : Files) → told ≡ Some files → IsReached outcome files file

-- at most one fault was counted
abbrev pub MayRise : ℕ → ℕ → Type 0
MayRise before now = (now ≡ before) ⊎ Rose before now

-- no fault is counted where there is a value or a refusal, and else at most one: the first failed read ends the reading
abbrev pub CountsFaults : {X : Type 0} → ℕ → ℕ → Result X BindFault → Type 0
CountsFaults before now (Ok x) = now ≡ before
CountsFaults before now (Err faults.Memory) = MayRise before now
CountsFaults before now (Err (faults.Refused file refusal)) = now ≡ before
CountsFaults before now (Err (faults.Unread file)) = MayRise before now

-- what a reader of files answers: what is known of the files stays, at most one fault is counted, the answer is the
-- outcome, and a file that is said to be unread is reached
pub record ReadsOutcome {X Y : Type 0} (view : X → Y) (told left : Option Files) (before now : ℕ) (result : Result X BindFault) (outcome : Files → Outcome Y) : Type 0 where
  pub kept : left ≡ told
  pub counts : CountsFaults before now result
  pub value : Refines view told before now result outcome
  pub named : BlamesReached told result outcome

-- ---- the faults of a file

-- the fault is this refusal of this file, unless memory ran out
abbrev pub IsFaultOf : BindFault → List ℕ → Refusal → Type 0
IsFaultOf faults.Memory file refusal = Unit {0}
IsFaultOf (faults.Refused named given) file refusal = (named ≡ file) × (given ≡ refusal)
IsFaultOf (faults.Unread named) file refusal = ⊥

-- the fault is a reader's refusal with its file, or want of memory
abbrev pub IsFaultIn : List ℕ → Refused → BindFault → Type 0
IsFaultIn file refuseds.Memory fault = fault ≡ faults.Memory
IsFaultIn file (refuseds.Because refusal) fault = IsFaultOf fault file refusal
