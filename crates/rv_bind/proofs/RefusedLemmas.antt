-- By which numbers bindings may be refused, on any store.
use Rattle.std.proofs.Common.{◌≡◌, ℕ, List, [], ◌∷◌, sym, subst}
use Rattle.std.specs.Prelude.{Option, Some, None, Result, Ok, Err, IfErr}
use Rattle.rv_text.specs.declared.refusals.Refusal.{Refusal}
use Rattle.rv_text.specs.TextLines.{LineText, lines_of}
use Rattle.rv_model.specs.declared.kind.SpecKind.{SpecKind}
use Rattle.rv_bind.specs.declared.compile.Compiled.{Compiled}
use Rattle.rv_bind.specs.Values.{BoundValue}
use Rattle.rv_bind.specs.Forms.{FormValue, skipped, container, monitor, on, react, off, begin}
use Rattle.rv_bind.specs.Compiling.{compiled_of}
use Rattle.rv_bind.specs.Bound.{compiled_by, container_bound, form_by, form_in, line_by, monitor_named, nothing_bound, place_for, with_monitor}
use Rattle.rv_bind.specs.MonitorLines.{begin_bound, change_bound, disabled, reacting, rule_bound}
use Rattle.rv_bind.specs.Outcomes.{Outcome, accepted, refused, missing, reading, of_file, of_line, IsBindingsNumber, IsRefusedBy}
use Rattle.rv_bind.specs.Possible.{MayFollow, MayLines, MayBound}
use Rattle.rv_bind.proofs.NumberLemmas.{compiled_numbered, form_in_numbered, place_numbered, container_numbered, rule_numbered, change_numbered, begin_numbered}

module _ (Numbers : ℕ → Type 0) where
  -- what is read, and what is read on from it
  pub reading_refused : {X Y : Type 0} (o : Outcome X) (next : X → Outcome Y) → IsRefusedBy Numbers o → ((x : X) → IsRefusedBy Numbers (next x)) → IsRefusedBy Numbers (reading o next)
  reading_refused (accepted x) next first second = second x
  reading_refused (refused file refusal) next first second = first
  reading_refused (missing file) next first second = first

  -- what a text comes to
  pub file_refused : {X : Type 0} (file : List ℕ) (read : Result X Refusal) → IfErr read (λ refusal. Numbers refusal.number) → IsRefusedBy Numbers (of_file file read)
  file_refused file (Ok x) numbered = tt
  file_refused file (Err refusal) numbered = numbered

  -- what a line comes to
  line_refused : {X : Type 0} (file : List ℕ) (line : ℕ) (read : Result X ℕ) → IfErr read Numbers → IsRefusedBy Numbers (of_line file line read)
  line_refused file line (Ok x) numbered = tt
  line_refused file line (Err number) numbered = numbered

  -- what may come behind an outcome
  pub follow_refused : {X Y : Type 0} (step : Outcome X) (next : X → Outcome Y → Type 0) (o : Outcome Y) → IsRefusedBy Numbers step → ((x : X) → next x o → IsRefusedBy Numbers o) → MayFollow step next o → IsRefusedBy Numbers o
  follow_refused (accepted x) next o first second is = second x is
  follow_refused (refused file refusal) next o first second is = subst (IsRefusedBy Numbers) (sym is) first
  follow_refused (missing file) next o first second is = subst (IsRefusedBy Numbers) (sym is) first

-- what some numbers refuse, more refuse
pub more_refused : {X : Type 0} (Numbers Others : ℕ → Type 0) (o : Outcome X) → ((number : ℕ) → Numbers number → Others number) → IsRefusedBy Numbers o → IsRefusedBy Others o
more_refused Numbers Others (accepted x) more is = tt
more_refused Numbers Others (refused file refusal) more is = more refusal.number is
more_refused Numbers Others (missing file) more is = tt

-- a specification
spec_refused_by : (text : Option (List ℕ)) (kind : SpecKind) (file : List ℕ) → IsRefusedBy IsBindingsNumber (compiled_by text kind file)
spec_refused_by None kind file = tt
spec_refused_by (Some text) kind file = file_refused IsBindingsNumber file (compiled_of kind text) (compiled_numbered kind text)

module _ (text : Option (List ℕ)) (here : List ℕ) (bound : BoundValue) where
  -- a line of a form
  form_refused : (line : ℕ) (form : FormValue) → IsRefusedBy IsBindingsNumber (form_by (compiled_by text) here line bound form)
  form_refused line skipped = tt
  form_refused line (container name) = line_refused IsBindingsNumber here line (container_bound bound name) (container_numbered bound name)
  form_refused line (monitor name scope kind file holder) =
      reading_refused IsBindingsNumber (of_line here line (place_for bound name holder)) (λ place. reading (compiled_by text kind file) (λ compiled. accepted (with_monitor bound name place scope file compiled))) (line_refused IsBindingsNumber here line (place_for bound name holder) (place_numbered bound name holder))
      (λ place. reading_refused IsBindingsNumber (compiled_by text kind file) (λ compiled. accepted (with_monitor bound name place scope file compiled)) (spec_refused_by text kind file) (λ (compiled : Compiled). tt))
  form_refused line (on name event by tests mode words) = line_refused IsBindingsNumber here line (rule_bound bound (monitor_named bound name) event by tests mode words) (rule_numbered bound (monitor_named bound name) event by tests mode words)
  form_refused line (react name reactor) = line_refused IsBindingsNumber here line (change_bound bound (monitor_named bound name) (reacting reactor)) (change_numbered bound (monitor_named bound name) (reacting reactor))
  form_refused line (off name) = line_refused IsBindingsNumber here line (change_bound bound (monitor_named bound name) disabled) (change_numbered bound (monitor_named bound name) disabled)
  form_refused line (begin name atom) = line_refused IsBindingsNumber here line (begin_bound bound (monitor_named bound name) atom) (begin_numbered bound (monitor_named bound name) atom)

  -- a line
  bind_refused : (line : LineText) → IsRefusedBy IsBindingsNumber (line_by (compiled_by text) here bound line)
  bind_refused line = reading_refused IsBindingsNumber (of_line here line.number (form_in line)) (form_by (compiled_by text) here line.number bound) (line_refused IsBindingsNumber here line.number (form_in line) (form_in_numbered line)) (form_refused line.number)

-- the lines
lines_refused : (here : List ℕ) (bound : BoundValue) (lines : List LineText) (o : Outcome BoundValue) → MayLines here bound lines o → IsRefusedBy IsBindingsNumber o
lines_refused here bound [] o is = subst (IsRefusedBy IsBindingsNumber) (sym is) tt
lines_refused here bound (line ∷ lines) o (step, (text, is), follows) =
    follow_refused IsBindingsNumber step (λ next. MayLines here next lines) o (subst (IsRefusedBy IsBindingsNumber) (sym is) (bind_refused text here bound line)) (λ next. lines_refused here next lines o) follows

-- the bindings
pub bindings_refused : (here : List ℕ) (o : Outcome BoundValue) → MayBound here o → IsRefusedBy IsBindingsNumber o
bindings_refused here o (step, (None, is), follows) = follow_refused IsBindingsNumber step (λ text. MayLines here nothing_bound (lines_of text)) o (subst (IsRefusedBy IsBindingsNumber) (sym is) tt) (λ text. lines_refused here nothing_bound (lines_of text) o) follows
bindings_refused here o (step, (Some text, is), follows) = follow_refused IsBindingsNumber step (λ text. MayLines here nothing_bound (lines_of text)) o (subst (IsRefusedBy IsBindingsNumber) (sym is) tt) (λ text. lines_refused here nothing_bound (lines_of text) o) follows
