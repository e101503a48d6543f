-- What the lines of a bindings file make of the bindings (this project's choice: docs/FORMATS.md, "Bindings").
use Rattle.std.specs.Prelude.{ℕ, Bool, true, ◌||◌, List, [], ◌∷◌, ◌++◌, length, nat_lt, bytes_eq, position, is_some, Option, Some, None, option_map, Result, Ok, Err, if◌then◌else◌}
use Rattle.rv_text.specs.declared.numbers.TheConstants.{BIND_SYNTAX, NAME_TWICE, TOO_MANY_MONITORS}
use Rattle.rv_text.specs.TextLines.{LineText, lines_of}
use Rattle.rv_text.specs.Words.{words_of}
use Rattle.rv_io.specs.Files.{Files, front_read}
use Rattle.rv_model.specs.declared.formula.Spec.{Spec}
use Rattle.rv_model.specs.declared.work.Scope.{Scope}
use Rattle.rv_model.specs.declared.reactor.Reactor.TheVariants as reactors
use Rattle.rv_bind.specs.declared.bindings.Monitor.{Monitor}
use Rattle.rv_bind.specs.declared.bindings.Item.{Item}
use Rattle.rv_bind.specs.declared.bindings.Item.TheVariants as items
use Rattle.rv_bind.specs.declared.compile.Compiled.{Compiled}
use Rattle.rv_model.specs.declared.kind.SpecKind.{SpecKind}
use Rattle.rv_bind.specs.declared.limits.TheConstants.{TEXT_LIMIT, MAX_CONTAINERS, MAX_MONITORS}
use Rattle.rv_bind.specs.Values.{BoundValue}
use Rattle.rv_bind.specs.Forms.{FormValue, skipped, container, monitor, on, react, off, begin, form_of}
use Rattle.rv_bind.specs.LineWords.{or_syntax, after}
use Rattle.rv_bind.specs.Compiling.{compiled_of}
use Rattle.rv_bind.specs.Outcomes.{Outcome, accepted, reading, of_file, of_line, of_name, of_text}
use Rattle.rv_bind.specs.MonitorLines.{begin_bound, change_bound, disabled, reacting, rule_bound}

-- ---- one line

-- whether the monitor has this name
abbrev pub is_called : List ℕ → Monitor → Bool
is_called name m = bytes_eq m.name name

-- whether a container or a monitor has the name
abbrev pub is_taken : BoundValue → List ℕ → Bool
is_taken bound name = is_some (position (is_called name) bound.monitors) || is_some (position (λ other. bytes_eq other name) bound.containers)

-- the index of the first monitor of this name, if there is one
abbrev pub monitor_named : BoundValue → List ℕ → Option ℕ
monitor_named bound name = position (is_called name) bound.monitors

-- the index of the container that a line names, or none where it names none; an unknown name is of no form
abbrev pub holder_named : List (List ℕ) → Option (List ℕ) → Result (Option ℕ) ℕ
holder_named containers None = Ok None
holder_named containers (Some name) = or_syntax (option_map Some (position (λ other. bytes_eq other name) containers))

-- nothing where the name is free and there is room for one more monitor, and else why not
abbrev pub room_for : BoundValue → List ℕ → Result Unit ℕ
room_for bound name = if is_taken bound name then Err NAME_TWICE else if nat_lt (length bound.monitors) MAX_MONITORS then Ok tt else Err TOO_MANY_MONITORS

-- the index of a new monitor's container, or none where it has none; refused where the monitor has no room
abbrev pub place_for : BoundValue → List ℕ → Option (List ℕ) → Result (Option ℕ) ℕ
place_for bound name holder = after (holder_named bound.containers holder) (λ place. after (room_for bound name) (λ free. Ok place))

-- the items that a new monitor adds: itself, or none where it is in a container
abbrev pub items_of : Option ℕ → ℕ → List Item
items_of None place = items.Monitor place ∷ []
items_of (Some holder) place = []

-- a monitor as its line makes it: enabled, with no atom that starts true and the reactor that does nothing
abbrev pub new_monitor : List ℕ → Option ℕ → Scope → List ℕ → Spec → Monitor
new_monitor name holder scope file spec = record { name = name; container = holder; scope = scope; spec = spec; file = file; starting = 0; reactor = reactors.Nop; enabled = true }

-- the bindings with one more monitor at the end, and its table
abbrev pub with_monitor : BoundValue → List ℕ → Option ℕ → Scope → List ℕ → Compiled → BoundValue
with_monitor bound name holder scope file compiled = record bound {
  monitors = bound.monitors ++ new_monitor name holder scope file compiled.spec ∷ [];
  items = bound.items ++ items_of holder (length bound.monitors);
  tables = bound.tables ++ compiled.table ∷ [];
}

-- what specifications come to, by their kind and the name of their file
abbrev pub SpecsIn : Type 0
SpecsIn = SpecKind → List ℕ → Outcome Compiled

-- what a specification's text is compiled to, or its refusal, or its missing file where there is no text
abbrev pub compiled_by : Option (List ℕ) → SpecsIn
compiled_by text kind file = of_text file text (λ text. of_file file (compiled_of kind text))

-- what the specification's file is compiled to, or its refusal, or that it is missing
abbrev pub compiled_in : Files → SpecsIn
compiled_in files kind file = compiled_by (option_map front_read (files file)) kind file

-- what a monitor's line makes of the bindings: its file is read only where there is room for the monitor
abbrev pub monitor_bound : SpecsIn → List ℕ → ℕ → BoundValue → List ℕ → Scope → SpecKind → List ℕ → Option (List ℕ) → Outcome BoundValue
monitor_bound specs here line bound name scope kind file holder =
    reading (of_line here line (place_for bound name holder)) (λ place. reading (specs kind file) (λ compiled. accepted (with_monitor bound name place scope file compiled)))

-- the bindings with one more container; a 33rd is of no form, also where its name is taken
abbrev pub container_bound : BoundValue → List ℕ → Result BoundValue ℕ
container_bound bound name =
    if nat_lt (length bound.containers) MAX_CONTAINERS
    then (if is_taken bound name then Err NAME_TWICE else Ok (record bound { containers = bound.containers ++ name ∷ []; items = bound.items ++ items.Container (length bound.containers) ∷ [] }))
    else Err BIND_SYNTAX

-- what a line of this form makes of the bindings, by the specification that it may name
abbrev pub form_by : SpecsIn → List ℕ → ℕ → BoundValue → FormValue → Outcome BoundValue
form_by specs here line bound skipped = accepted bound
form_by specs here line bound (container name) = of_line here line (container_bound bound name)
form_by specs here line bound (monitor name scope kind file holder) = monitor_bound specs here line bound name scope kind file holder
form_by specs here line bound (on name event by tests mode words) = of_line here line (rule_bound bound (monitor_named bound name) event by tests mode words)
form_by specs here line bound (react name reactor) = of_line here line (change_bound bound (monitor_named bound name) (reacting reactor))
form_by specs here line bound (off name) = of_line here line (change_bound bound (monitor_named bound name) disabled)
form_by specs here line bound (begin name atom) = of_line here line (begin_bound bound (monitor_named bound name) atom)

-- the same, by the files that it may name
abbrev pub form_bound : Files → List ℕ → ℕ → BoundValue → FormValue → Outcome BoundValue
form_bound files = form_by (compiled_in files)

-- the form of a line; one that ends past the limit is of no form, whatever it says
abbrev pub form_in : LineText → Result FormValue ℕ
form_in line = if nat_lt TEXT_LIMIT line.end then Err BIND_SYNTAX else form_of (words_of line.bytes)

-- what a line makes of the bindings, or its refusal, or a missing file
abbrev pub line_by : SpecsIn → List ℕ → BoundValue → LineText → Outcome BoundValue
line_by specs here bound line = reading (of_line here line.number (form_in line)) (form_by specs here line.number bound)

-- the same, by the files
abbrev pub line_bound : Files → List ℕ → BoundValue → LineText → Outcome BoundValue
line_bound files here bound line = reading (of_line here line.number (form_in line)) (form_bound files here line.number bound)

-- ---- the whole file

-- what the lines make of the bindings, in order, up to the first refusal or missing file
abbrev pub lines_bound : Files → List ℕ → BoundValue → List LineText → Outcome BoundValue
lines_bound files here bound [] = accepted bound
lines_bound files here bound (line ∷ lines) = reading (line_bound files here bound line) (λ next. lines_bound files here next lines)

-- the bindings before the first line
abbrev pub nothing_bound : BoundValue
nothing_bound = record { containers = []; monitors = []; rules = []; items = []; tables = [] }

-- the bindings of a file, or the first refusal or missing file
abbrev pub bound_of : Files → List ℕ → Outcome BoundValue
bound_of files here = of_name files here (λ text. lines_bound files here nothing_bound (lines_of text))
