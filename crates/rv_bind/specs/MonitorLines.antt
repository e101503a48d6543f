-- What a line about an earlier monitor makes of the bindings: a rule, a reactor, off, or an atom that starts true.
use Rattle.std.specs.Prelude.{ℕ, zero, suc, Bool, true, false, ◌&&◌, List, [], ◌∷◌, ◌++◌, length, nat_lt, bit_or, Option, Some, None, Result, Ok, Err, slice_get, if◌then◌else◌}
use Rattle.rv_text.specs.declared.numbers.TheConstants.{BIND_SYNTAX, TOO_MANY_RULES}
use Rattle.rv_model.specs.declared.hit.Mode.{Mode}
use Rattle.rv_model.specs.declared.hit.What.{What}
use Rattle.rv_model.specs.declared.work.Scope.{Scope}
use Rattle.rv_model.specs.declared.work.Scope.TheVariants as scopes
use Rattle.rv_model.specs.declared.reactor.Reactor.{Reactor}
use Rattle.rv_bind.specs.declared.bindings.Monitor.{Monitor}
use Rattle.rv_bind.specs.declared.bindings.Test.{Test}
use Rattle.rv_bind.specs.declared.limits.TheConstants.{MAX_RULES}
use Rattle.rv_bind.specs.Values.{BoundValue}
use Rattle.rv_bind.specs.LineWords.{Words, after}
use Rattle.rv_bind.specs.Changes.{allows_hit, brought, atom_bit}

-- whether a rule of the scope may name a field that has the pid: a task monitor's alone
abbrev pub allows_by : Scope → Option (List ℕ) → Bool
allows_by scope None = true
allows_by scopes.Task (Some field) = true
allows_by scopes.Global (Some field) = false
allows_by scopes.Cpu (Some field) = false

-- the bindings with one more rule, whose hit brings what was read, or the refusal of what was read
abbrev pub with_rule : BoundValue → ℕ → List ℕ → Option (List ℕ) → List Test → Mode → Result What ℕ → Result BoundValue ℕ
with_rule bound place event by tests mode (Err number) = Err number
with_rule bound place event by tests mode (Ok what) =
    Ok (record bound { rules = bound.rules ++ record { monitor = place; event = event; by = by; tests = tests; hit = record { mode = mode; what = what } } ∷ [] })

-- the bindings with one more rule of the monitor at an index, or why it is refused
abbrev pub rule_at : BoundValue → ℕ → Option Monitor → List ℕ → Option (List ℕ) → List Test → Mode → Words → Result BoundValue ℕ
rule_at bound place None event by tests mode words = Err BIND_SYNTAX
rule_at bound place (Some m) event by tests mode words =
    if allows_by m.scope by && allows_hit m.scope m.spec mode words
    then (if nat_lt (length bound.rules) MAX_RULES then with_rule bound place event by tests mode (brought m.spec mode words) else Err TOO_MANY_RULES)
    else Err BIND_SYNTAX

-- the bindings with one more rule of the monitor that was found; a line about an unknown one has no form
abbrev pub rule_bound : BoundValue → Option ℕ → List ℕ → Option (List ℕ) → List Test → Mode → Words → Result BoundValue ℕ
rule_bound bound None event by tests mode words = Err BIND_SYNTAX
rule_bound bound (Some place) event by tests mode words = rule_at bound place (slice_get bound.monitors place) event by tests mode words

-- the monitors, of which the one at an index is changed
abbrev pub monitors_with : (Monitor → Monitor) → List Monitor → ℕ → List Monitor
monitors_with change [] place = []
monitors_with change (m ∷ monitors) zero = change m ∷ monitors
monitors_with change (m ∷ monitors) (suc place) = m ∷ monitors_with change monitors place

-- the bindings, in which the monitor at an index is changed
abbrev pub bindings_with : BoundValue → (Monitor → Monitor) → ℕ → BoundValue
bindings_with bound change place = record bound { monitors = monitors_with change bound.monitors place }

-- the monitor with this reactor
abbrev pub reacting : Reactor → Monitor → Monitor
reacting reactor m = record m { reactor = reactor }

-- the monitor as one that is not enabled when a run begins
abbrev pub disabled : Monitor → Monitor
disabled m = record m { enabled = false }

-- the monitor, of which the atoms of the set `bits` start true besides
abbrev pub beginning : ℕ → Monitor → Monitor
beginning bits m = record m { starting = bit_or m.starting bits }

-- the bindings, in which the monitor that was found is changed; a line about an unknown one has no form
abbrev pub change_bound : BoundValue → Option ℕ → (Monitor → Monitor) → Result BoundValue ℕ
change_bound bound None change = Err BIND_SYNTAX
change_bound bound (Some place) change = Ok (bindings_with bound change place)

-- the bindings, in which an atom of the monitor at an index starts true, or why not
abbrev pub begin_at : BoundValue → ℕ → Option Monitor → List ℕ → Result BoundValue ℕ
begin_at bound place None atom = Err BIND_SYNTAX
begin_at bound place (Some m) atom = after (atom_bit m.spec atom) (λ bit. Ok (bindings_with bound (beginning bit) place))

-- the bindings, in which an atom of the monitor that was found starts true; a line about an unknown one has no form
abbrev pub begin_bound : BoundValue → Option ℕ → List ℕ → Result BoundValue ℕ
begin_bound bound None atom = Err BIND_SYNTAX
begin_bound bound (Some place) atom = begin_at bound place (slice_get bound.monitors place) atom
