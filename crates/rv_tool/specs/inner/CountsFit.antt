-- Which specifications have a state to begin in: every rule, and each automaton with a state.
use Rattle.std.specs.Prelude.{◌≤◌, length}
use Rattle.rv_model.specs.declared.formula.Spec.{Spec}
use Rattle.rv_model.specs.declared.formula.Spec.TheVariants as specs

-- an automaton has a state
abbrev pub HasState : Spec → Type 0
HasState (specs.Da automaton) = 1 ≤ length automaton.states
HasState (specs.Ltl rule) = Unit {0}
