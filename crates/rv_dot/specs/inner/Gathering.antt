-- Which names are gathered.
use Rattle.std.specs.Prelude.{ℕ, List, Option}
use Rattle.rv_dot.specs.declared.gather.Gathers.{Gathers}
use Rattle.rv_dot.specs.declared.gather.Gathers.TheVariants.{States, Targets}
use Rattle.rv_dot.specs.Statements.{Claim}
use Rattle.rv_dot.specs.Gathered.{state_in, target_in}

-- the name of this kind that a statement has
abbrev pub gathered_by : Gathers → (Claim → Option (List ℕ))
gathered_by States = state_in
gathered_by Targets = target_in
