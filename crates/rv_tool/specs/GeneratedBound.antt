-- The generated input is one: its bindings are accepted, and its trace under them.
use Rattle.std.specs.Prelude.{◌≡◌, ◌≤◌, ℕ, codes}
use Rattle.rv_gen.specs.declared.files.TheConstants.{MAX_BLOCKS}
use Rattle.rv_bind.specs.Bound.{bound_of}
use Rattle.rv_bind.specs.Outcomes.{accepted}
use Rattle.rv_generated.specs.GeneratedBound.{generated_bound}
use Rattle.rv_tool.specs.Inputs.{InputValue}
use Rattle.rv_tool.specs.Loaded.{generated_files, load_input}
use Rattle.rv_tool.specs.Verdicts.{HasNoPanic, HasOneWriterIn}

-- a law: the generated bindings and automata are accepted, and are these
abbrev pub LoadIsBound : Type 0
LoadIsBound = (blocks : ℕ) → bound_of (generated_files blocks) (codes "gen.rv") ≡ accepted generated_bound

-- a law: so many blocks come to an input, no reactor of it is panic, and no two CPUs have deliveries for one slot of it
abbrev pub LoadIsAccepted : Type 0
LoadIsAccepted = (blocks : ℕ) → blocks ≤ MAX_BLOCKS → (i : InputValue) × (load_input blocks ≡ accepted i) × HasNoPanic i × ((slot : ℕ) → HasOneWriterIn i slot)
