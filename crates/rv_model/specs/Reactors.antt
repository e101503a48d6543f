-- The reactors (Linux, Documentation/trace/rv, "Reactors").
use Rattle.std.specs.Prelude.{ℕ, Bool, true, false, List, [], ◌∷◌, find, bytes_eq, codes, Option, Some, None}
use Rattle.rv_model.specs.declared.reactor.Reactor.{Reactor}
use Rattle.rv_model.specs.declared.reactor.Reactor.TheVariants.{Nop, Printk, Panic}

-- all of them, in the order of the control files
abbrev pub all_reactors : List Reactor
all_reactors = Nop ∷ Panic ∷ Printk ∷ []

-- how the kernel calls it
abbrev pub reactor_name : Reactor → List ℕ
reactor_name Nop = codes "nop"
reactor_name Printk = codes "printk"
reactor_name Panic = codes "panic"

-- what its line begins with, where it prints one
abbrev pub reaction_front : Reactor → Option (List ℕ)
reaction_front Nop = None
reaction_front Printk = Some (codes "rv: ")
reaction_front Panic = Some (codes "rv: panic: ")

-- it halts the run
abbrev pub is_panic : Reactor → Bool
is_panic Panic = true
is_panic _ = false

-- the reactor of this name
abbrev pub reactor_named : List ℕ → Option Reactor
reactor_named name = find (λ reactor. bytes_eq (reactor_name reactor) name) all_reactors
