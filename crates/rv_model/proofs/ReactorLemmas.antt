-- Which reactor a name finds.
use Rattle.std.proofs.Common.{◌≡◌, ◌↔◌, ◌⊎◌, inl, inr, ℕ, Bool, true, false, List, [], ◌∷◌, Some, refl, sym, ap, ◌∙◌}
use Rattle.std.specs.Prelude.{find, bytes_eq}
use Rattle.std.proofs.lemmas.Slice.Eq.{bytes_eq-Decides}
use Rattle.rv_model.specs.declared.reactor.Reactor.{Reactor}
use Rattle.rv_model.specs.declared.reactor.Reactor.TheVariants.{Nop, Printk, Panic}
use Rattle.rv_model.specs.Reactors.{all_reactors, reactor_name, reactor_named}

-- a test has two answers
bool_or : (b : Bool) → (b ≡ true) ⊎ (b ≡ false)
bool_or true = inl refl
bool_or false = inr refl

-- what is found has the name
found_has : (name : List ℕ) (reactor : Reactor) (reactors : List Reactor) → find (λ (r : Reactor). bytes_eq (reactor_name r) name) reactors ≡ Some reactor → name ≡ reactor_name reactor
found_has name reactor [] is = absurd (cc)
found_has name reactor (r ∷ reactors) is = elim (bool_or (bytes_eq (reactor_name r) name)) [
  | inl same ↦
      let found : Some r ≡ Some reactor = rw same at is in
      let it : r ≡ reactor = cc in
      sym ((bytes_eq-Decides (reactor_name r) name).0 same) ∙ ap reactor_name it
  | inr other ↦ found_has name reactor reactors (rw other at is)
]

-- a reactor is found by its name
named_back : (reactor : Reactor) → reactor_named (reactor_name reactor) ≡ Some reactor
named_back Nop = refl
named_back Printk = refl
named_back Panic = refl

-- a name finds the reactor that has it
pub named_each : (name : List ℕ) (reactor : Reactor) → (reactor_named name ≡ Some reactor) ↔ (name ≡ reactor_name reactor)
named_each name reactor = (found_has name reactor all_reactors, λ is. ap reactor_named is ∙ named_back reactor)
