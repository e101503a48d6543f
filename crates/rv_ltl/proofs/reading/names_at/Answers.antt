use Rattle.std.proofs.Common.{◌++◌, ◌∷◌, [], ℕ, List, get_or, sym, ap, ◌∙◌}
use Rattle.std.specs.Prelude.{map}
use Rattle.std.proofs.lemmas.List.{map_more, take_all}
use Rattle.rv_ltl.specs.inner.Texts.{texts}
use Rattle.rv_ltl.specs.Atoms.{name_at}
use Rattle.rv_ltl.proofs.reading.names_at.Goals as goal

pub numbers-preserved : goal.numbers-preserved
numbers-preserved c =
    let name = name_at (texts c.args.names.now) in
    let number = get_or c.args.numbers.now c.numbers.number-index 0 in
    c.in_ok-put_name.ensures ∙ ap (λ (w : List ℕ). c.numbers.list ++ w ∷ []) c.name_of.ensures ∙ ap (λ (ws : List (List ℕ)). ws ++ name number ∷ []) c.numbers.invariant ∙ sym (map_more name c.args.numbers.now c.numbers.number-index 0 c.numbers-test.true)

pub returns : goal.returns
returns c = c.numbers.invariant ∙ ap (λ (ns : List ℕ). map (name_at (texts c.args.names.now)) ns) (take_all c.numbers.number-index c.args.numbers.now c.numbers-test.false)
