use Rattle.std.proofs.Common.{◌≡◌, ℕ, List, length, sym, ap, subst, ◌∙◌}
use Rattle.std.specs.Prelude.{map}
use Rattle.rv_model.specs.Ltl.{Ltl}
use Rattle.rv_model.specs.Formulas.{RuleValue, IsRule, ltl}
use Rattle.rv_ltl.specs.declared.definitions.Definition.{Definition}
use Rattle.rv_ltl.specs.Atoms.{name_at}
use Rattle.rv_ltl.specs.inner.Texts.{texts}
use Rattle.rv_ltl.specs.inner.Machine.{defs}
use Rattle.rv_ltl.specs.inner.Collected.{built, rule_over}
use Rattle.rv_ltl.proofs.Elements.{length-defs}
use Rattle.rv_ltl.proofs.reading.rule_over.Goals as goal

abbrev rule : List (List ℕ) → Ltl → RuleValue
rule list formula = record { atoms = list; formula = formula }

made : (names list : List (List ℕ)) (definitions : List Definition) (root : ℕ) (atoms : List ℕ) (formula : Ltl) → list ≡ map (name_at names) atoms → formula ≡ built (defs definitions) atoms (length definitions) root → rule list formula ≡ rule_over names (defs definitions) root atoms
made names list definitions root atoms formula named build =
    ap (λ (a : List (List ℕ)). rule a formula) named ∙ ap (λ (f : Ltl). rule (map (name_at names) atoms) f) (build ∙ ap (λ (n : ℕ). built (defs definitions) atoms n root) (sym (length-defs definitions)))

pub assembled-requires : goal.assembled-requires
assembled-requires c =
    let P : RuleValue → Type 0 = λ r. IsRule r in
    subst P (sym (made (texts c.args.names.now) c.in_ok-list.list c.args.definitions.now c.args.root c.args.atoms.now (ltl c.in_ok-formula.formula) c.in_ok-list.ensures c.in_ok-formula.ensures)) c.requires.rule

pub returns : goal.returns
returns c = c.assembled.ensures ∙ made (texts c.args.names.now) c.in_ok-list.list c.args.definitions.now c.args.root c.args.atoms.now (ltl c.in_ok-formula.formula) c.in_ok-list.ensures c.in_ok-formula.ensures
