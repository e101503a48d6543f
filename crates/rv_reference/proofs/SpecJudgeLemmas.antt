-- A judge by a specification: a test of the paths of an automaton, or of a rule's formula, and the steps of the table.
use Rattle.std.proofs.Common.{◌≡◌, ℕ, ◌&&◌, Bool, true, false, IsTrue, ◌↔◌, List, [], ◌∷◌, map, refl, ◌∙◌}
use Rattle.std.specs.List.{list_any}
use Rattle.std.proofs.lemmas.List.{get_or_default}
use Rattle.std.proofs.lemmas.List.Folds.{Any-from_list_any, list_any-from_Any}
use Rattle.rv_model.specs.declared.automaton.Edge.{Edge}
use Rattle.rv_model.specs.declared.hit.Letter.{Letter}
use Rattle.rv_model.specs.declared.hit.Letter.TheVariants.{Event, Atoms}
use Rattle.rv_model.specs.declared.formula.Spec.{Spec}
use Rattle.rv_model.specs.declared.formula.Spec.TheVariants.{Da, Ltl}
use Rattle.rv_model.specs.Machine.{Machine}
use Rattle.rv_model.specs.Letters.{atoms_in}
use Rattle.rv_model.specs.Meaning.{meaning}
use Rattle.rv_model.specs.Truth.{Weak}
use Rattle.rv_model.specs.Judging.{Judge, IsGood}
use Rattle.rv_model.specs.Stepping.{table_judge}
use Rattle.rv_model.proofs.TruthLemmas.{tells}
use Rattle.rv_model.proofs.TableJudgeLemmas.{every_table_is_judged}
use Rattle.rv_reference.specs.inner.Edges.{is_edge_by}
use Rattle.rv_reference.specs.JudgedSpecs.{EverySpecIsJudged}
use Rattle.rv_reference.proofs.PathLemmas.{AcceptsFrom, edge_at, no_edge, itself, path-here, path-empty}

-- the letters lead on from the state, as a test
abbrev accepted : Machine → List Letter → ℕ → Bool
accepted a [] state = true
accepted a (x ∷ rest) state = list_any (λ e. is_edge_by state x e && accepted a rest e.to) a.edges

-- two tests that hold together hold each
and_both : (a b : Bool) → (a && b) ≡ true → (a ≡ true) × (b ≡ true)
and_both true b e = (refl, e)
and_both false b e = cc

-- letters that pass the test have a path
accepted-path : (a : Machine) (letters : List Letter) (state : ℕ) → accepted a letters state ≡ true → AcceptsFrom a state letters
accepted-path a [] state e = path-empty a state
accepted-path a (x ∷ rest) state e =
    let any = Any-from_list_any (λ (e : Edge). is_edge_by state x e && accepted a rest e.to) a.edges e in
    let edge = any.1 in
    let both = and_both (is_edge_by state x edge) (accepted a rest edge.to) any.4 in
    let at : edge_at a any.0 ≡ edge = get_or_default a.edges any.0 no_edge edge any.2 ∙ any.3 in
    path-here a state x rest any.0 any.2 (rw at both.0) (rw at (accepted-path a rest edge.to both.1))

-- letters that have a path pass the test
path-accepted : (a : Machine) (letters : List Letter) (state : ℕ) → AcceptsFrom a state letters → accepted a letters state ≡ true
path-accepted a [] state p = refl
path-accepted a (x ∷ rest) state ([], p) = absurd p
path-accepted a (Atoms set ∷ rest) state (to ∷ path, p) = absurd p.0
path-accepted a (Event event ∷ rest) state (to ∷ path, p) =
    let e : Edge = record { from = state; event = event; to = to } in
    let is : is_edge_by state (Event event) e ≡ true = rw (itself state, itself event) refl in
    let goes : (is_edge_by state (Event event) e && accepted a rest to) ≡ true = rw (is, path-accepted a rest to (path, p.1)) refl in
    list_any-from_Any (λ (e : Edge). is_edge_by state (Event event) e && accepted a rest e.to) a.edges (p.0.0, e, p.0.1, p.0.2, goes)

-- the test of the specification
abbrev good : Spec → List Letter → Bool
good (Da a) letters = accepted a letters 0
good (Ltl rule) letters = meaning rule.formula Weak (map atoms_in letters)

-- the test is true exactly of the letters that are good by the specification
good-is : (spec : Spec) (letters : List Letter) → IsTrue (good spec letters) ↔ IsGood spec letters
good-is (Da a) letters = (accepted-path a letters 0, path-accepted a letters 0)
good-is (Ltl rule) letters = tells rule.formula Weak (map atoms_in letters)

-- every specification has a judge, with every table
pub every_spec_is_judged : EverySpecIsJudged
every_spec_is_judged spec t well =
    let j : Judge = record { holds = good spec; reaches = (table_judge t).reaches } in
    (j, record { holds = good-is spec; reaches = (every_table_is_judged t well).reaches })
