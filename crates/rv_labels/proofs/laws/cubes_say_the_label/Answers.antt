use Rattle.std.proofs.Common.{true, false, sym, ◌∙◌}
use Rattle.std.proofs.lemmas.Bool.Decides.{Decides-not}
use Rattle.rv_model.specs.Meaning.{true_on}
use Rattle.rv_labels.specs.Cubes.{cubes_of}
use Rattle.rv_labels.proofs.CubesSay.{cubes_say}
use Rattle.rv_labels.proofs.MeetLemmas.{any_tells}
use Rattle.rv_labels.proofs.laws.cubes_say_the_label.Goals as goal

pub returns-clause-positive : goal.returns-clause-positive
returns-clause-positive c =
    λ f x.
    let is = cubes_say f true x in
    let tells = any_tells x (cubes_of f true) in
    (λ some. sym is ∙ tells.1 some, λ holds. tells.0 (is ∙ holds))

pub returns-clause-negative : goal.returns-clause-negative
returns-clause-negative c =
    λ f x.
    let is = cubes_say f false x in
    let tells = any_tells x (cubes_of f false) in
    let denies = Decides-not (true_on x f) (λ e. e, λ e. e) in
    (λ some. denies.0 (sym is ∙ tells.1 some), λ fails. tells.0 (is ∙ denies.1 fails))
