use Rattle.std.proofs.Common.{◌≡◌, ℕ, ◌∙◌, subst, rules}
use Rattle.std.specs.Prelude.{Result}
use Rattle.rv_bind.specs.Forms.{FormValue, on_form}
use Rattle.rv_bind.specs.inner.FormViews.{form_value}
use Rattle.rv_bind.specs.inner.FormsAhead.{form_behind}
use Rattle.rv_bind.specs.inner.LineReads.{ReadsValue}
use Rattle.rv_bind.proofs.FormLemmas.{on_read_is_form}
use Rattle.rv_bind.proofs.forms.form_behind.Goals as goal

pub returns-then-is-3 : goal.returns-then-is-3
returns-then-is-3 c =
    let is : on_form c.args.words.now ≡ form_behind c.args.first.now c.args.words.now = search rules in
    subst (λ (form : Result FormValue ℕ). ReadsValue form_value c.on_line.result form) (on_read_is_form c.args.words.now ∙ is) c.on_line.ensures
