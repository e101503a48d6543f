use Rattle.std.proofs.Common.{subst, ap, ◌∙◌}
use Rattle.rv_text.specs.inner.Unreads.{IsReadAs}
use Rattle.rv_dot.specs.inner.Held.{lexemes, claims}
use Rattle.rv_dot.specs.Statements.{claims_of}
use Rattle.rv_dot.proofs.StatementsAgain.{file_again}
use Rattle.rv_dot.proofs.FilesTake.{is_found}
use Rattle.rv_dot.proofs.statement.facts.Goals as goal

pub returns-clause-found : goal.returns-clause-found
returns-clause-found c = is_found (lexemes c.args.tokens.now) c.all.result c.all.ensures

pub returns-clause-only : goal.returns-clause-only
returns-clause-only c = λ f fits e. subst (λ read. IsReadAs (λ v. claims v.items) c.all.result read) (ap claims_of e ∙ file_again f fits) c.all.ensures
