use Rattle.std.proofs.Common.{subst}
use Rattle.rv_text.specs.inner.Unreads.{IsReadAs}
use Rattle.rv_dot.specs.inner.Held.{lexemes}
use Rattle.rv_dot.proofs.TextLaws.{tokens_are_found, tokens_are_read}
use Rattle.rv_dot.proofs.token.tokens.Goals as goal

pub returns-clause-found : goal.returns-clause-found
returns-clause-found c = tokens_are_found c.args.bytes.now c.all.result c.all.ensures

pub returns-clause-only : goal.returns-clause-only
returns-clause-only c = λ ps reads. subst (λ read. IsReadAs (λ v. lexemes v.items) c.all.result read) (tokens_are_read c.args.bytes.now ps reads) c.all.ensures
