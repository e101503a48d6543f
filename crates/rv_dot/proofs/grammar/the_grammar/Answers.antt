use Rattle.std.proofs.Common.{ap, ◌∙◌}
use Rattle.std.specs.Prelude.{Some}
use Rattle.rv_dot.proofs.TextLaws.{text_again, text_is_found}
use Rattle.rv_dot.proofs.grammar.the_grammar.Goals as goal

pub returns : goal.returns
returns c bytes claims = (λ h. text_is_found bytes claims h, λ h. text_again bytes h.0 h.1 ∙ ap Some h.2)
