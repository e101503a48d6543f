use Rattle.std.proofs.Common.{ap, ◌∙◌}
use Rattle.std.specs.Prelude.{Some}
use Rattle.rv_ltl.specs.Names.{names_of}
use Rattle.rv_ltl.proofs.CutLaws.{cut_parts, parts_cut}
use Rattle.rv_ltl.proofs.TextLaws.{text_again, text_is_found}
use Rattle.rv_ltl.proofs.TokenLaws.{spelled_are_read, tokens_spelled}
use Rattle.rv_ltl.proofs.laws.the_text.Goals as goal

pub returns-clause-cut : goal.returns-clause-cut
returns-clause-cut c bytes pieces = (λ h. cut_parts bytes pieces h, λ h. parts_cut h.0 bytes h.1 ∙ ap Some h.2)

pub returns-clause-spelled : goal.returns-clause-spelled
returns-clause-spelled c pieces tokens = (λ h. tokens_spelled (names_of pieces) pieces tokens h, λ h. spelled_are_read pieces tokens h)

pub returns-clause-file : goal.returns-clause-file
returns-clause-file c bytes said = (λ h. text_is_found bytes said h, λ h. text_again bytes h.0 said h.1 h.2)
