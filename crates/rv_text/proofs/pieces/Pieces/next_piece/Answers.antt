use Rattle.std.proofs.Common.{ap, sym, ◌∙◌, arith}
use Rattle.std.proofs.lemmas.Bool.{eqb-true, eq-eqb}
use Rattle.std.specs.Option.{option_copied}
use Rattle.rv_text.specs.Pieces.{pieces_left}
use Rattle.rv_text.proofs.PieceLemmas.{piece-last, piece-next}
use Rattle.rv_text.proofs.pieces.Pieces.next_piece.Goals as goal

pub returns-in-Some-clause-some : goal.returns-in-Some-clause-some
returns-in-Some-clause-some c =
    let found = c.in-Some.ensures in
    sym c.self.view_is ∙ ap (λ text. pieces_left c.self.inside.separator (option_copied text)) c.in_ok-text.was
    ∙ piece-next c.self.inside.separator c.in_ok-text.text.now c.in-Some.end (omega (arith, found.0.high)) (eqb-true _ _ found.1) (λ k l is. found.0.before k (omega arith) l (eq-eqb _ _ is))

pub returns-in-None-clause-some : goal.returns-in-None-clause-some
returns-in-None-clause-some c =
    sym c.self.view_is ∙ ap (λ text. pieces_left c.self.inside.separator (option_copied text)) c.in_ok-text.was
    ∙ piece-last c.self.inside.separator c.in_ok-text.text.now (λ k l is. c.in-None.ensures k (omega arith) l (eq-eqb _ _ is))
