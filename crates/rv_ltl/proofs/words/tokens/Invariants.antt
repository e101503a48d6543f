use Rattle.std.proofs.Common.{◌≡◌, drop}
use Rattle.rv_ltl.specs.inner.Texts.{texts}
use Rattle.rv_ltl.specs.Tokens.{tokens_of}
use Rattle.rv_ltl.proofs.TokenSteps.{before}
use Rattle.rv_ltl.proofs.words.tokens.Given as goal

abbrev pub invariant-pieces : goal.invariant-pieces
invariant-pieces l = before l.out.items (tokens_of (texts l.names) (texts (drop l.piece-index l.pieces))) ≡ tokens_of (texts l.names) (texts l.pieces)
