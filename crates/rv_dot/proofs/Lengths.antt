-- Lists of tokens are as long without where they lie in memory.
use Rattle.std.proofs.Common.{◌≡◌, List, length}
use Rattle.std.proofs.lemmas.List.{length-map}
use Rattle.rv_dot.specs.declared.token.DotToken.{DotToken}
use Rattle.rv_dot.specs.inner.Held.{lexeme, lexemes}

-- there are as many lexemes as tokens
pub length_lexemes : (tokens : List DotToken) → length (lexemes tokens) ≡ length tokens
length_lexemes tokens = length-map tokens lexeme
