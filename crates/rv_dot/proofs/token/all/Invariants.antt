use Rattle.std.proofs.Common.{◌≡◌, ◌≤◌, ℕ, length}
use Rattle.rv_dot.specs.Tokens.{tokens_within, tokens_of}
use Rattle.rv_dot.specs.inner.Held.{lexemes}
use Rattle.rv_dot.proofs.Scans.{with_front}
use Rattle.rv_dot.proofs.token.all.Given as goal

abbrev pub invariant-loop-rest : goal.invariant-loop-rest
invariant-loop-rest l = (n : ℕ) × (length l.rest ≤ n) × (with_front (lexemes l.found.items) (tokens_within n l.starts_line l.rest) ≡ tokens_of l.bytes)

abbrev pub decreases-loop-rest : goal.decreases-loop-rest
decreases-loop-rest l = length l.rest
