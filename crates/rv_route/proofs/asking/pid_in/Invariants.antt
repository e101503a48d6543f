use Rattle.std.proofs.Common.{◌≡◌, ℕ, ◌<◌, take, get_or, true}
use Rattle.rv_text.specs.Places.{is_digit}
use Rattle.rv_text.specs.Decimal.{number_of}
use Rattle.rv_route.proofs.asking.pid_in.Given as goal

abbrev pub invariant-loop-byte : goal.invariant-loop-byte
invariant-loop-byte l = (l.pid ≡ number_of (take l.byte-index l.text)) × ((k : ℕ) → k < l.byte-index → is_digit (get_or l.text k 0) ≡ true)
