use Rattle.std.proofs.Common.{◌≡◌, ◌-◌, ◌^◌, ◌<◌, ◌≤◌, ℕ, true, get_or, length, map}
use Rattle.std.specs.Int.Digits.{number_from_digits_after}
use Rattle.rv_text.specs.Decimal.{digit_of}
use Rattle.rv_text.specs.Places.{between, is_digit}
use Rattle.rv_matches.proofs.short_times.digits_from.Given as goal

abbrev pub invariant-loop-end : goal.invariant-loop-end
invariant-loop-end l = record {
  low : l.from ≤ l.end;
  high : l.end ≤ length l.stamp;
  digits : (k : ℕ) → l.from ≤ k → k < l.end → is_digit (get_or l.stamp k 0) ≡ true;
  number : l.number ≡ number_from_digits_after 10 l.before (map digit_of (between l.stamp l.from l.end));
  small : l.number < 10 ^ l.end;
}

abbrev pub decreases-loop-end : goal.decreases-loop-end
decreases-loop-end l = length l.stamp - l.end
