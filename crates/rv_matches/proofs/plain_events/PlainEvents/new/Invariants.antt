use Rattle.std.specs.Prelude.{All}
use Rattle.rv_matches.specs.RuleLines.{IsPlainEvent}
use Rattle.rv_matches.proofs.plain_events.PlainEvents.new.Given as goal

abbrev pub invariant-loop-rule : goal.invariant-loop-rule
invariant-loop-rule l = All (IsPlainEvent l.rules) l.plain
