use Rattle.std.proofs.Common.{◌≡◌, length, take}
use Rattle.rv_journal.proofs.EnabledLemmas.{IsShownSoFar}
use Rattle.rv_journal.proofs.enabled.enabled_work.Given as goal

-- the turns so far were shown
abbrev pub invariant-loop-turn : goal.invariant-loop-turn
invariant-loop-turn l = record {
  so_far : IsShownSoFar l.switches l.fn.work.deliveries (take l.turn-index l.turn-items) l.turns.items l.deliveries.items;
  end_is : l.end ≡ length l.deliveries.items;
}
