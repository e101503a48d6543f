-- The rules so far are told.
use Rattle.rv_counts.proofs.CountedLemmas.{AreTold}
use Rattle.rv_counts.proofs.rule_counting.rules_counts.Given as goal

abbrev pub invariant-loop-place : goal.invariant-loop-place
invariant-loop-place l = AreTold l.names l.rules l.lines l.place l.counts.items
