-- What was kept and what is to be kept is the whole.
use Rattle.std.proofs.Common.{◌≡◌, ◌++◌, drop}
use Rattle.std.specs.Prelude.{filter}
use Rattle.rv_facts.specs.Facts.{is_unnamed}
use Rattle.rv_facts.proofs.facts.all_unnamed.Given as goal

abbrev pub invariant-names : goal.invariant-names
invariant-names l = l.kept.items ++ filter (is_unnamed l.rules) (drop l.name-index l.names) ≡ filter (is_unnamed l.rules) l.names
