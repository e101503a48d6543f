-- The first pieces.
use Rattle.std.proofs.Common.{◌≡◌, ◌++◌, flat_map}
use Rattle.rv_model.specs.Numbers.{list_of}
use Rattle.rv_findings.specs.MonitorFindings.{place_finding}
use Rattle.rv_findings.proofs.spec_findings.add_part.Given as goal

abbrev pub invariant-places : goal.invariant-places
invariant-places l = l.found.items ≡ l.initial.found.items ++ flat_map (place_finding l.name l.line l.called l.own l.lines l.c l.spec l.part) (list_of (λ i. i) l.place)
