use Rattle.std.proofs.Common.{◌≡◌, ◌-◌, ◌++◌, drop, length, codes}
use Rattle.std.specs.List.{flat_map}
use Rattle.rv_header.specs.HeaderText.{tagged}
use Rattle.rv_header.proofs.members.put_later_names.Given as goal

abbrev pub invariant-members : goal.invariant-members
invariant-members l = l.out ++ flat_map (λ text. codes ",\n\t" ++ tagged l.name text) (drop l.place l.members) ≡ l.initial.out ++ flat_map (λ text. codes ",\n\t" ++ tagged l.name text) (drop 1 l.members)

abbrev pub decreases-members : goal.decreases-members
decreases-members l = length l.members - l.place
