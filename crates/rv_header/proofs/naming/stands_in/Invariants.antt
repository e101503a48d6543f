use Rattle.std.proofs.Common.{◌≡◌, ◌-◌, drop, length}
use Rattle.std.specs.List.{list_any}
use Rattle.std.specs.Str.{bytes_eq}
use Rattle.rv_header.proofs.naming.stands_in.Given as goal

abbrev pub invariant-names : goal.invariant-names
invariant-names l = list_any (λ e. bytes_eq e l.name) (drop l.place l.names) ≡ list_any (λ e. bytes_eq e l.name) l.names

abbrev pub decreases-names : goal.decreases-names
decreases-names l = length l.names - l.place
