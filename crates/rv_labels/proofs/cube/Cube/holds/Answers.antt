use Rattle.std.proofs.Common.{rules, nat_eq, bit_and}
use Rattle.std.proofs.lemmas.Bool.Decides.{Decides-at}
use Rattle.rv_labels.specs.Holding.{meets}
use Rattle.rv_labels.proofs.MeetLemmas.{meets_tells}
use Rattle.rv_labels.proofs.cube.Cube.holds.Goals as goal

pub returns-then-atoms-self-clause-meets : goal.returns-then-atoms-self-clause-meets
returns-then-atoms-self-clause-meets c = Decides-at (nat_eq (bit_and c.args.atoms c.args.self.now.forbid) 0) (meets c.args.atoms c.args.self.now) (search rules) (meets_tells c.args.atoms c.args.self.now)

pub returns-else-atoms-self-clause-meets : goal.returns-else-atoms-self-clause-meets
returns-else-atoms-self-clause-meets c = Decides-at (nat_eq (bit_and c.args.atoms c.args.self.now.need) c.args.self.now.need) (meets c.args.atoms c.args.self.now) (search rules) (meets_tells c.args.atoms c.args.self.now)
