use Rattle.std.proofs.Common.{ap, ◌∙◌, rules, arith}
use Rattle.rv_ltl.specs.inner.Texts.{texts}
use Rattle.rv_bind.proofs.TwiceLemmas.{stands_beside, stands_beside_none, stands_on}
use Rattle.rv_bind.proofs.changes.stands_twice.Goals as goal

pub loop-rest-init : goal.loop-rest-init
loop-rest-init c = ap (λ keys. stands_beside keys (texts c.args.words.now)) c.new-names.ensures.empty ∙ stands_beside_none (texts c.args.words.now)

pub loop-rest-preserved : goal.loop-rest-preserved
loop-rest-preserved c =
    stands_on c.loop-rest.names.keys c.insert.new.self.keys c.atom_in.result c.loop-rest.rest.now _ (omega arith) c.atom_in.ensures c.in_ok-insert.ensures.keys (search rules) ∙ c.loop-rest.invariant
