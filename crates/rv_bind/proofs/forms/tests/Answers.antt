use Rattle.std.proofs.Common.{◌≡◌, true, rules}
use Rattle.std.specs.Prelude.{bytes_eq, codes}
use Rattle.rv_bind.proofs.TestLemmas.{tests_more}
use Rattle.rv_bind.proofs.forms.tests.Goals as goal

pub loop-next-preserved : goal.loop-next-preserved
loop-next-preserved c =
    let another : bytes_eq c.loop-next.next.now (codes "if") ≡ true = search rules in
    tests_more c.loop-next.next.now another _ _ _ c.loop-next.words _ c.loop-next.invariant c.in_ok-made.ensures c.in_ok-push.ensures.items
