use Rattle.std.proofs.Common.{◌≡◌, length, refl, rules}
use Rattle.rv_route.specs.EventKeys.{key_of}
use Rattle.rv_route.proofs.NotedLemmas.{key-none}
use Rattle.rv_route.proofs.index.key_of.Goals as goal

pub returns-then-is_empty-clause-key : goal.returns-then-is_empty-clause-key
returns-then-is_empty-clause-key c =
    let empty : length c.args.name.now ≡ 0 = search rules in
    key-none c.args.name.now empty

pub returns-clause-key : goal.returns-clause-key
unfolding key_of
returns-clause-key c = refl
