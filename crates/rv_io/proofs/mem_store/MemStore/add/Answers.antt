use Rattle.std.proofs.Common.{◌≡◌, Some, None, position, bytes_eq, rules}
use Rattle.rv_io.proofs.FileLemmas.{replaced-set, replaced-push}
use Rattle.rv_io.proofs.mem_store.MemStore.add.Goals as goal

pub returns-in-Some-clause-ok : goal.returns-in-Some-clause-ok
returns-in-Some-clause-ok c =
    let first : position (λ file. bytes_eq file.0 c.args.name.now) c.self.inside.files.items ≡ Some c.in-Some.place = search rules in
    rw (c.in_ok-file.ensures, ← c.self.view_is) (replaced-set _ _ _ _ first)

pub returns-in_ok-push-in-None-clause-ok : goal.returns-in_ok-push-in-None-clause-ok
returns-in_ok-push-in-None-clause-ok c =
    let none : position (λ file. bytes_eq file.0 c.args.name.now) c.self.inside.files.items ≡ None = search rules in
    rw (c.in_ok-push-in-None.ensures.items, c.in_ok-file.ensures, ← c.self.view_is) (replaced-push _ _ _ none)
