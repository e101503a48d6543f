use Rattle.std.proofs.Common.{ℕ, List, true, cond, ap, ◌∙◌}
use Rattle.std.specs.Prelude.{bytes_eq}
use Rattle.rv_trace.proofs.OrderedLemmas.{set-put}
use Rattle.rv_route.specs.FieldTests.{is_forbidden}
use Rattle.rv_route.proofs.field_tests.forbid.Goals as goal

pub returns : goal.returns
returns c other =
    set-put c.in_ok-key.key.items c.args.forbidden.now c.insert.new.self true c.in_ok-insert.ensures.updates other
    ∙ ap (λ (k : List ℕ). cond (bytes_eq k other) true (is_forbidden c.args.forbidden.now other)) c.in_ok-key.ensures.items
