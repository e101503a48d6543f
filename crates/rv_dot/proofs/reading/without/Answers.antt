use Rattle.std.proofs.Common.{List, ℕ, sym, ◌∙◌}
use Rattle.std.specs.Prelude.{not}
use Rattle.std.specs.Str.{bytes_eq}
use Rattle.rv_dot.proofs.Gathering.{passed_more, stopped_more}
use Rattle.rv_dot.proofs.reading.without.Goals.{then-ne+in_ok-push, else-ne}
use Rattle.rv_dot.proofs.reading.without.Goals as goal

pub names-preserved : goal.names-preserved
names-preserved c =
    elim c.if-ne.branch [
      | then-ne+in_ok-push w ↦
          rw w.found-is (passed_more (λ (s : List ℕ). not (bytes_eq s c.args.name.now)) c.args.names.now c.names.other-index _ c.names.found.items c.names-test.true c.names.invariant
          w.push.new.self.items (sym c.ne.ensures ∙ w.if-ne.true) w.in_ok-push.ensures.items)
      | else-ne w ↦
          rw w.found-is (stopped_more (λ (s : List ℕ). not (bytes_eq s c.args.name.now)) c.args.names.now c.names.other-index _ c.names.found.items c.names-test.true c.names.invariant
          (sym c.ne.ensures ∙ w.if-ne.false))
    ]
