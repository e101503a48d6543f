use Rattle.std.proofs.Common.{List, ℕ, sym, ap, ◌∙◌, subst}
use Rattle.std.specs.Prelude.{None}
use Rattle.rv_text.specs.TextLines.{lines_of}
use Rattle.rv_trace.specs.Streams.{Stream}
use Rattle.rv_stream.specs.inner.Pieces.{passed_text, IsRouted}
use Rattle.rv_stream.proofs.ToldLemmas.{lines-none}
use Rattle.rv_stream.proofs.routing.Routing.new.Goals as goal

pub returns-clause-open : goal.returns-clause-open
returns-clause-open c =
    let made = c.in_ok-new_collector in
    record {
      unended = ap (λ (s : Stream). s.ended) c.new.ensures;
      idle = ap (λ (s : Stream). s.idle) c.new.ensures;
      routed = subst (λ (text : List ℕ). IsRouted c.args.bindings.now text made.field-0 None) (sym (ap passed_text c.new.ensures)) made.ensures.routed;
    }

pub returns-clause-passed : goal.returns-clause-passed
returns-clause-passed c = ap (λ (s : Stream). lines_of (passed_text s)) c.new.ensures ∙ lines-none
