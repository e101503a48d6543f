-- A trace that is read and routed in pieces: what stands ready for more.
use Rattle.std.specs.Prelude.{◌≡◌, true, false}
use Rattle.rv_bind.specs.declared.bindings.Bindings.{Bindings}
use Rattle.rv_stream.specs.declared.routing.Routing.{Routing}
use Rattle.rv_stream.specs.inner.Pieces.{passed_text, IsRouted}

-- all lines that can be taken so far were routed, and a piece may be fed
pub record MayBeFed (bindings : Bindings) (r : Routing) : Type 0 where
  pub unended : r.lines.ended ≡ false
  pub idle : r.lines.idle ≡ true
  pub routed : IsRouted bindings (passed_text r.lines) r.collector r.late
