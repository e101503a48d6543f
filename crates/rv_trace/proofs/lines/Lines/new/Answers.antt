use Rattle.std.proofs.Common.{inl, arith, refl}
use Rattle.rv_trace.proofs.StreamLemmas.{stands-first}
use Rattle.rv_trace.proofs.lines.Lines.new.Goals as goal

pub invariant_of-result : goal.invariant_of-result
invariant_of-result c =
    rw (c.new.ensures, c.new-2.ensures.items) (record {
      piece = record { is = refl; low = omega arith };
      looks = record { order = omega arith; within = omega arith; none = λ k low high. absurd (omega arith) };
      fits = omega arith;
      order = omega arith;
      within = omega arith;
      stands = inl stands-first;
    })
