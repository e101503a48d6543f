-- The answer is counted, then the edges, the instance, the rows and the atoms.
use Rattle.std.proofs.Common.{◌≡◌, ℕ, ◌+◌, List, length, get_or, sym, ap, ◌∙◌, subst}
use Rattle.std.proofs.lemmas.Result.{on_ok_weaker}
use Rattle.rv_model.specs.Letters.{atoms_in}
use Rattle.rv_model.specs.Numbers.{has_bit}
use Rattle.rv_reach.specs.declared.judged.Judged.{Judged}
use Rattle.rv_reach.specs.declared.monitor.InstanceReach.{InstanceReach}
use Rattle.rv_reach.specs.declared.monitor.MonitorReach.{MonitorReach}
use Rattle.rv_reach.specs.Reached.{takes}
use Rattle.rv_reach.specs.inner.Counters.{CountsMore, IsMarked}
use Rattle.rv_reach.specs.inner.RowSets.{rows_behind}
use Rattle.rv_reach.proofs.monitor.MonitorReach.judge.Goals as goal

pub returns : goal.returns
returns c =
    let old : MonitorReach = c.args.self.now in
    let j : Judged = c.args.judged.now in
    let answered = c.in_ok-answer.ensures in
    on_ok_weaker c.count_bits-2.result
    (λ atoms.
    record {
      passed = ap (λ (m : MonitorReach). m.passed) answered.rest;
      started = answered.started;
      kept = answered.kept;
      failed = answered.failed;
      ended = ap (λ (m : MonitorReach). m.ended) answered.rest;
      letters = answered.letters;
      instances = subst (λ (was : List InstanceReach). IsMarked j was c.mark.new.instances.items) (ap (λ (m : MonitorReach). m.instances.items) answered.rest) c.mark.ensures;
      rows = subst (λ (was : List ℕ). CountsMore (λ k. has_bit (rows_behind j.after) (k + 1)) was c.count_bits.new.counts.items) (ap (λ (m : MonitorReach). m.rows.items) answered.rest)
          (subst (λ (rows : ℕ). CountsMore (λ k. has_bit rows (k + 1)) c.answer.new.self.rows.items c.count_bits.new.counts.items) c.rows_behind.ensures c.in_ok-count_bits.ensures);
      edges = λ none many.
          let was : c.answer.new.self.edges.items ≡ old.edges.items = ap (λ (m : MonitorReach). m.edges.items) answered.rest in
          subst (λ (xs : List ℕ). CountsMore (λ k. takes (get_or c.args.edges.now k none) j.mode j.answer j.letter j.from (rows_behind j.after)) xs c.count_edges.new.counts.items) was
          (c.in_ok-count_edges.ensures none (many ∙ sym (ap length was)));
      atoms = subst (λ (was : List ℕ). CountsMore (λ k. has_bit (atoms_in j.letter) (k + 0)) was c.count_bits-2.new.counts.items) (ap (λ (m : MonitorReach). m.atoms.items) answered.rest)
          (subst (λ (set : ℕ). CountsMore (λ k. has_bit set (k + 0)) c.answer.new.self.atoms.items c.count_bits-2.new.counts.items) c.atoms_in.ensures atoms);
    })
    c.count_bits-2.ensures
