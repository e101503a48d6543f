use Rattle.std.proofs.Common.{◌≡◌, ℕ, ◌+◌, ◌<◌, List, [], ◌∷◌, ◌++◌, length, get_or, drop, rules, sym, ap, ◌∙◌, subst, arith}
use Rattle.std.specs.Vec.{vec_len}
use Rattle.std.specs.Vec.Iter.{into_iter_items}
use Rattle.std.proofs.lemmas.Grind.{common_steps}
use Rattle.std.proofs.lemmas.List.{length_push}
use Rattle.rv_bind.specs.declared.bindings.Monitor.{Monitor}
use Rattle.rv_facts.specs.declared.counts.MonitorCounts.{MonitorCounts}
use Rattle.rv_counts.specs.Counts.{TellsMonitor}
use Rattle.rv_counts.proofs.ListLemmas.{each_push, left-inside, left-none, left-rest}
use Rattle.rv_counts.proofs.MonitorLemmas.{IsSummaryAt, next-told}
use Rattle.rv_counts.proofs.counting.monitors_counts.Goals as goal

pub summary-requires : goal.summary-requires
summary-requires c =
    let counts = c.loop-reach.counts in
    let split : into_iter_items c.loop-reach.reach-iterator ≡ c.in-Some.reach ∷ into_iter_items c.next.new.self = search rules in
    let inside : length counts.items < length c.args.reached.monitors.items = left-inside c.args.reached.monitors.items (length counts.items) c.in-Some.reach (into_iter_items c.next.new.self) (c.loop-reach.invariant.left ∙ split) in
    let long : vec_len counts ≡ length counts.items = search rules in
    let place = c.len-place.ensures in
    let many = c.requires in
    omega arith

pub loop-reach-preserved : goal.loop-reach-preserved
loop-reach-preserved c =
    let all = c.args.reached.monitors.items in
    let counts = c.loop-reach.counts.items in
    let reach = c.in-Some.reach in
    let rest = into_iter_items c.next.new.self in
    let made = c.monitor_counts.result in
    let so_far = c.loop-reach.invariant in
    let split : into_iter_items c.loop-reach.reach-iterator ≡ reach ∷ rest = search rules in
    let left : drop (length counts) all ≡ reach ∷ rest = so_far.left ∙ split in
    let inside : length counts < length all = left-inside all (length counts) reach rest left in
    let size : vec_len c.loop-reach.counts ≡ length counts = search rules in
    let place : c.len-place.result ≡ length counts = c.len-place.ensures ∙ size in
    let summary : IsSummaryAt c.args.found.now (length counts) c.summary.result = subst (λ (p : ℕ). IsSummaryAt c.args.found.now p c.summary.result) place c.summary.ensures in
    let pushed : c.push.new.self.items ≡ counts ++ made ∷ [] = c.in_ok-push.ensures.items in
    let long : length c.push.new.self.items ≡ length counts + 1 = ap length pushed ∙ length_push counts made in
    record {
      within = omega arith;
      left = ap (λ (n : ℕ). drop n all) long ∙ left-rest all (length counts) reach rest left;
      each = λ bindings run of k n lt.
          let T : ℕ → MonitorCounts → Type 0 = λ j x. (m : Monitor) → TellsMonitor run j (get_or run.bound.monitors j m) x in
          subst (λ (ns : List MonitorCounts). T k (get_or ns k n)) (sym pushed)
          (each_push T counts made (so_far.each bindings run of) (next-told bindings run c.args.found.now c.args.reached (length counts) reach rest c.summary.result made of left summary c.monitor_counts.ensures) k n (omega arith));
    }

pub returns : goal.returns
returns c =
    let none : into_iter_items c.loop-reach.reach-iterator ≡ [] = first_of (search rules, grind (arith, common_steps)) in
    λ bindings run of.
    let counts = c.loop-reach.counts.items in
    let so_far = c.loop-reach.invariant in
    let end = left-none c.args.reached.monitors.items (length counts) (so_far.left ∙ none) in
    let within = so_far.within in
    let many = of.reached.many in
    let same = ap length of.monitors in
    record { many = omega arith; each = λ k m n lt. so_far.each bindings run of k n lt m }
