-- One monitor more, of which no delivery was counted.
use Rattle.std.proofs.Common.{◌≡◌, ℕ, ◌<◌, List, [], ◌∷◌, ◌++◌, length, get_or, sym, ap, ◌∙◌, subst, arith}
use Rattle.std.proofs.lemmas.List.{get_or_read}
use Rattle.rv_model.specs.Setups.{Setup}
use Rattle.rv_model.specs.Table.{Table, of_labels}
use Rattle.rv_table.specs.Rows.{row_count}
use Rattle.rv_bind.specs.declared.bindings.Monitor.{Monitor}
use Rattle.rv_reach.specs.declared.monitor.MonitorReach.{MonitorReach}
use Rattle.rv_reach.specs.Watching.{IsReach}
use Rattle.rv_reach.specs.inner.Counters.{IsUnreached}
use Rattle.rv_reach.proofs.CountLemmas.{each-more, unreached-is}
use Rattle.rv_reach.proofs.reached.Reached.new.Goals as goal

pub loop-place-preserved : goal.loop-place-preserved
loop-place-preserved c =
    let v = c.setup.inside in
    let b = c.args.bindings.now in
    let i = c.loop-place.invariant in
    let place : ℕ = c.loop-place.place in
    let monitor : Monitor = c.index-monitor.result.now in
    let r : MonitorReach = c.in_ok-new.field-0 in
    let table : Table = c.index.result.now in
    let shape_is : v.shape ≡ c.args.setup.now.shape = ap (λ (x : Setup). x.shape) c.setup.view_is in
    let inside : place < length v.shape = let x = c.loop-place-test.true in let y = c.monitors-place-end.ensures in omega arith in
    let bound : place < length b.monitors.items = let x = c.requires in let y : length v.shape ≡ length c.args.setup.now.shape = ap length shape_is in omega arith in
    let tabled : place < length v.tables.items = let x = c.setup.invariant.many in omega arith in
    let P : ℕ → MonitorReach → Type 0 = λ k x. (m : Monitor) → IsReach (record { setup = c.args.setup.now; history = [] }) k (get_or b.monitors.items k m).spec x in
    let here : P place r = λ m.
    subst (λ (s : Setup). IsReach (record { setup = s; history = [] }) place (get_or b.monitors.items place m).spec r) c.setup.view_is
    (unreached-is _ place c.instances-instances.result c.rows-rows.result (get_or b.monitors.items place m).spec r c.instances-instances.ensures
    (c.rows-rows.ensures.rows ∙ ap row_count (get_or_read v.tables.items place table tabled c.index.ensures (of_labels [])))
    (subst (λ (x : Monitor). IsUnreached c.instances-instances.result c.rows-rows.result x.spec r) (get_or_read b.monitors.items place monitor bound c.index-monitor.ensures m) c.in_ok-new.ensures)) in
    let pushed : c.push.new.self.items ≡ c.loop-place.monitors.items ++ r ∷ [] = c.in_ok-push.ensures.items in
    record {
      many = let n = c.in_ok-push.ensures.len in let m = i.many in omega arith;
      each = λ k x lt. subst (λ (xs : List MonitorReach). P k (get_or xs k x)) (sym pushed) (each-more P place c.loop-place.monitors.items r i.many i.each here k x lt);
    }

pub returns : goal.returns
returns c =
    let i = c.loop-place.invariant in
    let shape_is : length c.setup.inside.shape ≡ length c.args.setup.now.shape = ap (λ (x : Setup). length x.shape) c.setup.view_is in
    let end : c.loop-place.place ≡ length c.args.setup.now.shape = let x = c.loop-place-test.false in let y = c.monitors-place-end.ensures in let z = c.loop-place.auto.place-end in omega arith in
    record {
      bound = c.requires;
      many = i.many ∙ end;
      each = λ k m any lt. i.each k any (omega arith) m;
    }
