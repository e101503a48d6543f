-- The run of a fresh machine.
use Rattle.std.proofs.Common.{◌≡◌, List, [], sym, ap, ◌∙◌, subst}
use Rattle.rv_model.specs.declared.entry.Entry.{Entry}
use Rattle.rv_model.specs.Histories.{IsOneHistory, Replays}
use Rattle.rv_model.specs.Setups.{Setup}
use Rattle.rv_core.specs.Core.{CoreValue}
use Rattle.rv_core.specs.Judged.{JudgesBySpecs}
use Rattle.rv_core.specs.Setup.{IsSetup, judges_of}
use Rattle.rv_feed.specs.Lane.{LaneValue, lane_records, panics_of}
use Rattle.rv_feed.specs.Order.{Ran}
use Rattle.rv_feed.specs.Runs.{IsRunBySpecs}
use Rattle.rv_feed.proofs.OneLemmas.{one-of-run}
use Rattle.rv_route.specs.Listing.{works_listed}
use Rattle.rv_replay.specs.Lists.{fresh_lanes}
use Rattle.rv_replay.specs.Observing.{ObservesMore}
use Rattle.rv_replay.proofs.RunLemmas.{sorted-twice, run-sorted, run-by-tables}
use Rattle.rv_replay.proofs.walk.observe_list.Goals as goal

pub returns : goal.returns
returns g c =
    let s : Setup = c.args.setup in
    let first : CoreValue = c.in_ok-core.core in
    let last : CoreValue = c.walk.new.core in
    let h : List Entry = c.into_parts-setup.result.1 in
    let walks = c.in_ok-walk.ensures in
    let observed = g.O.Observer.observed c.args.context.now in
    let o' = c.walk.new.observer in
    let opens : first ≡ record { setup = s; history = [] } = c.in_ok-core.ensures in
    let setup_is : last.setup ≡ s = ap (λ (v : CoreValue). v.setup) walks.ran.grows ∙ ap (λ (v : CoreValue). v.setup) opens in
    let history_is : last.history ≡ h = sym c.into_parts-setup.ensures.history in
    let end : CoreValue = record { setup = s; history = h } in
    let last_is : last ≡ end = λ i. record { setup = setup_is i; history = history_is i } in
    let panics = panics_of c.args.reactors.now in
    let works = works_listed c.args.list.now in
    let lanes : List LaneValue = fresh_lanes works in
    let ran = subst (λ (v : CoreValue). Ran panics v end lanes walks.lanes) opens (subst (λ (v : CoreValue). Ran panics first v lanes walks.lanes) last_is walks.ran) in
    let judges : JudgesBySpecs s = subst JudgesBySpecs setup_is c.assert_invariant.ensures.judges in
    let is_run : IsRunBySpecs IsOneHistory s panics works [] walks.rs h = λ specs mean. run-sorted s panics works walks.lanes specs walks.rs h walks.sorted
    (one-of-run s panics h lanes walks.lanes specs (judges specs mean) (subst (λ (v : CoreValue). Replays v.setup (judges_of v.setup) v.history) last_is c.assert_invariant.ensures.replays) ran) in
    record {
      rs = walks.rs;
      ascend = sorted-twice walks.rs (lane_records walks.lanes) walks.sorted;
      setup_is = c.into_parts-setup.ensures.setup ∙ setup_is;
      judges = judges;
      is_run = is_run;
      by_tables = λ specs mean. run-by-tables s panics works walks.lanes specs walks.rs h (subst IsSetup setup_is c.assert_invariant.ensures.setup) mean (judges specs mean) walks.sorted ran (is_run specs mean);
      observes = subst (λ (v : CoreValue). ObservesMore observed walks.rs v end c.args.observer.now o') opens (subst (λ (v : CoreValue). ObservesMore observed walks.rs first v c.args.observer.now o') last_is walks.observes);
    }
