-- A walk over a list: before its first turn, and after its last.
use Rattle.std.proofs.Common.{◌≡◌, ℕ, zero, suc, ◌<◌, ◌≤◌, Bool, true, false, List, [], length, get_or, take, replicate, refl, sym, ap, ◌∙◌, subst, arith, true≢false}
use Rattle.std.specs.Prelude.{All}
use Rattle.std.proofs.lemmas.List.{take_all}
use Rattle.std.proofs.lemmas.List.Elements.{All-nil}
use Rattle.rv_model.specs.declared.record.Record.{Record}
use Rattle.rv_model.specs.declared.record.Task.{Task}
use Rattle.rv_model.specs.Records.{records_with}
use Rattle.rv_core.specs.Core.{CoreValue}
use Rattle.rv_feed.specs.Lane.{LaneValue}
use Rattle.rv_feed.specs.inner.SoFar.{IsPending}
use Rattle.rv_feed.proofs.RunLemmas.{run-start, run-end}
use Rattle.rv_route.specs.LineByLine.{no_lane}
use Rattle.rv_route.specs.Listing.{ListedDelivery, works_listed}
use Rattle.rv_replay.specs.inner.Own.{own}
use Rattle.rv_replay.specs.Lists.{FitsList, fresh_lanes}
use Rattle.rv_replay.specs.inner.Walks.{Stands, WalkSoFar, WalksList}
use Rattle.rv_replay.proofs.FollowLemmas.{lanes-own, fresh-none}
use Rattle.rv_replay.proofs.GrownLemmas.{kept-sorted}
use Rattle.rv_replay.proofs.ListedLemmas.{orders-none}
use Rattle.rv_replay.proofs.ObserveLemmas.{observes-none}
use Rattle.rv_replay.proofs.OwnWorkLemmas.{IsOwn}

-- ---- the ends

-- all are the same
all-same : {X : Type 0} (x : X) (n i : ℕ) → get_or (replicate n x) i x ≡ x
all-same x zero i = refl
all-same x (suc n) zero = refl
all-same x (suc n) (suc i) = all-same x n i

-- a CPU has nothing of no delivery
own-none : (cpu : ℕ) (list : List ListedDelivery) → own cpu (take 0 list) ≡ no_lane
unfolding own
own-none cpu list = refl

-- before the first turn
pub walk-start : {O : Type 0} (observed : List Task → CoreValue → List Record → O → Type 0) (panics : ℕ → Bool) (old : CoreValue) (list : List ListedDelivery) (o : O) → FitsList old.setup list → WalkSoFar observed panics old old list (replicate 64 false) 0 o o
walk-start observed panics old list o ok =
    let first : List LaneValue = fresh_lanes (works_listed list) in
    let none = fresh-none (works_listed list) in
    record {
      rs = [];
      observes = observes-none observed old o;
      orders = orders-none 0;
      lanes = first;
      places = replicate 64 0;
      line = 0;
      run = run-start panics old first ok.lanes;
      later = λ k d le lt. omega arith;
      apart = λ k j d lt le within. absurd (omega arith);
      stand = λ k d lt. record {
        past = λ on. absurd (true≢false (sym on ∙ all-same false 64 (get_or first k d).work.cpu));
        next = λ off. all-same 0 64 (get_or first k d).work.cpu ∙ sym (ap (λ (l : _). length l.turns) (own-none (get_or first k d).work.cpu list));
      };
      kept = λ order. ap (records_with order) (sym none);
      below = λ k d lt. subst (λ (rs : List Record). All (λ r. r.order < 0) rs) (sym (ok.lanes.fit k d lt).new_lane.no_records) (All-nil (λ (r : Record). r.order < 0));
    }

-- after the last turn
pub walk-end : {O : Type 0} (observed : List Task → CoreValue → List Record → O → Type 0) (panics : ℕ → Bool) (old cur : CoreValue) (list : List ListedDelivery) (ended : List Bool) (at : ℕ) (o o' : O) → length list ≤ at
    → WalkSoFar observed panics old cur list ended at o o' → WalksList observed panics old cur list o o'
walk-end observed panics old cur list ended at o o' all walk = record {
  rs = walk.rs;
  observes = walk.observes;
  lanes = walk.lanes;
  ran = run-end panics old cur (fresh_lanes (works_listed list)) walk.lanes walk.places walk.line walk.run (λ k d lt pend. done (get_or walk.lanes k d) (lanes-own list walk.lanes walk.run.same_works k d lt) (walk.stand k d lt) pend);
  sorted = kept-sorted at walk.rs walk.lanes walk.orders walk.kept;
}
  where
    done : (l : LaneValue) → IsOwn list l.work → Stands list at ended walk.places l → IsPending walk.places l → ⊥
    done l is s pend = go (get_or ended l.work.cpu false) refl
      where
        go : (b : Bool) → get_or ended l.work.cpu false ≡ b → ⊥
        go true e = let p = s.past e in absurd (omega arith)
        go false e =
            let p = s.next e in
            let whole : length (own l.work.cpu (take at list)).turns ≡ length l.work.turns = ap (λ (ds : List ListedDelivery). length (own l.work.cpu ds).turns) (take_all at list all) ∙ ap length (sym is.turns_are) in
            absurd (omega arith)
