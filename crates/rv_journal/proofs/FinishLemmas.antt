-- A merge begins, and where no lane's next step is ready it is done.
use Rattle.std.proofs.Common.{◌≡◌, ℕ, ◌+◌, ◌<◌, ◌⊎◌, inl, inr, List, [], ◌∷◌, ◌++◌, length, get_or, sym, ap, ◌∙◌, subst, arith, sum, length-append, add-one}
use Rattle.std.specs.Prelude.{All}
use Rattle.std.proofs.Math.ListN.{get_or-append}
use Rattle.std.proofs.Math.Seq.{get_or-append_seam}
use Rattle.rv_model.specs.declared.entry.Entry.{Entry}
use Rattle.rv_model.specs.declared.work.Turn.{Turn}
use Rattle.rv_model.specs.Setups.{Setup}
use Rattle.rv_model.specs.Works.{IsWork, NamesEach}
use Rattle.rv_core.specs.Setup.{IsSetup}
use Rattle.rv_journal.specs.declared.counted.Counted.{Counted}
use Rattle.rv_journal.specs.declared.steps.LaneProgress.{LaneProgress}
use Rattle.rv_journal.specs.declared.steps.VersionInterval.{VersionInterval}
use Rattle.rv_journal.specs.declared.steps.MergeStep.{MergeStep}
use Rattle.rv_journal.specs.CountedLanes.{CountedLaneValue}
use Rattle.rv_journal.specs.MergeSteps.{items_of, steps_from}
use Rattle.rv_journal.specs.inner.MergeSteps.{rest_of, IsCursor, held_by, total}
use Rattle.rv_journal.specs.inner.MergeStates.{IsUnderWay, NextIsJustified, step_entries}
use Rattle.rv_journal.specs.inner.MergePending.{Pending, pending_at, lane_pending}
use Rattle.rv_journal.specs.Merging.{CanMerge, IsMergeOf}
use Rattle.rv_journal.specs.inner.Merging.{NumbersFit, lanes_of}
use Rattle.rv_journal.specs.inner.MergeRuns.{Run, merge_run, lane_at, first_cursor, rests, IsGiven, IsMerging, NoneReady, NewLanes}
use Rattle.rv_journal.proofs.MergeOrderLemmas.{order-first}
use Rattle.rv_journal.proofs.MergeStepLemmas.{steps-opens, steps-none, first-cursor}
use Rattle.rv_journal.proofs.MergedLemmas.{merged}
use Rattle.rv_journal.proofs.ProgressLemmas.{all-ended, all-placed}
use Rattle.rv_journal.proofs.TotalLemmas.{total-same}
use Rattle.rv_journal.proofs.StartLemmas.{names-at, script-items, starts}
use Rattle.rv_journal.proofs.ObservedLemmas.{all_items, all-told, owned}
use Rattle.rv_journal.proofs.WholeLemmas.{whole}

-- before its first step a lane holds all that its items hold
held-first : (g : VersionInterval) (items : List Counted) (turns : List Turn) → NamesEach 0 turns (length items) → items_of (steps_from items 0 turns) ≡ items → held_by g.slot g.version (steps_from items 0 turns) ≡ lane_pending g items
held-first g items [] names all =
    let none : steps_from items 0 [] ≡ [] = steps-none items 0 (let z : 0 ≡ length items = names in omega arith) in
    let empty : items ≡ [] = sym all ∙ ap items_of none in
    ap (held_by g.slot g.version) none ∙ sym (ap (lane_pending g) empty)
held-first g items (turn ∷ turns) names all =
    let opens = steps-opens items 0 turn turns names.0 in
    let rest : items_of (steps_from items 0 turns) ≡ items = sym (ap items_of opens) ∙ all in
    ap (held_by g.slot g.version) opens ∙ ap (lane_pending g) rest

-- no lane is counted
pub new-none : (lanes : List CountedLaneValue) (cursors : List LaneProgress) (pending : Pending) → cursors ≡ [] → ((g : VersionInterval) → pending_at pending g ≡ 0) → NewLanes lanes 0 cursors pending
new-none lanes cursors pending empty none = record { many = ap length empty; first = λ l lt. absurd (omega arith); permitted = none }

-- one lane more
pub new-more : (lanes : List CountedLaneValue) (i : ℕ) (cursors : List LaneProgress) (pending waits' : Pending) → NewLanes lanes i cursors pending → ((g : VersionInterval) → pending_at waits' g ≡ pending_at pending g + lane_pending g (lane_at lanes i).counted) → NewLanes lanes (i + 1) (cursors ++ first_cursor ∷ []) waits'
new-more lanes i cursors pending waits' new grown = record {
  many = (let n = new.many in let sum' = length-append cursors (first_cursor ∷ []) in omega arith);
  first = λ l lt. elim (last l lt) [
    | inl is ↦ ap (λ (k : ℕ). get_or (cursors ++ first_cursor ∷ []) k first_cursor) (is ∙ sym new.many) ∙ get_or-append_seam cursors first_cursor [] first_cursor
    | inr less ↦ get_or-append cursors (first_cursor ∷ []) first_cursor l (let n = new.many in omega arith) ∙ new.first l less
  ];
  permitted = λ g. (let had = new.permitted g in let more = grown g in
      let sum' : total (λ l. lane_pending g (lane_at lanes l).counted) (i + 1) ≡ total (λ l. lane_pending g (lane_at lanes l).counted) i + lane_pending g (lane_at lanes i).counted = ap (total (λ l. lane_pending g (lane_at lanes l).counted)) (add-one i) in
      omega arith);
}
  where
    last : (l : ℕ) → l < i + 1 → (l ≡ i) ⊎ (l < i)
    last l lt = grind arith

module _ (setup : Setup) (seen : List Entry) (lanes : List CountedLaneValue) (can : CanMerge setup seen lanes) (k : IsSetup setup) (works : All (λ l. IsWork l.work) lanes) (numbers : All (λ l. All NumbersFit l.counted) lanes) where
  -- the merge is given these lanes, with all items that they have as its whole list
  given : IsGiven (merge_run setup seen) lanes (all_items setup seen lanes can k numbers)
  given = record {
    can = can;
    is_setup = k;
    numbers = numbers;
    works = works;
    entries_are = (whole setup seen lanes can k numbers).entries_are;
    observed = all-told setup seen lanes can k numbers;
    owned = owned setup seen lanes can k numbers;
  }

  -- nothing is placed
  pub begins : (cursors : List LaneProgress) (changes : List ℕ) (pending : Pending) → NewLanes lanes (length lanes) cursors pending → length changes ≡ sum setup.shape → ((slot : ℕ) → slot < sum setup.shape → get_or changes slot 0 ≡ 0)
      → IsMerging (merge_run setup seen) lanes [] cursors changes pending
  begins cursors changes pending new slots none =
      let first : (l : ℕ) → l < length lanes → rests lanes cursors l ≡ (lanes_of lanes).script l = λ l lt. ap (rest_of (lane_at lanes l)) (new.first l lt) in
      record {
        whole = all_items setup seen lanes can k numbers;
        given = given;
        many = new.many;
        cursors_are = λ l lt. subst (IsCursor (lane_at lanes l)) (sym (new.first l lt)) (first-cursor (lane_at lanes l) (names-at setup seen lanes can k numbers works l lt));
        under_way = same-steps first (starts setup seen lanes can k numbers works);
        slots = slots;
        changes_are = none;
        waits_are = λ g. new.permitted g ∙ total-same (λ l. lane_pending g (lane_at lanes l).counted) (λ l. held_by g.slot g.version (rests lanes cursors l)) (length lanes)
            (λ l lt. sym (ap (held_by g.slot g.version) (first l lt) ∙ held-first g (lane_at lanes l).counted (lane_at lanes l).work.turns (names-at setup seen lanes can k numbers works l lt) (script-items setup seen lanes can k numbers works l lt)));
        order = order-first lanes cursors first;
      }
    where
      same-steps : ((l : ℕ) → l < length lanes → rests lanes cursors l ≡ (lanes_of lanes).script l) → IsUnderWay setup (all_items setup seen lanes can k numbers) (lanes_of lanes) [] (lanes_of lanes).script → IsUnderWay setup (all_items setup seen lanes can k numbers) (lanes_of lanes) [] (rests lanes cursors)
      same-steps first u = record {
        marks = u.marks;
        marks_are = u.marks_are;
        left = λ l lt. ap items_of (first l lt) ∙ u.left l lt;
        divides = u.divides;
        quiet = λ slot r less l lt. ap (held_by slot r) (first l lt) ∙ u.quiet slot r less l lt;
        justified = λ l lt. subst (λ (z : List MergeStep). NextIsJustified ((lanes_of lanes).seat l) [] z) (sym (first l lt)) (u.justified l lt);
        stands = u.stands;
        machine = u.machine;
        sound = u.sound;
        acts = u.acts;
        fits = u.fits;
        others = u.others;
        lists = λ l lt. ap (λ (z : List MergeStep). step_entries ((lanes_of lanes).seat l) setup.switches z) (first l lt);
      }

-- where no lane can go on the merge is done
pub done : (run : Run) (lanes : List CountedLaneValue) (placed : List Entry) (cursors : List LaneProgress) (changes : List ℕ) (pending : Pending) → IsMerging run lanes placed cursors changes pending → NoneReady lanes placed cursors → IsMergeOf run.setup run.seen lanes placed
done run lanes placed cursors changes pending m none =
    let ended = all-ended run.setup m.whole (lanes_of lanes) m.given.observed m.given.owned placed (rests lanes cursors) m.under_way none in
    let all = all-placed run.setup m.whole (lanes_of lanes) m.given.observed m.given.owned placed (rests lanes cursors) m.under_way none in
    merged run.setup run.seen lanes m.given.can m.given.is_setup m.given.numbers m.given.works m.whole m.given.entries_are placed (rests lanes cursors) m.under_way ended all
