-- The generated trace is accepted, and no two CPUs have deliveries for one slot of it.
use Rattle.std.proofs.Common.{◌≡◌, ℕ, suc, ◌+◌, ◌*◌, ◌<◌, ◌≤◌, ◌==◌, inl, inr, Bool, true, false, cond, List, [], ◌∷◌, ◌++◌, length, get_or, Option, Some, refl, sym, ◌∙◌, ap, subst, arith}
use Rattle.std.specs.Prelude.{All, slice_get}
use Rattle.std.proofs.lemmas.Bool.{eqb-true}
use Rattle.std.proofs.lemmas.List.Elements.{All-nil, All-cons, All-contains}
use Rattle.std.proofs.lemmas.List.Folds.{Any-from_list_any}
use Rattle.rv_model.specs.declared.record.Task.{Task}
use Rattle.rv_model.specs.declared.work.Delivery.{Delivery}
use Rattle.rv_model.specs.Setups.{slot_of}
use Rattle.rv_model.specs.Works.{Work}
use Rattle.rv_trace.proofs.AscendLemmas.{trace_ascends}
use Rattle.rv_gen.specs.Generated.{trace_text}
use Rattle.rv_laws.specs.SingleWriter.{is_named, HasOneWriter}
use Rattle.rv_laws.proofs.CpuLemmas.{slot-later}
use Rattle.rv_route.specs.Lanes.{LaneValue}
use Rattle.rv_route.specs.LineByLine.{no_lane, works_from, works_of, routed_of}
use Rattle.rv_route.proofs.FiredLemmas.{line_by_line}
use Rattle.rv_generated.specs.Accepted.{generated_shape, TraceIsAccepted}
use Rattle.rv_generated.specs.GeneratedBound.{generated_bound}
use Rattle.rv_generated.proofs.OwnLemmas.{IsOwn}
use Rattle.rv_generated.proofs.WholeLemmas.{IsReached, lines-reached}

module _ (tasks : List Task) where
  -- a work of one of the 64 CPUs, whose deliveries belong to it
  record IsOwnWork (w : Work) : Type 0 where
    below : w.cpu < 64
    own : All (IsOwn tasks w.cpu) w.deliveries

  -- lanes whose deliveries belong to their CPUs make such works
  own-works : (cpu : ℕ) (lanes : List LaneValue) → cpu + length lanes ≤ 64 → ((i : ℕ) → i < length lanes → All (IsOwn tasks (cpu + i)) (get_or lanes i no_lane).deliveries) → All IsOwnWork (works_from cpu lanes)
  own-works cpu [] few own = All-nil IsOwnWork
  own-works cpu (lane ∷ lanes) few own =
      let here : cpu + 0 ≡ cpu = omega arith in
      go (length lane.deliveries == 0) (subst (λ (c : ℕ). All (IsOwn tasks c) lane.deliveries) here (own 0 (omega arith)))
      (own-works (cpu + 1) lanes (omega arith) (λ i h. let next : cpu + suc i ≡ cpu + 1 + i = omega arith in subst (λ (c : ℕ). All (IsOwn tasks c) (get_or lanes i no_lane).deliveries) next (own (suc i) (omega arith))))
    where
      go : (none : Bool) → All (IsOwn tasks cpu) lane.deliveries → All IsOwnWork (works_from (cpu + 1) lanes)
          → All IsOwnWork (cond none [] (record { cpu = cpu; turns = lane.turns; deliveries = lane.deliveries } ∷ []) ++ works_from (cpu + 1) lanes)
      go true own later = later
      go false own later = All-cons IsOwnWork (record { cpu = cpu; turns = lane.turns; deliveries = lane.deliveries }) (works_from (cpu + 1) lanes) (record { below = omega arith; own = own }) later

  -- how many slots the monitors have
  abbrev shape : List ℕ
  shape = generated_shape (length tasks)

  -- a delivery of a work for a slot, which belongs to the work's CPU
  record IsFor (slot : ℕ) (w : Work) : Type 0 where
    delivery : Delivery
    at : slot_of shape delivery.monitor delivery.instance ≡ slot
    own : IsOwn tasks w.cpu delivery
    below : w.cpu < 64

  -- where one is named, there is one
  named-one : (slot : ℕ) (w : Work) → IsOwnWork w → is_named shape slot w.deliveries ≡ true → IsFor slot w
  named-one slot w is named =
      let any = Any-from_list_any (λ d. slot_of shape d.monitor d.instance == slot) w.deliveries named in
      record {
        delivery = any.1;
        at = eqb-true _ _ any.4;
        own = All-contains (IsOwn tasks w.cpu) w.deliveries any.1 is.own (any.0, any.2, any.3);
        below = is.below;
      }

  -- a slot of the first monitor
  first-slot : (monitor instance : ℕ) → monitor ≡ 0 → slot_of shape monitor instance ≡ instance
  first-slot monitor instance is = ap (λ m. slot_of shape m instance) is ∙ (let slot : slot_of shape 0 instance ≡ 0 + instance = refl in omega arith)

  -- a slot of the second one
  second-slot : (monitor instance : ℕ) → monitor ≡ 1 → slot_of shape monitor instance ≡ 64 + instance
  second-slot monitor instance is =
      ap (λ m. slot_of shape m instance) is ∙ slot-later 64 (length tasks ∷ []) 0 instance
      ∙ (let slot : slot_of (length tasks ∷ []) 0 instance ≡ 0 + instance = refl in omega arith)

  -- a task is one task
  one-task : (a b : Task) → ◌≡◌ {A = Option Task} (Some a) (Some b) → a ≡ b
  one-task a b is = cc

  -- a slot belongs to one CPU
  one-cpu : (slot : ℕ) (w v : Work) → IsFor slot w → IsFor slot v → w.cpu ≡ v.cpu
  one-cpu slot w v a b =
      let at = a.at in
      let at' = b.at in
      let low = a.below in
      let low' = b.below in
      elim a.own [
        | inl first ↦ elim b.own [
          | inl other ↦ (let here = first-slot a.delivery.monitor a.delivery.instance first.0 in let there = first-slot b.delivery.monitor b.delivery.instance other.0 in let own = first.1 in let own' = other.1 in omega arith)
          | inr other ↦ absurd (let here = first-slot a.delivery.monitor a.delivery.instance first.0 in let there = second-slot b.delivery.monitor b.delivery.instance other.0 in let own = first.1 in omega arith)
        ]
        | inr second ↦ elim b.own [
          | inl other ↦ absurd (let here = second-slot a.delivery.monitor a.delivery.instance second.0 in let there = first-slot b.delivery.monitor b.delivery.instance other.0 in let own = other.1 in omega arith)
          | inr other ↦ (let here = second-slot a.delivery.monitor a.delivery.instance second.0 in let there = second-slot b.delivery.monitor b.delivery.instance other.0 in
              let same : a.delivery.instance ≡ b.delivery.instance = omega arith in
              let task : second.1.0 ≡ other.1.0 = one-task second.1.0 other.1.0 (sym second.1.1 ∙ ap (slice_get tasks) same ∙ other.1.1) in
              let pid : second.1.0.pid ≡ other.1.0.pid = ap (λ (t : Task). t.pid) task in
              let first = second.1.2 in let last = second.1.3 in let first' = other.1.2 in let last' = other.1.3 in omega arith)
        ]
      ]

  -- so each slot has one writer
  one-writer : (works : List Work) → All IsOwnWork works → (slot : ℕ) → HasOneWriter shape works slot
  one-writer works own slot w v has has' named named' = one-cpu slot w v (named-one slot w (All-contains IsOwnWork works w own has) named) (named-one slot v (All-contains IsOwnWork works v own has') named')

-- the trace of so many blocks is accepted
pub trace-accepted : TraceIsAccepted
trace-accepted blocks few =
    let reached : IsReached (trace_text blocks) (64 * blocks) = lines-reached (64 * blocks) (omega arith) in
    let own = reached.own in
    let many : length reached.routes.lanes ≡ 64 = own.many in
    record {
      lines = reached.lines;
      routed = record { tasks = reached.routes.tasks; works = works_of reached.routes.lanes };
      read = reached.read;
      routes = line_by_line (trace_text blocks) generated_bound.monitors generated_bound.rules reached.lines (trace_ascends (trace_text blocks) reached.lines reached.read) ∙ ap routed_of reached.routed;
      one_writer = one-writer reached.routes.tasks (works_of reached.routes.lanes)
          (own-works reached.routes.tasks 0 reached.routes.lanes (omega arith) (λ i h. let place : i ≡ 0 + i = omega arith in subst (λ (c : ℕ). All (IsOwn reached.routes.tasks c) (get_or reached.routes.lanes i no_lane).deliveries) place (own.lanes i)));
    }
