-- The turns, one after the other.
use Rattle.std.proofs.Common.{◌≡◌, ℕ, ◌<◌, Bool, false, List, length, get_or, set, refl, sym, ap, ◌∙◌, subst, arith, length-set}
use Rattle.std.specs.Prelude.{All}
use Rattle.rv_model.specs.Setups.{Setup}
use Rattle.rv_core.specs.Core.{CoreValue}
use Rattle.rv_core.specs.Deliveries.{FitsDelivery}
use Rattle.rv_feed.specs.Lane.{panics_of}
use Rattle.rv_route.specs.Listing.{ListedDelivery, no_target}
use Rattle.rv_replay.specs.inner.Walks.{WalkSoFar}
use Rattle.rv_replay.proofs.EndLemmas.{walk-start, walk-end}
use Rattle.rv_replay.proofs.FollowLemmas.{items-fit}
use Rattle.rv_replay.proofs.StepLemmas.{walk-skip, walk-played}
use Rattle.rv_replay.proofs.walk.walk.Goals as goal

-- what stands at no place
abbrev nowhere : ListedDelivery
nowhere = record { line = 0; cpu = 0; delivery = record { order = 0; monitor = 0; instance = 0; hit = no_target.hit } }

pub loop-from-init : goal.loop-from-init
loop-from-init g c = (walk-start (g.O.Observer.observed c.args.context.now) (panics_of c.args.reactors.now) c.args.core.now c.args.list.now c.args.observer.now c.requires, omega arith, refl)

pub bounds-ended-cpu : goal.bounds-ended-cpu
bounds-ended-cpu g c =
    let inside : c.loop-from.from < length c.args.list.now = let a = c.loop-from-test.true in let b = c.len.ensures in omega arith in
    let is = c.cpu-cpu.ensures nowhere in
    let few = c.requires.cpus c.loop-from.from nowhere inside in
    omega arith

pub play_turn-requires-clause-fit : goal.play_turn-requires-clause-fit
play_turn-requires-clause-fit g c =
    let same : c.loop-from.core.setup ≡ c.args.core.now.setup = ap (λ (v : CoreValue). v.setup) c.loop-from.invariant.0.run.grows in
    subst (λ (s : Setup). All (λ d. FitsDelivery s d.delivery) c.args.list.now) (sym same) (items-fit c.args.core.now.setup c.args.list.now c.requires)

pub bounds-ended-cpu-then-not-ended-cpu : goal.bounds-ended-cpu-then-not-ended-cpu
bounds-ended-cpu-then-not-ended-cpu g c =
    let inside : c.loop-from.from < length c.args.list.now = let a = c.loop-from-test.true in let b = c.len.ensures in omega arith in
    let is = c.cpu-cpu.ensures nowhere in
    let few = c.requires.cpus c.loop-from.from nowhere inside in
    omega arith

pub loop-from-preserved-in_ok-ended : goal.loop-from-preserved-in_ok-ended
loop-from-preserved-in_ok-ended g c =
    let observed = g.O.Observer.observed c.args.context.now in
    let panics = panics_of c.args.reactors.now in
    let list : List ListedDelivery = c.args.list.now in
    let from = c.loop-from.from in
    let to = c.turn_end-to.result in
    let ends : Bool = c.in_ok-ended.field-0 in
    let t = c.turn_end-to.ensures in
    let is : c.cpu-cpu.result ≡ (get_or list from nowhere).cpu = c.cpu-cpu.ensures nowhere in
    let no : get_or c.loop-from.ended (get_or list from nowhere).cpu false ≡ false = ap (λ (n : ℕ). get_or c.loop-from.ended n false) (sym is) ∙ c.if-not-ended-cpu.true in
    let walk = walk-played observed panics c.args.core.now c.loop-from.core list c.loop-from.ended from to c.args.observer.now c.loop-from.observer nowhere c.requires c.loop-from.invariant.2 t.low t.high t.same t.last c.loop-from.invariant.0 no c.play_turn.new.core c.play_turn.new.observer ends (c.in_ok-ended.ensures nowhere) in (
      subst (λ (n : ℕ). WalkSoFar observed panics c.args.core.now c.play_turn.new.core list (set c.loop-from.ended n ends) to c.args.observer.now c.play_turn.new.observer) (sym is) walk,
      t.high,
      length-set c.loop-from.ended c.cpu-cpu.result ends ∙ c.loop-from.invariant.2,
    )

pub loop-from-preserved : goal.loop-from-preserved
loop-from-preserved g c =
    let list : List ListedDelivery = c.args.list.now in
    let from = c.loop-from.from in
    let t = c.turn_end-to.ensures in
    let is : c.cpu-cpu.result ≡ (get_or list from nowhere).cpu = c.cpu-cpu.ensures nowhere in
    let yes = ap (λ (n : ℕ). get_or c.loop-from.ended n false) (sym is) ∙ c.if-not-ended-cpu.false in (
      walk-skip (g.O.Observer.observed c.args.context.now) (panics_of c.args.reactors.now) c.args.core.now c.loop-from.core list c.loop-from.ended from c.turn_end-to.result c.args.observer.now c.loop-from.observer nowhere c.requires c.loop-from.invariant.2 t.low t.high t.same t.last c.loop-from.invariant.0 yes,
      t.high,
      c.loop-from.invariant.2,
    )

pub returns : goal.returns
returns g c =
    walk-end (g.O.Observer.observed c.args.context.now) (panics_of c.args.reactors.now) c.args.core.now c.loop-from.core c.args.list.now c.loop-from.ended c.loop-from.from c.args.observer.now c.loop-from.observer
    (let a = c.loop-from-test.false in let b = c.len.ensures in omega arith) c.loop-from.invariant.0
