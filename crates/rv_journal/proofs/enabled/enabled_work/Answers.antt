use Rattle.std.proofs.Common.{◌≡◌, ◌++◌, ◌≤◌, List, length, take, subst, sym, ap, ◌∙◌}
use Rattle.std.specs.Prelude.{filter, slice_range, slice_index_or}
use Rattle.std.proofs.lemmas.List.{take_all}
use Rattle.rv_model.specs.declared.work.Delivery.{Delivery}
use Rattle.rv_model.specs.declared.work.Turn.{Turn}
use Rattle.rv_model.specs.Scripts.{is_enabled_by}
use Rattle.rv_model.specs.Works.{Work, IsWork}
use Rattle.rv_journal.proofs.EnabledLemmas.{may-show, shown-next, shown-whole}
use Rattle.rv_journal.proofs.enabled.enabled_work.Goals as goal

-- the turn that a read past the end gives
abbrev no_turn : Turn
no_turn = record { line = 0; from = 0; to = 0 }

pub keep_enabled-requires-clause-named : goal.keep_enabled-requires-clause-named
keep_enabled-requires-clause-named c =
    let work : IsWork c.args.work = subst IsWork c.work.view_is c.work.invariant in
    let turns : c.deref-turn-items.result.now ≡ c.args.work.turns = c.deref-turn-items.ensures.value ∙ ap (λ (w : Work). w.turns) c.work.view_is in
    let deliveries : c.as_slice.result.now ≡ c.args.work.deliveries = c.as_slice.ensures.value ∙ ap (λ (w : Work). w.deliveries) c.work.view_is in
    let may = may-show c.args.switches c.args.work c.deref-turn-items.result.now c.loop-turn.turn-index no_turn c.loop-turn.turns.items c.loop-turn.deliveries.items work turns c.loop-turn-test.true c.loop-turn.invariant.so_far in
    (may.named.0, subst (λ (ds : List Delivery). (slice_index_or c.deref-turn-items.result.now c.loop-turn.turn-index no_turn).to ≤ length ds) (sym deliveries) may.named.1)

pub keep_enabled-requires-clause-few : goal.keep_enabled-requires-clause-few
keep_enabled-requires-clause-few c =
    let work : IsWork c.args.work = subst IsWork c.work.view_is c.work.invariant in
    let turns : c.deref-turn-items.result.now ≡ c.args.work.turns = c.deref-turn-items.ensures.value ∙ ap (λ (w : Work). w.turns) c.work.view_is in
    (may-show c.args.switches c.args.work c.deref-turn-items.result.now c.loop-turn.turn-index no_turn c.loop-turn.turns.items c.loop-turn.deliveries.items work turns c.loop-turn-test.true c.loop-turn.invariant.so_far).few

pub loop-turn-preserved : goal.loop-turn-preserved
loop-turn-preserved c =
    let items : List Turn = c.deref-turn-items.result.now in
    let turn : Turn = slice_index_or items c.loop-turn.turn-index no_turn in
    let old : List Delivery = c.loop-turn.deliveries.items in
    let more : List Delivery = c.keep_enabled.new.kept.items in
    let deliveries : c.as_slice.result.now ≡ c.args.work.deliveries = c.as_slice.ensures.value ∙ ap (λ (w : Work). w.deliveries) c.work.view_is in
    let kept : more ≡ old ++ filter (is_enabled_by c.args.switches) (slice_range c.args.work.deliveries turn.from turn.to) =
    c.in_ok-end.ensures.kept ∙ ap (λ (ds : List Delivery). old ++ filter (is_enabled_by c.args.switches) (slice_range ds turn.from turn.to)) deliveries in
    let from = c.loop-turn.invariant.end_is in
    let to = c.in_ok-end.ensures.end in
    record {
      so_far = shown-next c.args.switches c.args.work.deliveries items c.loop-turn.turn-index no_turn c.loop-turn.turns.items c.push.new.self.items old more (record { line = turn.line; from = c.loop-turn.end; to = c.in_ok-end.end }) c.loop-turn-test.true c.loop-turn.invariant.so_far
          kept (λ i. record { line = turn.line; from = from i; to = to i }) c.in_ok-push.ensures.items;
      end_is = to;
    }

pub returns : goal.returns
returns c =
    let work : IsWork c.args.work = subst IsWork c.work.view_is c.work.invariant in
    let turns : c.deref-turn-items.result.now ≡ c.args.work.turns = c.deref-turn-items.ensures.value ∙ ap (λ (w : Work). w.turns) c.work.view_is in
    let all : take c.loop-turn.turn-index c.deref-turn-items.result.now ≡ c.deref-turn-items.result.now = take_all c.loop-turn.turn-index c.deref-turn-items.result.now c.loop-turn-test.false in
    shown-whole c.args.switches c.args.work (record { cpu = c.work.inside.cpu; turns = c.loop-turn.turns.items; deliveries = c.loop-turn.deliveries.items }) (take c.loop-turn.turn-index c.deref-turn-items.result.now) work (all ∙ turns) (ap (λ (w : Work). w.cpu) c.work.view_is)
    c.loop-turn.invariant.so_far
