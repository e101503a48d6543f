use Rattle.std.proofs.Common.{◌≡◌, ℕ, ◌+◌, ◌-◌, ◌<◌, Bool, true, false, cond, List, [], ◌∷◌, ◌++◌, length, get_or, take, drop, sym, ap, ◌∙◌, arith, append_assoc, append-nil}
use Rattle.std.specs.Prelude.{filter}
use Rattle.std.proofs.lemmas.List.{take_all}
use Rattle.std.proofs.lemmas.List.Elements.{filter_more}
use Rattle.rv_model.specs.declared.work.Delivery.{Delivery}
use Rattle.rv_model.specs.Scripts.{is_enabled_by}
use Rattle.rv_journal.proofs.EnabledLemmas.{kept-fits}
use Rattle.rv_journal.proofs.enabled.keep_enabled.Goals.{then-is_enabled_by+in_ok-push, else-is_enabled_by}
use Rattle.rv_journal.proofs.enabled.keep_enabled.Goals as goal

-- one delivery more is kept where it passes
more-kept : (p : Delivery → Bool) (before kept xs : List Delivery) (i : ℕ) (d : Delivery) → i < length xs → kept ≡ before ++ filter p (take i xs) → (b : Bool) → p (get_or xs i d) ≡ b → kept ++ cond b (get_or xs i d ∷ []) [] ≡ before ++ filter p (take (i + 1) xs)
more-kept p before kept xs i d lt so_far b is =
    let now : List Delivery = cond b (get_or xs i d ∷ []) [] in
    ap (λ (z : List Delivery). z ++ now) so_far ∙ append_assoc before (filter p (take i xs)) now
    ∙ ap (λ (z : List Delivery). before ++ z) (ap (λ (t : Bool). filter p (take i xs) ++ cond t (get_or xs i d ∷ []) []) (sym is) ∙ sym (filter_more p xs i d lt))

pub overflow_cast-result : goal.overflow_cast-result
overflow_cast-result c =
    let fits = kept-fits c.args.switches c.args.deliveries.now c.args.kept.now.items c.loop-delivery.kept.items c.args.from c.args.to c.loop-delivery.delivery-index c.requires.named.0 c.ranges.to.fits c.requires.few c.loop-delivery.invariant in
    record { fits = let is = c.len.ensures in omega arith }

pub loop-delivery-preserved : goal.loop-delivery-preserved
loop-delivery-preserved c =
    let p = is_enabled_by c.args.switches in
    let xs : List Delivery = take (c.args.to - c.args.from) (drop c.args.from c.args.deliveries.now) in
    elim c.if-is_enabled_by.branch [
      | then-is_enabled_by+in_ok-push w ↦ rw (w.kept-is, w.in_ok-push.ensures.items) (more-kept p c.args.kept.now.items c.loop-delivery.kept.items xs c.loop-delivery.delivery-index _ c.loop-delivery-test.true c.loop-delivery.invariant true (sym c.is_enabled_by.ensures ∙ w.if-is_enabled_by.true))
      | else-is_enabled_by w ↦ rw w.kept-is (sym (append-nil c.loop-delivery.kept.items) ∙ more-kept p c.args.kept.now.items c.loop-delivery.kept.items xs c.loop-delivery.delivery-index _ c.loop-delivery-test.true c.loop-delivery.invariant false (sym c.is_enabled_by.ensures ∙ w.if-is_enabled_by.false))
    ]

pub returns-clause-kept : goal.returns-clause-kept
returns-clause-kept c =
    let xs : List Delivery = take (c.args.to - c.args.from) (drop c.args.from c.args.deliveries.now) in
    c.loop-delivery.invariant ∙ ap (λ (z : List Delivery). c.args.kept.now.items ++ filter (is_enabled_by c.args.switches) z) (take_all c.loop-delivery.delivery-index xs c.loop-delivery-test.false)
