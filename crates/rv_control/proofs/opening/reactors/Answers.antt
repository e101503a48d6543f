-- One reactor more.
use Rattle.std.proofs.Common.{◌≡◌, ℕ, ◌+◌, ◌<◌, List, [], ◌∷◌, ◌++◌, map, length, take, get_or, sym, ap, ◌∙◌}
use Rattle.std.proofs.lemmas.List.{map_more}
use Rattle.rv_control.proofs.opening.reactors.Goals as goal

-- what is of one item more
mapped_more : {X Y : Type 0} (f : X → Y) (xs : List X) (i : ℕ) (x : X) (done : List Y) → i < length xs → x ≡ get_or xs i x → done ≡ map f (take i xs) → done ++ f x ∷ [] ≡ map f (take (i + 1) xs)
mapped_more {X} {Y} f xs i x done lt is so_far = ap (λ (z : List Y). z ++ f x ∷ []) so_far ∙ ap (λ (z : X). map f (take i xs) ++ f z ∷ []) is ∙ sym (map_more f xs i x lt)

pub loop-monitor-preserved : goal.loop-monitor-preserved
loop-monitor-preserved c =
    c.in_ok-push.ensures.items ∙ mapped_more (λ m. m.reactor) c.args.monitors.now c.loop-monitor.monitor-index c.monitor-item.result c.loop-monitor.reactors.items c.loop-monitor-test.true c.monitor-item.is c.loop-monitor.invariant
