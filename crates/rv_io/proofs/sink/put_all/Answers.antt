use Rattle.std.proofs.Common.{◌≡◌, ◌++◌, take, drop, append_assoc, take-append-drop, ap, ◌∙◌}
use Rattle.rv_io.proofs.PutLemmas.{Takes-more}
use Rattle.rv_io.proofs.sink.put_all.Goals as goal

pub loop-rest-preserved : goal.loop-rest-preserved
loop-rest-preserved g c =
    let kept = c.loop-rest.invariant in
    let put = c.in_ok-count.ensures in
    let count = c.in_ok-count.count in
    let rest = c.loop-rest.rest.now in
    let whole : (kept.1 ++ take count rest) ++ c.after_front-rest.result.now ≡ c.args.bytes.now =
    rw c.after_front-rest.ensures (append_assoc kept.1 (take count rest) (drop count rest) ∙ ap (λ s. kept.1 ++ s) (take-append-drop count rest) ∙ kept.2) in
    (put.put.3 ∙ kept.0, kept.1 ++ take count rest, whole, Takes-more _ _ _ kept.1 (take count rest) kept.3 put.put.2)
