use Rattle.std.proofs.Common.{◌≡◌, ◌∙◌, ◌++◌, ◌∷◌, [], List, ℕ, map, ap}
use Rattle.std.proofs.lemmas.List.{map_push}
use Rattle.rv_dot.specs.Labels.{label_events}
use Rattle.rv_dot.specs.inner.Held.{bytes_of}
use Rattle.rv_dot.proofs.LabelLaws.{pieces_more, pieces_end}
use Rattle.rv_dot.proofs.label.label_events.Goals as goal

pub pieces-preserved : goal.pieces-preserved
pieces-preserved c =
    let so_far = c.pieces.invariant in
    let more = pieces_more (map bytes_of c.pieces.found.items) so_far.0 c.pieces.rest.now c.in-Some.piece.now c.in-Some.after.now (label_events c.args.label.now) c.in-Some.ensures.value c.in-Some.ensures.within so_far.1 so_far.2 in
    let found : map bytes_of c.push.new.self.items ≡ map bytes_of c.pieces.found.items ++ c.in-Some.piece.now ∷ [] = ap (map bytes_of) c.in_ok-push.ensures.items ∙ map_push bytes_of c.pieces.found.items c.in-Some.piece in
    (more.0, more.1, rw found more.2)

pub returns : goal.returns
returns c =
    let so_far = c.pieces.invariant in
    let found : map bytes_of c.push-2.new.self.items ≡ map bytes_of c.pieces.found.items ++ c.trimmed.result.now ∷ [] = ap (map bytes_of) c.in_ok-push-2.ensures.items ∙ map_push bytes_of c.pieces.found.items c.trimmed.result in
    found ∙ ap (λ (last : List ℕ). map bytes_of c.pieces.found.items ++ last ∷ []) c.trimmed.ensures ∙ pieces_end (map bytes_of c.pieces.found.items) so_far.0 c.pieces.rest.now (label_events c.args.label.now) c.in_default.ensures.value so_far.2
