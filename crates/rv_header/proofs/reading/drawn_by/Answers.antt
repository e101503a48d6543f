use Rattle.std.proofs.Common.{◌≡◌, ◌∙◌, map, ap, drop, refl, subst}
use Rattle.std.specs.Prelude.{IfOk}
use Rattle.rv_dot.specs.Canonical.{Drawing, drawing_text}
use Rattle.rv_dot.specs.inner.Held.{bytes_of}
use Rattle.rv_header.specs.inner.Taking.{pieces, piece_from, members_in, drawing_by}
use Rattle.rv_header.proofs.reading.drawn_by.Goals as goal

pub returns : goal.returns
returns c =
    let rows : map bytes_of c.behind_two.result.now ≡ drop 2 (pieces 123 c.args.rows.now) = c.behind_two.ensures ∙ ap (drop 2) (ap (map bytes_of) c.deref.ensures.value ∙ c.in_ok-lines.ensures) in
    let marks : map bytes_of c.deref-2.result.now ≡ members_in (piece_from 123 1 c.args.marks.now) = ap (map bytes_of) c.deref-2.ensures.value ∙ c.in_ok-marks.ensures ∙ ap members_in c.in_ok-piece_from.ensures in
    let made = drawing_by c.args.name.now (map bytes_of c.args.states.now) (map bytes_of c.args.events.now) in
    let same : made (map bytes_of c.behind_two.result.now) (map bytes_of c.deref-2.result.now) ≡ made (drop 2 (pieces 123 c.args.rows.now)) (members_in (piece_from 123 1 c.args.marks.now)) = rw (rows, marks) refl in
    subst (λ (d : Drawing). IfOk c.drawn.result (λ text. text ≡ drawing_text d)) same c.drawn.ensures
