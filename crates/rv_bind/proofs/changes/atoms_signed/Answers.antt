use Rattle.std.proofs.Common.{◌≡◌, ◌+◌, ◌*◌, ◌^◌, Bool, [], sym, ap, ◌∙◌, if◌then◌else◌}
use Rattle.std.specs.Prelude.{slice_index_or}
use Rattle.std.specs.List.{list_any}
use Rattle.std.proofs.lemmas.Option.{get_or_from_slice_get}
use Rattle.rv_ltl.specs.inner.Texts.{texts}
use Rattle.rv_bind.specs.Changes.{is_signed_name}
use Rattle.rv_bind.proofs.ChangeLemmas.{number_none, number_more, number_below}
use Rattle.rv_bind.proofs.changes.atoms_signed.Goals as goal

pub loop-place-init : goal.loop-place-init
loop-place-init c = number_none _

pub with_place-set-requires-clause-below : goal.with_place-set-requires-clause-below
with_place-set-requires-clause-below c = number_below _ c.loop-place.place c.loop-place.set c.loop-place.invariant

pub loop-place-preserved : goal.loop-place-preserved
loop-place-preserved c =
    let atom : slice_index_or c.args.atoms.now c.loop-place.place [] ≡ c.bytes.result.now = get_or_from_slice_get c.args.atoms.now c.loop-place.place c.get.result.now [] c.get.ensures ∙ sym c.bytes.ensures in
    let is_in : list_any (is_signed_name c.args.sign (slice_index_or c.args.atoms.now c.loop-place.place [])) (texts c.args.words.now) ≡ c.any_says-is_in.result =
    ap (λ a. list_any (is_signed_name c.args.sign a) (texts c.args.words.now)) atom ∙ sym c.any_says-is_in.ensures in
    number_more _ c.loop-place.place c.loop-place.set c.loop-place.invariant c.with_place-set.result
    (c.with_place-set.ensures ∙ ap (λ (b : Bool). (if b then 1 else 0) * 2 ^ c.loop-place.place + c.loop-place.set) (sym is_in))
