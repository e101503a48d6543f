use Rattle.std.proofs.Common.{◌≡◌, ℕ, List, length, Some, rules, sym, ap, ◌∙◌}
use Rattle.std.specs.Prelude.{slice_get}
use Rattle.std.proofs.lemmas.Option.{slice_get_read}
use Rattle.rv_trace.proofs.WalkedLemmas.{all-inside, search-none, search-some}
use Rattle.rv_trace.proofs.field_names.FieldNames.search.Goals.{in-Some+in_ok-note, in_default}
use Rattle.rv_trace.proofs.field_names.FieldNames.search.Goals as goal

pub loop-place-preserved : goal.loop-place-preserved
loop-place-preserved c =
    let size : c.len-place-end.result ≡ length c.self.inside.names.items = search rules in
    let this : slice_get c.args.self.now c.loop-place.place ≡ Some c.index.result.now =
    ap (λ (names : List (List ℕ)). slice_get names c.loop-place.place) (sym c.self.view_is)
    ∙ slice_get_read c.self.inside.names.items c.len-place-end.result c.loop-place.place c.index.result.now size c.loop-place-test.true c.index.ensures in
    elim c.match-held_field.branch [
      | in-Some+in_ok-note w ↦
          rw w.found-is (search-some c.args.fields.now c.args.self.now c.loop-place.place c.index.result.now w.in-Some.span c.loop-place.found w.note.new.self c.loop-place.invariant this
          (sym c.held_field.ensures.value ∙ w.in-Some.is) (w.in-Some.ensures.order, w.in-Some.ensures.inside) w.in_ok-note.ensures)
      | in_default w ↦
          rw w.found-is (search-none c.args.fields.now c.args.self.now c.loop-place.place c.index.result.now c.loop-place.found c.loop-place.invariant this (sym c.held_field.ensures.value ∙ w.in_default.is))
    ]

pub returns-clause-inside : goal.returns-clause-inside
returns-clause-inside c = all-inside c.args.fields.now c.loop-place.found c.loop-place.invariant.inside
