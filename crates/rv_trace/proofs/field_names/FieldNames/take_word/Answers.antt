use Rattle.std.proofs.Common.{◌≡◌, List, ℕ, length, refl, sym, ap, ◌∙◌, subst, arith}
use Rattle.std.specs.Prelude.{All, option_copied}
use Rattle.std.proofs.lemmas.Option.{slice_get_within}
use Rattle.rv_text.specs.Places.{between}
use Rattle.rv_trace.specs.FieldNames.{IsPlain}
use Rattle.rv_trace.specs.inner.Naming.{TakesWord}
use Rattle.rv_trace.proofs.WalkLemmas.{plain-at, takes-none, takes-some}
use Rattle.rv_trace.proofs.field_names.FieldNames.take_word.Goals.{then-end-to+in-Some+in_ok-note, then-end-to+in_default, else-end-to}
use Rattle.rv_trace.proofs.field_names.FieldNames.take_word.Goals as goal

pub note-requires : goal.note-requires
note-requires c =
    let names = c.self.inside.names.items in
    let there = c.self.invariant.0.each c.in-Some.index.now (between c.args.fields.now c.args.place c.name_end-end.result) (sym c.get.ensures.value ∙ ap option_copied c.in-Some.is) in
    let inside = slice_get_within names c.in-Some.index.now _ there in
    let many : length names ≡ length c.args.self.now = ap length c.self.view_is in
    omega (arith, inside, many, c.requires.many)

pub returns-clause-takes : goal.returns-clause-takes
returns-clause-takes c =
    let fields = c.args.fields.now in
    let place = c.args.place in
    let to = c.word_end-to.result in
    let end = c.name_end-end.result in
    let names = c.self.inside.names.items in
    let places = c.self.inside.places in
    let plain = plain-at names (subst (λ (ns : List (List ℕ)). All IsPlain ns) (sym c.self.view_is) c.requires.plain) in
    subst (λ (ns : List (List ℕ)). TakesWord fields ns place c.args.found.now c.if-end-to.found) c.self.view_is (
    elim c.if-end-to.branch [
      | then-end-to+in-Some+in_ok-note w ↦ rw w.found-is (
          takes-some fields place to end c.requires.within c.word_end-to.ensures.value c.name_end-end.ensures.low c.name_end-end.ensures.high c.name_end-end.ensures.before c.name_end-end.ensures.at names places c.self.invariant.0 plain
          w.in-Some.index.now _ c.args.found.now w.note.new.self w.if-end-to.true (sym w.get.ensures.value ∙ ap option_copied w.in-Some.is) refl refl w.in_ok-note.ensures
          )
      | then-end-to+in_default w ↦ rw w.found-is (
          takes-none fields place to end c.requires.within c.word_end-to.ensures.value c.name_end-end.ensures.low c.name_end-end.ensures.high c.name_end-end.ensures.before c.name_end-end.ensures.at names places c.self.invariant.0 plain
          c.args.found.now (λ _. sym w.get.ensures.value ∙ ap option_copied w.in_default.is)
          )
      | else-end-to w ↦ rw w.found-is (
          takes-none fields place to end c.requires.within c.word_end-to.ensures.value c.name_end-end.ensures.low c.name_end-end.ensures.high c.name_end-end.ensures.before c.name_end-end.ensures.at names places c.self.invariant.0 plain
          c.args.found.now (λ early. absurd (omega (arith, early, w.if-end-to.false)))
          )
    ]
    )
