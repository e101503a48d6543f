use Rattle.std.proofs.Common.{◌≡◌, Some, List, length, map, refl, sym, ap, ◌∙◌}
use Rattle.std.specs.Prelude.{slice_get}
use Rattle.std.proofs.lemmas.Option.{slice_get_read}
use Rattle.rv_matches.specs.declared.words.Kept.{Kept}
use Rattle.rv_matches.specs.Words.{Counted, CountedValue}
use Rattle.rv_matches.proofs.KeptLemmas.{get_made, told_words}
use Rattle.rv_matches.proofs.WordLemmas.{same_bytes}
use Rattle.rv_matches.proofs.words.CountedWords.held_place.Goals as goal

pub returns-then-is : goal.returns-then-is
returns-then-is c =
    let list = c.self.inside.list.items in
    let slice : List Kept = c.deref.result.now in
    let place = c.args.place in
    let kept : Kept = c.in_ok-kept.kept.now in
    let told = sym (told_words list) ∙ ap (λ (v : CountedValue). map (λ (d : Counted). d.0) v.words) c.self.view_is in
    let read = c.in_ok-kept.ensures.lookup in
    let there : slice_get slice place ≡ Some kept = slice_get_read slice (length slice) place kept refl read.3.0 read.1 in
    let same : kept.word ≡ c.args.word.now = sym (same_bytes c.args.word.now kept.word (sym c.is.ensures ∙ c.if-is.true)) in
    ap (λ ws. slice_get ws place) (sym told)
    ∙ get_made (λ (k : Kept). k.word) list place kept (ap (λ (l : List Kept). slice_get l place) (sym c.deref.ensures.value) ∙ there)
    ∙ ap Some same
