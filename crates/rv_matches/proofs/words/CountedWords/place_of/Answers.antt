use Rattle.std.proofs.Common.{◌≡◌, None, sym, ap, ◌∙◌}
use Rattle.std.specs.Prelude.{map, option_copied, slice_get}
use Rattle.rv_trace.specs.FieldNames.{place_in}
use Rattle.rv_matches.specs.Words.{Counted, CountedValue, is_kept_among}
use Rattle.rv_matches.proofs.KeptLemmas.{no_place, stands_at, told_words, words_in}
use Rattle.rv_matches.proofs.words.CountedWords.place_of.Goals as goal

pub returns-in-Some-clause-some : goal.returns-in-Some-clause-some
returns-in-Some-clause-some c =
    let list = c.self.inside.list.items in
    let told = sym (told_words list) ∙ ap (λ (v : CountedValue). map (λ (d : Counted). d.0) v.words) c.self.view_is in
    ap (λ ws. slice_get ws c.in-Some.place.now) (sym told)
    ∙ stands_at (words_in list) c.self.inside.places c.self.invariant c.args.word.now c.in-Some.place.now (sym c.get.ensures.value ∙ ap option_copied c.in-Some.is)

pub returns-clause-none : goal.returns-clause-none
returns-clause-none c =
    let list = c.self.inside.list.items in
    let told = sym (told_words list) ∙ ap (λ (v : CountedValue). map (λ (d : Counted). d.0) v.words) c.self.view_is in
    let none : place_in c.self.inside.places c.args.word.now ≡ None = sym c.get.ensures.value ∙ ap option_copied c.in_default.is in
    ap (λ ws. is_kept_among ws c.args.word.now) (sym told) ∙ no_place (words_in list) c.self.inside.places c.self.invariant c.args.word.now none
