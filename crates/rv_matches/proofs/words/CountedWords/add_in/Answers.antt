use Rattle.std.proofs.Common.{◌≡◌, ◌<◌, length, rules, Some, refl, sym, ap, ◌∙◌, subst, arith}
use Rattle.std.specs.Prelude.{slice_get}
use Rattle.std.specs.Vec.{vec_len}
use Rattle.std.proofs.lemmas.Option.{slice_get-get_or}
use Rattle.rv_trace.specs.FieldNames.{ArePlaces}
use Rattle.rv_matches.specs.Words.{CountedValue}
use Rattle.rv_matches.proofs.AddedLemmas.{found_added}
use Rattle.rv_matches.proofs.KeptLemmas.{is_there, stands_in, stands_once, stands_within, words_in, words_stay}
use Rattle.rv_matches.proofs.words.CountedWords.add_in.Goals as goal

pub index_mut-requires : goal.index_mut-requires
index_mut-requires c =
    let list = c.self.inside.list.items in
    let at = stands_in list _ c.in-Some.place c.args.word.now (ap (λ (v : CountedValue). v.words) c.self.view_is) c.in-Some.ensures in
    let within : c.in-Some.place < length list = stands_within list c.args.word.now c.in-Some.place at in
    let many : vec_len c.self.inside.list ≡ length list = search rules in
    omega arith

pub invariant_of-self : goal.invariant_of-self
invariant_of-self c =
    let list = c.self.inside.list.items in
    let at = stands_in list _ c.in-Some.place c.args.word.now (ap (λ (v : CountedValue). v.words) c.self.view_is) c.in-Some.ensures in
    let within : c.in-Some.place < length list = stands_within list c.args.word.now c.in-Some.place at in
    let here : slice_get list c.in-Some.place ≡ Some c.index_mut.result.now = slice_get-get_or list c.in-Some.place c.index_mut.result.now within ∙ ap Some (sym c.index_mut.ensures.value) in
    subst (λ ws. ArePlaces ws c.self.inside.places) (sym (words_stay list c.in-Some.place c.index_mut.result.now c.count_again.new.kept here c.count_again.ensures.word)) c.self.invariant

pub invariant_of-self-in-Some : goal.invariant_of-self-in-Some
invariant_of-self-in-Some c =
    let list = c.self.inside.list.items in
    let at = stands_in list _ c.in-Some.place c.args.word.now (ap (λ (v : CountedValue). v.words) c.self.view_is) c.in-Some.ensures in
    let within : c.in-Some.place < length list = stands_within list c.args.word.now c.in-Some.place at in
    let here : slice_get list c.in-Some.place ≡ Some c.index_mut.result.now = slice_get-get_or list c.in-Some.place c.index_mut.result.now within ∙ ap Some (sym c.index_mut.ensures.value) in
    subst (λ ws. ArePlaces ws c.self.inside.places) (sym (words_stay list c.in-Some.place c.index_mut.result.now c.count_again.new.kept here c.count_again.ensures.word)) c.self.invariant

pub returns-in-Some-clause-counts : goal.returns-in-Some-clause-counts
returns-in-Some-clause-counts c = λ most words is.
    let inside = c.self.inside in
    let list = inside.list.items in
    let word = c.args.word.now in
    let place = c.in-Some.place in
    let at = stands_in list _ place word (ap (λ (v : CountedValue). v.words) c.self.view_is) c.in-Some.ensures in
    let within : place < length list = stands_within list word place at in
    let here : slice_get list place ≡ Some c.index_mut.result.now = slice_get-get_or list place c.index_mut.result.now within ∙ ap Some (sym c.index_mut.ensures.value) in
    found_added inside.most inside.others most list words word (c.self.view_is ∙ is) place c.index_mut.result.now c.count_again.new.kept
    (is_there (words_in list) word place at) at (stands_once (words_in list) inside.places c.self.invariant word place at)
    here c.count_again.ensures.word c.in_ok-count_again.ensures.count _ refl refl refl
