use Rattle.std.proofs.Common.{◌≡◌, ℕ, cond, List, [], ◌∷◌, ◌++◌, length, map, None, Some, false, rules, sym, ap, ap₂, ◌∙◌}
use Rattle.std.specs.Prelude.{bytes_eq}
use Rattle.std.proofs.lemmas.List.{length-map, map_push}
use Rattle.rv_trace.specs.FieldNames.{place_in}
use Rattle.rv_trace.proofs.NamingLemmas.{places-more}
use Rattle.rv_trace.proofs.OrderedLemmas.{map-put}
use Rattle.rv_matches.specs.declared.words.Kept.{Kept}
use Rattle.rv_matches.specs.Words.{Counted, CountedValue, is_kept_among}
use Rattle.rv_matches.proofs.KeptLemmas.{nowhere, told_words, words_in}
use Rattle.rv_matches.proofs.words.CountedWords.keep.Goals as goal

pub invariant_of-self-2 : goal.invariant_of-self-2
invariant_of-self-2 c =
    let list = c.self.inside.list.items in
    let words = words_in list in
    let places = c.self.inside.places in
    let word = c.args.word.now in
    let none : is_kept_among words word ≡ false = ap (λ ws. is_kept_among ws word) (sym (told_words list) ∙ ap (λ (v : CountedValue). map (λ (d : Counted). d.0) v.words) c.self.view_is) ∙ c.requires in
    let new : place_in places word ≡ None = nowhere words places c.self.invariant word none in
    let last : c.len-place.result ≡ length words = (let here : c.len-place.result ≡ length list = search rules in here) ∙ sym (length-map list (λ (k : Kept). k.word)) in
    let put : (other : List ℕ) → place_in c.insert.new.self other ≡ cond (bytes_eq word other) (Some (length words)) (place_in places other) =
    λ other. map-put c.in_ok-key.key.items places c.insert.new.self (Some c.len-place.result) c.in_ok-insert.ensures.updates other
    ∙ ap₂ (λ (k : List ℕ) (n : ℕ). cond (bytes_eq k other) (Some n) (place_in places other)) c.in_ok-key.ensures.items last in
    let longer : words_in c.push.new.self.items ≡ words ++ word ∷ [] =
    ap words_in (c.in-Ok.ensures.items ∙ ap (λ (ks : List Kept). ks ++ record { word = c.in_ok-word.word; count = 1 } ∷ []) c.reserve.ensures.items)
    ∙ map_push (λ (k : Kept). k.word) list (record { word = c.in_ok-word.word; count = 1 })
    ∙ ap (λ (w : List ℕ). words ++ w ∷ []) c.in_ok-word.ensures in
    rw longer (places-more words word places c.insert.new.self c.self.invariant new put)
