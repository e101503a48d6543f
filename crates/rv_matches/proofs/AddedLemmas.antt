-- What is counted once a word is added: where it is found, where it is new and has room, and where it has none.
use Rattle.std.proofs.Common.{◌≡◌, ◌⊎◌, inl, inr, ℕ, ◌+◌, ◌<◌, ◌≤◌, true, false, List, [], ◌∷◌, ◌++◌, length, set, Some, sym, ap, ap₂, ◌∙◌, arith}
use Rattle.std.specs.Prelude.{slice_get}
use Rattle.std.proofs.lemmas.List.{length-map, map-set}
use Rattle.rv_matches.specs.declared.words.Kept.{Kept}
use Rattle.rv_matches.specs.Words.{Counted, CountedValue, counted_value, counted_words, is_kept_among, is_short, kept_words, occurrences, others}
use Rattle.rv_matches.proofs.CountLemmas.{counted_full, counted_new, kept_stay, others_full, others_new, others_stay}
use Rattle.rv_matches.proofs.WordLemmas.{counts}
use Rattle.rv_matches.proofs.KeptLemmas.{get_made, raised, told, words_in, words_kept}

module _ (limit other most : ℕ) (list : List Kept) (words : List (List ℕ)) (word : List ℕ) (was : ◌≡◌ {A = CountedValue} (record { most = limit; words = told list; others = other }) (counted_value most words)) where
  same_most : limit ≡ most
  same_most = ap (λ (v : CountedValue). v.most) was

  same_words : told list ≡ counted_words most words
  same_words = ap (λ (v : CountedValue). v.words) was

  same_others : other ≡ others most words
  same_others = ap (λ (v : CountedValue). v.others) was

  -- the words that are kept
  same_kept : words_in list ≡ kept_words most words
  same_kept = words_kept words list (kept_words most words) same_words

  -- as many are kept as stand in the list
  many : length list ≡ length (kept_words most words)
  many = sym (length-map list (λ (k : Kept). k.word)) ∙ ap length same_kept

  -- a word is kept where it stands in the list
  among : is_kept_among (kept_words most words) word ≡ is_kept_among (words_in list) word
  among = ap (λ ws. is_kept_among ws word) (sym same_kept)

  -- the values with the limit as it is written
  with_limit : (v : CountedValue) → v.most ≡ limit → v.words ≡ counted_words most (words ++ word ∷ []) → v.others ≡ others most (words ++ word ∷ []) → v ≡ counted_value most (words ++ word ∷ [])
  with_limit v limit_is words_are others_are = λ j. record { most = (limit_is ∙ same_most) j; words = words_are j; others = others_are j }

  -- a word that is found
  pub found_added : (place : ℕ) (before now : Kept) → is_kept_among (words_in list) word ≡ true → slice_get (words_in list) place ≡ Some word → ((o : ℕ) → slice_get (words_in list) o ≡ Some word → o ≡ place)
      → slice_get list place ≡ Some before → now.word ≡ before.word → now.count ≡ before.count + 1
      → (v : CountedValue) → v.most ≡ limit → v.words ≡ told (set list place now) → v.others ≡ other → v ≡ counted_value most (words ++ word ∷ [])
  found_added place before now there at once here same more v limit_is words_are others_are =
      let kept : is_kept_among (kept_words most words) word ≡ true = among ∙ there in
      let at_kept : slice_get (kept_words most words) place ≡ Some word = ap (λ ws. slice_get ws place) (sym same_kept) ∙ at in
      let once_kept : (o : ℕ) → slice_get (kept_words most words) o ≡ Some word → o ≡ place = λ o is. once o (ap (λ ws. slice_get ws o) same_kept ∙ is) in
      let both : ◌≡◌ {A = Rattle.std.specs.Prelude.Option Counted} (Some (before.word, before.count)) (Some (word, occurrences words word)) =
      sym (get_made (λ (k : Kept). (k.word, k.count)) list place before here) ∙ ap (λ cs. slice_get cs place) same_words ∙ get_made (λ w. (w, occurrences words w)) (kept_words most words) place word at_kept in
      let counted_is : ◌≡◌ {A = Counted} (before.word, before.count) (word, occurrences words word) = cc in
      let now_is : ◌≡◌ {A = Counted} (now.word, now.count) (word, occurrences words word + 1) = (λ j. (same j, more j)) ∙ ap (λ (c : Counted). (c.0, c.1 + 1)) counted_is in
      with_limit v limit_is
      (words_are ∙ map-set (λ (k : Kept). (k.word, k.count)) list place now ∙ ap₂ (λ (cs : List Counted) (c : Counted). set cs place c) same_words now_is ∙ raised words word (kept_words most words) place at_kept once_kept ∙ ap (counts (words ++ word ∷ [])) (sym (kept_stay most words word kept)))
      (others_are ∙ same_others ∙ sym (others_stay most words word kept))

  -- a new one that has room
  pub new_added : is_kept_among (words_in list) word ≡ false → is_short word ≡ true → length list < limit
      → (v : CountedValue) → v.most ≡ limit → v.words ≡ told list ++ (word, 1) ∷ [] → v.others ≡ other → v ≡ counted_value most (words ++ word ∷ [])
  new_added none short room v limit_is words_are others_are =
      let apart : is_kept_among (kept_words most words) word ≡ false = among ∙ none in
      let fits : length (kept_words most words) < most = omega (arith, many, same_most) in
      with_limit v limit_is
      (words_are ∙ ap (λ ws. ws ++ (word, 1) ∷ []) same_words ∙ sym (counted_new most words word apart short fits))
      (others_are ∙ same_others ∙ sym (others_new most words word apart short fits))

  -- one that is not kept
  pub other_added : is_kept_among (words_in list) word ≡ false → (is_short word ≡ false) ⊎ (limit ≤ length list)
      → (v : CountedValue) → v.most ≡ limit → v.words ≡ told list → v.others ≡ other + 1 → v ≡ counted_value most (words ++ word ∷ [])
  other_added none full v limit_is words_are others_are =
      let apart : is_kept_among (kept_words most words) word ≡ false = among ∙ none in
      let filled : (is_short word ≡ false) ⊎ (most ≤ length (kept_words most words)) = elim full [
        | inl long ↦ inl long
        | inr taken ↦ inr (omega (arith, many, same_most))
      ] in
      with_limit v limit_is
      (words_are ∙ same_words ∙ sym (counted_full most words word apart filled))
      (others_are ∙ ap (λ n. n + 1) same_others ∙ sym (others_full most words word apart filled))
