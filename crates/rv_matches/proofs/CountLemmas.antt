-- What is counted of words becomes what is counted of these and one more: a word that is kept, one that has room, and one that has none.
use Rattle.std.proofs.Common.{◌≡◌, ℕ, ◌+◌, ◌<◌, ◌≤◌, Bool, true, false, cond, not, ◌||◌, ◌⊎◌, inl, inr, List, [], ◌∷◌, ◌++◌, length, take, refl, sym, ap, ap₂, ◌∙◌, arith}
use Rattle.std.specs.Prelude.{bytes_eq, filter, count_by}
use Rattle.std.proofs.lemmas.Bool.{cases_Bool, or_parts}
use Rattle.std.proofs.lemmas.List.{append-nil, length-take, length-append, take-append-le, take_all}
use Rattle.std.proofs.lemmas.List.Sums.{sum_by_push, sum_by-cons}
use Rattle.rv_matches.specs.Words.{Counted, is_kept_among, distinct, is_short, kept_words, occurrences, counted_words, others}
use Rattle.rv_matches.proofs.WordLemmas.{counts, itself, either_way, among_push, among_distinct, among_filter, among_filtered, among_taken, kept_again, short_push, occurrences_push, occurrences_none, same_counts}

-- one more word that is kept
counts_push : (words kept : List (List ℕ)) (word : List ℕ) → counts words (kept ++ word ∷ []) ≡ counts words kept ++ (word, occurrences words word) ∷ []
counts_push words [] word = refl
counts_push words (k ∷ kept) word = ap (λ (cs : List Counted). (k, occurrences words k) ∷ cs) (counts_push words kept word)

module _ (most : ℕ) (words : List (List ℕ)) (word : List ℕ) where
  -- a word that is kept was there
  kept_there : is_kept_among (kept_words most words) word ≡ true → is_kept_among words word ≡ true
  kept_there among =
      elim (cases_Bool (is_kept_among words word)) [
        | inl so_it_is ↦ so_it_is
        | inr it_is_not ↦ let none : is_kept_among (kept_words most words) word ≡ false = among_taken most (filter is_short (distinct words)) word (among_filtered is_short (distinct words) word (among_distinct words word ∙ it_is_not)) in cc
      ]

  -- how many are none of the kept words, where these stay
  others_push : kept_words most (words ++ word ∷ []) ≡ kept_words most words → others most (words ++ word ∷ []) ≡ others most words + cond (not (is_kept_among (kept_words most words) word)) 1 0
  others_push stay =
      ap (λ ws. count_by (λ w. not (is_kept_among ws w)) (words ++ word ∷ [])) stay
      ∙ sum_by_push (λ w. cond (not (is_kept_among (kept_words most words) w)) 1 0) words word

  -- one more of a word that is kept
  pub kept_stay : is_kept_among (kept_words most words) word ≡ true → kept_words most (words ++ word ∷ []) ≡ kept_words most words
  kept_stay among = kept_again most words word (kept_there among)

  pub others_stay : is_kept_among (kept_words most words) word ≡ true → others most (words ++ word ∷ []) ≡ others most words
  others_stay among =
      let more : others most words + cond (not (is_kept_among (kept_words most words) word)) 1 0 ≡ others most words = ap (λ b. others most words + cond (not b) 1 0) among ∙ omega arith in
      others_push (kept_stay among) ∙ more

  -- a word that is not kept since it is too long, or since there is no room
  full_stay : (is_short word ≡ false) ⊎ (most ≤ length (kept_words most words)) → kept_words most (words ++ word ∷ []) ≡ kept_words most words
  full_stay full =
      elim (cases_Bool (is_kept_among words word)) [
        | inl so_it_is ↦ kept_again most words word so_it_is
        | inr it_is_not ↦ ap (take most) (short_push words word it_is_not) ∙ (elim full [
          | inl long ↦ ap (λ b. take most (filter is_short (distinct words) ++ cond b (word ∷ []) [])) long ∙ ap (take most) (append-nil (filter is_short (distinct words)))
          | inr room ↦ let short : most ≤ length (filter is_short (distinct words)) = omega (arith, length-take most (filter is_short (distinct words))) in take-append-le most (filter is_short (distinct words)) (cond (is_short word) (word ∷ []) []) short
        ])
      ]

  pub counted_full : is_kept_among (kept_words most words) word ≡ false → (is_short word ≡ false) ⊎ (most ≤ length (kept_words most words)) → counted_words most (words ++ word ∷ []) ≡ counted_words most words
  counted_full none full =
      ap (counts (words ++ word ∷ [])) (full_stay full) ∙ same_counts words word (kept_words most words) none

  pub others_full : is_kept_among (kept_words most words) word ≡ false → (is_short word ≡ false) ⊎ (most ≤ length (kept_words most words)) → others most (words ++ word ∷ []) ≡ others most words + 1
  others_full none full = others_push (full_stay full) ∙ ap (λ b. others most words + cond (not b) 1 0) none

  -- all short words are kept, as there is room
  all_kept : length (kept_words most words) < most → kept_words most words ≡ filter is_short (distinct words)
  all_kept room =
      let few : length (filter is_short (distinct words)) ≤ most = omega (arith, length-take most (filter is_short (distinct words))) in
      take_all most (filter is_short (distinct words)) few

  -- a short word that is not kept though there is room is new
  is_new : is_kept_among (kept_words most words) word ≡ false → is_short word ≡ true → length (kept_words most words) < most → is_kept_among words word ≡ false
  is_new none short room =
      sym (among_filter is_short (distinct words) word short ∙ among_distinct words word)
      ∙ ap (λ ws. is_kept_among ws word) (sym (all_kept room)) ∙ none

  new_kept : is_kept_among (kept_words most words) word ≡ false → is_short word ≡ true → length (kept_words most words) < most → kept_words most (words ++ word ∷ []) ≡ kept_words most words ++ word ∷ []
  new_kept none short room =
      let few : length (filter is_short (distinct words) ++ word ∷ []) ≤ most = omega (arith, length-append (filter is_short (distinct words)) (word ∷ []), ap length (all_kept room)) in
      ap (take most) (short_push words word (is_new none short room) ∙ ap (λ b. filter is_short (distinct words) ++ cond b (word ∷ []) []) short)
      ∙ take_all most (filter is_short (distinct words) ++ word ∷ []) few
      ∙ ap (λ ws. ws ++ word ∷ []) (sym (all_kept room))

  pub counted_new : is_kept_among (kept_words most words) word ≡ false → is_short word ≡ true → length (kept_words most words) < most → counted_words most (words ++ word ∷ []) ≡ counted_words most words ++ (word, 1) ∷ []
  counted_new none short room =
      let once : occurrences (words ++ word ∷ []) word ≡ 1 = occurrences_push words word word ∙ ap₂ (λ n b. n + cond b 1 0) (occurrences_none words word (is_new none short room)) (itself word) in
      ap (counts (words ++ word ∷ [])) (new_kept none short room)
      ∙ counts_push (words ++ word ∷ []) (kept_words most words) word
      ∙ ap₂ (λ (cs : List Counted) (n : ℕ). cs ++ (word, n) ∷ []) (same_counts words word (kept_words most words) none) once

  -- a word that is not the new one is kept as it was
  others_same : (ws : List (List ℕ)) (keeps : List (List ℕ)) → is_kept_among ws word ≡ false → count_by (λ w. not (is_kept_among (keeps ++ word ∷ []) w)) ws ≡ count_by (λ w. not (is_kept_among keeps w)) ws
  others_same [] keeps none = refl
  others_same (w ∷ ws) keeps none =
      let parts = or_parts (bytes_eq word w) (is_kept_among ws word) none in
      let apart : bytes_eq w word ≡ false = either_way w word ∙ parts.0 in
      let one : is_kept_among (keeps ++ word ∷ []) w ≡ is_kept_among keeps w = among_push keeps word w ∙ ap (λ b. is_kept_among keeps w || b) apart ∙ plain (is_kept_among keeps w) in
      sum_by-cons (λ v. cond (not (is_kept_among (keeps ++ word ∷ []) v)) 1 0) w ws
      ∙ ap₂ (λ b n. cond (not b) 1 0 + n) one (others_same ws keeps parts.1)
      ∙ sym (sum_by-cons (λ v. cond (not (is_kept_among keeps v)) 1 0) w ws)
    where
      plain : (b : Bool) → (b || false) ≡ b
      plain true = refl
      plain false = refl

  pub others_new : is_kept_among (kept_words most words) word ≡ false → is_short word ≡ true → length (kept_words most words) < most → others most (words ++ word ∷ []) ≡ others most words
  others_new none short room =
      let among : is_kept_among (kept_words most words ++ word ∷ []) word ≡ true = among_push (kept_words most words) word word ∙ ap₂ (λ a b. a || b) none (itself word) in
      let here : count_by (λ w. not (is_kept_among (kept_words most words ++ word ∷ []) w)) words + cond (not (is_kept_among (kept_words most words ++ word ∷ []) word)) 1 0 ≡ count_by (λ w. not (is_kept_among (kept_words most words ++ word ∷ []) w)) words = ap (λ b. count_by (λ w. not (is_kept_among (kept_words most words ++ word ∷ []) w)) words + cond (not b) 1 0) among ∙ omega arith in
      ap (λ ws. count_by (λ w. not (is_kept_among ws w)) (words ++ word ∷ [])) (new_kept none short room)
      ∙ sum_by_push (λ w. cond (not (is_kept_among (kept_words most words ++ word ∷ []) w)) 1 0) words word
      ∙ here
      ∙ others_same words (kept_words most words) (is_new none short room)
