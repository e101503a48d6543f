-- Words of a slot while its history grows, and words that are kept.
use Rattle.std.proofs.Common.{◌≡◌, ◌≢◌, inl, inr, ℕ, ◌+◌, ◌-◌, ◌<◌, ◌≤◌, List, [], ◌∷◌, ◌++◌, length, map, reverse, arith, refl, sym, ap, ◌∙◌}
use Rattle.std.specs.Prelude.{All, slice_index}
use Rattle.std.proofs.lemmas.List.{length-append, length_push, map-append, take_all, take-append-le, get_or_append_left, get_or_at}
use Rattle.std.proofs.lemmas.List.Elements.{All-nil, All-head, All-tail, All-push, All-weaker}
use Rattle.std.proofs.lemmas.List.Sorted.{IsNonDecreasingBy-short, IsNonDecreasingBy-push}
use Rattle.rv_model.specs.declared.entry.Entry.{Entry}
use Rattle.rv_model.specs.Judging.{Judge}
use Rattle.rv_model.specs.Setups.{Setup}
use Rattle.rv_model.specs.SharedWords.{word_of}
use Rattle.rv_model.proofs.NumberLemmas.{nat_lt_or}
use Rattle.rv_watch.specs.Words.{word_after, AreWords, last_word, AreApart}

-- functions that agree on a list map it alike
map-same : {X Y : Type 0} (f g : X → Y) (xs : List X) → All (λ x. f x ≡ g x) xs → map f xs ≡ map g xs
map-same f g [] same = refl
map-same f g (x ∷ xs) same = λ i. All-head (λ x. f x ≡ g x) x xs same i ∷ map-same f g xs (All-tail (λ x. f x ≡ g x) x xs same) i

module _ (s : Setup) (js : List Judge) (slot least : ℕ) where
  -- no words
  pub words-none : (h : List Entry) → AreWords s js h slot least []
  words-none h = record { places = []; ascend = IsNonDecreasingBy-short (λ (n : ℕ). n) [] (omega arith); within = All-nil (λ (place : ℕ). (least ≤ place) × (place ≤ length h)); words_are = refl }

  -- the history goes on
  pub words-later : (h rest : List Entry) (words : List ℕ) → AreWords s js h slot least words → AreWords s js (h ++ rest) slot least words
  words-later h rest words are = record {
    places = are.places;
    ascend = are.ascend;
    within = All-weaker (λ (place : ℕ). (least ≤ place) × (place ≤ length h)) (λ (place : ℕ). (least ≤ place) × (place ≤ length (h ++ rest))) (λ place w. (w.0, let more = length-append h rest in let below = w.1 in omega arith)) are.places are.within;
    words_are = are.words_are ∙ map-same (word_after s js h slot) (word_after s js (h ++ rest) slot) are.places
        (All-weaker (λ (place : ℕ). (least ≤ place) × (place ≤ length h)) (λ (place : ℕ). word_after s js h slot place ≡ word_after s js (h ++ rest) slot place) (λ place w. ap (λ (z : List Entry). word_of s js (reverse z) slot) (sym (take-append-le place h rest w.1))) are.places are.within);
  }

  -- the word after the whole history comes to them
  pub words-push : (h : List Entry) (words : List ℕ) → least ≤ length h → AreWords s js h slot least words → AreWords s js h slot least (words ++ word_of s js (reverse h) slot ∷ [])
  words-push h words long are = record {
    places = are.places ++ length h ∷ [];
    ascend = IsNonDecreasingBy-push (λ (n : ℕ). n) are.places (length h) are.ascend (λ d some. (are.within (length are.places - 1) d (omega arith)).1);
    within = All-push (λ (place : ℕ). (least ≤ place) × (place ≤ length h)) are.places (length h) are.within (long, omega arith);
    words_are =
        let whole : word_after s js h slot (length h) ≡ word_of s js (reverse h) slot = ap (λ (z : List Entry). word_of s js (reverse z) slot) (take_all (length h) h (omega arith)) in
        (λ i. are.words_are i ++ sym whole i ∷ []) ∙ sym (map-append (word_after s js h slot) are.places (length h ∷ []));
  }

  -- no beginning is too short
  pub words-anywhere : (h : List Entry) (words : List ℕ) → AreWords s js h slot least words → AreWords s js h slot 0 words
  words-anywhere h words are = record {
    places = are.places;
    ascend = are.ascend;
    within = All-weaker (λ (place : ℕ). (least ≤ place) × (place ≤ length h)) (λ (place : ℕ). (0 ≤ place) × (place ≤ length h)) (λ place w. (omega arith, w.1)) are.places are.within;
    words_are = are.words_are;
  }

-- ---- what is kept

-- the last one
pub last-push : (words : List ℕ) (word : ℕ) → last_word (words ++ word ∷ []) ≡ word
last-push words word = let count = length_push words word in get_or_at words word [] 0 (length (words ++ word ∷ []) - 1) (omega arith)

-- another word behind words that are apart
pub apart-push : (words : List ℕ) (word : ℕ) → AreApart words → (0 < length words → last_word words ≢ word) → AreApart (words ++ word ∷ [])
apart-push words word apart other k within =
    let count = length_push words word in
    let this : slice_index (words ++ word ∷ []) k ≡ slice_index words k = get_or_append_left words (word ∷ []) 0 k (omega arith) in
    elim (nat_lt_or (k + 1) (length words) (omega arith)) [
      | inl inner ↦
          let next : slice_index (words ++ word ∷ []) (k + 1) ≡ slice_index words (k + 1) = get_or_append_left words (word ∷ []) 0 (k + 1) inner in
          λ same. apart k inner (sym this ∙ same ∙ next)
      | inr end ↦
          let next : slice_index (words ++ word ∷ []) (k + 1) ≡ word = get_or_at words word [] 0 (k + 1) (sym end) in
          let place : length words - 1 ≡ k = omega arith in
          let last : last_word words ≡ slice_index words k = ap (slice_index words) place in
          λ same. other (omega arith) (last ∙ sym this ∙ same ∙ next)
    ]
