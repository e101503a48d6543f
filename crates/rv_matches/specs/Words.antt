-- Words by first appearance, each with how often it was there: the first ones that are not too long.
use Rattle.std.specs.Prelude.{◌≡◌, ℕ, Bool, not, nat_le, bytes_eq, List, [], ◌∷◌, ◌++◌, length, map, take, filter, fold, count_by, if◌then◌else◌}
use Rattle.std.specs.List.{list_any}
use Rattle.rv_matches.specs.declared.words.TheConstants.{LONGEST}

-- a word, and how often it was there
abbrev pub Counted : Type 0
Counted = List ℕ × ℕ

-- the word is one of these
abbrev pub is_kept_among : List (List ℕ) → List ℕ → Bool
is_kept_among words word = list_any (bytes_eq word) words

-- the words, each once, by first appearance
abbrev pub with_word : List (List ℕ) → List ℕ → List (List ℕ)
with_word words word = if is_kept_among words word then words else words ++ word ∷ []

abbrev pub distinct : List (List ℕ) → List (List ℕ)
distinct words = fold with_word [] words

-- the word is not too long to be kept
abbrev pub is_short : List ℕ → Bool
is_short word = nat_le (length word) LONGEST

-- the words that are kept: at most so many
abbrev pub kept_words : ℕ → List (List ℕ) → List (List ℕ)
kept_words most words = take most (filter is_short (distinct words))

-- how often the word is there
abbrev pub occurrences : List (List ℕ) → List ℕ → ℕ
occurrences words word = count_by (bytes_eq word) words

-- the words that are kept, with how often each is there
abbrev pub counted_words : ℕ → List (List ℕ) → List Counted
counted_words most words = map (λ word. (word, occurrences words word)) (kept_words most words)

-- how many words are none of those that are kept
abbrev pub others : ℕ → List (List ℕ) → ℕ
others most words = count_by (λ word. not (is_kept_among (kept_words most words) word)) words

-- the last word, or an empty one where there is none
abbrev pub last_of : List (List ℕ) → List ℕ
last_of words = fold (λ last word. word) [] words

-- the words that are kept with their numbers, and the number of the others
pub record CountedValue : Type 0 where
  pub most : ℕ
  pub words : List Counted
  pub others : ℕ

abbrev pub counted_value : ℕ → List (List ℕ) → CountedValue
counted_value most words = record { most = most; words = counted_words most words; others = others most words }

-- what was counted of any words becomes what is counted of these and one more
abbrev pub CountsWord : List ℕ → CountedValue → CountedValue → Type 0
CountsWord word old new = (most : ℕ) (words : List (List ℕ)) → old ≡ counted_value most words → new ≡ counted_value most (words ++ word ∷ [])
