-- Words that are counted: what one more word does to the words that are kept, to their counts and to the others.
use Rattle.std.proofs.Common.{◌≡◌, ℕ, zero, suc, ◌+◌, Bool, true, false, cond, ◌||◌, List, [], ◌∷◌, ◌++◌, map, take, refl, sym, ap, ◌∙◌, subst, arith}
use Rattle.std.specs.Prelude.{bytes_eq, filter, fold}
use Rattle.std.proofs.lemmas.Bool.{cond_both, cond-true, cond-false, or_parts}
use Rattle.std.proofs.lemmas.List.Elements.{filter-append}
use Rattle.std.proofs.lemmas.List.Folds.{list_any-append}
use Rattle.std.proofs.lemmas.List.Sums.{fold_push, sum_by_push, sum_by-cons}
use Rattle.std.proofs.lemmas.Cmp.{nat_list_eq_equiv}
use Rattle.std.proofs.lemmas.Slice.Eq.{bytes_eq-Decides}
use Rattle.rv_matches.specs.Words.{Counted, is_kept_among, with_word, distinct, is_short, kept_words, occurrences}

-- ---- bytes

-- equal bytes are equal
pub same_bytes : (a b : List ℕ) → bytes_eq a b ≡ true → a ≡ b
same_bytes a b is = (bytes_eq-Decides a b).0 is

-- bytes are found equal to themselves
pub itself : (a : List ℕ) → bytes_eq a a ≡ true
itself a = (bytes_eq-Decides a a).1 refl

-- and in either order
pub either_way : (a b : List ℕ) → bytes_eq a b ≡ bytes_eq b a
either_way a b = nat_list_eq_equiv.symm a b

-- what is not so adds none
pub no_more : (n : ℕ) (b : Bool) → b ≡ false → n + cond b 1 0 ≡ n
no_more n false is = omega arith
no_more n true is = cc

-- ---- words that are there

-- a fact or none is the fact
pub or_none : (b : Bool) → (b || false) ≡ b
or_none true = refl
or_none false = refl

-- three facts by two
pub or_assoc : (a b c : Bool) → ((a || b) || c) ≡ (a || (b || c))
or_assoc true b c = refl
or_assoc false b c = refl

-- a word is among words and one more
pub among_push : (words : List (List ℕ)) (word other : List ℕ) → is_kept_among (words ++ word ∷ []) other ≡ (is_kept_among words other || bytes_eq other word)
among_push words word other = list_any-append (bytes_eq other) words (word ∷ []) ∙ ap (λ b. is_kept_among words other || b) (or_none (bytes_eq other word))

among_same : (kept : List (List ℕ)) (word other : List ℕ) (b : Bool) → is_kept_among kept word ≡ true → bytes_eq other word ≡ b → is_kept_among kept other ≡ (is_kept_among kept other || b)
among_same kept word other false there is = sym (or_none (is_kept_among kept other))
among_same kept word other true there is =
    let here : is_kept_among kept other ≡ true = subst (λ w. is_kept_among kept w ≡ true) (sym (same_bytes other word is)) there in
    here ∙ sym (ap (λ b. b || true) here)

among_with : (kept : List (List ℕ)) (word other : List ℕ) → is_kept_among (with_word kept word) other ≡ (is_kept_among kept other || bytes_eq other word)
among_with kept word other =
    cond_both (is_kept_among kept word) kept (kept ++ word ∷ []) (λ ws. is_kept_among ws other ≡ (is_kept_among kept other || bytes_eq other word))
    (λ there. among_same kept word other (bytes_eq other word) there refl)
    (λ none. among_push kept word other)

among_fold : (words kept : List (List ℕ)) (other : List ℕ) → is_kept_among (fold with_word kept words) other ≡ (is_kept_among kept other || is_kept_among words other)
among_fold [] kept other = sym (or_none (is_kept_among kept other))
among_fold (word ∷ words) kept other =
    among_fold words (with_word kept word) other
    ∙ ap (λ b. b || is_kept_among words other) (among_with kept word other)
    ∙ or_assoc (is_kept_among kept other) (bytes_eq other word) (is_kept_among words other)

-- each word is among the words that are each there once
pub among_distinct : (words : List (List ℕ)) (other : List ℕ) → is_kept_among (distinct words) other ≡ is_kept_among words other
among_distinct words other = among_fold words [] other

-- a word that the test keeps is there with it or without it
pub among_filter : (p : List ℕ → Bool) (words : List (List ℕ)) (other : List ℕ) → p other ≡ true → is_kept_among (filter p words) other ≡ is_kept_among words other
among_filter p [] other passes = refl
among_filter p (word ∷ words) other passes =
    cond_both (p word) (word ∷ filter p words) (filter p words) (λ ws. is_kept_among ws other ≡ (bytes_eq other word || is_kept_among words other))
    (λ so_it_is. ap (λ b. bytes_eq other word || b) (among_filter p words other passes))
    (λ it_is_not. among_filter p words other passes ∙ sym (ap (λ b. b || is_kept_among words other) (apart it_is_not (bytes_eq other word) refl)))
  where
    apart : p word ≡ false → (b : Bool) → bytes_eq other word ≡ b → bytes_eq other word ≡ false
    apart fails false is = is
    apart fails true is = let so_it_is : p word ≡ true = subst (λ w. p w ≡ true) (same_bytes other word is) passes in cc

-- a word among those that the test keeps is among all
pub among_filtered : (p : List ℕ → Bool) (words : List (List ℕ)) (other : List ℕ) → is_kept_among words other ≡ false → is_kept_among (filter p words) other ≡ false
among_filtered p [] other none = refl
among_filtered p (word ∷ words) other none =
    let parts = or_parts (bytes_eq other word) (is_kept_among words other) none in
    cond_both (p word) (word ∷ filter p words) (filter p words) (λ ws. is_kept_among ws other ≡ false)
    (λ so_it_is. ap (λ b. b || is_kept_among (filter p words) other) parts.0 ∙ among_filtered p words other parts.1)
    (λ it_is_not. among_filtered p words other parts.1)

-- a word that is not among words is not among the first of them
pub among_taken : (n : ℕ) (words : List (List ℕ)) (other : List ℕ) → is_kept_among words other ≡ false → is_kept_among (take n words) other ≡ false
among_taken zero words other none = refl
among_taken (suc n) [] other none = refl
among_taken (suc n) (word ∷ words) other none =
    let parts = or_parts (bytes_eq other word) (is_kept_among words other) none in
    ap (λ b. b || is_kept_among (take n words) other) parts.0 ∙ among_taken n words other parts.1

-- ---- one more word

-- the words, each once
distinct_push : (words : List (List ℕ)) (word : List ℕ) → distinct (words ++ word ∷ []) ≡ with_word (distinct words) word
distinct_push words word = fold_push with_word [] words word

-- a word that was there changes none of the words that are kept
pub kept_again : (most : ℕ) (words : List (List ℕ)) (word : List ℕ) → is_kept_among words word ≡ true → kept_words most (words ++ word ∷ []) ≡ kept_words most words
kept_again most words word there =
    let among : is_kept_among (distinct words) word ≡ true = among_distinct words word ∙ there in
    ap (λ ws. take most (filter is_short ws)) (distinct_push words word ∙ cond-true (is_kept_among (distinct words) word) (distinct words) (distinct words ++ word ∷ []) among)

-- a new word comes last, if it is short
pub short_push : (words : List (List ℕ)) (word : List ℕ) → is_kept_among words word ≡ false → filter is_short (distinct (words ++ word ∷ [])) ≡ filter is_short (distinct words) ++ cond (is_short word) (word ∷ []) []
short_push words word new =
    let none : is_kept_among (distinct words) word ≡ false = among_distinct words word ∙ new in
    ap (filter is_short) (distinct_push words word ∙ cond-false (is_kept_among (distinct words) word) (distinct words) (distinct words ++ word ∷ []) none)
    ∙ filter-append is_short (distinct words) (word ∷ [])

-- how often a word was there
pub occurrences_push : (words : List (List ℕ)) (word other : List ℕ) → occurrences (words ++ word ∷ []) other ≡ occurrences words other + cond (bytes_eq other word) 1 0
occurrences_push words word other = sum_by_push (λ w. cond (bytes_eq other w) 1 0) words word

-- a word that was not there was there not once
pub occurrences_none : (words : List (List ℕ)) (word : List ℕ) → is_kept_among words word ≡ false → occurrences words word ≡ 0
occurrences_none [] word none = refl
occurrences_none (w ∷ words) word none =
    let parts = or_parts (bytes_eq word w) (is_kept_among words word) none in
    let first : occurrences (w ∷ words) word ≡ cond {A = ℕ} (bytes_eq word w) 1 0 + occurrences words word = sum_by-cons (λ v. cond (bytes_eq word v) 1 0) w words in
    let here : cond {A = ℕ} (bytes_eq word w) 1 0 ≡ 0 = ap (λ (b : Bool). cond {A = ℕ} b 1 0) parts.0 in
    let rest : occurrences words word ≡ 0 = occurrences_none words word parts.1 in
    omega arith

-- words with their counts
abbrev pub counts : List (List ℕ) → List (List ℕ) → List Counted
counts words kept = map (λ w. (w, occurrences words w)) kept

-- the counts of words stay if the new one is none of them
pub same_counts : (words : List (List ℕ)) (word : List ℕ) (kept : List (List ℕ)) → is_kept_among kept word ≡ false → counts (words ++ word ∷ []) kept ≡ counts words kept
same_counts words word [] none = refl
same_counts words word (k ∷ kept) none =
    let parts = or_parts (bytes_eq word k) (is_kept_among kept word) none in
    let apart : bytes_eq k word ≡ false = either_way k word ∙ parts.0 in
    let same : occurrences (words ++ word ∷ []) k ≡ occurrences words k = occurrences_push words word k ∙ no_more (occurrences words k) (bytes_eq k word) apart in
    ap (λ (n : ℕ). (k, n) ∷ counts (words ++ word ∷ []) kept) same ∙ ap (λ (cs : List Counted). (k, occurrences words k) ∷ cs) (same_counts words word kept parts.1)
