-- The words that are kept, each with its count: where a word stands its count grows, and a new one is none of them.
use Rattle.std.proofs.Common.{◌≡◌, ℕ, zero, suc, ◌+◌, ◌<◌, Bool, true, false, cond, ◌||◌, List, [], ◌∷◌, ◌++◌, length, map, set, Option, None, Some, refl, sym, ap, ap₂, ◌∙◌, arith}
use Rattle.std.specs.Prelude.{bytes_eq, slice_get, Vec}
use Rattle.std.specs.BTreeMap.{BTreeMap}
use Rattle.std.proofs.lemmas.List.{length-map}
use Rattle.std.proofs.lemmas.Option.{slice_get_within}
use Rattle.std.specs.declared.alloc.Global.{Global}
use Rattle.rv_trace.specs.FieldNames.{ArePlaces, place_in}
use Rattle.rv_matches.specs.declared.words.Kept.{Kept}
use Rattle.rv_matches.specs.Words.{Counted, is_kept_among, occurrences}
use Rattle.rv_matches.proofs.WordLemmas.{counts, itself, no_more, occurrences_push, same_bytes, same_counts}

-- the words with their counts
abbrev pub told : List Kept → List Counted
told list = map (λ k. (k.word, k.count)) list

-- the words alone
abbrev pub words_in : List Kept → List (List ℕ)
words_in list = map (λ k. k.word) list

-- what stands at a place is what a function makes of what stands there
pub get_made : {X Y : Type 0} (f : X → Y) (xs : List X) (place : ℕ) (x : X) → slice_get xs place ≡ Some x → slice_get (map f xs) place ≡ Some (f x)
get_made f [] place x at = cc
get_made f (y ∷ xs) zero x at = let same : y ≡ x = cc in ap (λ z. Some (f z)) same
get_made f (y ∷ xs) (suc place) x at = get_made f xs place x at

-- ---- where a word stands

-- a word that stands nowhere is not among them
not_there : (kept : List (List ℕ)) (word : List ℕ) → ((place : ℕ) → slice_get kept place ≡ Some word → ⊥) → is_kept_among kept word ≡ false
not_there [] word none = refl
not_there (k ∷ kept) word none = go (bytes_eq word k) refl (not_there kept word (λ place there. none (suc place) there))
  where
    go : (same : Bool) → bytes_eq word k ≡ same → is_kept_among kept word ≡ false → (same || is_kept_among kept word) ≡ false
    go true is rest = absurd (none 0 (ap Some (sym (same_bytes word k is))))
    go false is rest = rest

-- one that stands somewhere is
pub is_there : (kept : List (List ℕ)) (word : List ℕ) (place : ℕ) → slice_get kept place ≡ Some word → is_kept_among kept word ≡ true
is_there [] word place at = cc
is_there (k ∷ kept) word zero at =
    let same : k ≡ word = cc in
    ap (λ b. b || is_kept_among kept word) (ap (bytes_eq word) same ∙ itself word)
is_there (k ∷ kept) word (suc place) at = go (bytes_eq word k) (is_there kept word place at)
  where
    go : (same : Bool) → is_kept_among kept word ≡ true → (same || is_kept_among kept word) ≡ true
    go true rest = refl
    go false rest = rest

module _ (kept : List (List ℕ)) (places : BTreeMap (Vec ℕ Global) ℕ) (are : ArePlaces kept places) (word : List ℕ) where
  -- a word with no place is none of them
  pub no_place : place_in places word ≡ None → is_kept_among kept word ≡ false
  no_place none = not_there kept word (λ place there. let found : place_in places word ≡ Some place = are.has place word there in cc)

  -- and a word that is none of them has no place
  pub nowhere : is_kept_among kept word ≡ false → place_in places word ≡ None
  nowhere none = go (place_in places word) refl
    where
      go : (found : Option ℕ) → place_in places word ≡ found → found ≡ None
      go None is = refl
      go (Some place) is = let there : is_kept_among kept word ≡ true = is_there kept word place (are.each place word is) in cc

  -- a word with a place stands there
  pub stands_at : (place : ℕ) → place_in places word ≡ Some place → slice_get kept place ≡ Some word
  stands_at place is = are.each place word is

  -- a word that stands somewhere stands there alone
  pub stands_once : (place : ℕ) → slice_get kept place ≡ Some word → (other : ℕ) → slice_get kept other ≡ Some word → other ≡ place
  stands_once place at other there =
      let first : place_in places word ≡ Some place = are.has place word at in
      let second : place_in places word ≡ Some other = are.has other word there in
      cc

-- ---- its count grows

-- where the word stands its count grows by one
pub raised : (words : List (List ℕ)) (word : List ℕ) (kept : List (List ℕ)) (place : ℕ) → slice_get kept place ≡ Some word → ((other : ℕ) → slice_get kept other ≡ Some word → other ≡ place)
    → set (counts words kept) place (word, occurrences words word + 1) ≡ counts (words ++ word ∷ []) kept
raised words word [] place at once = cc
raised words word (k ∷ kept) zero at once =
    let same : k ≡ word = cc in
    let none : is_kept_among kept word ≡ false = not_there kept word (λ other there. let e : suc other ≡ 0 = once (suc other) there in absurd (omega arith)) in
    let grown : occurrences words word + 1 ≡ occurrences (words ++ word ∷ []) word = sym (occurrences_push words word word ∙ ap (λ b. occurrences words word + cond b 1 0) (itself word)) in
    let here : ◌≡◌ {A = Counted} (word, occurrences words word + 1) (k, occurrences (words ++ word ∷ []) k) = ap (λ (n : ℕ). (word, n)) grown ∙ ap (λ (w : List ℕ). (w, occurrences (words ++ word ∷ []) w)) (sym same) in
    ap₂ (λ (c : Counted) (cs : List Counted). c ∷ cs) here (sym (same_counts words word kept none))
raised words word (k ∷ kept) (suc place) at once =
    let stays : occurrences words k ≡ occurrences (words ++ word ∷ []) k = sym (occurrences_push words word k ∙ no_more (occurrences words k) (bytes_eq k word) (apart (bytes_eq k word) refl)) in
    let here : ◌≡◌ {A = Counted} (k, occurrences words k) (k, occurrences (words ++ word ∷ []) k) = ap (λ (n : ℕ). (k, n)) stays in
    ap₂ (λ (c : Counted) (cs : List Counted). c ∷ cs) here (raised words word kept place at (λ other there. let e : suc other ≡ suc place = once (suc other) there in omega arith))
  where
    apart : (same : Bool) → bytes_eq k word ≡ same → bytes_eq k word ≡ false
    apart false is = is
    apart true is = let e : 0 ≡ suc place = once 0 (ap Some (same_bytes k word is)) in absurd (omega arith)

-- the words of which these are the counts
pub words_kept : (words : List (List ℕ)) (list : List Kept) (kept : List (List ℕ)) → told list ≡ counts words kept → words_in list ≡ kept
words_kept words [] [] is = refl
words_kept words [] (k ∷ kept) is = cc
words_kept words (w ∷ list) [] is = cc
words_kept words (w ∷ list) (k ∷ kept) is =
    let rest : told list ≡ counts words kept = cc in
    let first : ◌≡◌ {A = Counted} (w.word, w.count) (k, occurrences words k) = cc in
    ap₂ (λ (v : List ℕ) (ks : List (List ℕ)). v ∷ ks) (ap (λ (c : Counted). c.0) first) (words_kept words list kept rest)

-- the words of the counted words
pub told_words : (list : List Kept) → map (λ (c : Counted). c.0) (told list) ≡ words_in list
told_words [] = refl
told_words (k ∷ list) = ap (λ (ws : List (List ℕ)). k.word ∷ ws) (told_words list)

-- the words stay where one is counted again
pub words_stay : (list : List Kept) (place : ℕ) (before now : Kept) → slice_get list place ≡ Some before → now.word ≡ before.word → words_in (set list place now) ≡ words_in list
words_stay [] place before now at same = refl
words_stay (k ∷ list) zero before now at same = let here : k ≡ before = cc in ap (λ (w : List ℕ). w ∷ words_in list) (same ∙ sym (ap (λ (b : Kept). b.word) here))
words_stay (k ∷ list) (suc place) before now at same = ap (λ (ws : List (List ℕ)). k.word ∷ ws) (words_stay list place before now at same)

-- where a word stands among those that are told, it stands in the list
pub stands_in : (list : List Kept) (words : List Counted) (place : ℕ) (word : List ℕ) → told list ≡ words → slice_get (map (λ (d : Counted). d.0) words) place ≡ Some word → slice_get (words_in list) place ≡ Some word
stands_in list words place word is at = ap (λ ws. slice_get ws place) (sym (told_words list) ∙ ap (map (λ (d : Counted). d.0)) is) ∙ at

-- where a word stands, there is a place
pub stands_within : (list : List Kept) (word : List ℕ) (place : ℕ) → slice_get (words_in list) place ≡ Some word → place < length list
stands_within list word place at =
    let within : place < length (words_in list) = slice_get_within (words_in list) place word at in
    omega (arith, length-map list (λ (k : Kept). k.word))
