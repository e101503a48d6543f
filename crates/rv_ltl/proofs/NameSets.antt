-- Names in the order of their bytes: one name more, and the place of a name that a binary search finds.
use Rattle.std.proofs.Common.{◌≡◌, ◌≢◌, ℕ, zero, suc, ◌+◌, ◌<◌, ◌≤◌, Bool, true, false, cond, List, [], ◌∷◌, ◌++◌, length, take, get_or, Some, None, refl, sym, ap, ◌∙◌, inl, inr, Bor, arith}
use Rattle.std.specs.List.{AllByRecursion, fold, HoldsAt}
use Rattle.std.specs.List.Sorted.{IsNonDecreasingBy, IsPartitionPoint}
use Rattle.std.specs.Str.{bytes_eq}
use Rattle.std.specs.BTreeSet.{insert_key}
use Rattle.std.specs.Cmp.{IsTotalOrder}
use Rattle.std.specs.Cmp.Lexicographic.{slice_cmp}
use Rattle.std.specs.Ordering.{nat_cmp, match_ordering, ordering_reverse, ordering_index, is_eq}
use Rattle.std.specs.declared.cmp.Ordering.{Ordering}
use Rattle.std.specs.declared.cmp.Ordering.TheVariants.{Less, Equal, Greater}
use Rattle.std.proofs.lemmas.Cmp.{nat_list_cmp_total, on_total}
use Rattle.std.proofs.lemmas.List.Sums.{fold_push}
use Rattle.std.proofs.lemmas.List.{map_more}
use Rattle.std.proofs.lemmas.Map.Text.{is_eq-slice_cmp}
use Rattle.std.proofs.lemmas.Bool.{cases_lt}
use Rattle.std.proofs.lemmas.Map.Lookups.{exact_bytes}
use Rattle.std.proofs.lemmas.Slice.Eq.{bytes_eq-Decides}
use Rattle.rv_ltl.specs.inner.Texts.{texts}
use Rattle.rv_ltl.specs.Parse.{◌>>=◌}
use Rattle.rv_text.specs.inner.Ascending.{Ascends}
use Rattle.rv_text.proofs.AscendingLemmas.{all_at, insert_ascends, irreflexive}
use Rattle.rv_ltl.specs.Names.{is_atom_name, with_piece, names_of, place_in}

-- the order of two names by their bytes
abbrev pub name_cmp : Bor (List ℕ) → Bor (List ℕ) → Ordering
name_cmp x y = slice_cmp nat_cmp x.now y.now

-- ---- one name more

-- a key goes to the same place where the keys are seen as bytes
texts-insert_key : (keys : List (Bor (List ℕ))) (k : Bor (List ℕ)) → texts (insert_key name_cmp keys k) ≡ insert_key (slice_cmp nat_cmp) (texts keys) k.now
texts-insert_key [] k = refl
texts-insert_key (x ∷ keys) k = go (slice_cmp nat_cmp k.now x.now) (texts-insert_key keys k)
  where
    go : (o : Ordering) → texts (insert_key name_cmp keys k) ≡ insert_key (slice_cmp nat_cmp) (texts keys) k.now
        → texts (match_ordering o (k ∷ x ∷ keys) (x ∷ keys) (x ∷ insert_key name_cmp keys k)) ≡ match_ordering o (k.now ∷ x.now ∷ texts keys) (x.now ∷ texts keys) (x.now ∷ insert_key (slice_cmp nat_cmp) (texts keys) k.now)
    go Less h = refl
    go Equal h = refl
    go Greater h = ap (λ (ks : List (List ℕ)). x.now ∷ ks) h

-- the names among the pieces and one more
names_of-push : (pieces : List (List ℕ)) (piece : List ℕ) → names_of (pieces ++ piece ∷ []) ≡ with_piece (names_of pieces) piece
unfolding names_of
names_of-push pieces piece = fold_push with_piece [] pieces piece

-- the names among one piece more
next_names : (pieces : List (Bor (List ℕ))) (i : ℕ) (d : Bor (List ℕ)) → i < length pieces
    → names_of (texts (take (i + 1) pieces)) ≡ with_piece (names_of (texts (take i pieces))) (get_or pieces i d).now
next_names pieces i d lt = ap names_of (map_more (λ s. s.now) pieces i d lt) ∙ names_of-push (texts (take i pieces)) (get_or pieces i d).now

-- a piece that is a name joins the set
pub gathers_name : (pieces : List (Bor (List ℕ))) (i : ℕ) (d : Bor (List ℕ)) (keys keys' : List (Bor (List ℕ))) → i < length pieces → is_atom_name (get_or pieces i d).now ≡ true
    → texts keys ≡ names_of (texts (take i pieces)) → keys' ≡ insert_key name_cmp keys (get_or pieces i d)
    → texts keys' ≡ names_of (texts (take (i + 1) pieces))
gathers_name pieces i d keys keys' lt named so_far inserted =
    let made : with_piece (names_of (texts (take i pieces))) (get_or pieces i d).now ≡ insert_key (slice_cmp nat_cmp) (names_of (texts (take i pieces))) (get_or pieces i d).now = rw named refl in
    ap texts inserted ∙ texts-insert_key keys (get_or pieces i d) ∙ ap (λ (ks : List (List ℕ)). insert_key (slice_cmp nat_cmp) ks (get_or pieces i d).now) so_far ∙ sym made ∙ sym (next_names pieces i d lt)

-- any other piece leaves it
pub gathers_none : (pieces : List (Bor (List ℕ))) (i : ℕ) (d : Bor (List ℕ)) (keys : List (Bor (List ℕ))) → i < length pieces → is_atom_name (get_or pieces i d).now ≡ false
    → texts keys ≡ names_of (texts (take i pieces)) → texts keys ≡ names_of (texts (take (i + 1) pieces))
gathers_none pieces i d keys lt other so_far =
    let made : with_piece (names_of (texts (take i pieces))) (get_or pieces i d).now ≡ names_of (texts (take i pieces)) = rw other refl in
    so_far ∙ sym made ∙ sym (next_names pieces i d lt)

-- ---- the order

module _ {K : Type 0} (cmp : K → K → Ordering) (o : IsTotalOrder cmp) where
  -- of two keys in order, the second is no lower beside a third
  rises_one : (x y w : K) → cmp x y ≡ Less → ordering_index (cmp x w) ≤ ordering_index (cmp y w)
  rises_one x y w lt = go (cmp x w) refl
    where
      above : cmp w y ≡ Less → cmp y w ≡ Greater
      above below = o.antisymm y w ∙ ap ordering_reverse below

      go : (t : Ordering) → cmp x w ≡ t → ordering_index t ≤ ordering_index (cmp y w)
      go Less e = omega arith
      go Equal e = rw (above (sym (o.congr x w y e) ∙ lt)) (omega arith)
      go Greater e = rw (above (o.trans w x y (o.antisymm w x ∙ ap ordering_reverse e) lt)) (omega arith)

  -- later keys are no lower beside another
  pub rises : (ks : List K) (w : K) → Ascends cmp ks → (i j : ℕ) (d : K) → i ≤ j → j < length ks → ordering_index (cmp (get_or ks i d) w) ≤ ordering_index (cmp (get_or ks j d) w)
  rises [] w h i j d le lt = absurd (omega arith)
  rises (x ∷ xs) w h zero zero d le lt = omega arith
  rises (x ∷ xs) w h zero (suc j) d le lt = rises_one x (get_or xs j d) w (all_at (λ y. cmp x y ≡ Less) xs j d h.0 (omega arith))
  rises (x ∷ xs) w h (suc i) zero d le lt = absurd (omega arith)
  rises (x ∷ xs) w h (suc i) (suc j) d le lt = rises xs w h.1 i j d (omega arith) (omega arith)

-- the names of a file ascend
fold_ascends : (pieces names : List (List ℕ)) → Ascends (slice_cmp nat_cmp) names → Ascends (slice_cmp nat_cmp) (fold with_piece names pieces)
fold_ascends [] names h = h
fold_ascends (piece ∷ pieces) names h = fold_ascends pieces (with_piece names piece) (go (is_atom_name piece))
  where
    go : (b : Bool) → Ascends (slice_cmp nat_cmp) (cond b (insert_key (slice_cmp nat_cmp) names piece) names)
    go true = insert_ascends (slice_cmp nat_cmp) nat_list_cmp_total piece names h
    go false = h

-- the names among the pieces ascend by their bytes
pub names_ascend : (pieces : List (List ℕ)) → Ascends (slice_cmp nat_cmp) (names_of pieces)
unfolding names_of
names_ascend pieces = fold_ascends pieces [] tt

-- slices ascend where their bytes do
pub slices_ascend : (names : List (Bor (List ℕ))) → Ascends (slice_cmp nat_cmp) (texts names) → Ascends name_cmp names
slices_ascend [] h = tt
slices_ascend (x ∷ xs) h = (each xs h.0, slices_ascend xs h.1)
  where
    each : (ys : List (Bor (List ℕ))) → AllByRecursion (λ y. slice_cmp nat_cmp x.now y ≡ Less) (texts ys) → AllByRecursion (λ y. name_cmp x y ≡ Less) ys
    each [] all = tt
    each (y ∷ ys) all = (all.0, each ys all.1)

-- ---- the place of a name

-- a name that stands at a place
pub found_place : (names : List (Bor (List ℕ))) (word : List ℕ) (i : ℕ) (d : Bor (List ℕ)) → Ascends name_cmp names → i < length names → (get_or names i d).now ≡ word → place_in (texts names) word ≡ Some i
found_place [] word i d h lt e = absurd (omega arith)
found_place (x ∷ xs) word zero d h lt e = rw ((bytes_eq-Decides x.now word).1 e) refl
found_place (x ∷ xs) word (suc i) d h lt e = go (bytes_eq x.now word) refl (found_place xs word i d h.1 (omega arith) e)
  where
    go : (b : Bool) → bytes_eq x.now word ≡ b → place_in (texts xs) word ≡ Some i → cond b (Some 0) (place_in (texts xs) word >>= λ place. Some (suc place)) ≡ Some (suc i)
    go true t ih =
        let same : x.now ≡ word = (bytes_eq-Decides x.now word).0 t in
        let below : name_cmp x (get_or xs i d) ≡ Less = all_at (λ y. name_cmp x y ≡ Less) xs i d h.0 (omega arith) in
        let there : (get_or xs i d).now ≡ x.now = e ∙ sym same in
        absurd (irreflexive (slice_cmp nat_cmp) nat_list_cmp_total x.now (ap (λ (y : List ℕ). slice_cmp nat_cmp x.now y) (sym there) ∙ below))
    go false t ih = rw ih refl

-- a word that none of the names is
pub no_place : (names : List (Bor (List ℕ))) (word : List ℕ) → ((i : ℕ) (d : Bor (List ℕ)) → i < length names → slice_cmp nat_cmp (get_or names i d).now word ≢ Equal) → place_in (texts names) word ≡ None
no_place [] word h = refl
no_place (x ∷ xs) word h = go (bytes_eq x.now word) refl (no_place xs word (λ i d lt. h (suc i) d (omega arith)))
  where
    go : (b : Bool) → bytes_eq x.now word ≡ b → place_in (texts xs) word ≡ None → cond b (Some 0) (place_in (texts xs) word >>= λ place. Some (suc place)) ≡ None
    go true t ih = absurd (h 0 x (omega arith) (equal (slice_cmp nat_cmp x.now word) (is_eq-slice_cmp x.now word ∙ t)))
      where
        equal : (o : Ordering) → is_eq o ≡ true → o ≡ Equal
        equal Less e = absurd cc
        equal Equal e = refl
        equal Greater e = absurd cc
    go false t ih = rw ih refl

-- what a binary search that found an equal name says
pub find_ok : (names : List (Bor (List ℕ))) (word : Bor (List ℕ)) (i : ℕ) → Ascends name_cmp names → i < length names → HoldsAt (λ y. name_cmp y word ≡ Equal) names i → place_in (texts names) word.now ≡ Some i
find_ok names word i h lt equal = found_place names word.now i word h lt (exact_bytes (get_or names i word).now word.now (equal word))

-- and one that found none
pub find_err : (names : List (Bor (List ℕ))) (word : Bor (List ℕ)) (i : ℕ) → Ascends name_cmp names
    → (IsNonDecreasingBy (λ y. ordering_index (name_cmp y word)) names → IsPartitionPoint (λ y. name_cmp y word ≡ Less) (λ y. name_cmp y word ≡ Greater) names i) → place_in (texts names) word.now ≡ None
find_err names word i h parts =
    let p = parts (λ a b d le lt. rises name_cmp (on_total (λ s. s.now) nat_list_cmp_total) names word h a b d le lt) in
    no_place names word.now (λ k d lt e. elim (cases_lt k i) [
      | inl below ↦ let less : name_cmp (get_or names k d) word ≡ Less = p.0 k d (omega arith) below in cc
      | inr above ↦ let more : name_cmp (get_or names k d) word ≡ Greater = p.1 k d above lt in cc
    ])
