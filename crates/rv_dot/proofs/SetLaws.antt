-- Sets of names: one name more, the order, and the members.
use Rattle.std.proofs.Common.{◌≡◌, ℕ, ◌+◌, ◌<◌, List, [], ◌∷◌, ◌++◌, length, take, get_or, refl, sym, ap, ◌∙◌, Bor}
use Rattle.std.specs.Prelude.{map}
use Rattle.std.specs.BTreeSet.{insert_key}
use Rattle.std.specs.Ordering.{nat_cmp, match_ordering}
use Rattle.std.specs.declared.cmp.Ordering.{Ordering}
use Rattle.std.specs.declared.cmp.Ordering.TheVariants.{Less, Equal, Greater}
use Rattle.std.specs.Cmp.Lexicographic.{slice_cmp}
use Rattle.std.proofs.lemmas.List.Sums.{fold_push}
use Rattle.std.proofs.lemmas.List.{map_more}
use Rattle.rv_dot.specs.Sets.{ascending}
use Rattle.rv_dot.specs.inner.Held.{bytes_of}

-- by bytes
abbrev pub name_cmp : Bor (List ℕ) → Bor (List ℕ) → Ordering
name_cmp x y = slice_cmp nat_cmp x.now y.now

-- a key goes to the same place where the keys are seen as bytes
map-insert_key : (keys : List (Bor (List ℕ))) (k : Bor (List ℕ)) → map bytes_of (insert_key name_cmp keys k) ≡ insert_key (slice_cmp nat_cmp) (map bytes_of keys) k.now
map-insert_key [] k = refl
map-insert_key (x ∷ keys) k = go (slice_cmp nat_cmp k.now x.now) (map-insert_key keys k)
  where
    go : (o : Ordering) → map bytes_of (insert_key name_cmp keys k) ≡ insert_key (slice_cmp nat_cmp) (map bytes_of keys) k.now
        → map bytes_of (match_ordering o (k ∷ x ∷ keys) (x ∷ keys) (x ∷ insert_key name_cmp keys k)) ≡ match_ordering o (k.now ∷ x.now ∷ map bytes_of keys) (x.now ∷ map bytes_of keys) (x.now ∷ insert_key (slice_cmp nat_cmp) (map bytes_of keys) k.now)
    go Less h = refl
    go Equal h = refl
    go Greater h = ap (λ (ks : List (List ℕ)). x.now ∷ ks) h

-- one name more
pub ascending-push : (names : List (List ℕ)) (name : List ℕ) → ascending (names ++ name ∷ []) ≡ insert_key (slice_cmp nat_cmp) (ascending names) name
unfolding ascending
ascending-push names name = fold_push (insert_key (slice_cmp nat_cmp)) [] names name

-- one name more
pub gathers_more : (names : List (Bor (List ℕ))) (i : ℕ) (d : Bor (List ℕ)) (keys keys' : List (Bor (List ℕ))) → i < length names
    → map bytes_of keys ≡ ascending (map bytes_of (take i names)) → keys' ≡ insert_key name_cmp keys (get_or names i d)
    → map bytes_of keys' ≡ ascending (map bytes_of (take (i + 1) names))
gathers_more names i d keys keys' lt so_far inserted =
    ap (map bytes_of) inserted ∙ map-insert_key keys (get_or names i d) ∙ ap (λ (ks : List (List ℕ)). insert_key (slice_cmp nat_cmp) ks (get_or names i d).now) so_far
    ∙ sym (ascending-push (map bytes_of (take i names)) (get_or names i d).now) ∙ ap ascending (sym (map_more bytes_of names i d lt))
