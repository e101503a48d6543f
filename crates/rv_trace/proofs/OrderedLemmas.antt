-- What ordered maps and sets of bytes have after one key is put in.
use Rattle.std.proofs.Common.{◌≡◌, ℕ, Bool, true, false, cond, List, Option, refl, sym, ◌∙◌, subst}
use Rattle.std.specs.Prelude.{bytes_eq, Vec}
use Rattle.std.specs.List.{list_any}
use Rattle.std.specs.Ordering.{is_eq, nat_cmp}
use Rattle.std.specs.Cmp.{eq_by_cmp_equiv}
use Rattle.std.specs.Cmp.Lexicographic.{slice_cmp, nat_list_cmp_total, nat_list_eq_equiv}
use Rattle.std.specs.Map.{lookup, IsKeyTest, AreApart, KeepsOthers}
use Rattle.std.specs.Set.{KeepsOthers as KeepsOtherKeys}
use Rattle.std.specs.BTreeMap as tree
use Rattle.std.specs.BTreeSet as sorted
use Rattle.std.specs.BTreeMap.{BTreeMap}
use Rattle.std.specs.BTreeSet.{BTreeSet}
use Rattle.std.specs.declared.alloc.Global.{Global}
use Rattle.std.proofs.lemmas.Map.Text.{is_eq-slice_cmp}
use Rattle.std.proofs.lemmas.Slice.Eq.{bytes_eq-Decides}

-- a key that one query finds is not found by a query for other bytes
apart : (bs cs ks : List ℕ) → bytes_eq bs cs ≡ false → is_eq (slice_cmp nat_cmp bs ks) ≡ true → is_eq (slice_cmp nat_cmp cs ks) ≡ false
apart bs cs ks n y = is_eq-slice_cmp cs ks ∙ nat_list_eq_equiv.symm cs ks ∙ sym (nat_list_eq_equiv.congr bs ks cs (sym (is_eq-slice_cmp bs ks) ∙ y)) ∙ n

module _ {K : Type 0} (eq : K → K → Bool) (test : K → Bool) where
  other_entries : {X : Type 0} (old new : List (K × X)) → KeepsOthers eq test old new → (other : K → Bool) → IsKeyTest eq other → AreApart test other → lookup other new ≡ lookup other old
  unfolding KeepsOthers
  other_entries old new h = h

  other_keys : (old new : List K) → KeepsOtherKeys eq test old new → (other : K → Bool) → IsKeyTest eq other → AreApart test other → list_any other new ≡ list_any other old
  unfolding KeepsOtherKeys
  other_keys old new h = h

-- one function is w at these bytes, and another one at other bytes
by_bytes : {W : Type 0} (f g : List ℕ → W) (bs : List ℕ) (w : W) → g bs ≡ w → ((cs : List ℕ) → bytes_eq bs cs ≡ false → g cs ≡ f cs) → (cs : List ℕ) → g cs ≡ cond (bytes_eq bs cs) w (f cs)
by_bytes f g bs w here other cs = go (bytes_eq bs cs) refl
  where
    go : (b : Bool) → bytes_eq bs cs ≡ b → g cs ≡ cond b w (f cs)
    go true is = subst (λ (l : List ℕ). g l ≡ w) ((bytes_eq-Decides bs cs).0 is) here
    go false is = other cs is

module _ (bs : List ℕ) where
  -- what a map finds at any bytes after a change at these
  pub map-put : {X : Type 0} (m n : BTreeMap (Vec ℕ Global) X) (w : Option X) → tree.UpdatesBy (λ (x y : Vec ℕ Global). slice_cmp nat_cmp x.items y.items) (λ k. slice_cmp nat_cmp bs k.items) m n w
      → (cs : List ℕ) → tree.get_by (λ (k : Vec ℕ Global). slice_cmp nat_cmp cs k.items) n ≡ cond (bytes_eq bs cs) w (tree.get_by (λ (k : Vec ℕ Global). slice_cmp nat_cmp cs k.items) m)
  map-put m n w h =
      by_bytes (λ ds. tree.get_by (λ (k : Vec ℕ Global). slice_cmp nat_cmp ds k.items) m) (λ ds. tree.get_by (λ (k : Vec ℕ Global). slice_cmp nat_cmp ds k.items) n) bs w h.1
      (λ cs e. other_entries _ _ _ _ h.3 _ (λ x y. (eq_by_cmp_equiv nat_list_cmp_total).congr cs x.items y.items) (λ k. apart bs cs k.items e))

  -- whether a set has any bytes after a change at these
  pub set-put : (s n : BTreeSet (Vec ℕ Global)) (b : Bool) → sorted.UpdatesBy (λ (x y : Vec ℕ Global). slice_cmp nat_cmp x.items y.items) (λ k. slice_cmp nat_cmp bs k.items) s n b
      → (cs : List ℕ) → sorted.contains_by (λ (k : Vec ℕ Global). slice_cmp nat_cmp cs k.items) n ≡ cond (bytes_eq bs cs) b (sorted.contains_by (λ (k : Vec ℕ Global). slice_cmp nat_cmp cs k.items) s)
  set-put s n b h =
      by_bytes (λ ds. sorted.contains_by (λ (k : Vec ℕ Global). slice_cmp nat_cmp ds k.items) s) (λ ds. sorted.contains_by (λ (k : Vec ℕ Global). slice_cmp nat_cmp ds k.items) n) bs b h.1
      (λ cs e. other_keys _ _ _ _ h.3 _ (λ x y. (eq_by_cmp_equiv nat_list_cmp_total).congr cs x.items y.items) (λ k. apart bs cs k.items e))
