-- What is known of each definition stays right; where all is known none reaches itself, and where it is stuck one does.
use Rattle.std.proofs.Common.{◌≡◌, ◌≢◌, ℕ, zero, suc, ◌+◌, ◌-◌, ◌<◌, ◌≤◌, Bool, true, false, ◌||◌, eqb, List, [], ◌∷◌, length, Option, Some, None, refl, sym, ap, subst, ◌∙◌, inl, inr, arith, get_or-set_other, get_or-set_same}
use Rattle.std.proofs.Math.ListN.{set}
use Rattle.std.proofs.lemmas.Bool.{eqb-true, eqb-false}
use Rattle.rv_ltl.specs.declared.weight.Weight.{Weight}
use Rattle.rv_ltl.specs.declared.weight.Weight.TheVariants.{Open, Is}
use Rattle.rv_ltl.specs.Grammar.{Expr, Paren, One, Two}
use Rattle.rv_ltl.specs.Parse.{◌>>=◌}
use Rattle.rv_ltl.specs.File.{Def}
use Rattle.rv_ltl.specs.Reach.{Mentions}
use Rattle.rv_ltl.specs.Replace.{body_of, is_none, replaced, value_of, any_endless}
use Rattle.rv_ltl.specs.inner.Machine.{value}
use Rattle.rv_ltl.specs.inner.Weights.{index_of, def_at, known_at, weight_at, weighed, weights_by, IsDistinct, IsSure, IsStuck}
use Rattle.rv_ltl.proofs.Values.{value_more, value_after}
use Rattle.rv_ltl.proofs.WeightLaws.{weighed_some, is_weighed, open_name}

-- a name is not defined, or its first definition is at a place
pub data Found (ds : List Def) (x : ℕ) : Type 0 where
  Free : index_of ds x ≡ None → body_of ds x ≡ None → Found ds x
  Held : (i : ℕ) → i < length ds → (def_at ds i).name ≡ x → index_of ds x ≡ Some i → body_of ds x ≡ Some (def_at ds i).body → Found ds x

-- each name is not defined, or its first definition is found
pub found : (ds : List Def) (x : ℕ) → Found ds x
found [] x = Free refl refl
found (d ∷ ds) x = by_test (eqb d.name x) refl (found ds x)
  where
    by_test : (b : Bool) → eqb d.name x ≡ b → Found ds x → Found (d ∷ ds) x
    by_test true t f = Held 0 (omega arith) (eqb-true d.name x t) (rw t refl) (rw t refl)
    by_test false t (Free i b) = Free (rw (t, i) refl) (rw t b)
    by_test false t (Held i lt n k b) = Held (suc i) (omega arith) n (rw (t, k) refl) (rw t b)

-- the first place of a name, and the formula there
pub body_at : (ds : List Def) (x i : ℕ) → index_of ds x ≡ Some i → (i < length ds) × ((def_at ds i).name ≡ x) × (body_of ds x ≡ Some (def_at ds i).body)
body_at ds x i h = by_case (found ds x)
  where
    by_case : Found ds x → (i < length ds) × ((def_at ds i).name ≡ x) × (body_of ds x ≡ Some (def_at ds i).body)
    by_case (Free k b) = absurd cc
    by_case (Held j lt n k b) =
        let e : j ≡ i = cc in
        let P : ℕ → Type 0 = λ m. (m < length ds) × ((def_at ds m).name ≡ x) × (body_of ds x ≡ Some (def_at ds m).body) in
        subst P e (lt, n, b)

-- a name has a first definition where it has a formula
none_of_both : (ds : List Def) (x : ℕ) → Found ds x → (index_of ds x ≡ None → body_of ds x ≡ None) × (body_of ds x ≡ None → index_of ds x ≡ None)
none_of_both ds x (Free k b) = (λ h. b, λ h. k)
none_of_both ds x (Held j lt n k b) = (λ h. absurd cc, λ h. absurd cc)

-- a name without a first definition has no formula
pub body_none : (ds : List Def) (x : ℕ) → index_of ds x ≡ None → body_of ds x ≡ None
body_none ds x = (none_of_both ds x (found ds x)).0

-- a name without a formula has no first definition
pub index_none : (ds : List Def) (x : ℕ) → body_of ds x ≡ None → index_of ds x ≡ None
index_none ds x = (none_of_both ds x (found ds x)).1

-- ---- what names stand for

-- a name that is not defined stands for itself
pub value_free : (ds : List Def) (n x : ℕ) → body_of ds x ≡ None → value_of ds n x ≡ Some (Expr.Name x)
unfolding value_of
value_free ds zero x b = rw (b, value_of) refl
value_free ds (suc n) x b = rw (b, value_of) refl

-- a defined name stands for its formula, with one definition more
pub value_defined : (ds : List Def) (n x : ℕ) (e : Expr) → body_of ds x ≡ Some e → value_of ds (suc n) x ≡ replaced (value_of ds n) e
unfolding value_of
value_defined ds n x e b = rw (b, value_of) refl

-- with no definitions in one another a defined name stands for nothing
pub value_zero : (ds : List Def) (x : ℕ) (e : Expr) → body_of ds x ≡ Some e → value_of ds 0 x ≡ None
unfolding value_of
value_zero ds x e b = rw (b, value_of) refl

-- a formula with a name that stands for nothing stands for nothing
replaced_none : (val : ℕ → Option Expr) (e : Expr) (x : ℕ) → Mentions e x → val x ≡ None → replaced val e ≡ None
replaced_none val Expr.True x m h = absurd m
replaced_none val Expr.False x m h = absurd m
replaced_none val (Expr.Name y) x m h = ap val m ∙ h
replaced_none val (Paren e) x m h = replaced_none val e x m h
replaced_none val (One op e) x m h = rw (replaced_none val e x m h) refl
replaced_none val (Two op a b) x (inl m) h = rw (replaced_none val a x m h) refl
replaced_none val (Two op a b) x (inr m) h = go (replaced val a) (replaced_none val b x m h)
  where
    go : (o : Option Expr) → replaced val b ≡ None → (o >>= λ f. replaced val b >>= λ g. Some (Two op f g)) ≡ None
    go None r = refl
    go (Some f) r = rw r refl

-- ---- what is known

-- a name that is not defined weighs 1
pub weight_free : (ds : List Def) (ws : List Weight) (x : ℕ) → index_of ds x ≡ None → weight_at ds ws x ≡ Is 1
weight_free ds ws x h = rw (h, weight_at) refl

-- what is known of a defined name is what is known of its first definition
pub weight_held : (ds : List Def) (ws : List Weight) (x i : ℕ) → index_of ds x ≡ Some i → weight_at ds ws x ≡ known_at ws i
weight_held ds ws x i h = rw (h, weight_at) refl

-- what is known of names is right
sure_names : (ds : List Def) (ws : List Weight) (n : ℕ) → IsSure ds ws n → (x : ℕ) → weight_at ds ws x ≢ Open → weight_at ds ws x ≡ weighed (value_of ds n x)
sure_names ds ws n h x k = by_case (found ds x)
  where
    by_case : Found ds x → weight_at ds ws x ≡ weighed (value_of ds n x)
    by_case (Free i b) = weight_free ds ws x i ∙ sym (ap weighed (value_free ds n x b))
    by_case (Held i lt name at b) =
        let there : weight_at ds ws x ≡ known_at ws i = weight_held ds ws x i at in
        there ∙ h i lt (λ o. k (there ∙ o)) ∙ ap (λ (y : ℕ). weighed (value_of ds n y)) name

-- what is known stays so with one definition more
sure_more : (ds : List Def) (n x : ℕ) (w : Weight) → w ≢ Open → w ≡ weighed (value_of ds n x) → w ≡ weighed (value_of ds (suc n) x)
sure_more ds n x w k e =
    let s = weighed_some w (value_of ds n x) k e in
    s.2 ∙ sym (ap weighed (value_more ds n x s.0 s.1))

-- what is known stays so with more definitions
pub sure_after : (ds : List Def) (n more x : ℕ) (w : Weight) → n ≤ more → w ≢ Open → w ≡ weighed (value_of ds n x) → w ≡ weighed (value_of ds more x)
sure_after ds n more x w le k e =
    let s = weighed_some w (value_of ds n x) k e in
    let count : n + (more - n) ≡ more = omega (arith, le) in
    s.2 ∙ sym (ap weighed (sym (ap (λ (m : ℕ). value_of ds m x) count) ∙ value_after ds n (more - n) x s.0 s.1))

-- one more is known
pub set_sure : (ds : List Def) (ws : List Weight) (n j : ℕ) → length ws ≡ length ds → IsDistinct ds → IsSure ds ws n → j < length ds → value (weights_by (weight_at ds ws)) (def_at ds j).body ≢ Open
    → IsSure ds (set ws j (value (weights_by (weight_at ds ws)) (def_at ds j).body)) (suc n)
set_sure ds ws n j e distinct h lt k i below known = by_place (eqb i j) refl
  where
    by_place : (b : Bool) → eqb i j ≡ b → known_at (set ws j (value (weights_by (weight_at ds ws)) (def_at ds j).body)) i ≡ weighed (value_of ds (suc n) (def_at ds i).name)
    by_place true t =
        let same : i ≡ j = eqb-true i j t in
        let there : known_at (set ws j (value (weights_by (weight_at ds ws)) (def_at ds j).body)) j ≡ value (weights_by (weight_at ds ws)) (def_at ds j).body = get_or-set_same ws j (value (weights_by (weight_at ds ws)) (def_at ds j).body) Open (omega arith) in
        let body = (body_at ds (def_at ds j).name j (distinct j lt)).2 in
        let right = is_weighed (weight_at ds ws) (value_of ds n) (sure_names ds ws n h) (def_at ds j).body k in
        let P : ℕ → Type 0 = λ m. known_at (set ws j (value (weights_by (weight_at ds ws)) (def_at ds j).body)) m ≡ weighed (value_of ds (suc n) (def_at ds m).name) in
        subst P (sym same) (there ∙ right ∙ sym (ap weighed (value_defined ds n (def_at ds j).name (def_at ds j).body body)))
    by_place false t =
        let ne : i ≢ j = eqb-false i j t in
        let there = get_or-set_other ws j i (value (weights_by (weight_at ds ws)) (def_at ds j).body) Open ne in
        let k' : known_at ws i ≢ Open = λ o. known (there ∙ o) in
        there ∙ sure_more ds n (def_at ds i).name (known_at ws i) k' (h i below k')

-- a formula with a name that stays open stands for nothing
never_step : (ds : List Def) (ws : List Weight) (n i y : ℕ) → body_of ds (def_at ds i).name ≡ Some (def_at ds i).body → Mentions (def_at ds i).body y → weight_at ds ws y ≡ Open
    → ((j : ℕ) → j < length ds → known_at ws j ≡ Open → value_of ds n (def_at ds j).name ≡ None) → value_of ds (suc n) (def_at ds i).name ≡ None
never_step ds ws n i y b m o ih = by_case (found ds y)
  where
    by_case : Found ds y → value_of ds (suc n) (def_at ds i).name ≡ None
    by_case (Free k f) = let w = weight_free ds ws y k in absurd cc
    by_case (Held j below name k f) =
        let none = ih j below (sym (weight_held ds ws y j k) ∙ o) in
        value_defined ds n (def_at ds i).name (def_at ds i).body b ∙ replaced_none (value_of ds n) (def_at ds i).body y m (ap (λ (z : ℕ). value_of ds n z) (sym name) ∙ none)

-- a definition that stays open stands for nothing, however deep
pub never : (ds : List Def) (ws : List Weight) → IsDistinct ds → IsStuck ds ws (length ds) → (n i : ℕ) → i < length ds → known_at ws i ≡ Open → value_of ds n (def_at ds i).name ≡ None
never ds ws distinct stuck zero i lt o = value_zero ds (def_at ds i).name (def_at ds i).body (body_at ds (def_at ds i).name i (distinct i lt)).2
never ds ws distinct stuck (suc n) i lt o =
    let p = open_name (weight_at ds ws) (def_at ds i).body (stuck i lt o) in
    never_step ds ws n i p.0 (body_at ds (def_at ds i).name i (distinct i lt)).2 p.1 p.2 (never ds ws distinct stuck n)

-- ---- endless definitions

-- where the name of one definition stands for nothing, one is endless
pub endless_at : (all ds : List Def) (i : ℕ) → i < length ds → value_of all (length all) (def_at ds i).name ≡ None → any_endless all ds ≡ true
endless_at all [] i lt h = absurd (omega arith)
endless_at all (d ∷ ds) zero lt h = rw h refl
endless_at all (d ∷ ds) (suc i) lt h = go (is_none (value_of all (length all) d.name)) (endless_at all ds i (omega arith) h)
  where
    go : (b : Bool) → any_endless all ds ≡ true → b || any_endless all ds ≡ true
    go true r = refl
    go false r = r

-- where the name of each definition stands for something, none is endless
pub none_endless : (all ds : List Def) → ((i : ℕ) → i < length ds → value_of all (length all) (def_at ds i).name ≢ None) → any_endless all ds ≡ false
none_endless all [] h = refl
none_endless all (d ∷ ds) h = go (value_of all (length all) d.name) (h 0 (omega arith)) (none_endless all ds (λ i lt. h (suc i) (omega arith)))
  where
    go : (o : Option Expr) → o ≢ None → any_endless all ds ≡ false → is_none o || any_endless all ds ≡ false
    go None n r = absurd (n refl)
    go (Some e) n r = r
