-- The names of what a name stands for are those that the definitions on the way mention and leave undefined.
use Rattle.std.proofs.Common.{◌≡◌, ℕ, zero, suc, ◌<◌, Bool, true, List, [], ◌∷◌, ◌⊎◌, length, Option, Some, None, refl, sym, ap, subst, ◌∙◌, inl, inr, arith}
use Rattle.std.specs.Prelude.{Vec}
use Rattle.std.specs.declared.alloc.Global.{Global}
use Rattle.rv_ltl.specs.Grammar.{Expr, Paren, One, Two}
use Rattle.rv_ltl.specs.Parse.{◌>>=◌}
use Rattle.rv_ltl.specs.File.{Def}
use Rattle.rv_ltl.specs.Reach.{Mentions, Leads, Step, Then}
use Rattle.rv_ltl.specs.Replace.{is_none, replaced, value_of}
use Rattle.rv_ltl.specs.inner.Weights.{index_of, def_at, IsDistinct}
use Rattle.rv_ltl.specs.inner.Reached.{flag_at, row_at, Flags, AreReachFlags, AreUses}
use Rattle.rv_ltl.specs.inner.Collected.{is_free, atoms_from}
use Rattle.rv_ltl.specs.RuleFile.{atoms_of}
use Rattle.rv_ltl.proofs.OperatorLaws.{bind_some}
use Rattle.rv_ltl.proofs.Values.{replaced_some}
use Rattle.rv_ltl.proofs.Settling.{Found, Free, Held, found, body_at, body_none, value_free, value_defined, value_zero}
use Rattle.rv_ltl.proofs.Inserting.{same_list}
use Rattle.rv_ltl.proofs.Collecting.{names_rise, names_made, names_only, atoms_rise, atoms_made, atoms_only}

-- what a name of a formula stands for stands in what the formula stands for
pub replaced_has : (val : ℕ → Option Expr) (e f : Expr) (x : ℕ) (h : Expr) (y : ℕ) → replaced val e ≡ Some f → Mentions e x → val x ≡ Some h → Mentions h y → Mentions f y
replaced_has val Expr.True f x h y r m v k = absurd m
replaced_has val Expr.False f x h y r m v k = absurd m
replaced_has val (Expr.Name z) f x h y r m v k =
    let e : val z ≡ Some h = ap val m ∙ v in
    let same : h ≡ f = cc in
    let P : Expr → Type 0 = λ g. Mentions g y in
    subst P same k
replaced_has val (Paren e) f x h y r m v k = replaced_has val e f x h y r m v k
replaced_has val (One op e) f x h y r m v k =
    let b = bind_some (replaced val e) (λ (g : Expr). Some (One op g)) f r in
    let same : One op b.0 ≡ f = cc in
    let P : Expr → Type 0 = λ g. Mentions g y in
    subst P same (replaced_has val e b.0 x h y b.1 m v k)
replaced_has val (Two op a b) f x h y r m v k =
    let p = bind_some (replaced val a) (λ (g : Expr). replaced val b >>= λ k. Some (Two op g k)) f r in
    let q = bind_some (replaced val b) (λ (k : Expr). Some (Two op p.0 k)) f p.2 in
    let same : Two op p.0 q.0 ≡ f = cc in
    let P : Expr → Type 0 = λ g. Mentions g y in
    subst P same (elim m [
      | inl m ↦ inl (replaced_has val a p.0 x h y p.1 m v k)
      | inr m ↦ inr (replaced_has val b q.0 x h y q.1 m v k)
    ])

-- a name of the formula, and what it stands for, in which another name stands
abbrev pub From : (ℕ → Option Expr) → Expr → ℕ → Type 0
From val e y = (z : ℕ) × (h : Expr) × Mentions e z × (val z ≡ Some h) × Mentions h y

-- and nothing else stands there
pub replaced_from : (val : ℕ → Option Expr) (e f : Expr) (y : ℕ) → replaced val e ≡ Some f → Mentions f y → From val e y
replaced_from val Expr.True f y r k = let same : f ≡ Expr.True = cc in let P : Expr → Type 0 = λ g. Mentions g y in absurd (subst P same k)
replaced_from val Expr.False f y r k = let same : f ≡ Expr.False = cc in let P : Expr → Type 0 = λ g. Mentions g y in absurd (subst P same k)
replaced_from val (Expr.Name z) f y r k = (z, f, refl, r, k)
replaced_from val (Paren e) f y r k = replaced_from val e f y r k
replaced_from val (One op e) f y r k =
    let b = bind_some (replaced val e) (λ (g : Expr). Some (One op g)) f r in
    let same : f ≡ One op b.0 = cc in
    let P : Expr → Type 0 = λ g. Mentions g y in
    replaced_from val e b.0 y b.1 (subst P same k)
replaced_from val (Two op a b) f y r k =
    let p = bind_some (replaced val a) (λ (g : Expr). replaced val b >>= λ k. Some (Two op g k)) f r in
    let q = bind_some (replaced val b) (λ (k : Expr). Some (Two op p.0 k)) f p.2 in
    let same : f ≡ Two op p.0 q.0 = cc in
    let P : Expr → Type 0 = λ g. Mentions g y in
    let k' : Mentions p.0 y ⊎ Mentions q.0 y = subst P same k in
    elim k' [
      | inl m ↦ let s = replaced_from val a p.0 y p.1 m in (s.0, s.1, inl s.2, s.3, s.4)
      | inr m ↦ let s = replaced_from val b q.0 y q.1 m in (s.0, s.1, inr s.2, s.3, s.4)
    ]

-- a defined name that stands for something does so by its formula
pub value_step : (ds : List Def) (n i : ℕ) (f : Expr) → IsDistinct ds → i < length ds → value_of ds n (def_at ds i).name ≡ Some f → (m : ℕ) × (n ≡ suc m) × (replaced (value_of ds m) (def_at ds i).body ≡ Some f)
value_step ds zero i f distinct lt h =
    let z = value_zero ds (def_at ds i).name (def_at ds i).body (body_at ds (def_at ds i).name i (distinct i lt)).2 in
    absurd cc
value_step ds (suc n) i f distinct lt h = (n, refl, sym (value_defined ds n (def_at ds i).name (def_at ds i).body (body_at ds (def_at ds i).name i (distinct i lt)).2) ∙ h)

-- a definition on the way stands for something whose names all stand in f
abbrev OnTheWay : List Def → Expr → ℕ → Type 0
OnTheWay ds f i = (n : ℕ) × (g : Expr) × (value_of ds n (def_at ds i).name ≡ Some g) × ((y : ℕ) → Mentions g y → Mentions f y)

-- what a definition on the way uses is on the way too
way_step : (ds : List Def) (rows : List (Vec Bool Global)) (f : Expr) (i j : ℕ) → IsDistinct ds → AreUses ds rows (length ds) → i < length ds → j < length ds → Flags rows i j → OnTheWay ds f i → OnTheWay ds f j
way_step ds rows f i j distinct uses li lj h w =
    let s = value_step ds w.0 i w.1 distinct li w.2 in
    let m = uses.only i j li lj h in
    let r = replaced_some (value_of ds s.0) (def_at ds i).body w.1 (def_at ds j).name s.2 m in
    (s.0, r.0, r.1, λ y k. w.3 y (replaced_has (value_of ds s.0) (def_at ds i).body w.1 (def_at ds j).name r.0 y s.2 m r.1 k))

-- a place that is flagged is one of the places
flag_inside : (fs : List Bool) (i : ℕ) → flag_at fs i ≡ true → i < length fs
flag_inside [] i h = absurd cc
flag_inside (f ∷ fs) zero h = omega arith
flag_inside (f ∷ fs) (suc i) h = let r = flag_inside fs i h in omega arith

-- a row with a flag is one of the rows
row_inside : (rows : List (Vec Bool Global)) (i j : ℕ) → Flags rows i j → i < length rows
row_inside [] i j h = absurd cc
row_inside (r ∷ rows) zero j h = omega arith
row_inside (r ∷ rows) (suc i) j h = let k = row_inside rows i j h in omega arith

-- what a row flags is one of the definitions
flags_inside : (ds : List Def) (rows : List (Vec Bool Global)) (i j : ℕ) → AreUses ds rows (length ds) → Flags rows i j → j < length ds
flags_inside ds rows i j uses h =
    let li : i < length ds = omega (arith, row_inside rows i j h, uses.each) in
    omega (arith, flag_inside (row_at rows i) j h, uses.width i li)

-- what a definition on the way leads to is on the way too
way_leads : (ds : List Def) (rows : List (Vec Bool Global)) (f : Expr) → IsDistinct ds → AreUses ds rows (length ds) → {i j : ℕ} → Leads (Flags rows) i j → OnTheWay ds f i → OnTheWay ds f j
way_leads ds rows f distinct uses (Step {x = i} {y = j} h) w =
    way_step ds rows f i j distinct uses (omega (arith, row_inside rows i j h, uses.each)) (flags_inside ds rows i j uses h) h w
way_leads ds rows f distinct uses (Then {x = i} {z = k} h p) w =
    way_leads ds rows f distinct uses p (way_step ds rows f i k distinct uses (omega (arith, row_inside rows i k h, uses.each)) (flags_inside ds rows i k uses h) h w)

-- a name that the test tells to be free has no first definition
free_is : (ds : List Def) (y : ℕ) → is_free ds y ≡ true → index_of ds y ≡ None
free_is ds y h = go (index_of ds y) h
  where
    go : (o : Option ℕ) → is_none o ≡ true → o ≡ None
    go None e = refl
    go (Some i) e = absurd cc

-- what a flagged definition mentions and is not defined stands in f
down : (ds : List Def) (rows : List (Vec Bool Global)) (fs : List Bool) (root : ℕ) (n : ℕ) (f : Expr) → IsDistinct ds → AreUses ds rows (length ds) → AreReachFlags rows root fs → value_of ds n (def_at ds root).name ≡ Some f
    → (i y : ℕ) → i < length ds → flag_at fs i ≡ true → Mentions (def_at ds i).body y → is_free ds y ≡ true → Mentions f y
down ds rows fs root n f distinct uses reached h i y lt t m free = by_way (elim (reached.sound i t) [ inl e ↦ (let P : ℕ → Type 0 = λ k. OnTheWay ds f k in subst P e start) | inr l ↦ way_leads ds rows f distinct uses l start ])
  where
    start : OnTheWay ds f root
    start = (n, f, h, λ y k. k)

    by_way : OnTheWay ds f i → Mentions f y
    by_way w =
        let s = value_step ds w.0 i w.1 distinct lt w.2 in
        let v = value_free ds s.0 y (body_none ds y (free_is ds y free)) in
        w.3 y (replaced_has (value_of ds s.0) (def_at ds i).body w.1 y (Expr.Name y) y s.2 m v refl)

-- a flagged definition mentions the name, which is not defined
abbrev Comes : List Def → List Bool → ℕ → Type 0
Comes ds fs y = (i : ℕ) × (i < length ds) × (flag_at fs i ≡ true) × Mentions (def_at ds i).body y × (is_free ds y ≡ true)

-- what stands in f is mentioned by a flagged definition and not defined
up : (ds : List Def) (rows : List (Vec Bool Global)) (fs : List Bool) (root : ℕ) → IsDistinct ds → AreUses ds rows (length ds) → AreReachFlags rows root fs
    → (n i y : ℕ) (f : Expr) → i < length ds → flag_at fs i ≡ true → value_of ds n (def_at ds i).name ≡ Some f → Mentions f y → Comes ds fs y
up ds rows fs root distinct uses reached zero i y f lt t h k =
    let z = value_zero ds (def_at ds i).name (def_at ds i).body (body_at ds (def_at ds i).name i (distinct i lt)).2 in
    absurd cc
up ds rows fs root distinct uses reached (suc n) i y f lt t h k =
    let r = sym (value_defined ds n (def_at ds i).name (def_at ds i).body (body_at ds (def_at ds i).name i (distinct i lt)).2) ∙ h in
    let s = replaced_from (value_of ds n) (def_at ds i).body f y r k in
    at s.0 s.1 s.2 s.3 s.4 (found ds s.0) (λ j lj tj hj. up ds rows fs root distinct uses reached n j y s.1 lj tj hj s.4)
  where
    at : (z : ℕ) (g : Expr) → Mentions (def_at ds i).body z → value_of ds n z ≡ Some g → Mentions g y → Found ds z → ((j : ℕ) → j < length ds → flag_at fs j ≡ true → value_of ds n (def_at ds j).name ≡ Some g → Comes ds fs y) → Comes ds fs y
    at z g m v k (Free none b) ih =
        let w = value_free ds n z b in
        let e : g ≡ Expr.Name z = cc in
        let P : Expr → Type 0 = λ x. Mentions x y in
        let same : z ≡ y = subst P e k in
        let M : ℕ → Type 0 = λ x. Mentions (def_at ds i).body x × (is_free ds x ≡ true) in
        let r = subst M same (m, ap (λ (o : Option ℕ). is_none o) none) in
        (i, lt, t, r.0, r.1)
    at z g m v k (Held j lj name some b) ih =
        let M : ℕ → Type 0 = λ x. Mentions (def_at ds i).body x in
        let h' = uses.made i j lt lj (subst M (sym name) m) in
        ih j lj (reached.closed i j t (omega (arith, uses.each)) h') (ap (λ (x : ℕ). value_of ds n x) name ∙ v)

-- the undefined names of the flagged definitions are the atoms of what the root stands for
pub the_atoms : (ds : List Def) (rows : List (Vec Bool Global)) (fs : List Bool) (root n : ℕ) (f : Expr) → IsDistinct ds → AreUses ds rows (length ds) → AreReachFlags rows root fs → root < length ds → value_of ds n (def_at ds root).name ≡ Some f
    → atoms_from (is_free ds) ds fs (length ds) ≡ atoms_of f
the_atoms ds rows fs root n f distinct uses reached lt h =
    same_list 0 0 (atoms_from (is_free ds) ds fs (length ds)) (atoms_of f) (atoms_rise (is_free ds) ds fs (length ds)) (names_rise (λ x. true) f [] tt)
    (λ y k. let r = atoms_only (is_free ds) ds fs (length ds) y k in names_made (λ x. true) f [] y (down ds rows fs root n f distinct uses reached h r.0 y r.1 r.2 r.3 r.4) refl)
    (λ y k. elim (names_only (λ x. true) f [] y k) [
      | inl e ↦ absurd e
      | inr m ↦ let c = up ds rows fs root distinct uses reached n root y f lt reached.start h m.0 in atoms_made (is_free ds) ds fs (length ds) y c.0 c.1 c.2 c.3 c.4
    ])
