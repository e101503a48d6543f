-- The atoms of what a name stands for are the names that it reaches and that are not defined.
use Rattle.std.proofs.Common.{◌≡◌, ℕ, zero, suc, true, List, [], ◌⊎◌, ◌↔◌, Some, None, refl, sym, ap, subst, ◌∙◌, inl, inr}
use Rattle.rv_ltl.specs.Grammar.{Expr}
use Rattle.rv_ltl.specs.File.{Def}
use Rattle.rv_ltl.specs.Reach.{Mentions, Uses, NameReaches, Step, Then, IsAtom}
use Rattle.rv_ltl.specs.Replace.{body_of, replaced, value_of}
use Rattle.rv_ltl.specs.Atoms.{Has, Rises}
use Rattle.rv_ltl.specs.inner.Weights.{def_at}
use Rattle.rv_ltl.specs.RuleFile.{atoms_of}
use Rattle.rv_ltl.proofs.Values.{replaced_some}
use Rattle.rv_ltl.proofs.Settling.{Found, Free, Held, found, value_free, value_defined, value_zero}
use Rattle.rv_ltl.proofs.Mentioned.{replaced_has, replaced_from}
use Rattle.rv_ltl.proofs.Collecting.{names_rise, names_made, names_only}

-- a name that is not defined, and is the name itself or is reached
abbrev IsLast : List Def → ℕ → ℕ → Type 0
IsLast ds x y = (body_of ds y ≡ None) × ((x ≡ y) ⊎ NameReaches ds x y)

-- what an undefined name stands for mentions no other name
free_last : (ds : List Def) (n x : ℕ) (f : Expr) (y : ℕ) → body_of ds x ≡ None → value_of ds n x ≡ Some f → Mentions f y → IsLast ds x y
free_last ds n x f y b h m =
    let v = value_free ds n x b in
    let e : f ≡ Expr.Name x = cc in
    let P : Expr → Type 0 = λ g. Mentions g y in
    let same : x ≡ y = subst P e m in
    let Q : ℕ → Type 0 = λ z. body_of ds z ≡ None in
    (subst Q same b, inl same)

-- an undefined name that is the used name, or is reached from it, is reached from the name that uses it
last_on : (ds : List Def) (x z y : ℕ) → Uses ds x z → IsLast ds z y → IsLast ds x y
last_on ds x z y u l = (l.0, inr (elim l.1 [ inl e ↦ (let P : ℕ → Type 0 = λ w. Uses ds x w in Step (subst P e u)) | inr r ↦ Then u r ]))

-- each name of what a name stands for
last_of_value : (ds : List Def) (n x : ℕ) (f : Expr) (y : ℕ) → value_of ds n x ≡ Some f → Mentions f y → IsLast ds x y
last_of_value ds zero x f y h m = by_case (found ds x)
  where
    by_case : Found ds x → IsLast ds x y
    by_case (Free i b) = free_last ds 0 x f y b h m
    by_case (Held i lt name k b) = let v = value_zero ds x (def_at ds i).body b in absurd cc
last_of_value ds (suc n) x f y h m = by_case (found ds x) (λ z g v k. last_of_value ds n z g y v k)
  where
    by_case : Found ds x → ((z : ℕ) (g : Expr) → value_of ds n z ≡ Some g → Mentions g y → IsLast ds z y) → IsLast ds x y
    by_case (Free i b) ih = free_last ds (suc n) x f y b h m
    by_case (Held i lt name k b) ih =
        let r = sym (value_defined ds n x (def_at ds i).body b) ∙ h in
        let s = replaced_from (value_of ds n) (def_at ds i).body f y r m in
        last_on ds x s.0 y ((def_at ds i).body, b, s.2) (ih s.0 s.1 s.3 s.4)

-- a defined name that stands for something
value_by : (ds : List Def) (n x : ℕ) (e f : Expr) → body_of ds x ≡ Some e → value_of ds n x ≡ Some f → (m : ℕ) × (replaced (value_of ds m) e ≡ Some f)
value_by ds zero x e f b h = let v = value_zero ds x e b in absurd cc
value_by ds (suc n) x e f b h = (n, sym (value_defined ds n x e b) ∙ h)

-- what is reached and is not defined stands there
reached_value : (ds : List Def) {x y : ℕ} → NameReaches ds x y → body_of ds y ≡ None → (n : ℕ) (f : Expr) → value_of ds n x ≡ Some f → Mentions f y
reached_value ds (Step {x = x} {y = y} u) none n f h =
    let s = value_by ds n x u.0 f u.1 h in
    replaced_has (value_of ds s.0) u.0 f y (Expr.Name y) y s.1 u.2 (value_free ds s.0 y none) refl
reached_value ds (Then {x = x} {z = z} {y = y} u p) none n f h =
    let s = value_by ds n x u.0 f u.1 h in
    let r = replaced_some (value_of ds s.0) u.0 f z s.1 u.2 in
    replaced_has (value_of ds s.0) u.0 f z r.0 y s.1 u.2 r.1 (reached_value ds p none s.0 r.0 r.1)

-- the atoms are exactly those names
pub atoms_reached : (ds : List Def) (root n : ℕ) (body f : Expr) → body_of ds root ≡ Some body → value_of ds n root ≡ Some f → (y : ℕ) → Has (atoms_of f) y ↔ IsAtom ds root y
atoms_reached ds root n body f b h y = (there, back)
  where
    there : Has (atoms_of f) y → IsAtom ds root y
    there k = elim (names_only (λ x. true) f [] y k) [
      | inl e ↦ absurd e
      | inr m ↦ (let l = last_of_value ds n root f y h m.0 in elim l.1 [ inl e ↦ (let free : body_of ds root ≡ None = ap (λ (z : ℕ). body_of ds z) e ∙ l.0 in absurd cc) | inr r ↦ (r, l.0) ])
    ]

    back : IsAtom ds root y → Has (atoms_of f) y
    back a = names_made (λ x. true) f [] y (reached_value ds a.0 a.1 n f h) refl

-- each atom of a formula is larger than the one before
pub atoms_ascend : (f : Expr) → Rises 0 (atoms_of f)
atoms_ascend f = names_rise (λ x. true) f [] tt
