-- What names stand for.
use Rattle.std.proofs.Common.{◌≡◌, ℕ, zero, suc, ◌+◌, ◌<◌, ◌≤◌, List, Option, Some, None, refl, sym, ap, ◌∙◌, inl, inr, arith}
use Rattle.rv_ltl.specs.Grammar.{Expr, Paren, One, Two}
use Rattle.rv_ltl.specs.Parse.{◌>>=◌}
use Rattle.rv_ltl.specs.File.{Def}
use Rattle.rv_ltl.specs.Reach.{Mentions, Uses, Step, Then, NameReaches}
use Rattle.rv_ltl.specs.Replace.{body_of, replaced, value_of}
use Rattle.rv_ltl.proofs.OperatorLaws.{bind_some}

-- each name of a formula that is replaced stands for something
pub replaced_some : (value : ℕ → Option Expr) (e f : Expr) (x : ℕ) → replaced value e ≡ Some f → Mentions e x → (g : Expr) × (value x ≡ Some g)
replaced_some value Expr.True f x h m = absurd m
replaced_some value Expr.False f x h m = absurd m
replaced_some value (Expr.Name y) f x h m = (f, ap value (sym m) ∙ h)
replaced_some value (Paren e) f x h m = replaced_some value e f x h m
replaced_some value (One op e) f x h m =
    let b = bind_some (replaced value e) (λ (g : Expr). Some (One op g)) f h in
    replaced_some value e b.0 x b.1 m
replaced_some value (Two op a b) f x h (inl m) =
    let p = bind_some (replaced value a) (λ (g : Expr). replaced value b >>= λ k. Some (Two op g k)) f h in
    replaced_some value a p.0 x p.1 m
replaced_some value (Two op a b) f x h (inr m) =
    let p = bind_some (replaced value a) (λ (g : Expr). replaced value b >>= λ k. Some (Two op g k)) f h in
    let q = bind_some (replaced value b) (λ (k : Expr). Some (Two op p.0 k)) f p.2 in
    replaced_some value b q.0 x q.1 m

-- more values keep what is replaced
pub replaced_more : (value more : ℕ → Option Expr) → ((x : ℕ) (g : Expr) → value x ≡ Some g → more x ≡ Some g) → (e f : Expr) → replaced value e ≡ Some f → replaced more e ≡ Some f
replaced_more value more k Expr.True f h = h
replaced_more value more k Expr.False f h = h
replaced_more value more k (Expr.Name y) f h = k y f h
replaced_more value more k (Paren e) f h = replaced_more value more k e f h
replaced_more value more k (One op e) f h =
    let b = bind_some (replaced value e) (λ (g : Expr). Some (One op g)) f h in
    rw (replaced_more value more k e b.0 b.1) b.2
replaced_more value more k (Two op a b) f h =
    let p = bind_some (replaced value a) (λ (g : Expr). replaced value b >>= λ k. Some (Two op g k)) f h in
    let q = bind_some (replaced value b) (λ (k : Expr). Some (Two op p.0 k)) f p.2 in
    rw (replaced_more value more k a p.0 p.1, replaced_more value more k b q.0 q.1) q.2

-- what a name stands for stays so with definitions one deeper
pub value_more : (ds : List Def) (n : ℕ) (x : ℕ) (f : Expr) → value_of ds n x ≡ Some f → value_of ds (suc n) x ≡ Some f
unfolding value_of
value_more ds zero x f h = at (body_of ds x) h
  where
    at : (o : Option Expr) → elim o as (λ _. Option Expr) [ None ↦ Some (Expr.Name x) | Some e ↦ None ] ≡ Some f
        → elim o as (λ _. Option Expr) [ None ↦ Some (Expr.Name x) | Some e ↦ replaced (value_of ds zero) e ] ≡ Some f
    at None h = h
    at (Some e) h = absurd cc
value_more ds (suc n) x f h = at (body_of ds x) h (λ e g k. replaced_more (value_of ds n) (value_of ds (suc n)) (λ y g l. value_more ds n y g l) e g k)
  where
    at : (o : Option Expr) → elim o as (λ _. Option Expr) [ None ↦ Some (Expr.Name x) | Some e ↦ replaced (value_of ds n) e ] ≡ Some f
        → ((e g : Expr) → replaced (value_of ds n) e ≡ Some g → replaced (value_of ds (suc n)) e ≡ Some g)
        → elim o as (λ _. Option Expr) [ None ↦ Some (Expr.Name x) | Some e ↦ replaced (value_of ds (suc n)) e ] ≡ Some f
    at None h k = h
    at (Some e) h k = k e f h

-- what a name stands for stays so with definitions however much deeper
pub value_after : (ds : List Def) (n more : ℕ) (x : ℕ) (f : Expr) → value_of ds n x ≡ Some f → value_of ds (n + more) x ≡ Some f
value_after ds n zero x f h = let k : n + 0 ≡ n = omega arith in rw k h
value_after ds n (suc m) x f h = let k : n + suc m ≡ suc (n + m) = omega arith in rw k (value_more ds (n + m) x f (value_after ds n m x f h))

-- no formula, as what a name stands for
abbrev nowhere : Option Expr
nowhere = None

-- what a name uses stands for something too, with definitions one less deep
value_uses : (ds : List Def) (n : ℕ) (x y : ℕ) (f : Expr) → value_of ds n x ≡ Some f → Uses ds x y → (m : ℕ) × (n ≡ suc m) × (g : Expr) × (value_of ds m y ≡ Some g)
unfolding value_of
value_uses ds zero x y f h u =
    let p : nowhere ≡ Some f = rw (u.1, value_of) at h in
    absurd cc
value_uses ds (suc n) x y f h u =
    let p : replaced (value_of ds n) u.0 ≡ Some f = rw (u.1, value_of) at h in
    let r = replaced_some (value_of ds n) u.0 f y p u.2 in
    (n, refl, r.0, r.1)

-- what is reached from a name that stands for something stands for something, with definitions less deep
value_reaches : (ds : List Def) {x y : ℕ} → NameReaches ds x y → (n : ℕ) (f : Expr) → value_of ds n x ≡ Some f → (m : ℕ) × (m < n) × (g : Expr) × (value_of ds m y ≡ Some g)
value_reaches ds (Step {x = x} {y = y} u) n f h =
    let r = value_uses ds n x y f h u in
    (r.0, omega (arith, r.1), r.2, r.3)
value_reaches ds (Then {x = x} {z = z} u p) n f h =
    let r = value_uses ds n x z f h u in
    let s = value_reaches ds p r.0 r.2 r.3 in
    (s.0, omega (arith, r.1, s.1), s.2, s.3)

-- a name that stands for something does not reach itself
pub not_around : (ds : List Def) (x limit n : ℕ) (f : Expr) → n ≤ limit → value_of ds n x ≡ Some f → NameReaches ds x x → ⊥
not_around ds x zero n f le h p = let s = value_reaches ds p n f h in omega (arith, s.1)
not_around ds x (suc limit) n f le h p =
    let s = value_reaches ds p n f h in
    not_around ds x limit s.0 s.2 (omega (arith, s.1)) s.3 p

-- the first step is from a defined name
pub is_defined : (ds : List Def) {x y : ℕ} → NameReaches ds x y → (e : Expr) × (body_of ds x ≡ Some e)
is_defined ds (Step u) = (u.0, u.1)
is_defined ds (Then u p) = (u.0, u.1)
