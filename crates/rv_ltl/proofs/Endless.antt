-- A definition is endless exactly where a name reaches itself.
use Rattle.std.proofs.Common.{◌≡◌, ℕ, zero, suc, ◌+◌, ◌<◌, Bool, true, false, cond, eqb, List, [], ◌∷◌, ◌⊎◌, length, Option, Some, None, refl, sym, ap, subst, ◌∙◌, inl, inr, arith}
use Rattle.std.proofs.lemmas.Bool.{false≢true, eqb-false}
use Rattle.rv_ltl.specs.Grammar.{Expr, Paren, One, Two}
use Rattle.rv_ltl.specs.Parse.{◌>>=◌}
use Rattle.rv_ltl.specs.File.{Def}
use Rattle.rv_ltl.specs.Reach.{Mentions, Uses, IsCyclic}
use Rattle.rv_ltl.specs.Replace.{body_of, replaced, value_of, any_endless}
use Rattle.rv_ltl.specs.inner.Weights.{def_at}
use Rattle.rv_ltl.proofs.Cycle.{In, some_cycle}
use Rattle.rv_ltl.proofs.Values.{value_more, not_around, is_defined}
use Rattle.rv_ltl.proofs.Settling.{Found, Free, Held, found, value_free, value_defined, endless_at, none_endless}

-- the name stands for something, with definitions in one another at most n deep
abbrev HasValue : List Def → ℕ → ℕ → Type 0
HasValue ds n x = (f : Expr) × (value_of ds n x ≡ Some f)

-- a formula stands for nothing only where one of its names does
none_mentioned : (val : ℕ → Option Expr) (e : Expr) → replaced val e ≡ None → (y : ℕ) × Mentions e y × (val y ≡ None)
none_mentioned val Expr.True h = absurd cc
none_mentioned val Expr.False h = absurd cc
none_mentioned val (Expr.Name y) h = (y, refl, h)
none_mentioned val (Paren e) h = none_mentioned val e h
none_mentioned val (One op e) h = none_mentioned val e (go (replaced val e) h)
  where
    go : (o : Option Expr) → (o >>= λ f. Some (One op f)) ≡ None → o ≡ None
    go None k = refl
    go (Some f) k = absurd cc
none_mentioned val (Two op a b) h = go (replaced val a) (replaced val b) h (none_mentioned val a) (none_mentioned val b)
  where
    go : (o p : Option Expr) → (o >>= λ f. p >>= λ g. Some (Two op f g)) ≡ None → (o ≡ None → (y : ℕ) × Mentions a y × (val y ≡ None)) → (p ≡ None → (y : ℕ) × Mentions b y × (val y ≡ None)) → (y : ℕ) × (Mentions a y ⊎ Mentions b y) × (val y ≡ None)
    go None p k l r = let s = l refl in (s.0, inl s.1, s.2)
    go (Some f) None k l r = let s = r refl in (s.0, inr s.1, s.2)
    go (Some f) (Some g) k l r = absurd cc

-- one of the names has a value, and the others; or none has
data Scanned (ds : List Def) (n : ℕ) (xs : List ℕ) : Type 0 where
  Takes : (x : ℕ) (others : List ℕ) → HasValue ds n x → length xs ≡ suc (length others) → ((y : ℕ) → In xs y → (x ≡ y) ⊎ In others y) → ((y : ℕ) → In others y → In xs y) → Scanned ds n xs
  Stops : ((y : ℕ) → In xs y → value_of ds n y ≡ None) → Scanned ds n xs

-- one of any names has a value, or none has
scanned : (ds : List Def) (n : ℕ) (xs : List ℕ) → Scanned ds n xs
scanned ds n [] = Stops (λ y h. absurd h)
scanned ds n (x ∷ xs) = go (value_of ds n x) refl (scanned ds n xs)
  where
    go : (o : Option Expr) → value_of ds n x ≡ o → Scanned ds n xs → Scanned ds n (x ∷ xs)
    go (Some f) e s = Takes x xs (f, e) refl (λ y h. h) (λ y h. inr h)
    go None e (Takes z others v l there back) =
        Takes z (x ∷ others) v (omega (arith, l)) (λ y h. elim h [ inl k ↦ inr (inl k) | inr k ↦ elim (there y k) [ inl m ↦ inl m | inr m ↦ inr (inr m) ] ])
        (λ y h. elim h [ inl k ↦ inl k | inr k ↦ inr (back y k) ])
    go None e (Stops none) = Stops (λ y h. elim h [ inl k ↦ ap (λ (w : ℕ). value_of ds n w) (sym k) ∙ e | inr k ↦ none y k ])

-- each defined name is one of the open ones, or has a value
abbrev Sorted : List Def → ℕ → List ℕ → Type 0
Sorted ds n xs = (x : ℕ) (e : Expr) → body_of ds x ≡ Some e → In xs x ⊎ HasValue ds n x

-- each of the names is defined
abbrev Defined : List Def → List ℕ → Type 0
Defined ds xs = (x : ℕ) → In xs x → (e : Expr) × (body_of ds x ≡ Some e)

-- where none of the open names gets a value, they lead to one another
stuck : (ds : List Def) (n : ℕ) (xs : List ℕ) (first : ℕ) → In xs first → Sorted ds n xs → Defined ds xs → ((y : ℕ) → In xs y → value_of ds (suc n) y ≡ None) → IsCyclic ds
stuck ds n xs first h sorted defined none = some_cycle xs (Uses ds) first h (λ x k. step x k (defined x k))
  where
    step : (x : ℕ) → In xs x → (e : Expr) × (body_of ds x ≡ Some e) → (y : ℕ) × In xs y × Uses ds x y
    step x k d =
        let m = none_mentioned (value_of ds n) d.0 (sym (value_defined ds n x d.0 d.1) ∙ none x k) in
        (m.0, by_case m.0 m.2 (found ds m.0), (d.0, d.1, m.1))
      where
        by_case : (y : ℕ) → value_of ds n y ≡ None → Found ds y → In xs y
        by_case y v (Free i b) = let w = value_free ds n y b in absurd cc
        by_case y v (Held i lt name at b) = elim (sorted y (def_at ds i).body b) [ inl l ↦ l | inr s ↦ (let w = s.1 in absurd cc) ]

-- a name reaches itself, or each defined name has a value in as many levels as there are open names
resolve : (ds : List Def) (k n : ℕ) (xs : List ℕ) → length xs ≡ k → Sorted ds n xs → Defined ds xs → IsCyclic ds ⊎ ((x : ℕ) (e : Expr) → body_of ds x ≡ Some e → HasValue ds (n + k) x)
resolve ds zero n [] l sorted defined = inr (λ x e b. elim (sorted x e b) [ inl h ↦ absurd h | inr v ↦ (let s : n + 0 ≡ n = omega arith in rw s v) ])
resolve ds zero n (x ∷ xs) l sorted defined = absurd (omega arith)
resolve ds (suc k) n [] l sorted defined = absurd (omega arith)
resolve ds (suc k) n (x ∷ xs) l sorted defined = go (scanned ds (suc n) (x ∷ xs)) (λ ys e s d. resolve ds k (suc n) ys e s d)
  where
    go : Scanned ds (suc n) (x ∷ xs) → ((ys : List ℕ) → length ys ≡ k → Sorted ds (suc n) ys → Defined ds ys → IsCyclic ds ⊎ ((z : ℕ) (e : Expr) → body_of ds z ≡ Some e → HasValue ds (suc n + k) z))
        → IsCyclic ds ⊎ ((z : ℕ) (e : Expr) → body_of ds z ≡ Some e → HasValue ds (n + suc k) z)
    go (Stops none) later = inl (stuck ds n (x ∷ xs) x (inl refl) sorted defined none)
    go (Takes z others v e there back) later =
        elim (later others (omega (arith, e, l)) (λ y b d. elim (sorted y b d) [
          | inl h ↦ elim (there y h) [ inl same ↦ inr (let P : ℕ → Type 0 = λ w. HasValue ds (suc n) w in subst P same v) | inr o ↦ inl o ]
          | inr w ↦ inr (w.0, value_more ds n y w.0 w.1)
        ]) (λ y h. defined y (back y h))) [
          | inl c ↦ inl c
          | inr all ↦ (let s : n + suc k ≡ suc n + k = omega arith in inr (λ y b d. rw s (all y b d)))
        ]

-- the names of the definitions
names_of : List Def → List ℕ
names_of [] = []
names_of (d ∷ ds) = d.name ∷ names_of ds

-- there are as many names as definitions
names_length : (ds : List Def) → length (names_of ds) ≡ length ds
unfolding names_of
names_length [] = refl
names_length (d ∷ ds) = let h = names_length ds in omega arith

-- the name of each definition is among these names
name_in : (ds : List Def) (i : ℕ) → i < length ds → In (names_of ds) (def_at ds i).name
unfolding names_of
name_in [] i lt = absurd (omega arith)
name_in (d ∷ ds) zero lt = inl refl
name_in (d ∷ ds) (suc i) lt = inr (name_in ds i (omega arith))

-- each of these names is that of a definition
in_name : (ds : List Def) (x : ℕ) → In (names_of ds) x → (i : ℕ) × (i < length ds) × ((def_at ds i).name ≡ x)
unfolding names_of
in_name [] x h = absurd h
in_name (d ∷ ds) x (inl e) = (0, omega arith, e)
in_name (d ∷ ds) x (inr h) = let r = in_name ds x h in (suc r.0, omega (arith, r.1), r.2)

-- the name of a definition is defined
has_body : (ds : List Def) (i : ℕ) → i < length ds → (e : Expr) × (body_of ds (def_at ds i).name ≡ Some e)
has_body [] i lt = absurd (omega arith)
has_body (d ∷ ds) zero lt = by_test (eqb d.name d.name) refl
  where
    by_test : (b : Bool) → eqb d.name d.name ≡ b → (e : Expr) × (cond b (Some d.body) (body_of ds d.name) ≡ Some e)
    by_test true t = (d.body, refl)
    by_test false t = absurd (eqb-false d.name d.name t refl)
has_body (d ∷ ds) (suc i) lt = by_test (eqb d.name (def_at ds i).name) (has_body ds i (omega arith))
  where
    by_test : (b : Bool) → (e : Expr) × (body_of ds (def_at ds i).name ≡ Some e) → (e : Expr) × (cond b (Some d.body) (body_of ds (def_at ds i).name) ≡ Some e)
    by_test true r = (d.body, refl)
    by_test false r = r

-- where there is nothing, there is no formula
none_some : (o : Option Expr) (f : Expr) → o ≡ None → o ≡ Some f → ⊥
none_some o f k v = absurd cc

-- an endless definition reaches itself
pub endless_cyclic : (ds : List Def) → any_endless ds ds ≡ true → IsCyclic ds
endless_cyclic ds h =
    elim (resolve ds (length ds) 0 (names_of ds) (names_length ds) sorted defined) [
      | inl c ↦ c
      | inr all ↦ absurd (false≢true (sym (none_endless ds ds (λ i lt k. let b = has_body ds i lt in let r = all (def_at ds i).name b.0 b.1 in let e : 0 + length ds ≡ length ds = omega arith in let v : value_of ds (length ds) (def_at ds i).name ≡ Some r.0 = ap (λ (m : ℕ). value_of ds m (def_at ds i).name) (sym e) ∙ r.1 in none_some (value_of ds (length ds) (def_at ds i).name) r.0 k v)) ∙ h))
    ]
  where
    sorted : Sorted ds 0 (names_of ds)
    sorted x e b = by_case (found ds x)
      where
        by_case : Found ds x → In (names_of ds) x ⊎ HasValue ds 0 x
        by_case (Free k n) = absurd cc
        by_case (Held i lt name k c) = inl (let P : ℕ → Type 0 = λ y. In (names_of ds) y in subst P name (name_in ds i lt))

    defined : Defined ds (names_of ds)
    defined x h = let r = in_name ds x h in let P : ℕ → Type 0 = λ y. (e : Expr) × (body_of ds y ≡ Some e) in subst P r.2 (has_body ds r.0 r.1)

-- where a name reaches itself, its definition is endless
pub cyclic_endless : (ds : List Def) → IsCyclic ds → any_endless ds ds ≡ true
cyclic_endless ds c = by_case (found ds c.0)
  where
    none : value_of ds (length ds) c.0 ≡ None
    none = go (value_of ds (length ds) c.0) refl
      where
        go : (o : Option Expr) → value_of ds (length ds) c.0 ≡ o → o ≡ None
        go None e = refl
        go (Some f) e = absurd (not_around ds c.0 (length ds) (length ds) f (omega arith) e c.1)

    by_case : Found ds c.0 → any_endless ds ds ≡ true
    by_case (Free k b) = let d = (is_defined ds c.1).1 in absurd cc
    by_case (Held i lt name k b) = endless_at ds ds i lt (ap (λ (y : ℕ). value_of ds (length ds) y) name ∙ none)
