-- What is known of weights: it is the weight of what the formula stands for, and nothing is known only where a name is open.
use Rattle.std.proofs.Common.{◌≡◌, ◌≢◌, ℕ, ◌+◌, ◌<◌, ◌≤◌, Bool, true, false, cond, ltb, ◌⊎◌, Option, Some, None, refl, sym, ap, ◌∙◌, inl, inr, arith}
use Rattle.std.proofs.lemmas.Bool.{ltb-false, ltb-true}
use Rattle.rv_ltl.specs.declared.token.Binary.{Binary}
use Rattle.rv_ltl.specs.declared.token.Binary.TheVariants.{And, Or, Until, Release, WeakUntil, Imply, Equivalent}
use Rattle.rv_ltl.specs.declared.weight.Weight.{Weight}
use Rattle.rv_ltl.specs.declared.weight.Weight.TheVariants.{Open, Large, Is}
use Rattle.rv_ltl.specs.Grammar.{Expr, Paren, One, Two}
use Rattle.rv_ltl.specs.Operators.{weight_two}
use Rattle.rv_ltl.specs.Parse.{◌>>=◌}
use Rattle.rv_ltl.specs.Reach.{Mentions}
use Rattle.rv_ltl.specs.Replace.{weight_of, replaced}
use Rattle.rv_ltl.specs.inner.Machine.{value}
use Rattle.rv_ltl.specs.inner.Weights.{limited, weighed, one_weight, two_weights, weights_by}

-- two operands with an operator weigh no less than both operands
both_weigh : (op : Binary) (a b : ℕ) → a + b ≤ weight_two op a b
both_weigh And a b = omega arith
both_weigh Or a b = omega arith
both_weigh Until a b = omega arith
both_weigh Release a b = omega arith
both_weigh WeakUntil a b = omega arith
both_weigh Imply a b = omega arith
both_weigh Equivalent a b = omega arith

-- so no less than the left one
left_weight : (op : Binary) (a b : ℕ) → a ≤ weight_two op a b
left_weight op a b = omega (arith, both_weigh op a b)

-- nor than the right one
right_weight : (op : Binary) (a b : ℕ) → b ≤ weight_two op a b
right_weight op a b = omega (arith, both_weigh op a b)

-- a weight over the limit
large : (w : ℕ) → 1024 < w → limited w ≡ Large
large w lt = by_test (ltb 1024 w) refl
  where
    by_test : (b : Bool) → ltb 1024 w ≡ b → cond b Large (Is w) ≡ Large
    by_test true t = refl
    by_test false t = absurd (omega (arith, ltb-false 1024 w t))

-- a limited weight is known
pub not_open : (w : ℕ) → limited w ≢ Open
not_open w = by_test (ltb 1024 w)
  where
    by_test : (b : Bool) → cond b Large (Is w) ≢ Open
    by_test true = λ e. absurd cc
    by_test false = λ e. absurd cc

-- the limited weight under an operator is the limited weight of one more
one_limited : (w : ℕ) → one_weight (limited w) ≡ limited (1 + w)
one_limited w = by_test (ltb 1024 w) refl
  where
    by_test : (b : Bool) → ltb 1024 w ≡ b → one_weight (cond b Large (Is w)) ≡ limited (1 + w)
    by_test true t = sym (large (1 + w) (omega (arith, ltb-true 1024 w t)))
    by_test false t = refl

-- two limited weights with an operator between them are the limited weight of both with it
two_limited : (op : Binary) (w x : ℕ) → two_weights op (limited w) (limited x) ≡ limited (weight_two op w x)
two_limited op w x = by_tests (ltb 1024 w) (ltb 1024 x) refl refl
  where
    by_tests : (b c : Bool) → ltb 1024 w ≡ b → ltb 1024 x ≡ c → two_weights op (cond b Large (Is w)) (cond c Large (Is x)) ≡ limited (weight_two op w x)
    by_tests true true t u = sym (large (weight_two op w x) (omega (arith, ltb-true 1024 w t, left_weight op w x)))
    by_tests true false t u = sym (large (weight_two op w x) (omega (arith, ltb-true 1024 w t, left_weight op w x)))
    by_tests false true t u = sym (large (weight_two op w x) (omega (arith, ltb-true 1024 x u, right_weight op w x)))
    by_tests false false t u = refl

-- a known weight is that of a formula
pub weighed_some : (w : Weight) (o : Option Expr) → w ≢ Open → w ≡ weighed o → (f : Expr) × (o ≡ Some f) × (w ≡ limited (weight_of f))
weighed_some w None n e = absurd (n e)
weighed_some w (Some f) n e = (f, refl, e)

-- what has no weight stands for nothing
pub weighed_none : (o : Option Expr) → weighed o ≡ Open → o ≡ None
weighed_none None e = refl
weighed_none (Some f) e = absurd (not_open (weight_of f) e)

-- with an open operand nothing is known
open_right : (op : Binary) (a : Weight) → two_weights op a Open ≡ Open
open_right op Open = refl
open_right op Large = refl
open_right op (Is w) = refl

-- what is known of a formula is the weight of what it stands for
pub is_weighed : (names : ℕ → Weight) (val : ℕ → Option Expr) → ((x : ℕ) → names x ≢ Open → names x ≡ weighed (val x)) → (e : Expr) → value (weights_by names) e ≢ Open → value (weights_by names) e ≡ weighed (replaced val e)
is_weighed names val h Expr.True n = refl
is_weighed names val h Expr.False n = refl
is_weighed names val h (Expr.Name x) n = h x n
is_weighed names val h (Paren e) n = is_weighed names val h e n
is_weighed names val h (One op e) n =
    let k : value (weights_by names) e ≢ Open = λ o. n (ap (λ (w : Weight). one_weight w) o) in
    let s = weighed_some (value (weights_by names) e) (replaced val e) k (is_weighed names val h e k) in
    ap (λ (w : Weight). one_weight w) s.2 ∙ one_limited (weight_of s.0) ∙ sym (ap (λ (o : Option Expr). weighed (o >>= λ f. Some (One op f))) s.1)
is_weighed names val h (Two op a b) n =
    let k : value (weights_by names) a ≢ Open = λ o. n (ap (λ (w : Weight). two_weights op w (value (weights_by names) b)) o) in
    let l : value (weights_by names) b ≢ Open = λ o. n (ap (λ (w : Weight). two_weights op (value (weights_by names) a) w) o ∙ open_right op (value (weights_by names) a)) in
    let s = weighed_some (value (weights_by names) a) (replaced val a) k (is_weighed names val h a k) in
    let t = weighed_some (value (weights_by names) b) (replaced val b) l (is_weighed names val h b l) in
    ap (λ (w : Weight). two_weights op w (value (weights_by names) b)) s.2 ∙ ap (λ (w : Weight). two_weights op (limited (weight_of s.0)) w) t.2 ∙ two_limited op (weight_of s.0) (weight_of t.0)
    ∙ sym (ap (λ (o : Option Expr). weighed (o >>= λ f. replaced val b >>= λ g. Some (Two op f g))) s.1 ∙ ap (λ (o : Option Expr). weighed (o >>= λ g. Some (Two op s.0 g))) t.1)

-- where nothing is known under an operator, nothing is known of its operand
one_open : (a : Weight) → one_weight a ≡ Open → a ≡ Open
one_open Open e = refl
one_open Large e = absurd cc
one_open (Is w) e = absurd (not_open (1 + w) e)

-- where nothing is known of two operands with an operator, nothing is known of one of them
two_open : (op : Binary) (a b : Weight) → two_weights op a b ≡ Open → (a ≡ Open) ⊎ (b ≡ Open)
two_open op Open b e = inl refl
two_open op Large Open e = inr refl
two_open op Large Large e = absurd cc
two_open op Large (Is x) e = absurd cc
two_open op (Is w) Open e = inr refl
two_open op (Is w) Large e = absurd cc
two_open op (Is w) (Is x) e = absurd (not_open (weight_two op w x) e)

-- nothing is known of a formula only where nothing is known of one of its names
pub open_name : (names : ℕ → Weight) (e : Expr) → value (weights_by names) e ≡ Open → (x : ℕ) × Mentions e x × (names x ≡ Open)
open_name names Expr.True h = absurd cc
open_name names Expr.False h = absurd cc
open_name names (Expr.Name x) h = (x, refl, h)
open_name names (Paren e) h = open_name names e h
open_name names (One op e) h = open_name names e (one_open (value (weights_by names) e) h)
open_name names (Two op a b) h =
    elim (two_open op (value (weights_by names) a) (value (weights_by names) b) h) [
      | inl l ↦ let r = open_name names a l in (r.0, inl r.1, r.2)
      | inr l ↦ let r = open_name names b l in (r.0, inr r.1, r.2)
    ]

-- and there nothing is known
pub open_formula : (names : ℕ → Weight) (e : Expr) (x : ℕ) → Mentions e x → names x ≡ Open → value (weights_by names) e ≡ Open
open_formula names Expr.True x m h = absurd m
open_formula names Expr.False x m h = absurd m
open_formula names (Expr.Name y) x m h = ap names m ∙ h
open_formula names (Paren e) x m h = open_formula names e x m h
open_formula names (One op e) x m h = ap (λ (w : Weight). one_weight w) (open_formula names e x m h)
open_formula names (Two op a b) x (inl m) h = ap (λ (w : Weight). two_weights op w (value (weights_by names) b)) (open_formula names a x m h)
open_formula names (Two op a b) x (inr m) h = ap (λ (w : Weight). two_weights op (value (weights_by names) a) w) (open_formula names b x m h) ∙ open_right op (value (weights_by names) a)
