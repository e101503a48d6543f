-- What is of the grammar is read.
use Rattle.std.proofs.Common.{◌≡◌, ℕ, zero, suc, ◌+◌, ◌-◌, ◌<◌, ◌≤◌, List, [], ◌∷◌, ◌++◌, Option, None, refl, ap, subst, ◌∙◌, append_assoc, arith}
use Rattle.rv_ltl.specs.declared.token.Token.{Token}
use Rattle.rv_ltl.specs.declared.token.Token.TheVariants as token
use Rattle.rv_ltl.specs.declared.token.Binary.{Binary}
use Rattle.rv_ltl.specs.declared.token.Binary.TheVariants.{And}
use Rattle.rv_ltl.specs.Grammar.{Expr, Paren, One, Two, Whole, Chain, spell, Fits}
use Rattle.rv_ltl.specs.Parse.{operator, chain_at, term_at, expr_by, after_term, ◌>>=◌}
use Rattle.rv_ltl.specs.Operators.{joins}
use Rattle.rv_ltl.proofs.ChainSteps.{chain_end, chain_step, term_paren, term_unary}
use Rattle.rv_ltl.proofs.Sound.{got}
use Rattle.rv_ltl.proofs.OperatorLaws.{same_self, some_joins}

-- the expression was read so far, and the chain goes on with the operator
abbrev Begins : ℕ → Binary → ℕ → Expr → Type 0
Begins depth op k e = (rest : List Token) → (j : ℕ) × (j ≤ k) × (expr_by (term_at depth) (spell e ++ token.Binary op ∷ rest) ≡ chain_at (term_at depth) op (joins op - j) e (token.Binary op ∷ rest))

-- how a tree is read at each place
record Reads (depth : ℕ) (e : Expr) : Type 0 where
  term : Fits depth (Chain And 0) e → (rest : List Token) → term_at depth (spell e ++ rest) ≡ got e rest
  chain : (op : Binary) (k : ℕ) → Fits depth (Chain op k) e → k < joins op → Begins depth op k e
  whole : Fits depth Whole e → (rest : List Token) → operator rest ≡ None → expr_by (term_at depth) (spell e ++ rest) ≡ got e rest

-- a term is read so at each place
of_term : (depth : ℕ) (e : Expr) → (Fits depth (Chain And 0) e → (rest : List Token) → term_at depth (spell e ++ rest) ≡ got e rest)
    → (Fits depth Whole e → Fits depth (Chain And 0) e) → ((op : Binary) (k : ℕ) → Fits depth (Chain op k) e → Fits depth (Chain And 0) e) → Reads depth e
of_term depth e t from_whole from_chain = record {
  term = t;
  chain = λ op k h lt rest.
      let c = t (from_chain op k h) (token.Binary op ∷ rest) in
      let z : joins op - 0 ≡ joins op = omega arith in
      (0, omega arith, rw z (ap (λ (o : Option (Expr × List Token)). o >>= λ x. after_term (term_at depth) x.0 x.1) c));
  whole = λ h rest o.
      let c = t (from_whole h) rest in
      ap (λ (o : Option (Expr × List Token)). o >>= λ x. after_term (term_at depth) x.0 x.1) c ∙ rw (o, after_term) refl;
}

-- one more operand
joined : (depth : ℕ) (op : Binary) (a b : Expr) (j : ℕ) (rest : List Token) → j < joins op
    → expr_by (term_at depth) (spell a ++ token.Binary op ∷ (spell b ++ rest)) ≡ chain_at (term_at depth) op (joins op - j) a (token.Binary op ∷ (spell b ++ rest))
    → term_at depth (spell b ++ rest) ≡ got b rest
    → expr_by (term_at depth) (spell (Two op a b) ++ rest) ≡ chain_at (term_at depth) op (joins op - (j + 1)) (Two op a b) rest
joined depth op a b j rest lt h t =
    let k : joins op - j - 1 ≡ joins op - (j + 1) = omega arith in
    let s = chain_step (term_at depth) op op (joins op - j) a b (token.Binary op ∷ (spell b ++ rest)) rest refl (same_self op) (omega arith) t in
    ap (λ (m : List Token). expr_by (term_at depth) m) (append_assoc (spell a) (token.Binary op ∷ spell b) rest)
    ∙ h ∙ s ∙ ap (λ (n : ℕ). chain_at (term_at depth) op n (Two op a b) rest) k

-- a chain that is read so far and a term behind it are a longer chain that is read so far
two_chain : (depth : ℕ) (op : Binary) (a b : Expr) → Reads depth a → Reads depth b → (k : ℕ) → Fits depth (Chain op (k - 1)) a → Fits depth (Chain And 0) b → 0 < k → k < joins op → Begins depth op k (Two op a b)
two_chain depth op a b ra rb k fa fb some lt rest =
    let s = ra.chain op (k - 1) fa (omega arith) (spell b ++ token.Binary op ∷ rest) in
    let t = rb.term fb (token.Binary op ∷ rest) in
    (s.0 + 1, omega (arith, s.1), joined depth op a b s.0 (token.Binary op ∷ rest) (omega (arith, s.1)) s.2 t)

-- a chain and a term behind it, with no operator after them, are read as an expression
two_whole : (depth : ℕ) (op : Binary) (a b : Expr) → Reads depth a → Reads depth b → Fits depth (Chain op (joins op - 1)) a → Fits depth (Chain And 0) b → (rest : List Token) → operator rest ≡ None
    → expr_by (term_at depth) (spell (Two op a b) ++ rest) ≡ got (Two op a b) rest
two_whole depth op a b ra rb fa fb rest o =
    let some = some_joins op in
    let s = ra.chain op (joins op - 1) fa (omega arith) (spell b ++ rest) in
    let t = rb.term fb rest in
    joined depth op a b s.0 rest (omega (arith, s.1)) s.2 t ∙ chain_end (term_at depth) op (joins op - (s.0 + 1)) (Two op a b) rest o

-- each tree is read so at each place where it fits
reads : (e : Expr) (depth : ℕ) → Reads depth e
unfolding term_at
reads Expr.True zero = of_term 0 Expr.True (λ h rest. refl) (λ h. h) (λ op k h. h)
reads Expr.True (suc n) = of_term (suc n) Expr.True (λ h rest. refl) (λ h. h) (λ op k h. h)
reads Expr.False zero = of_term 0 Expr.False (λ h rest. refl) (λ h. h) (λ op k h. h)
reads Expr.False (suc n) = of_term (suc n) Expr.False (λ h rest. refl) (λ h. h) (λ op k h. h)
reads (Expr.Name m) zero = of_term 0 (Expr.Name m) (λ h rest. refl) (λ h. h) (λ op k h. h)
reads (Expr.Name m) (suc n) = of_term (suc n) (Expr.Name m) (λ h rest. refl) (λ h. h) (λ op k h. h)
reads (Paren e) depth =
    let r = reads e (depth - 1) in
    of_term depth (Paren e)
    (λ h rest.
    ap (λ (m : List Token). term_at depth (token.Open ∷ m)) (append_assoc (spell e) (token.Close ∷ []) rest)
    ∙ term_paren depth e (spell e ++ token.Close ∷ rest) (token.Close ∷ rest) h.0 (r.whole h.1 (token.Close ∷ rest) refl))
    (λ h. h) (λ op k h. h)
reads (One u e) depth =
    let r = reads e (depth - 1) in
    of_term depth (One u e) (λ h rest. term_unary depth u e (spell e ++ rest) rest h.0 (r.term h.1 rest)) (λ h. h) (λ op k h. h)
reads (Two op a b) depth =
    let ra = reads a depth in
    let rb = reads b depth in
    record {
      term = λ h rest. absurd (omega (arith, h.1));
      chain = λ other k h lt.
          let P : Binary → Type 0 = λ p. Fits depth (Chain p (k - 1)) a → k < joins p → Begins depth p k (Two op a b) in
          let at_op : P op = λ f l. two_chain depth op a b ra rb k f h.3 h.1 l in
          (subst P h.0 at_op) h.2 lt;
      whole = λ h rest o. two_whole depth op a b ra rb h.0 h.1 rest o;
    }

-- an expression that fits is read as a whole where no operator follows it
pub whole_reads : (depth : ℕ) (e : Expr) (rest : List Token) → Fits depth Whole e → operator rest ≡ None → expr_by (term_at depth) (spell e ++ rest) ≡ got e rest
whole_reads depth e rest h o = (reads e depth).whole h rest o
