-- The steps of a chain.
use Rattle.std.proofs.Common.{◌≡◌, ℕ, zero, suc, ◌-◌, ◌<◌, true, false, List, [], ◌∷◌, drop, Option, Some, None, refl, sym, ap, ◌∙◌, arith}
use Rattle.rv_ltl.specs.declared.token.Token.{Token}
use Rattle.rv_ltl.specs.declared.token.Token.TheVariants as token
use Rattle.rv_ltl.specs.declared.token.Unary.{Unary}
use Rattle.rv_ltl.specs.declared.token.Binary.{Binary}
use Rattle.rv_text.specs.declared.unread.Unread.{Unread}
use Rattle.rv_text.specs.declared.unread.Unread.TheVariants.{Memory, Syntax}
use Rattle.rv_text.specs.inner.Unreads.{Fails}
use Rattle.rv_ltl.specs.Grammar.{Expr, Paren, One, Two}
use Rattle.rv_ltl.specs.Parse.{Reader, operator, chain_at, term_at, expr_by, closed, is_close, ◌>>=◌}
use Rattle.rv_ltl.specs.inner.Fronts.{front}
use Rattle.rv_ltl.specs.Operators.{is_same_operator}

-- another operator
pub chain_other : (read : Reader) (op other : Binary) (n : ℕ) (left : Expr) (marks : List Token) → operator marks ≡ Some other → is_same_operator op other ≡ false → chain_at read op n left marks ≡ None
unfolding chain_at
chain_other read op other zero left marks e h = rw (e, chain_at) refl
chain_other read op other (suc n) left marks e h = rw (e, chain_at, h) refl

-- too many
pub chain_full : (read : Reader) (op other : Binary) (left : Expr) (marks : List Token) → operator marks ≡ Some other → chain_at read op 0 left marks ≡ None
unfolding chain_at
chain_full read op other left marks e = rw (e, chain_at) refl

-- no operator
pub chain_end : (read : Reader) (op : Binary) (n : ℕ) (left : Expr) (marks : List Token) → operator marks ≡ None → chain_at read op n left marks ≡ Some (left, marks)
unfolding chain_at
chain_end read op zero left marks e = rw (e, chain_at) refl
chain_end read op (suc n) left marks e = rw (e, chain_at) refl

-- one more operand, or none that can be read
pub chain_more : (read : Reader) (op other : Binary) (n : ℕ) (left : Expr) (marks : List Token) → operator marks ≡ Some other → is_same_operator op other ≡ true → 0 < n
    → chain_at read op n left marks ≡ (read (drop 1 marks) >>= λ x. chain_at read op (n - 1) (Two op left x.0) x.1)
unfolding chain_at
chain_more read op other zero left marks e h lt = absurd (omega arith)
chain_more read op other (suc n) left marks e h lt = let k : suc n - 1 ≡ n = omega arith in rw (k, chain_at, e, h) refl

-- where the operator stands again and an operand is read behind it, the chain goes on with that operand
pub chain_step : (read : Reader) (op other : Binary) (n : ℕ) (left right : Expr) (marks rest : List Token) → operator marks ≡ Some other → is_same_operator op other ≡ true → 0 < n
    → read (drop 1 marks) ≡ Some (right, rest) → chain_at read op n left marks ≡ chain_at read op (n - 1) (Two op left right) rest
chain_step read op other n left right marks rest e h lt r = rw (chain_more read op other n left marks e h lt, r) refl

-- where the operator stands again and no operand is read behind it, no chain is read
pub chain_stuck : (read : Reader) (op other : Binary) (n : ℕ) (left : Expr) (marks : List Token) → operator marks ≡ Some other → is_same_operator op other ≡ true → 0 < n
    → read (drop 1 marks) ≡ None → chain_at read op n left marks ≡ None
chain_stuck read op other n left marks e h lt r = rw (chain_more read op other n left marks e h lt, r) refl

-- the steps of a term
pub term_paren : (depth : ℕ) (e : Expr) (rest after : List Token) → 0 < depth → expr_by (term_at (depth - 1)) rest ≡ Some (e, after) → term_at depth (token.Open ∷ rest) ≡ closed e after
unfolding term_at
term_paren zero e rest after lt h = absurd (omega arith)
term_paren (suc n) e rest after lt h =
    let k : suc n - 1 ≡ n = omega arith in
    let g : expr_by (term_at n) rest ≡ Some (e, after) = rw k at h in
    ap (λ (o : Option (Expr × List Token)). o >>= λ x. closed x.0 x.1) g

-- a unary operator and a term that is read behind it are read as one term
pub term_unary : (depth : ℕ) (op : Unary) (e : Expr) (rest after : List Token) → 0 < depth → term_at (depth - 1) rest ≡ Some (e, after) → term_at depth (token.Unary op ∷ rest) ≡ Some (One op e, after)
unfolding term_at
term_unary zero op e rest after lt h = absurd (omega arith)
term_unary (suc n) op e rest after lt h =
    let k : suc n - 1 ≡ n = omega arith in
    let g : term_at n rest ≡ Some (e, after) = rw k at h in
    ap (λ (o : Option (Expr × List Token)). o >>= λ x. Some (One op x.0, x.1)) g

-- an opening parenthesis with no expression behind it is not read as a term
pub term_no_paren : (depth : ℕ) (rest : List Token) → 0 < depth → expr_by (term_at (depth - 1)) rest ≡ None → term_at depth (token.Open ∷ rest) ≡ None
unfolding term_at
term_no_paren zero rest lt h = absurd (omega arith)
term_no_paren (suc n) rest lt h =
    let k : suc n - 1 ≡ n = omega arith in
    let g : expr_by (term_at n) rest ≡ None = rw k at h in
    ap (λ (o : Option (Expr × List Token)). o >>= λ x. closed x.0 x.1) g

-- a unary operator with no term behind it is not read as a term
pub term_no_unary : (depth : ℕ) (op : Unary) (rest : List Token) → 0 < depth → term_at (depth - 1) rest ≡ None → term_at depth (token.Unary op ∷ rest) ≡ None
unfolding term_at
term_no_unary zero op rest lt h = absurd (omega arith)
term_no_unary (suc n) op rest lt h =
    let k : suc n - 1 ≡ n = omega arith in
    let g : term_at n rest ≡ None = rw k at h in
    ap (λ (o : Option (Expr × List Token)). o >>= λ x. Some (One op x.0, x.1)) g

-- tokens with a token at the front are that token and those after it
pub front_is : (marks : List Token) (t : Token) → front marks ≡ Some t → marks ≡ t ∷ drop 1 marks
front_is [] t e = absurd cc
front_is (s ∷ rest) t e = ap (λ (x : Token). x ∷ rest) cc

-- what keeps the next operand from being read keeps the chain from being read
pub chain_ends : (err : Unread) (read : Reader) (op other : Binary) (n : ℕ) (left : Expr) (marks rest : List Token) (total : Option (Expr × List Token)) → operator marks ≡ Some other → is_same_operator op other ≡ true → 0 < n
    → rest ≡ drop 1 marks → Fails err (read rest) → chain_at read op n left marks ≡ total → Fails err total
chain_ends Memory read op other n left marks rest total e h lt d r s = tt
chain_ends Syntax read op other n left marks rest total e h lt d r s =
    sym s ∙ chain_stuck read op other n left marks e h lt (ap (λ (m : List Token). read m) (sym d) ∙ r)

-- a term with an opening parenthesis at the front is the expression behind it, if that is closed
pub paren_at : (depth : ℕ) (e : Expr) (marks rest after : List Token) → front marks ≡ Some token.Open → rest ≡ drop 1 marks → 0 < depth → expr_by (term_at (depth - 1)) rest ≡ Some (e, after) → term_at depth marks ≡ closed e after
paren_at depth e marks rest after f d lt h =
    ap (λ (m : List Token). term_at depth m) (front_is marks token.Open f ∙ ap (λ (m : List Token). token.Open ∷ m) (sym d)) ∙ term_paren depth e rest after lt h

-- a term with a unary operator at the front is that operator over the term behind it
pub unary_at : (depth : ℕ) (op : Unary) (e : Expr) (marks rest after : List Token) → front marks ≡ Some (token.Unary op) → rest ≡ drop 1 marks → 0 < depth → term_at (depth - 1) rest ≡ Some (e, after) → term_at depth marks ≡ Some (One op e, after)
unary_at depth op e marks rest after f d lt h =
    ap (λ (m : List Token). term_at depth m) (front_is marks (token.Unary op) f ∙ ap (λ (m : List Token). token.Unary op ∷ m) (sym d)) ∙ term_unary depth op e rest after lt h

-- an expression with a closing parenthesis after it is closed, and the parenthesis is taken
pub closed_yes : (e : Expr) (marks : List Token) → is_close marks ≡ true → closed e marks ≡ Some (Paren e, drop 1 marks)
closed_yes e marks h = rw h refl

-- an expression without a closing parenthesis after it is not closed
pub closed_no : (e : Expr) (marks : List Token) → is_close marks ≡ false → closed e marks ≡ None
closed_no e marks h = rw h refl

-- a constant or a name in front is a term
pub term_true : (depth : ℕ) (rest : List Token) → term_at depth (token.True ∷ rest) ≡ Some (Expr.True, rest)
unfolding term_at
term_true depth rest = refl

pub term_false : (depth : ℕ) (rest : List Token) → term_at depth (token.False ∷ rest) ≡ Some (Expr.False, rest)
unfolding term_at
term_false depth rest = refl

pub term_name : (depth name : ℕ) (rest : List Token) → term_at depth (token.Name name ∷ rest) ≡ Some (Expr.Name name, rest)
unfolding term_at
term_name depth name rest = refl

-- a token that is a term by itself
pub leaf_at : (depth : ℕ) (mark : Token) (e : Expr) (marks rest : List Token) → ((after : List Token) → term_at depth (mark ∷ after) ≡ Some (e, after)) → front marks ≡ Some mark → rest ≡ drop 1 marks → term_at depth marks ≡ Some (e, rest)
leaf_at depth mark e marks rest alone f d = ap (λ (m : List Token). term_at depth m) (front_is marks mark f ∙ ap (λ (m : List Token). mark ∷ m) (sym d)) ∙ alone rest
