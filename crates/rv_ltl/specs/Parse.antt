-- Reading trees from left to right.
use Rattle.std.specs.Prelude.{ℕ, zero, suc, Bool, true, false, if◌then◌else◌, List, [], ◌∷◌, Option, Some, None, drop}
use Rattle.rv_ltl.specs.Grammar.{Expr, Paren, One, Two}
use Rattle.rv_ltl.specs.Operators.{joins, is_same_operator}
use Rattle.rv_ltl.specs.declared.token.Token.{Token}
use Rattle.rv_ltl.specs.declared.token.Token.TheVariants as token
use Rattle.rv_ltl.specs.declared.token.Binary.{Binary}

infixl 10 ◌>>=◌
-- goes on with what was found, and finds nothing where nothing was found
abbrev pub ◌>>=◌ : {A B : Type 0} → Option A → (A → Option B) → Option B
(Some x) >>= f = f x
None >>= f = None

-- what takes a tree from the front of the tokens
abbrev pub Reader : Type 0
Reader = List Token → Option (Expr × List Token)

-- the operator at the front
abbrev pub operator : List Token → Option Binary
operator [] = None
operator (token.Binary op ∷ rest) = Some op
operator (mark ∷ rest) = None

-- Goes on with a chain, in which the operator may stand so many times more. No operator can follow what was read.
unfoldable pub chain_at : Reader → Binary → ℕ → Expr → Reader
chain_at read op zero left marks = elim (operator marks) [ None ↦ Some (left, marks) | Some other ↦ None ]
chain_at read op (suc n) left marks =
    elim (operator marks) [
      | None ↦ Some (left, marks)
      | Some other ↦ if is_same_operator op other then (read (drop 1 marks) >>= λ x. chain_at read op n (Two op left x.0) x.1) else None
    ]

-- an expression begins with a term
abbrev pub after_term : Reader → Expr → Reader
after_term read first marks = elim (operator marks) [ None ↦ Some (first, marks) | Some op ↦ chain_at read op (joins op) first marks ]

-- an expression is read as a term and the chain behind it
abbrev pub expr_by : Reader → Reader
expr_by read marks = read marks >>= λ x. after_term read x.0 x.1

-- a closing parenthesis is at the front
abbrev pub is_close : List Token → Bool
is_close [] = false
is_close (token.Close ∷ rest) = true
is_close (mark ∷ rest) = false

-- the expression stands in parentheses, where the closing one is at the front
abbrev pub closed : Expr → Reader
closed e marks = if is_close marks then Some (Paren e, drop 1 marks) else None

-- a term in which at most so many parentheses and unary operators are open at one place
unfoldable pub term_at : ℕ → Reader
term_at n [] = None
term_at n (token.True ∷ rest) = Some (Expr.True, rest)
term_at n (token.False ∷ rest) = Some (Expr.False, rest)
term_at n (token.Name name ∷ rest) = Some (Expr.Name name, rest)
term_at zero (token.Open ∷ rest) = None
term_at zero (token.Unary op ∷ rest) = None
term_at (suc n) (token.Open ∷ rest) = expr_by (term_at n) rest >>= λ x. closed x.0 x.1
term_at (suc n) (token.Unary op ∷ rest) = term_at n rest >>= λ x. Some (One op x.0, x.1)
term_at n (mark ∷ rest) = None
