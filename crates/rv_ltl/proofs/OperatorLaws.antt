-- Tokens and operators, told by their tests.
use Rattle.std.proofs.Common.{◌≡◌, ℕ, zero, suc, ◌<◌, Bool, true, false, cond, List, [], ◌∷◌, drop, Option, Some, None, refl, sym, ap, ◌∙◌, arith}
use Rattle.rv_ltl.specs.declared.token.Token.{Token}
use Rattle.rv_ltl.specs.declared.token.Token.TheVariants as token
use Rattle.rv_ltl.specs.declared.token.Binary.{Binary}
use Rattle.rv_ltl.specs.declared.token.Binary.TheVariants.{And, Or, Until, Release, WeakUntil, Imply, Equivalent}
use Rattle.rv_ltl.specs.Parse.{operator, is_close, ◌>>=◌}
use Rattle.std.proofs.lemmas.Bool.{eqb-true}
use Rattle.rv_ltl.specs.Operators.{is_same_operator, joins, row_of}

-- the value of a step that did not fail
pub bind_some : {A B : Type 0} (o : Option A) (f : A → Option B) (y : B) → (o >>= f) ≡ Some y → (x : A) × (o ≡ Some x) × (f x ≡ Some y)
bind_some (Some x) f y e = (x, refl, e)
bind_some None f y e = absurd cc

-- a test that did not fail
pub test_some : {A : Type 0} (b : Bool) (x : Option A) (y : A) → cond b x None ≡ Some y → (b ≡ true) × (x ≡ Some y)
test_some true x y e = (refl, e)
test_some false x y e = absurd cc

-- tokens with an operator at the front are that operator's token and those after it
pub operator_is : (marks : List Token) (op : Binary) → operator marks ≡ Some op → marks ≡ token.Binary op ∷ drop 1 marks
operator_is [] op e = absurd cc
operator_is (token.Binary op ∷ rest) op' e = ap (λ (o : Binary). token.Binary o ∷ rest) cc
operator_is (token.Open ∷ rest) op e = absurd cc
operator_is (token.Close ∷ rest) op e = absurd cc
operator_is (token.Equals ∷ rest) op e = absurd cc
operator_is (token.True ∷ rest) op e = absurd cc
operator_is (token.False ∷ rest) op e = absurd cc
operator_is (token.Name n ∷ rest) op e = absurd cc
operator_is (token.Unary u ∷ rest) op e = absurd cc

-- tokens with a closing parenthesis at the front are that token and those after it
pub close_is : (marks : List Token) → is_close marks ≡ true → marks ≡ token.Close ∷ drop 1 marks
close_is [] e = absurd cc
close_is (token.Close ∷ rest) e = refl
close_is (token.Binary op ∷ rest) e = absurd cc
close_is (token.Open ∷ rest) e = absurd cc
close_is (token.Equals ∷ rest) e = absurd cc
close_is (token.True ∷ rest) e = absurd cc
close_is (token.False ∷ rest) e = absurd cc
close_is (token.Name n ∷ rest) e = absurd cc
close_is (token.Unary u ∷ rest) e = absurd cc

-- the operator of a row
abbrev in_row : ℕ → Binary
in_row zero = And
in_row (suc zero) = Or
in_row (suc (suc zero)) = Until
in_row (suc (suc (suc zero))) = Release
in_row (suc (suc (suc (suc zero)))) = WeakUntil
in_row (suc (suc (suc (suc (suc zero))))) = Imply
in_row (suc (suc (suc (suc (suc (suc n)))))) = Equivalent

-- the operator of an operator's row is that operator
row_back : (op : Binary) → in_row (row_of op) ≡ op
row_back And = refl
row_back Or = refl
row_back Until = refl
row_back Release = refl
row_back WeakUntil = refl
row_back Imply = refl
row_back Equivalent = refl

-- operators of one row are one
pub same_is : (a b : Binary) → is_same_operator a b ≡ true → b ≡ a
same_is a b e = sym (row_back b) ∙ ap in_row (sym (eqb-true (row_of a) (row_of b) e)) ∙ row_back a

-- an operator is the same as itself
pub same_self : (a : Binary) → is_same_operator a a ≡ true
same_self a = grind arith

-- each operator may stand in a chain at least once
pub some_joins : (op : Binary) → 0 < joins op
some_joins And = omega arith
some_joins Or = omega arith
some_joins Until = omega arith
some_joins Release = omega arith
some_joins WeakUntil = omega arith
some_joins Imply = omega arith
some_joins Equivalent = omega arith
