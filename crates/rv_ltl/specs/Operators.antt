-- The operators between two operands, as one table: a further operator is one more line of each definition.
use Rattle.std.specs.Prelude.{ℕ, Bool, nat_eq, ◌+◌, ◌*◌}
use Rattle.rv_ltl.specs.declared.token.Binary.{Binary}
use Rattle.rv_ltl.specs.declared.token.Binary.TheVariants.{And, Or, Until, Release, WeakUntil, Imply, Equivalent}

-- the operator's row in the table
abbrev pub row_of : Binary → ℕ
row_of And = 0
row_of Or = 1
row_of Until = 2
row_of Release = 3
row_of WeakUntil = 4
row_of Imply = 5
row_of Equivalent = 6

-- two operators are one
abbrev pub is_same_operator : Binary → Binary → Bool
is_same_operator one other = nat_eq (row_of one) (row_of other)

-- how often the operator may stand in one chain: 256 operands of `and` or `or`, and two of the others
abbrev pub joins : Binary → ℕ
joins And = 255
joins Or = 255
joins Until = 1
joins Release = 1
joins WeakUntil = 1
joins Imply = 1
joins Equivalent = 1

-- the weight of two operands with the operator between them; `equivalent` stands for both operands twice, and `f weak_until g`
-- for `g release (f or g)`
abbrev pub weight_two : Binary → ℕ → ℕ → ℕ
weight_two And a b = 1 + (a + b)
weight_two Or a b = 1 + (a + b)
weight_two Until a b = 1 + (a + b)
weight_two Release a b = 1 + (a + b)
weight_two WeakUntil a b = 2 + (a + 2 * b)
weight_two Imply a b = 1 + (a + b)
weight_two Equivalent a b = 3 + 2 * (a + b)
