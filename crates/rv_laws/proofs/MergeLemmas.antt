-- Steps whose lines never ascend, and of which a line tells the seat, are told by the steps of each seat.
use Rattle.std.proofs.Common.{◌≡◌, ℕ, ◌≤◌, Bool, true, ◌==◌, List, [], ◌∷◌, arith, subst}
use Rattle.std.specs.Prelude.{filter}
use Rattle.rv_laws.proofs.ListLemmas.{Every}
use Rattle.rv_laws.proofs.OrderLemmas.{In, InOrder, PassesOne, same-list}
use Rattle.rv_laws.proofs.StepLemmas.{Step}

-- no line is above this one
abbrev pub Below : ℕ → List Step → Type 0
Below n xs = Every (λ x. x.line ≤ n) xs

-- the step is the seat's
abbrev pub is_by : ℕ → Step → Bool
is_by seat x = x.seat == seat

-- the second step's line is not above
abbrev NotAbove : Step → Step → Type 0
NotAbove x y = y.line ≤ x.line

-- no line is above an earlier one
abbrev pub Descends : List Step → Type 0
Descends xs = InOrder NotAbove is_by xs

-- one line, one seat
abbrev pub TellsSeats : List Step → Type 0
TellsSeats xs = (x y : Step) → In x xs → In y xs → x.line ≡ y.line → x.seat ≡ y.seat

-- each step is some seat's
each-by : (xs : List Step) → Every (PassesOne NotAbove is_by) xs
each-by [] = tt
each-by (x ∷ xs) = ((x.seat, let self : (x.seat == x.seat) ≡ true = grind arith in self), each-by xs)

-- where each seat's steps are the same, all are
pub same-steps : (xs ys : List Step) → Descends xs → Descends ys → TellsSeats xs → ((seat : ℕ) → filter (is_by seat) xs ≡ filter (is_by seat) ys) → xs ≡ ys
same-steps xs ys down down' tells each =
    same-list NotAbove is_by xs ys down down'
    (λ x y in_x in_y low high seat mine. let same : x.seat ≡ y.seat = tells x y in_x in_y (omega arith) in subst (λ (s : ℕ). (s == seat) ≡ true) same mine)
    (each-by xs) (each-by ys) each
