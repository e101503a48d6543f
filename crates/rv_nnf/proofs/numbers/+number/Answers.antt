-- What each operator's normal form is, by the one lemma that says so.
use Rattle.std.proofs.Common.{arith}
use Rattle.rv_nnf.proofs.Polarities.{joined_numbers, always_joined, eventually_joined, until_joined, release_joined, weak_until_joined, and_joined, imply_joined, equivalent_joined}
use Rattle.rv_nnf.proofs.numbers.+number.Goals as goal

pub number-returns-in-Always-clause-gives : goal.number-returns-in-Always-clause-gives
number-returns-in-Always-clause-gives t c = grind (arith, always_joined)

pub number-returns-in-Eventually-clause-gives : goal.number-returns-in-Eventually-clause-gives
number-returns-in-Eventually-clause-gives t c = grind (arith, eventually_joined)

pub number-returns-in-And-clause-gives : goal.number-returns-in-And-clause-gives
number-returns-in-And-clause-gives t c = grind (arith, and_joined)

pub number-returns-in-Imply-clause-gives : goal.number-returns-in-Imply-clause-gives
number-returns-in-Imply-clause-gives t c = grind (arith, imply_joined)

pub number-returns-in_ok-right-in-Equivalent-clause-gives : goal.number-returns-in_ok-right-in-Equivalent-clause-gives
number-returns-in_ok-right-in-Equivalent-clause-gives t c = grind (arith, equivalent_joined)

pub number-returns-in_err-left-in-Equivalent-clause-gives : goal.number-returns-in_err-left-in-Equivalent-clause-gives
number-returns-in_err-left-in-Equivalent-clause-gives t c = grind (arith, equivalent_joined)

pub number-returns-in_err-right-in-Equivalent-clause-gives : goal.number-returns-in_err-right-in-Equivalent-clause-gives
number-returns-in_err-right-in-Equivalent-clause-gives t c = grind (arith, equivalent_joined)

pub number-returns-in-Until-clause-gives : goal.number-returns-in-Until-clause-gives
number-returns-in-Until-clause-gives t c = grind (arith, until_joined)

pub number-returns-in-Release-clause-gives : goal.number-returns-in-Release-clause-gives
number-returns-in-Release-clause-gives t c = grind (arith, release_joined)

pub number-returns-in_ok-both-in-WeakUntil-clause-gives : goal.number-returns-in_ok-both-in-WeakUntil-clause-gives
number-returns-in_ok-both-in-WeakUntil-clause-gives t c = grind (arith, weak_until_joined, joined_numbers)

pub number-returns-in_err-right-in-WeakUntil-clause-gives : goal.number-returns-in_err-right-in-WeakUntil-clause-gives
number-returns-in_err-right-in-WeakUntil-clause-gives t c = grind (arith, weak_until_joined, joined_numbers)

pub number-returns-in_err-both-in-WeakUntil-clause-gives : goal.number-returns-in_err-both-in-WeakUntil-clause-gives
number-returns-in_err-both-in-WeakUntil-clause-gives t c = grind (arith, weak_until_joined, joined_numbers)
