-- What rules say of short letters: the page fault rule (Linux, Documentation/trace/rv, monitor_rtapp.rst) and others.
use Rattle.std.proofs.Common.{◌≡◌, true, false, [], ◌∷◌, refl}
use Rattle.rv_model.specs.Ltl.{Ltl, False, Atom, Not, Always, Imply, Next, Until, Eventually}
use Rattle.rv_model.specs.Meaning.{meaning}
use Rattle.rv_model.specs.Truth.{Weak, Strong}

-- always (RT imply not PAGEFAULT), with RT for atom 1 and PAGEFAULT for atom 0
abbrev page_fault : Ltl
page_fault = Always (Imply (Atom 1) (Not (Atom 0)))

-- a real-time task runs: no fault so far
pub page_fault_holds : meaning page_fault Weak (2 ∷ []) ≡ true
page_fault_holds = refl

-- and then it has a page fault
pub page_fault_fails : meaning page_fault Weak (2 ∷ 3 ∷ []) ≡ false
page_fault_fails = refl

-- what is always so is never so for good
pub page_fault_may_fail : meaning page_fault Strong (2 ∷ 2 ∷ []) ≡ false
page_fault_may_fail = refl

-- the next letter is never allowed, and the first one is
pub next_false_holds : meaning (Next False) Weak (0 ∷ []) ≡ true
next_false_holds = refl

-- the second letter is not allowed
pub next_false_fails : meaning (Next False) Weak (0 ∷ 0 ∷ []) ≡ false
next_false_fails = refl

-- neither operand holds at the first letter
pub until_fails : meaning (Until (Atom 0) (Atom 1)) Weak (0 ∷ []) ≡ false
until_fails = refl

-- what may still come speaks for it, weakly alone
pub eventually_holds : meaning (Eventually (Atom 0)) Weak (0 ∷ 0 ∷ []) ≡ true
eventually_holds = refl

-- what may still come does not speak for it strongly
pub eventually_not_yet : meaning (Eventually (Atom 0)) Strong (0 ∷ 0 ∷ []) ≡ false
eventually_not_yet = refl
