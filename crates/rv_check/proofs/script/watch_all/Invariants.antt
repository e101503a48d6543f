-- What is next was watched below the place, and is as before from it on.
use Rattle.std.proofs.Common.{◌≡◌, ℕ, ◌<◌, ◌≤◌, length, get_or}
use Rattle.rv_check.specs.declared.next.Next.{Next}
use Rattle.rv_check.specs.inner.Nexts.{after_other}
use Rattle.rv_check.proofs.script.watch_all.Given as goal

abbrev pub invariant-loop-place : goal.invariant-loop-place
invariant-loop-place l =
    (length l.nexts.items ≡ length l.fn.nexts.items)
    × ((k : ℕ) (d : Next) → k < l.place → get_or l.nexts.items k d ≡ after_other l.entry (get_or l.fn.nexts.items k d))
    × ((k : ℕ) (d : Next) → l.place ≤ k → get_or l.nexts.items k d ≡ get_or l.fn.nexts.items k d)
