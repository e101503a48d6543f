-- Slices as the bytes that they hold.
use Rattle.std.specs.Prelude.{ℕ, List, map}
use Rattle.std.specs.Borrow.{Bor}

-- the bytes of each slice, in order
abbrev pub texts : List (Bor (List ℕ)) → List (List ℕ)
texts = map (λ s. s.now)
