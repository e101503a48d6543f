-- What a sink took, piece by piece.
use Rattle.std.proofs.Common.{ℕ, List, ◌++◌, Option, Some, None, append_assoc}
use Rattle.rv_io.specs.Taken.{Takes}

-- what was taken in two parts was taken in one
pub Takes-more : (old middle new : Option (List ℕ)) (front back : List ℕ) → Takes old middle front → Takes middle new back → Takes old new (front ++ back)
Takes-more (Some x) (Some y) (Some z) front back f g = rw (g, f) (append_assoc x front back)
Takes-more (Some x) (Some y) None front back f g = g
Takes-more (Some x) None new front back f g = absurd f
Takes-more None (Some y) new front back f g = absurd f
Takes-more None None (Some z) front back f g = g
Takes-more None None None front back f g = tt
