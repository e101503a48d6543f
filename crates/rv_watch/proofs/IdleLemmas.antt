-- Seats of a watched run that make no entry, and numbers that nobody uses.
use Rattle.std.proofs.Common.{◌≡◌, ◌⊎◌, inl, inr, ℕ, ◌==◌, Bool, true, false, List, [], ◌∷◌, ◌++◌, arith, refl, ap, ◌∙◌}
use Rattle.std.proofs.lemmas.Bool.Decides.{nat_tests}
use Rattle.rv_model.specs.declared.entry.Entry.{Entry}
use Rattle.rv_model.specs.Seats.{Seat, is_within, is_among, known_of, entries_of}
use Rattle.rv_board.specs.inner.Known.{known_by}
use Rattle.rv_board.specs.RunSeats.{HasTakenIn}
use Rattle.rv_board.specs.Seats.{SeatValue, SeatGrows, ExtendsSeen}
use Rattle.rv_board.proofs.GrowLemmas.{same_known}
use Rattle.rv_board.proofs.RunSeatLemmas.{follows-then}

-- ---- seats

-- a list that grows by nothing of its seat's own holds what it was
pub grows-holds : (old new : SeatValue) → SeatGrows old new [] → HasTakenIn new old
grows-holds old new g = record {
  follows = record { rest = g.grows.rest; list = g.grows.list; none = g.grows.known };
  within = λ n t. ap (λ (k : ℕ → Bool). k n) (same_known old new [] g) ∙ t;
}

-- what a seat holds that is held
pub holds-through : (a b c : SeatValue) → HasTakenIn a b → HasTakenIn b c → HasTakenIn a c
holds-through a b c ab bc = record { follows = follows-then b c a.part.seen bc ab.follows; within = λ n t. ab.within n (bc.within n t) }

-- a later list has no entry of a seat that had seen nothing
pub none-of-fresh : (p : Seat) (h : List Entry) → p.seen ≡ [] → ExtendsSeen h p → entries_of (known_of p) h ≡ []
none-of-fresh p h fresh later = ap (entries_of (known_of p)) (later.list ∙ ap (λ (l : List Entry). l ++ later.rest) fresh) ∙ later.none

-- ---- numbers

-- of 0 and one more number
pub two-known : (m n : ℕ) → known_by 0 1 (m ∷ []) n ≡ true → (n ≡ 0) ⊎ (n ≡ m)
unfolding known_by is_within is_among
two-known m n t = go (n == 0) refl
  where
    go : (b : Bool) → (n == 0) ≡ b → (n ≡ 0) ⊎ (n ≡ m)
    go true is = inl (grind (arith, nat_tests))
    go false is = inr (grind (arith, nat_tests))

-- which are known
pub zero-known : (m : ℕ) → known_by 0 1 (m ∷ []) 0 ≡ true
unfolding known_by is_within is_among
zero-known m = grind (arith, nat_tests)

-- both of them
pub other-known : (m : ℕ) → known_by 0 1 (m ∷ []) m ≡ true
unfolding known_by is_within is_among
other-known m = grind (arith, nat_tests)

-- a seat with number 0 knows 0 and what is known from 1 on
pub from-one : (end : ℕ) (joined_in : List ℕ) (n : ℕ) → known_by 0 end joined_in n ≡ true → (n ≡ 0) ⊎ (known_by 1 end joined_in n ≡ true)
unfolding known_by is_within is_among
from-one end joined_in n t = go (n == 0) refl
  where
    go : (b : Bool) → (n == 0) ≡ b → (n ≡ 0) ⊎ (known_by 1 end joined_in n ≡ true)
    go true is = inl (grind (arith, nat_tests))
    go false is = inr (grind (arith, nat_tests))

-- and nothing more is known from 1 on
pub from-one-within : (end : ℕ) (joined_in : List ℕ) (n : ℕ) → known_by 1 end joined_in n ≡ true → known_by 0 end joined_in n ≡ true
unfolding known_by is_within is_among
from-one-within end joined_in n t = grind (arith, nat_tests)
