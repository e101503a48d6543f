-- Each index has a place of its own, which gives it back.
use Rattle.std.proofs.Common.{◌≡◌, ℕ, suc, ◌+◌, ◌-◌, ◌*◌, ◌/◌, ◌<◌, Bool, true, false, ◌∙◌, arith, sum, if◌then◌else◌}
use Rattle.std.specs.Prelude.{nat_lt}
use Rattle.rv_model.specs.Setups.{Setup}
use Rattle.rv_board.specs.declared.spacing.TheConstants.{LINE_WORDS, SPREAD_SLOTS}
use Rattle.rv_board.specs.Places.{stride_of, place_of, room_of}
use Rattle.rv_board.specs.inner.Rule.{place_in, index_at}

-- what holds of both strides holds of each board's
by-stride : (slots : ℕ) (P : ℕ → Type 0) → P LINE_WORDS → P 1 → P (stride_of slots)
by-stride slots P line one = on (nat_lt SPREAD_SLOTS slots)
  where
    on : (b : Bool) → P (if b then 1 else LINE_WORDS)
    on true = one
    on false = line

-- the switches stand at place 0
pub front-place : (slots : ℕ) → 0 ≡ place_of slots 0
front-place slots = by-stride slots (λ n. 0 ≡ n * 0) (omega arith) (omega arith)

-- there is room for each index up to the last slot's
pub place-below : (slots index : ℕ) → index < suc slots → place_of slots index < room_of slots
place-below slots index low = by-stride slots (λ n. n * index < n * suc slots) (omega arith) (omega arith)

-- and for the switches
pub front-below : (slots : ℕ) → 0 < room_of slots
front-below slots = by-stride slots (λ n. 0 < n * suc slots) (omega arith) (omega arith)

-- no two indexes have one place
pub place-own : (slots i j : ℕ) → place_of slots i ≡ place_of slots j → i ≡ j
place-own slots i j = by-stride slots (λ n. n * i ≡ n * j → i ≡ j) (λ same. omega arith) (λ same. omega arith)

-- a place gives its index back
pub index-back : (slots index : ℕ) → index_at slots (place_of slots index) ≡ index
index-back slots index = by-stride slots (λ n. n * index / n ≡ index) (omega arith) (omega arith)

-- a place is that of an index on a board of the same setup
pub index-at : {s k : Setup} {place : ℕ} (index : ℕ) → s ≡ k → place ≡ place_in k index → index_at (sum s.shape) place ≡ index
index-at {s} {k} {place} index same at = (λ j. index_at (sum ((same j).shape)) (at j)) ∙ index-back (sum k.shape) index

-- and that of a slot
pub slot-at : {s k : Setup} {place : ℕ} (slot : ℕ) → s ≡ k → place ≡ place_in k (slot + 1) → index_at (sum s.shape) place - 1 ≡ slot
slot-at slot same at = let one = index-at (slot + 1) same at in omega arith
