-- The monitor of a slot, its table and its starting levels.
use Rattle.std.proofs.Common.{◌≡◌, ℕ, ◌+◌, ◌-◌, ◌<◌, ◌≤◌, nat_lt, Bool, true, false, List, [], ◌∷◌, length, get_or, sum, arith, refl, sym, ap, ◌∙◌, subst}
use Rattle.std.proofs.lemmas.List.{get_or_default}
use Rattle.std.proofs.lemmas.List.Sums.{sum_by-take-drop}
use Rattle.rv_model.specs.Table.{Table}
use Rattle.rv_model.specs.Setups.{Setup, monitor_of, start_of}
use Rattle.rv_core.specs.Setup.{no_table, table_at}

-- the slots of all monitors are those of the first and those of the others
pub sum-cons : (count : ℕ) (shape : List ℕ) → sum (count ∷ shape) ≡ count + sum shape
sum-cons count shape = let t = sum_by-take-drop (λ (x : ℕ). x) (count ∷ shape) 1 in omega arith

-- a slot in range has a monitor in range
pub monitor_of-lt : (shape : List ℕ) (slot : ℕ) → slot < sum shape → monitor_of shape slot < length shape
monitor_of-lt [] slot lt = absurd (omega arith)
monitor_of-lt (count ∷ shape) slot lt = go (monitor_of-lt shape (slot - count)) (nat_lt slot count) refl
  where
    go : (slot - count < sum shape → monitor_of shape (slot - count) < length shape) → (b : Bool) → nat_lt slot count ≡ b → monitor_of (count ∷ shape) slot < length (count ∷ shape)
    go rest true y = rw y (omega arith)
    go rest false n =
        let ge : count ≤ slot = grind arith in
        let all : slot < sum (count ∷ shape) = lt in let parts = sum-cons count shape in
        let r = rest (omega arith) in
        rw n (omega arith)

-- what is read at a monitor's place is what the slot has
module _ (s now : Setup) (same : s ≡ now) (slot place : ℕ) (lt : slot < sum now.shape) (is : place ≡ monitor_of s.shape slot) where
  -- the monitor's place is in the lists
  pub place-below : (count : ℕ) → count ≡ length s.shape → place < count
  place-below count many = let b = monitor_of-lt s.shape slot (subst (λ (v : Setup). slot < sum v.shape) (sym same) lt) in omega arith

  -- its starting levels
  pub start-read : (start : ℕ) → length s.starts ≡ length s.shape → start ≡ get_or s.starts place start → start ≡ start_of now slot
  start-read start many read =
      read ∙ get_or_default s.starts place start 0 (place-below (length s.starts) many)
      ∙ ap (λ n. get_or s.starts n 0) is ∙ ap (λ (v : Setup). start_of v slot) same

  -- its table
  pub table-read : (t : Table) → length s.tables ≡ length s.shape → t ≡ get_or s.tables place t → t ≡ table_at now slot
  table-read t many read =
      read ∙ get_or_default s.tables place t no_table (place-below (length s.tables) many)
      ∙ ap (λ n. get_or s.tables n no_table) is ∙ ap (λ (v : Setup). table_at v slot) same
