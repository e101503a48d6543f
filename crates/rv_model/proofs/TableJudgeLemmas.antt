-- Stepping through the table judges as the table does.
use Rattle.std.proofs.Common.{◌≡◌, ℕ, zero, suc, ◌^◌, ◌<◌, ◌≤◌, ◌==◌, not, Bool, true, false, ◌⊎◌, inl, inr, List, [], ◌∷◌, arith, refl, sym, ◌∙◌, subst, w32, lit<}
use Rattle.std.specs.Int.{trailing_zeros}
use Rattle.std.specs.Bool.{if◌then◌else◌}
use Rattle.std.proofs.lemmas.Nat.Bits.{bit_at_above, bit_at-trailing_zeros, bit_at-zero}
use Rattle.rv_model.specs.declared.hit.Letter.{Letter}
use Rattle.rv_model.specs.Numbers.{has_bit}
use Rattle.rv_model.specs.Language.{IsPath}
use Rattle.rv_model.specs.Table.{Table, Follows, first_row, end_of, Reaches}
use Rattle.rv_model.proofs.NumberLemmas.{has_bit-number_of, number_of-lt}
use Rattle.rv_model.specs.Stepping.{IsTable, start_set, some_follows, step_set}
use Rattle.rv_model.specs.Stepping.{rows_after, EveryTableIsJudged}
use Rattle.rv_model.proofs.JudgeLemmas.{true_not_false, some_follows-intro, some_follows-elim}

-- a row of the set, and a path from it
record From (t : Table) (set : ℕ) (word : List Letter) (end : ℕ) : Type 0 where
  row : ℕ
  has : has_bit set row ≡ true
  path : List ℕ
  is_path : IsPath (Follows t) row path word
  ends : end_of row path ≡ end

-- a set of rows has no bit from 32 on
in_set : (set row : ℕ) → set < 2 ^ 32 → has_bit set row ≡ true → row < 32
in_set set row fits has = elim (dec row) [ inl below ↦ below | inr above ↦ absurd (true_not_false (sym has ∙ rw (bit_at_above set 32 row fits above) refl)) ]
  where
    dec : (n : ℕ) → (n < 32) ⊎ (32 ≤ n)
    dec n = grind arith

-- a letter leads to a set that has no bit from 32 on
step_fits : (t : Table) (set : ℕ) (x : Letter) → step_set t set x < 2 ^ 32
step_fits t set x = number_of-lt (some_follows t set x 32) 32

-- a row of the set after letters ends a path from a row of the set before them
there : (t : Table) (word : List Letter) (set end : ℕ) → set < 2 ^ 32 → has_bit (rows_after t set word) end ≡ true → From t set word end
there t [] set end fits h = record { row = end; has = h; path = []; is_path = tt; ends = refl }
there t (x ∷ word) set end fits h =
    let f = there t word (step_set t set x) end (step_fits t set x) h in
    let below = in_set (step_set t set x) f.row (step_fits t set x) f.has in
    let s = some_follows-elim t set x 32 f.row (sym (has_bit-number_of (some_follows t set x 32) 32 f.row below) ∙ f.has) in
    record { row = s.row; has = s.has; path = f.row ∷ f.path; is_path = (s.entry_is, f.is_path); ends = f.ends }

-- a path from a row of the set ends in a row of the set after its letters
back : (t : Table) → IsTable t → (row : ℕ) (path : List ℕ) (word : List Letter) (set : ℕ) → row < 32 → has_bit set row ≡ true → IsPath (Follows t) row path word → has_bit (rows_after t set word) (end_of row path) ≡ true
back t it row [] [] set below has p = has
back t it row [] (x ∷ word) set below has p = absurd p
back t it row (to ∷ path) [] set below has p = absurd p
back t it row (to ∷ path) (x ∷ word) set below has p =
    let range = it.in_range row x to p.0 in
    back t it to path word (step_set t set x) range.1 (has_bit-number_of (some_follows t set x 32) 32 to range.1 ∙ some_follows-intro t set x 32 row to below has p.0) p.1

-- letters lead to a set that has no bit from 32 on, from such a set
rows_fit : (t : Table) (word : List Letter) (set : ℕ) → set < 2 ^ 32 → rows_after t set word < 2 ^ 32
rows_fit t [] set fits = fits
rows_fit t (x ∷ word) set fits = rows_fit t word (step_set t set x) (step_fits t set x)

-- the start set has no other row than the start row
only_first : (t : Table) → IsTable t → (row : ℕ) → has_bit (start_set t) row ≡ true → row ≡ first_row t
only_first t it row h = go (first_row t) it.first row h
  where
    go : (n : ℕ) → n ≤ 1 → (row : ℕ) → has_bit (if n == 1 then 2 else 1) row ≡ true → row ≡ n
    go zero le zero h = refl
    go zero le (suc n) h = absurd (true_not_false (sym h ∙ rw (bit_at_above 1 1 (suc n) (lit< tt) (omega arith)) refl))
    go (suc zero) le zero h = cc
    go (suc zero) le (suc zero) h = refl
    go (suc zero) le (suc (suc n)) h = absurd (true_not_false (sym h ∙ rw (bit_at_above 2 2 (suc (suc n)) (lit< tt) (omega arith)) refl))
    go (suc (suc n)) le row h = absurd (omega arith)

-- the start set has no bit from 32 on
start-fits : (t : Table) → start_set t < 2 ^ 32
start-fits t = go (first_row t == 1)
  where
    go : (b : Bool) → (if b then 2 else 1) < 2 ^ 32
    go true = lit< tt
    go false = lit< tt

-- the start set has the start row
start-has : (t : Table) → IsTable t → has_bit (start_set t) (first_row t) ≡ true
start-has t it = go (first_row t) it.first
  where
    go : (n : ℕ) → n ≤ 1 → has_bit (if n == 1 then 2 else 1) n ≡ true
    go zero le = refl
    go (suc zero) le = refl
    go (suc (suc n)) le = absurd (omega arith)

-- a number of 32 bits that is not 0 has some bit
some_bit : (n : ℕ) → n < 2 ^ 32 → not (n == 0) ≡ true → (b : ℕ) × (has_bit n b ≡ true)
some_bit n fits h = let pos : 0 < n = grind arith in let b = bit_at-trailing_zeros w32 n pos fits in (trailing_zeros w32 n, rw b.1 refl)

-- a number that has a bit is not 0
not_zero : (n b : ℕ) → has_bit n b ≡ true → not (n == 0) ≡ true
not_zero zero b h = absurd (true_not_false (sym h ∙ rw (bit_at-zero b) refl))
not_zero (suc n) b h = grind arith

-- so every table has a judge by its paths, which steps through it
pub every_table_is_judged : EveryTableIsJudged
every_table_is_judged t it =
    let start : ℕ = start_set t in
    let first : ℕ = first_row t in
    let reach : (word : List Letter) (row : ℕ) → has_bit (rows_after t start word) row ≡ true → Reaches t word row = λ word row h.
    let f = there t word start row (start-fits t) h in
    let one : f.row ≡ first = only_first t it f.row f.has in
    (f.path, subst (λ r. IsPath (Follows t) r f.path word) one f.is_path, subst (λ r. end_of r f.path ≡ row) one f.ends) in
    let row : (word : List Letter) (row : ℕ) → Reaches t word row → has_bit (rows_after t start word) row ≡ true = λ word row r.
    subst (λ n. has_bit (rows_after t start word) n ≡ true) r.2 (back t it first r.0 word start (let f = it.first in omega arith) (start-has t it) r.1) in
    record {
      holds = λ word. (
        λ h. let b = some_bit (rows_after t start word) (rows_fit t word start (start-fits t)) h in (b.0, reach word b.0 b.1),
        λ r. not_zero (rows_after t start word) r.0 (row word r.0 r.1),
      );
      reaches = λ word q. (reach word q, row word q);
    }
