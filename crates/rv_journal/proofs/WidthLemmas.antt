-- What a hit makes of a word that takes 32 bits takes no more.
use Rattle.std.proofs.Common.{pow_mono, ◌≡◌, ℕ, zero, suc, ◌-◌, ◌*◌, ◌^◌, ◌<◌, ◌≤◌, ◌==◌, nat_lt, bit_and, inl, inr, Bool, true, false, ◌&&◌, ◌||◌, cond, length, refl, sym, subst, arith, true≢false}
use Rattle.std.specs.Int.{bit_not, w32}
use Rattle.std.proofs.lemmas.Bool.{and_parts}
use Rattle.std.proofs.lemmas.Bool.Decides.{nat_tests}
use Rattle.std.proofs.Math.Nat.{pow-suc}
use Rattle.std.proofs.lemmas.Nat.{and_le_l, or_lt}
use Rattle.rv_model.specs.declared.hit.Letter.{Letter}
use Rattle.rv_model.specs.declared.hit.Letter.TheVariants.{Event, Atoms}
use Rattle.rv_model.specs.declared.hit.Mode.{Mode}
use Rattle.rv_model.specs.declared.hit.Mode.TheVariants as mode
use Rattle.rv_model.specs.declared.hit.What.{What}
use Rattle.rv_model.specs.declared.hit.What.TheVariants.{Da, Ltl, Nothing}
use Rattle.rv_model.specs.declared.hit.Hit.{Hit}
use Rattle.rv_model.specs.declared.entry.Answer.{Answer}
use Rattle.rv_model.specs.declared.entry.Answer.TheVariants.{Passed, Started, Kept, Failed}
use Rattle.rv_model.specs.Numbers.{has_bit, number_of}
use Rattle.rv_model.specs.Table.{Table, of_events, of_labels, first_row, entry_by, follows}
use Rattle.rv_model.specs.Stepping.{some_follows, step_set, start_set}
use Rattle.rv_model.proofs.NumberLemmas.{number_of-lt, nat_lt_or}
use Rattle.rv_model.proofs.MeansLemmas.{is_next-true}
use Rattle.rv_table.specs.Rows.{IsRows, row_count}
use Rattle.rv_table.proofs.RowLemmas.{entry-rows}
use Rattle.rv_word.specs.Words.{packed, set_in, atoms_in}
use Rattle.rv_core.specs.Advance.{levels_after, letter_by, begins, goes_on, from_waiting, set_turn, moved, advanced}
use Rattle.rv_core.proofs.LevelLemmas.{levels_are_bits}
use Rattle.rv_board.proofs.Knowing.{not_true}
use Rattle.rv_journal.specs.CountedWords.{FitsCountedWord, IsBelow}

-- ---- rows

-- a row that follows is one of the table's
follows-below : (t : Table) → IsRows t → (row : ℕ) (x : Letter) (next : ℕ) → follows t row x next ≡ true → next < row_count t
follows-below (of_events n rows) it row (Event event) next f = (entry-rows rows it row event next (is_next-true (entry_by rows row (Event event)) next f)).1
follows-below (of_events n rows) it row (Atoms set) next f = absurd (true≢false (sym f))
follows-below (of_labels nodes) it row x next f = let low : nat_lt next (length nodes) ≡ true = (and_parts _ _ f).0 in grind (arith, nat_tests)

-- so no other row follows
some_follows-past : (t : Table) → IsRows t → (set : ℕ) (x : Letter) (n next : ℕ) → row_count t ≤ next → some_follows t set x n next ≡ false
unfolding some_follows
some_follows-past t it set x zero next past = refl
some_follows-past t it set x (suc n) next past =
    let none : follows t n x next ≡ false = not_true (follows t n x next) (λ f. let low = follows-below t it n x next f in omega arith) in
    rw (some_follows-past t it set x n next past, none) (no_more (has_bit set n))
  where
    no_more : (b : Bool) → (false || (b && false)) ≡ false
    no_more true = refl
    no_more false = refl

-- a number without bits from n on is below its power
number_of-below : (has : ℕ → Bool) (n m : ℕ) → ((b : ℕ) → n ≤ b → has b ≡ false) → n ≤ m → number_of has m < 2 ^ n
unfolding number_of
number_of-below has n zero none low = let first : n ≡ 0 = omega arith in subst (λ (k : ℕ). 0 < 2 ^ k) (sym first) (omega arith)
number_of-below has n (suc m) none low = elim (nat_lt_or n (suc m) low) [
  | inl less ↦ (let off : has m ≡ false = none m (omega arith) in rw off (let below = number_of-below has n m none (omega arith) in omega arith))
  | inr same ↦ (rw same (number_of-lt has (suc m)))
]

-- how many rows a table has
pub rows-few : (t : Table) → IsRows t → row_count t ≤ 32
rows-few (of_events n rows) it = it.few
rows-few (of_labels nodes) it = it.few

-- the rows that follow are the table's
step_set-below : (t : Table) → IsRows t → (set : ℕ) (x : Letter) → step_set t set x < 2 ^ row_count t
step_set-below t it set x = number_of-below (some_follows t set x 32) (row_count t) 32 (λ b past. some_follows-past t it set x 32 b past) (rows-few t it)

-- a bit that is in range
two-below : (n wide : ℕ) → n < wide → 2 * 2 ^ n ≤ 2 ^ wide
two-below n wide low = let more : 2 ^ (suc n) ≤ 2 ^ wide = pow_mono {i = suc n} {j = wide} (let l : suc n ≤ wide = omega arith in l) in let step : 2 ^ (suc n) ≡ 2 ^ n * 2 = pow-suc 2 n in omega arith

-- row 0 alone is in range
pub one-below : (wide : ℕ) → 0 < wide → 1 < 2 ^ wide
one-below wide some = let two : 2 * 2 ^ 0 ≤ 2 ^ wide = two-below 0 wide some in omega arith

-- the start row alone is
start-below : (t : Table) (wide : ℕ) → first_row t < wide → start_set t < 2 ^ wide
start-below (of_events n rows) wide low = let two : 2 * 2 ^ 1 ≤ 2 ^ wide = two-below 1 wide low in omega arith
start-below (of_labels nodes) wide low = one-below wide low

module _ (t : Table) (it : IsRows t) (start : first_row t < row_count t) where
  -- a run that begins, or does not
  begins-below : (from next : ℕ) → next < 2 ^ row_count t → (begins from next).1 < 2 ^ row_count t
  begins-below from next low = on (next == 0)
    where
      on : (b : Bool) → (cond {A = Answer × ℕ} b (Failed from, 1) (Started, next)).1 < 2 ^ row_count t
      on true = one-below (row_count t) (omega arith)
      on false = low

  -- a run that goes on, or fails
  goes_on-below : (set next : ℕ) → next < 2 ^ row_count t → (goes_on set next).1 < 2 ^ row_count t
  goes_on-below set next low = on (next == 0)
    where
      on : (b : Bool) → (cond {A = Answer × ℕ} b (Failed set, 1) (Kept, next)).1 < 2 ^ row_count t
      on true = one-below (row_count t) (omega arith)
      on false = low

  -- what waits
  waiting-below : (m : Mode) (x : Letter) → (from_waiting t m x).1 < 2 ^ row_count t
  waiting-below mode.Event x = one-below (row_count t) (omega arith)
  waiting-below mode.End x = one-below (row_count t) (omega arith)
  waiting-below mode.Start x = start-below t (row_count t) start
  waiting-below mode.StartRun x = begins-below (start_set t) (step_set t (start_set t) x) (step_set-below t it (start_set t) x)

  -- what waits or runs
  turn-below : (set : ℕ) (m : Mode) (x : Letter) → (set_turn t set m x).1 < 2 ^ row_count t
  turn-below set m x = on (set == 1)
    where
      on : (b : Bool) → (cond {A = Answer × ℕ} b (from_waiting t m x) (goes_on set (step_set t set x))).1 < 2 ^ row_count t
      on true = waiting-below m x
      on false = goes_on-below set (step_set t set x) (step_set-below t it set x)

-- ---- levels

-- levels below a power stay below it
levels-below : (n : ℕ) (what : What) (levels : ℕ) → IsBelow n what → levels < 2 ^ n → levels_after what levels < 2 ^ n
levels-below n (Da event) levels is low = low
levels-below n Nothing levels is low = low
levels-below n (Ltl on off pulse) levels is low =
    let less = and_le_l levels (bit_not w32 off) in
    or_lt n (bit_and levels (bit_not w32 off)) on (omega arith) is.0

-- the word of a set and levels in range
pub packed-narrow : (wide set levels : ℕ) → set < 2 ^ wide → levels < 2 ^ (32 - wide) → FitsCountedWord wide (packed set levels)
packed-narrow wide set levels low few =
    let small : 2 ^ (32 - wide) ≤ 2 ^ 32 = pow_mono {i = 32 - wide} {j = 32} (let l : 32 - wide ≤ 32 = omega arith in l) in
    let h = levels_are_bits.halves set levels (omega arith) in
    record { set = rw h.0 low; levels = rw h.1 few }

-- what a hit makes of a word
pub advanced-narrow : (t : Table) → IsRows t → first_row t < row_count t → (word : ℕ) (hit : Hit) → IsBelow (32 - row_count t) hit.what → FitsCountedWord (row_count t) word → FitsCountedWord (row_count t) (advanced t word hit).1
advanced-narrow t it start word hit below is = on (set_in word == 0)
  where
    levels : ℕ
    levels = levels_after hit.what (atoms_in word)

    on : (b : Bool) → FitsCountedWord (row_count t) (cond {A = Answer × ℕ} b (Passed, word) (moved t (set_in word) levels hit)).1
    on true = is
    on false = packed-narrow (row_count t) ((set_turn t (set_in word) hit.mode (letter_by hit.what levels)).1) levels (turn-below t it start (set_in word) hit.mode (letter_by hit.what levels)) (levels-below (32 - row_count t) hit.what (atoms_in word) below is.levels)
