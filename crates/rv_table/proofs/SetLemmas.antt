-- Sets of rows by their bits.
use Rattle.std.proofs.Common.{◌≡◌, ◌≢◌, ℕ, zero, suc, ◌-◌, ◌*◌, ◌%◌, ◌^◌, ◌<◌, ◌≤◌, ◌==◌, ◌&&◌, ◌||◌, bit_or, Bool, true, false, ◌⊎◌, inl, inr, not, nat_lt, bit_and, arith, refl, sym, ap, ◌∙◌, max, List, Option}
use Rattle.std.specs.Int.{bit_at}
use Rattle.std.proofs.lemmas.Nat.Bits.{bit_at-zero, bit_at-lt, bit_at_or, bit_at-pow_same, bit_at-pow_other}
use Rattle.std.proofs.lemmas.Bool.{false≢true}
use Rattle.std.proofs.lemmas.Nat.{one_shl, pow_pos, mod_below, and_le_l}
use Rattle.rv_model.specs.declared.hit.Letter.{Letter}
use Rattle.rv_model.specs.declared.hit.Letter.TheVariants.{Atoms}
use Rattle.rv_model.specs.Numbers.{has_bit, one_if}
use Rattle.rv_model.specs.Table.{Table, of_events, follows}
use Rattle.rv_model.specs.Stepping.{some_follows, step_set}
use Rattle.rv_model.proofs.NumberLemmas.{bit_or_not, is_number_of}
use Rattle.rv_table.proofs.SharedLemmas.{has_without}

-- two numbers are the same or not
same_or_not : (a b : ℕ) → (a ≡ b) ⊎ (b ≢ a)
same_or_not a b = grind arith

-- a bit that is put in
max_bit : (a : ℕ) → a < 2 → (max a 1 == 1) ≡ (a == 1 || true)
max_bit a h = grind arith

-- a bit that is not
max_none : (a : ℕ) → (max a 0 == 1) ≡ (a == 1 || false)
max_none a = grind arith

-- a member that is put in, and the others
pub set_bit : (set member q : ℕ) → member < 32 → has_bit (bit_or set (1 * 2 ^ member % 4294967296)) q ≡ (has_bit set q || (member == q))
set_bit set member q h = rw (one_shl member 32 h, bit_at_or set (2 ^ member) q) (go (same_or_not member q))
  where
    go : (member ≡ q) ⊎ (q ≢ member) → (max (bit_at set q) (bit_at (2 ^ member) q) == 1) ≡ (has_bit set q || (member == q))
    go (inl e) = let t : (q == q) ≡ true = grind arith in rw (e, bit_at-pow_same q, t) (max_bit (bit_at set q) (bit_at-lt set q))
    go (inr n) = let f : (member == q) ≡ false = grind arith in rw (bit_at-pow_other member q n, f) (max_none (bit_at set q))

-- the member that is taken out, and the others
pub without_bit : (set member q : ℕ) → member < 32 → q < 32 → has_bit (bit_and set (4294967295 - 1 * 2 ^ member % 4294967296)) q ≡ (has_bit set q && not (member == q))
without_bit set member q h lt =
    let fits : 1 * 2 ^ member % 4294967296 < 2 ^ 32 = mod_below (1 * 2 ^ member) (2 ^ 32) (pow_pos 32) in
    has_without set (1 * 2 ^ member % 4294967296) q fits lt ∙ ap (λ b. has_bit set q && not b) (ap (λ n. has_bit n q) (one_shl member 32 h) ∙ one_bit (same_or_not member q))
  where
    one_bit : (member ≡ q) ⊎ (q ≢ member) → has_bit (2 ^ member) q ≡ (member == q)
    one_bit (inl e) = let t : (q == q) ≡ true = grind arith in rw (e, bit_at-pow_same q, t) refl
    one_bit (inr n) = let f : (member == q) ≡ false = grind arith in rw (bit_at-pow_other member q n, f) refl

-- a set from which a member is taken out is another, and no larger
pub fewer_bits : (set member : ℕ) → member < 32 → has_bit set member ≡ true → bit_and set (4294967295 - 1 * 2 ^ member % 4294967296) < set
fewer_bits set member h has =
    let less : bit_and set (4294967295 - 1 * 2 ^ member % 4294967296) ≤ set = and_le_l set (4294967295 - 1 * 2 ^ member % 4294967296) in
    let gone = without_bit set member member h h in
    omega (arith, less, apart)
  where
    t : (member == member) ≡ true
    t = grind arith

    none : (b : Bool) → (b && not true) ≡ false
    none true = refl
    none false = refl

    apart : bit_and set (4294967295 - 1 * 2 ^ member % 4294967296) ≢ set
    apart e = absurd (false≢true (sym (none (has_bit set member)) ∙ ap (λ b. has_bit set member && not b) (sym t) ∙ sym (without_bit set member member h h) ∙ ap (λ n. has_bit n member) e ∙ has))

-- nothing is put in
or_false : (a : Bool) → a ≡ (a || false)
or_false true = refl
or_false false = refl

-- no number is below 0
low-none : (row : ℕ) → nat_lt row 0 ≡ false
low-none row = grind arith

-- a number is not below itself
low-same : (row n : ℕ) → row ≡ n → nat_lt row n ≡ false
low-same row n e = grind arith

-- but below the next one
low-next : (row n : ℕ) → row ≡ n → nat_lt row (suc n) ≡ true
low-next row n e = grind arith

-- below the next one is any other that is below
low-other : (row n : ℕ) → n ≢ row → nat_lt row (suc n) ≡ nat_lt row n
low-other row n ne = grind arith

-- a row is below 32
low-row : (row : ℕ) → row < 32 → nat_lt row 32 ≡ true
low-row row few = grind arith

-- it is itself
same-is : (row n : ℕ) → row ≡ n → (row == n) ≡ true
same-is row n e = grind arith

-- and no other
other-is : (row n : ℕ) → n ≢ row → (row == n) ≡ false
other-is row n ne = grind arith

-- whether it holds `of` some member of the set below n, member by member
module _ (of : ℕ → Bool) (some : ℕ → ℕ → Bool) (none : (set : ℕ) → some set 0 ≡ false) (more : (set n : ℕ) → some set (suc n) ≡ (some set n || (has_bit set n && of n))) where
  -- it holds of no member of the empty set
  some-empty : (n : ℕ) → some 0 n ≡ false
  some-empty zero = none 0
  some-empty (suc n) = more 0 n ∙ rw (some-empty n, bit_at-zero n) refl

  -- it holds of some member where it holds of this one, or of another
  some-without : (set rest row n : ℕ) → has_bit set row ≡ true → ((other : ℕ) → other < n → has_bit rest other ≡ (has_bit set other && not (row == other))) → some set n ≡ (some rest n || (nat_lt row n && of row))
  some-without set rest row zero has others = rw (none set, none rest, low-none row) refl
  some-without set rest row (suc n) has others =
      more set n ∙ go (some-without set rest row n has (λ other lt. others other (omega arith))) (others n (omega arith)) (same_or_not row n) ∙ ap (λ b. b || (nat_lt row (suc n) && of row)) (sym (more rest n))
    where
      here : (a f : Bool) → ((a || (false && f)) || (true && f)) ≡ ((a || ((true && not true) && f)) || (true && f))
      here true f = refl
      here false f = refl

      apart : (a c f d : Bool) → ((a || (c && f)) || d) ≡ ((a || d) || (c && f))
      apart true c f d = refl
      apart false true true true = refl
      apart false true true false = refl
      apart false true false true = refl
      apart false true false false = refl
      apart false false f true = refl
      apart false false f false = refl

      keep : (b : Bool) → (b && not false) ≡ b
      keep true = refl
      keep false = refl

      go : some set n ≡ (some rest n || (nat_lt row n && of row)) → has_bit rest n ≡ (has_bit set n && not (row == n)) → (row ≡ n) ⊎ (n ≢ row) → (some set n || (has_bit set n && of n)) ≡ ((some rest n || (has_bit rest n && of n)) || (nat_lt row (suc n) && of row))
      go before rests (inl e) =
          let member : has_bit set n ≡ true = ap (has_bit set) (sym e) ∙ has in
          rw (before, rests, member, same-is row n e, low-same row n e, low-next row n e, ap of e) (here (some rest n) (of n))
      go before rests (inr ne) =
          rw (before, rests, other-is row n ne, keep (has_bit set n), low-other row n ne) (apart (some rest n) (nat_lt row n) (of row) (has_bit set n && of n))

  -- what holds of a member is put in, and the member is taken out
  pub some-step : (set rest row : ℕ) (out all : Bool) → row < 32 → has_bit set row ≡ true → ((other : ℕ) → other < 32 → has_bit rest other ≡ (has_bit set other && not (row == other))) → (out || some set 32) ≡ all → ((out || of row) || some rest 32) ≡ all
  some-step set rest row out all few has others is =
      let split = some-without set rest row 32 has others in
      swap out (of row) (some rest 32) ∙ ap (λ b. out || b) (sym (split ∙ ap (λ b. some rest 32 || (b && of row)) (low-row row few))) ∙ is
    where
      swap : (b n a : Bool) → ((b || n) || a) ≡ (b || (a || n))
      swap true n a = refl
      swap false true true = refl
      swap false true false = refl
      swap false false a = or_false a

  -- where no member is left, all is put in
  pub some-last : (rest : ℕ) (out all : Bool) → rest ≡ 0 → (out || some rest 32) ≡ all → out ≡ all
  some-last rest out all empty is = or_false out ∙ ap (λ b. out || b) (sym (ap (λ n. some n 32) empty ∙ some-empty 32)) ∙ is

-- no row is before row 0
pub some_follows-none : (t : Table) (set : ℕ) (x : Letter) (q : ℕ) → some_follows t set x 0 q ≡ false
unfolding some_follows
some_follows-none t set x q = refl

-- one more row
pub some_follows-more : (t : Table) (set : ℕ) (x : Letter) (n q : ℕ) → some_follows t set x (suc n) q ≡ (some_follows t set x n q || (has_bit set n && follows t n x q))
unfolding some_follows
some_follows-more t set x n q = refl

-- a set with the bits of the step is the step
pub is_step_set : (t : Table) (set : ℕ) (x : Letter) (out : ℕ) → out < 2 ^ 32 → ((q : ℕ) → q < 32 → has_bit out q ≡ some_follows t set x 32 q) → out ≡ step_set t set x
is_step_set t set x out fits bits = is_number_of (some_follows t set x 32) 32 out fits (λ q h. bit_or_not out q ∙ ap one_if (bits q h))

-- no row of an automaton follows by a set of atoms
none-follow : (count : ℕ) (rows : List (List (Option ℕ))) (set atoms n q : ℕ) → some_follows (of_events count rows) set (Atoms atoms) n q ≡ false
unfolding some_follows
none-follow count rows set atoms zero q = refl
none-follow count rows set atoms (suc n) q = rw (none-follow count rows set atoms n q) (none (has_bit set n))
  where
    none : (b : Bool) → (false || (b && false)) ≡ false
    none true = refl
    none false = refl

-- so the step by it is empty
pub step_set-atoms : (count : ℕ) (rows : List (List (Option ℕ))) (set atoms : ℕ) → 0 ≡ step_set (of_events count rows) set (Atoms atoms)
step_set-atoms count rows set atoms = is_step_set (of_events count rows) set (Atoms atoms) 0 (omega arith) (λ q h. rw (bit_at-zero q) refl ∙ sym (none-follow count rows set atoms 32 q))
