-- What a judge of a table says of the rows as a number.
use Rattle.std.proofs.Common.{◌≡◌, ◌≢◌, ℕ, zero, suc, ◌<◌, ◌≤◌, ◌==◌, ◌&&◌, ◌||◌, not, Bool, true, false, ◌⊎◌, inl, inr, List, [], ◌∷◌, ◌++◌, arith, refl, sym, ap, ◌∙◌, subst}
use Rattle.std.proofs.lemmas.Nat.Bits.{bit_at-zero}
use Rattle.std.specs.Bool.{if◌then◌else◌}
use Rattle.rv_model.specs.declared.hit.Letter.{Letter}
use Rattle.rv_model.specs.Numbers.{has_bit, number_of}
use Rattle.rv_model.specs.Language.{IsPath}
use Rattle.rv_model.specs.Table.{Table, follows, first_row, Follows, end_of, Reaches}
use Rattle.rv_model.specs.Judging.{IsGood, ReachesSome, Judge, Judges, JudgesByTable}
use Rattle.rv_model.specs.Phases.{rows_of}
use Rattle.rv_model.proofs.NumberLemmas.{nat_lt_or, number_of-same, has_bit-number_of}
use Rattle.rv_model.proofs.ReachLemmas.{Reaches-nil, Reaches-start, Reaches-snoc, Reaches-unsnoc}
use Rattle.rv_model.specs.Stepping.{IsTable, start_set, some_follows, step_set, JudgesAreOne}

-- no test has both answers
pub true_not_false : true ≡ false → ⊥
true_not_false e = cc

-- of two tests one passes, where both parts of the second do
or_true : (a : Bool) → (a || (true && true)) ≡ true
or_true true = refl
or_true false = refl

-- where one of two tests passes, it is the first or the second
or_cases : (a b : Bool) → (a || b) ≡ true → (a ≡ true) ⊎ (b ≡ true)
or_cases true b e = inl refl
or_cases false b e = inr e

-- where two tests pass together, each of them passes
and_parts : (a b : Bool) → (a && b) ≡ true → (a ≡ true) × (b ≡ true)
and_parts true b e = (refl, e)
and_parts false b e = absurd (true_not_false (sym e))

-- a number that has no bit is 0
pub number_of-none : (n : ℕ) → number_of (λ _. false) n ≡ 0
unfolding number_of
number_of-none zero = refl
number_of-none (suc n) = rw (number_of-none n) (omega arith)

-- the number that has bit 0 alone is 1, and the one that has bit 1 alone is 2
number_of-first : (n : ℕ) → n ≤ 1 → number_of (λ q. q == n) 32 ≡ (if n == 1 then 2 else 1)
unfolding number_of
number_of-first zero le = refl
number_of-first (suc zero) le = refl
number_of-first (suc (suc n)) le = absurd (omega arith)

-- two tests with one meaning
pub same_test : (a b : Bool) → (a ≡ true → b ≡ true) → (b ≡ true → a ≡ true) → a ≡ b
same_test true b f g = sym (f refl)
same_test false true f g = g refl
same_test false false f g = refl

-- a path that begins in range ends in range
path-below : (t : Table) → IsTable t → (from : ℕ) (path : List ℕ) (word : List Letter) → IsPath (Follows t) from path word → from < 32 → end_of from path < 32
path-below t it from [] word p r = r
path-below t it from (to ∷ path) [] p r = absurd p
path-below t it from (to ∷ path) (x ∷ word) p r = path-below t it to path word p.1 (it.in_range from x to p.0).1

-- a path that begins past row 0 ends past it
path-positive : (t : Table) → IsTable t → (from : ℕ) (path : List ℕ) (word : List Letter) → IsPath (Follows t) from path word → 1 ≤ from → 1 ≤ end_of from path
path-positive t it from [] word p r = r
path-positive t it from (to ∷ path) [] p r = absurd p
path-positive t it from (to ∷ path) (x ∷ word) p r = path-positive t it to path word p.1 (it.in_range from x to p.0).0

-- a row that is reached is in range
pub Reaches-below : (t : Table) → IsTable t → (word : List Letter) (row : ℕ) → Reaches t word row → row < 32
Reaches-below t it word row (path, p, e) =
    let P : ℕ → Type 0 = λ n. n < 32 in subst P e (path-below t it (first_row t) path word p (let f = it.first in omega arith))

-- after a letter, or from row 1
abbrev pub HasLetter : List Letter → Type 0
HasLetter [] = ⊥
HasLetter (x ∷ word) = Unit {0}

-- a row that is reached after a letter, or from row 1, is not row 0
pub Reaches-positive : (t : Table) → IsTable t → (word : List Letter) (row : ℕ) → HasLetter word ⊎ (first_row t ≡ 1) → Reaches t word row → 1 ≤ row
Reaches-positive t it word row (inr one) (path, p, e) =
    let P : ℕ → Type 0 = λ n. 1 ≤ n in subst P e (path-positive t it (first_row t) path word p (omega arith))
Reaches-positive t it [] row (inl some) r = absurd some
Reaches-positive t it (x ∷ word) row (inl some) ([], p, e) = absurd p
Reaches-positive t it (x ∷ word) row (inl some) (to ∷ path, p, e) =
    let P : ℕ → Type 0 = λ n. 1 ≤ n in subst P e (path-positive t it to path word p.1 (it.in_range (first_row t) x to p.0).0)

-- a row that follows a row of the set follows the set
pub some_follows-intro : (t : Table) (set : ℕ) (x : Letter) (n row q : ℕ) → row < n → has_bit set row ≡ true → follows t row x q ≡ true → some_follows t set x n q ≡ true
unfolding some_follows
some_follows-intro t set x zero row q lt b e = absurd (omega arith)
some_follows-intro t set x (suc n) row q lt b e =
    elim (nat_lt_or row n (omega arith)) [
      | inl below ↦ rw (some_follows-intro t set x n row q below b e) refl
      | inr same ↦
          let bn : has_bit set n ≡ true = rw (← same) b in
          let en : follows t n x q ≡ true = rw (← same) e in
          rw (bn, en) (or_true (some_follows t set x n q))
    ]

-- a row of the set, below the number, that the other row follows
pub record Followed (t : Table) (set : ℕ) (x : Letter) (n q : ℕ) : Type 0 where
  pub row : ℕ
  pub below : row < n
  pub has : has_bit set row ≡ true
  pub entry_is : follows t row x q ≡ true

-- a row that follows the set follows such a row of it
pub some_follows-elim : (t : Table) (set : ℕ) (x : Letter) (n q : ℕ) → some_follows t set x n q ≡ true → Followed t set x n q
unfolding some_follows
some_follows-elim t set x zero q e = cc
some_follows-elim t set x (suc n) q e =
    elim (or_cases (some_follows t set x n q) (has_bit set n && follows t n x q) e) [
      | inl before ↦ let f = some_follows-elim t set x n q before in record { row = f.row; below = omega (arith, f.below); has = f.has; entry_is = f.entry_is }
      | inr last ↦
          let both = and_parts (has_bit set n) (follows t n x q) last in
          record { row = n; below = omega arith; has = both.0; entry_is = both.1 }
    ]

-- the rows after one more letter
module _ (t : Table) (it : IsTable t) (j : Judge) (judges : JudgesByTable t j) where
  -- one more letter leads to the rows that follow those reached before
  pub rows_of-snoc : (word : List Letter) (x : Letter) → rows_of j (word ++ x ∷ []) ≡ step_set t (rows_of j word) x
  rows_of-snoc word x = number_of-same (j.reaches (word ++ x ∷ [])) (some_follows t (rows_of j word) x 32) 32 (λ q h. same_test _ _ (there q) (back q))
    where
      there : (q : ℕ) → j.reaches (word ++ x ∷ []) q ≡ true → some_follows t (rows_of j word) x 32 q ≡ true
      there q r =
          let l = Reaches-unsnoc t word x q ((judges.reaches (word ++ x ∷ []) q).0 r) in
          let below = Reaches-below t it word l.row l.reach in
          some_follows-intro t (rows_of j word) x 32 l.row q below (has_bit-number_of (j.reaches word) 32 l.row below ∙ (judges.reaches word l.row).1 l.reach) l.follows

      back : (q : ℕ) → some_follows t (rows_of j word) x 32 q ≡ true → j.reaches (word ++ x ∷ []) q ≡ true
      back q s =
          let f = some_follows-elim t (rows_of j word) x 32 q s in
          let reach = (judges.reaches word f.row).0 (sym (has_bit-number_of (j.reaches word) 32 f.row f.below) ∙ f.has) in
          (judges.reaches (word ++ x ∷ []) q).1 (Reaches-snoc t word x f.row q reach f.entry_is)

  -- a row that is reached is in the number
  has_row : (word : List Letter) (row : ℕ) → Reaches t word row → has_bit (rows_of j word) row ≡ true
  has_row word row r = has_bit-number_of (j.reaches word) 32 row (Reaches-below t it word row r) ∙ (judges.reaches word row).1 r

  -- a word holds where the number is not 0
  pub holds-rows : (word : List Letter) → j.holds word ≡ true → rows_of j word ≢ 0
  holds-rows word h e =
      let r = (judges.holds word).0 h in
      let b : has_bit 0 r.0 ≡ true = rw (← e) (has_row word r.0 r.1) in
      let z : has_bit 0 r.0 ≡ false = rw (bit_at-zero r.0) refl in
      true_not_false (sym b ∙ z)

  -- where the letters do not hold, the number is 0
  pub fails-rows : (word : List Letter) → j.holds word ≡ false → rows_of j word ≡ 0
  fails-rows word h = number_of-same (j.reaches word) (λ _. false) 32 (λ q lt. same_test _ _ (none q) (λ e. absurd (true_not_false (sym e)))) ∙ number_of-none 32
    where
      none : (q : ℕ) → j.reaches word q ≡ true → false ≡ true
      none q r = sym h ∙ (judges.holds word).1 (q, (judges.reaches word q).0 r)

  -- the letters hold exactly where the number is not 0
  pub holds-test : (word : List Letter) → j.holds word ≡ not (rows_of j word == 0)
  holds-test word = go (j.holds word) refl
    where
      go : (b : Bool) → j.holds word ≡ b → b ≡ not (rows_of j word == 0)
      go true h = let n = holds-rows word h in grind arith
      go false h = rw (fails-rows word h) refl

  -- row 0 is never reached after a letter, and 1 is not a set of rows that are
  pub rows-not_one : (word : List Letter) → HasLetter word ⊎ (first_row t ≡ 1) → rows_of j word ≢ 1
  rows-not_one word some e =
      let b : j.reaches word 0 ≡ true = sym (has_bit-number_of (j.reaches word) 32 0 (omega arith)) ∙ ap (λ n. has_bit n 0) e in
      let range = Reaches-positive t it word 0 some ((judges.reaches word 0).0 b) in
      absurd (omega arith)

  -- at the start the rows are the start row alone
  pub rows-start : rows_of j [] ≡ start_set t
  rows-start = number_of-same (j.reaches []) (λ q. q == first_row t) 32 (λ q lt. same_test _ _ (there q) (back q)) ∙ number_of-first (first_row t) it.first
    where
      there : (q : ℕ) → j.reaches [] q ≡ true → (q == first_row t) ≡ true
      there q r = let e = Reaches-nil t q ((judges.reaches [] q).0 r) in rw e (grind arith)

      back : (q : ℕ) → (q == first_row t) ≡ true → j.reaches [] q ≡ true
      back q e = let s : q ≡ first_row t = grind arith in rw s ((judges.reaches [] (first_row t)).1 (Reaches-start t))

-- there is one judge
pub judges-same : (Holds : List Letter → Type 0) (t : Table) (j k : Judge) → Judges Holds t j → Judges Holds t k → j ≡ k
judges-same Holds t j k by_j by_k =
    let holds : (word : List Letter) → j.holds word ≡ k.holds word = λ word. same_test _ _ (λ h. (by_k.holds word).1 ((by_j.holds word).0 h)) (λ h. (by_j.holds word).1 ((by_k.holds word).0 h)) in
    let reaches : (word : List Letter) (row : ℕ) → j.reaches word row ≡ k.reaches word row = λ word row. same_test _ _ (λ h. (by_k.reaches word row).1 ((by_j.reaches word row).0 h)) (λ h. (by_j.reaches word row).1 ((by_k.reaches word row).0 h)) in
    λ i. record { holds = λ word. holds word i; reaches = λ word row. reaches word row i }

-- so there is one judge by a specification, and one by a table's paths
pub judges_are_one : JudgesAreOne
judges_are_one = record { by_spec = λ spec t j k. judges-same (IsGood spec) t j k; by_table = λ t j k. judges-same (ReachesSome t) t j k }
