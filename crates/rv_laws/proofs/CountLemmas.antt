-- How many of the first numbers pass a test.
use Rattle.std.proofs.Common.{◌≡◌, ◌≢◌, ℕ, zero, suc, ◌+◌, ◌<◌, Bool, true, false, ◌==◌, ◌&&◌, ◌||◌, not, inl, inr, arith, refl, sym, ap, ◌∙◌}
use Rattle.std.specs.Prelude.{count_by}
use Rattle.std.proofs.lemmas.List.Sums.{sum_by_push}
use Rattle.rv_model.specs.Numbers.{list_of, one_if}
use Rattle.rv_model.proofs.NumberLemmas.{nat_lt_or}

-- how many of the first n numbers pass
abbrev pub many : (ℕ → Bool) → ℕ → ℕ
many test n = count_by test (list_of (λ i. i) n)

-- of none
many-zero : (test : ℕ → Bool) → many test 0 ≡ 0
unfolding list_of
many-zero test = refl

-- of one more
many-suc : (test : ℕ → Bool) (n : ℕ) → many test (suc n) ≡ many test n + one_if (test n)
unfolding list_of
many-suc test n = sum_by_push (λ i. one_if (test i)) (list_of (λ i. i) n) n

-- tests that are the same on them
pub many-same : (test other : ℕ → Bool) (n : ℕ) → ((a : ℕ) → a < n → test a ≡ other a) → many test n ≡ many other n
many-same test other zero same = many-zero test ∙ sym (many-zero other)
many-same test other (suc n) same =
    let rest = many-same test other n (λ a lt. same a (omega arith)) in
    many-suc test n ∙ ap (λ (m : ℕ). m + one_if (test n)) rest ∙ ap (λ (b : Bool). many other n + one_if b) (same n (omega arith)) ∙ sym (many-suc other n)

-- none passes
pub many-none : (test : ℕ → Bool) (n : ℕ) → ((a : ℕ) → a < n → test a ≡ false) → many test n ≡ 0
many-none test zero none = many-zero test
many-none test (suc n) none =
    let rest = many-none test n (λ a lt. none a (omega arith)) in
    many-suc test n ∙ ap (λ (b : Bool). many test n + one_if b) (none n (omega arith)) ∙ (let e : many test n + 0 ≡ 0 = omega arith in e)

-- two tests that no number passes together
pub many-or : (test other : ℕ → Bool) (n : ℕ) → ((a : ℕ) → a < n → test a ≡ true → other a ≡ false) → many (λ a. test a || other a) n ≡ many test n + many other n
many-or test other zero apart = let a = many-zero test in let b = many-zero other in let c = many-zero (λ a. test a || other a) in omega arith
many-or test other (suc n) apart =
    let rest = many-or test other n (λ a lt. apart a (omega arith)) in
    let one = one-or (test n) (other n) (apart n (omega arith)) in
    let a = many-suc test n in
    let b = many-suc other n in
    many-suc (λ a. test a || other a) n ∙ (let e : many (λ a. test a || other a) n + one_if (test n || other n) ≡ many test (suc n) + many other (suc n) = omega arith in e)
  where
    one-or : (a b : Bool) → (a ≡ true → b ≡ false) → one_if (a || b) ≡ one_if a + one_if b
    one-or true b off = let out : b ≡ false = off refl in rw out refl
    one-or false b off = omega arith

-- all but one number
abbrev pub but : (ℕ → Bool) → ℕ → ℕ → Bool
but test out a = test a && not (a == out)

-- a number that is not left out
but-other : (test : ℕ → Bool) (out a : ℕ) → a ≢ out → but test out a ≡ test a
but-other test out a other = let no : (a == out) ≡ false = grind arith in rw no (go (test a))
  where
    go : (b : Bool) → (b && true) ≡ b
    go true = refl
    go false = refl

-- one passes, and the others
pub many-but : (test : ℕ → Bool) (out n : ℕ) → out < n → test out ≡ true → many test n ≡ 1 + many (but test out) n
many-but test out zero lt passes = absurd (omega arith)
many-but test out (suc n) lt passes = elim (nat_lt_or out n (omega arith)) [
  | inl below ↦
      let rest = many-but test out n below passes in
      let last : one_if (but test out n) ≡ one_if (test n) = ap (λ (b : Bool). one_if b) (but-other test out n (λ same. omega arith)) in
      let a = many-suc test n in
      let b = many-suc (but test out) n in
      omega arith
  | inr same ↦
      let rest : many test n ≡ many (but test out) n = many-same test (but test out) n (λ a lt'. sym (but-other test out a (λ e. omega arith))) in
      let passes' : test n ≡ true = ap test (sym same) ∙ passes in
      let here : one_if (test n) ≡ 1 = ap (λ (b : Bool). one_if b) passes' in
      let self : (n == out) ≡ true = grind arith in
      let gone : one_if (but test out n) ≡ 0 = ap (λ (b : Bool). one_if (test n && not b)) self ∙ ap (λ (b : Bool). one_if (b && false)) passes' in
      let a = many-suc test n in
      let b = many-suc (but test out) n in
      omega arith
]

-- what passes, and is not left out
passes-but : (test : ℕ → Bool) (out a : ℕ) → but test out a ≡ true → (test a ≡ true) × (a ≢ out)
passes-but test out a is = inner (test a) refl (a == out) refl
  where
    inner : (b : Bool) → test a ≡ b → (c : Bool) → (a == out) ≡ c → (test a ≡ true) × (a ≢ out)
    inner true passes true same = absurd (let no : false ≡ true = (rw (passes, same) at is) in cc)
    inner true passes false other = (passes, λ e. (let yes' : (a == out) ≡ true = grind arith in let no : true ≡ false = sym yes' ∙ other in cc))
    inner false fails c same = absurd (let no : false ≡ true = (rw fails at is) in cc)

-- numbers that pass one test, each for one that passes another
pub record AreMoved (f : ℕ → ℕ) (test other : ℕ → Bool) (n m : ℕ) : Type 0 where
  pub apart : (a b : ℕ) → a < m → b < m → f a ≡ f b → a ≡ b
  pub to : (b : ℕ) → b < m → other b ≡ true → (f b < n) × (test (f b) ≡ true)
  pub from : (a : ℕ) → a < n → test a ≡ true → (b : ℕ) × (b < m) × (f b ≡ a) × (other b ≡ true)

-- they are as many
pub many-moved : (f : ℕ → ℕ) (m : ℕ) (test other : ℕ → Bool) (n : ℕ) → AreMoved f test other n m → many test n ≡ many other m
many-moved f zero test other n moved = many-none test n none ∙ sym (many-zero other)
  where
    none : (a : ℕ) → a < n → test a ≡ false
    none a lt = go (test a) refl
      where
        go : (b : Bool) → test a ≡ b → test a ≡ false
        go true passes = let x = moved.from a lt passes in absurd (let l = x.1 in omega arith)
        go false fails = fails
many-moved f (suc m) test other n moved = go (other m) refl (many-moved f m)
  where
    go : (t : Bool) → other m ≡ t → ((test' other' : ℕ → Bool) (n' : ℕ) → AreMoved f test' other' n' m → many test' n' ≡ many other' m) → many test n ≡ many other (suc m)
    go true passes rest =
        let last = moved.to m (omega arith) passes in
        let fewer : AreMoved f (but test (f m)) other n m = record {
          apart = λ a b lt lt' same. moved.apart a b (omega arith) (omega arith) same;
          to = λ b lt is.
              let x = moved.to b (omega arith) is in
              let differ : f b ≢ f m = λ same. (let e = moved.apart b m (omega arith) (omega arith) same in omega arith) in
              (x.0, but-other test (f m) (f b) differ ∙ x.1);
          from = λ a lt is.
              let both = passes-but test (f m) a is in
              let x = moved.from a lt both.0 in
              let differ : x.0 ≢ m = λ same. both.1 (sym x.2 ∙ ap f same) in
              (x.0, (let l = x.1 in omega arith), x.2, x.3);
        } in
        let few = rest (but test (f m)) other n fewer in
        let one = many-but test (f m) n last.0 last.1 in
        let more = many-suc other m in
        let here : one_if (other m) ≡ 1 = ap (λ (b : Bool). one_if b) passes in
        omega arith
    go false fails rest =
        let same : AreMoved f test other n m = record {
          apart = λ a b lt lt' same. moved.apart a b (omega arith) (omega arith) same;
          to = λ b lt is. moved.to b (omega arith) is;
          from = λ a lt is.
              let x = moved.from a lt is in
              let differ : x.0 ≢ m = λ e. (let no : true ≡ false = sym x.3 ∙ ap other e ∙ fails in cc) in
              (x.0, (let l = x.1 in omega arith), x.2, x.3);
        } in
        let few = rest test other n same in
        let more = many-suc other m in
        let here : one_if (other m) ≡ 0 = ap (λ (b : Bool). one_if b) fails in
        omega arith
