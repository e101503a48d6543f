-- Counts of the first numbers that pass a test.
use Rattle.std.proofs.Common.{◌≡◌, ℕ, suc, ◌+◌, Bool, true, false, [], ◌∷◌, ◌++◌, arith, refl, ap, ◌∙◌}
use Rattle.std.specs.Prelude.{count_by, if◌then◌else◌}
use Rattle.std.proofs.lemmas.List.Sums.{sum_by-append}
use Rattle.rv_model.specs.Numbers.{list_of}

-- the list of the first numbers has one more at its end
list-more : (n : ℕ) → list_of (λ k. k) (suc n) ≡ list_of (λ k. k) n ++ n ∷ []
unfolding list_of
list-more n = refl

-- of no numbers
pub count-none : (p : ℕ → Bool) → count_by p (list_of (λ k. k) 0) ≡ 0
unfolding list_of
count-none p = refl

-- one number more
count-more : (p : ℕ → Bool) (n : ℕ) (b : Bool) → p n ≡ b → count_by p (list_of (λ k. k) (n + 1)) ≡ count_by p (list_of (λ k. k) n) + (0 + (if b then 1 else 0))
count-more p n b is =
    let next : n + 1 ≡ suc n = omega arith in
    ap (λ (m : ℕ). count_by p (list_of (λ k. k) m)) next ∙ ap (count_by p) (list-more n) ∙ sum_by-append (λ k. if p k then 1 else 0) (list_of (λ k. k) n) (n ∷ [])
    ∙ ap (λ (t : Bool). count_by p (list_of (λ k. k) n) + (0 + (if t then 1 else 0))) is

-- one number more that passes
pub count-yes : (p : ℕ → Bool) (n m : ℕ) → p n ≡ true → m ≡ count_by p (list_of (λ k. k) n) → m + 1 ≡ count_by p (list_of (λ k. k) (n + 1))
count-yes p n m is so_far = let more : count_by p (list_of (λ k. k) (n + 1)) ≡ count_by p (list_of (λ k. k) n) + (0 + 1) = count-more p n true is in omega arith

-- one number more that does not
pub count-no : (p : ℕ → Bool) (n m : ℕ) → p n ≡ false → m ≡ count_by p (list_of (λ k. k) n) → m ≡ count_by p (list_of (λ k. k) (n + 1))
count-no p n m is so_far = let more : count_by p (list_of (λ k. k) (n + 1)) ≡ count_by p (list_of (λ k. k) n) + (0 + 0) = count-more p n false is in omega arith
