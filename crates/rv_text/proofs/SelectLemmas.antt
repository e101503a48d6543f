-- The places that pass a test, one after the other.
use Rattle.std.proofs.Common.{◌≡◌, ℕ, zero, suc, ◌+◌, ◌-◌, ◌<◌, ◌≤◌, inl, inr, Bool, true, false, cond, [], ◌∷◌, ◌∙◌, ap, arith}
use Rattle.std.proofs.lemmas.Bool.{cases_lt}
use Rattle.rv_text.specs.TextLines.{select}

-- places that fail are left out
pub select-skip : (test : ℕ → Bool) (from count to : ℕ) → from ≤ to → ((k : ℕ) → from ≤ k → k < to → k < from + count → test k ≡ false) → select test from count ≡ select test to (from + count - to)
unfolding select
select-skip test from zero to low fails =
    let none : 0 ≡ from + 0 - to = omega arith in ap (select test to) none
select-skip test from (suc count) to low fails =
    elim (cases_lt from to) [
      | inl more ↦ (let next : from + 1 + count - to ≡ from + suc count - to = omega arith in
          ap (λ b. cond b (from ∷ select test (from + 1) count) (select test (from + 1) count)) (fails from (omega arith) more (omega arith))
          ∙ select-skip test (from + 1) count to (omega arith) (λ k l h g. fails k (omega arith) h (omega arith))
          ∙ ap (select test to) next)
      | inr here ↦ (let same : from ≡ to = omega arith in
          let rest : suc count ≡ from + suc count - to = omega arith in
          ap (λ n. select test n (suc count)) same ∙ ap (select test to) rest)
    ]

-- a place that passes comes first
pub select-first : (test : ℕ → Bool) (from count : ℕ) → 0 < count → test from ≡ true → select test from count ≡ from ∷ select test (from + 1) (count - 1)
unfolding select
select-first test from zero some passes = absurd (omega arith)
select-first test from (suc count) some passes =
    let rest : count ≡ suc count - 1 = omega arith in
    ap (λ b. cond b (from ∷ select test (from + 1) count) (select test (from + 1) count)) passes ∙ ap (λ n. from ∷ select test (from + 1) n) rest

-- of no places none passes
pub select-none : (test : ℕ → Bool) (from count : ℕ) → count ≡ 0 → select test from count ≡ []
unfolding select
select-none test from count none = ap (select test from) none
