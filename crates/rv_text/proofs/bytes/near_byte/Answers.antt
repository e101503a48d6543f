use Rattle.std.proofs.Common.{◌≡◌, ◌-◌, ℕ, Bool, true, eqb, get_or, length, inl, inr, sym, subst, arith}
use Rattle.std.proofs.lemmas.Bool.{cases_lt}
use Rattle.rv_text.proofs.LeastLemmas.{least-is, least-before, least-at, least-low}
use Rattle.rv_text.proofs.bytes.near_byte.Goals as goal

pub loop-place-preserved : goal.loop-place-preserved
loop-place-preserved c =
    let kept = c.loop-place.invariant in (
      omega arith,
      omega arith,
      λ k low high. elim (cases_lt k c.loop-place.place) [
        | inl before ↦ kept.2 k low before
        | inr on ↦ least-before (λ k. eqb (get_or c.args.text.now k 0) c.args.byte) c.loop-place.place 32 k on (omega (arith, c.in_default.ensures.none))
      ],
    )

pub returns-in-Some-clause-value : goal.returns-in-Some-clause-value
returns-in-Some-clause-value c =
    let test : ℕ → Bool = λ k. eqb (get_or c.args.text.now k 0) c.args.byte in
    let kept = c.loop-place.invariant in
    let found = c.in-Some.ensures in
    let low = least-low test c.loop-place.place 32 in
    sym (least-is test c.args.from (length c.args.text.now - c.args.from) c.in-Some.found (omega (arith, low, found.value)) (omega (arith, found.some))
    (λ k from to. elim (cases_lt k c.loop-place.place) [
      | inl before ↦ kept.2 k from before
      | inr on ↦ least-before test c.loop-place.place 32 k on (omega (arith, found.value))
    ])
    (λ _. subst (λ (k : ℕ). test k ≡ true) (sym found.value) (least-at test c.loop-place.place 32 (omega (arith, found.value, found.some)))))

pub returns-in-Some-clause-low : goal.returns-in-Some-clause-low
returns-in-Some-clause-low c = omega (arith, c.in-Some.ensures.value, least-low (λ k. eqb (get_or c.args.text.now k 0) c.args.byte) c.loop-place.place 32)
