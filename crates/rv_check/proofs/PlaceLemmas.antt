-- Places of turns and of deliveries.
use Rattle.std.proofs.Common.{◌≡◌, ℕ, zero, suc, ◌+◌, ◌-◌, ◌<◌, ◌≤◌, List, [], ◌∷◌, length, arith, ap, ◌∙◌, get_or, take, drop}
use Rattle.std.specs.Prelude.{slice_range}
use Rattle.std.proofs.Math.Seq.{drop-cons}
use Rattle.rv_model.specs.declared.work.Turn.{Turn}
use Rattle.rv_model.specs.Works.{NamesEach}

-- the first place is not after the end
names-end : (place : ℕ) (turns : List Turn) (count : ℕ) → NamesEach place turns count → place ≤ count
names-end place [] count names = omega (arith, names)
names-end place (t ∷ turns) count names = let later = names-end t.to turns count names.2 in let is = names.0 in let le = names.1 in omega arith

-- each turn's places are in the list
pub names-in : (place : ℕ) (turns : List Turn) (count : ℕ) → NamesEach place turns count → (k : ℕ) (d : Turn) → k < length turns → (get_or turns k d).to ≤ count
names-in place [] count names k d lt = absurd (omega arith)
names-in place (t ∷ turns) count names zero d lt = names-end t.to turns count names.2
names-in place (t ∷ turns) count names (suc k) d lt = names-in t.to turns count names.2 k d (omega arith)

-- a range begins with what stands at its first place
pub slice-first : {X : Type 0} (xs : List X) (at to : ℕ) (d : X) → at < to → to ≤ length xs → slice_range xs at to ≡ get_or xs at d ∷ slice_range xs (at + 1) to
slice-first {X} xs at to d lt le =
    let n : to - at ≡ suc (to - (at + 1)) = omega arith in
    let here : drop at xs ≡ get_or xs at d ∷ drop (suc at) xs = drop-cons xs at d (omega arith) in
    ap (λ (k : ℕ). take k (drop at xs)) n ∙ ap (take (suc (to - (at + 1)))) here ∙ ap (λ (k : ℕ). get_or xs at d ∷ take (to - (at + 1)) (drop k xs)) (sym-add at)
  where
    sym-add : (k : ℕ) → suc k ≡ k + 1
    sym-add k = omega arith

-- a range that does not go up is empty
pub slice-empty : {X : Type 0} (xs : List X) (at to : ℕ) → to ≤ at → slice_range xs at to ≡ []
slice-empty {X} xs at to le = let n : to - at ≡ 0 = omega arith in ap (λ (k : ℕ). take k (drop at xs)) n
