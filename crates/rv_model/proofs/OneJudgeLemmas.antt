-- There is one judge of each specification.
use Rattle.std.proofs.Common.{◌≡◌, ℕ, Bool, true, false, List, [], ◌∷◌, refl, ap, ◌∙◌}
use Rattle.std.specs.Prelude.{IsTrue}
use Rattle.rv_model.specs.declared.hit.Letter.{Letter}
use Rattle.rv_model.specs.declared.formula.Spec.{Spec}
use Rattle.rv_model.specs.Table.{Table}
use Rattle.rv_model.specs.Judging.{Judge, Judges, IsGood}
use Rattle.rv_model.specs.Histories.{AreJudges}

-- tests that follow from each other are one
same_test : (a b : Bool) → (IsTrue a → IsTrue b) → (IsTrue b → IsTrue a) → a ≡ b
same_test true true f g = refl
same_test false false f g = refl
same_test true false f g = absurd (let no : false ≡ true = f refl in cc)
same_test false true f g = absurd (let no : false ≡ true = g refl in cc)

-- two judges of one specification are one
pub judges-same : (Holds : List Letter → Type 0) (t : Table) (j k : Judge) → Judges Holds t j → Judges Holds t k → j ≡ k
judges-same Holds t j k by_j by_k =
    let holds : (word : List Letter) → j.holds word ≡ k.holds word = λ word. same_test _ _ (λ h. (by_k.holds word).1 ((by_j.holds word).0 h)) (λ h. (by_j.holds word).1 ((by_k.holds word).0 h)) in
    let reaches : (word : List Letter) (row : ℕ) → j.reaches word row ≡ k.reaches word row = λ word row. same_test _ _ (λ h. (by_k.reaches word row).1 ((by_j.reaches word row).0 h)) (λ h. (by_j.reaches word row).1 ((by_k.reaches word row).0 h)) in
    λ i. record { holds = λ word. holds word i; reaches = λ word row. reaches word row i }

-- so are the lists of them
pub lists-same : (specs : List Spec) (tables : List Table) (js ks : List Judge) → AreJudges specs tables js → AreJudges specs tables ks → js ≡ ks
lists-same [] [] [] [] h g = refl
lists-same [] [] [] (k ∷ ks) h g = absurd g
lists-same [] [] (j ∷ js) ks h g = absurd h
lists-same [] (t ∷ tables) js ks h g = absurd h
lists-same (a ∷ specs) [] js ks h g = absurd h
lists-same (a ∷ specs) (t ∷ tables) [] ks h g = absurd h
lists-same (a ∷ specs) (t ∷ tables) (j ∷ js) [] h g = absurd g
lists-same (a ∷ specs) (t ∷ tables) (j ∷ js) (k ∷ ks) h g =
    ap (λ (z : List Judge). j ∷ z) (lists-same specs tables js ks h.1 g.1) ∙ ap (λ (x : Judge). x ∷ ks) (judges-same (IsGood a) t j k h.0 g.0)
