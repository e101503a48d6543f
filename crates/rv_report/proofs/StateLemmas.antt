-- The state whose row is in a set.
use Rattle.std.proofs.Common.{◌≡◌, ℕ, zero, suc, ◌+◌, ◌<◌, true, false, List, [], ◌∷◌, length, get_or, arith, refl, ap, ◌∙◌}
use Rattle.rv_model.specs.Numbers.{has_bit}
use Rattle.rv_model.specs.Reports.{state_text}

-- it is the first one
pub state-at : (row : ℕ) (states : List (List ℕ)) (set k : ℕ) (d : List ℕ) → k < length states → ((j : ℕ) → j < k → has_bit set (row + j) ≡ false) → has_bit set (row + k) ≡ true → state_text row states set ≡ get_or states k d
state-at row [] set k d lt none has = absurd (omega arith)
state-at row (s ∷ states) set zero d lt none has =
    let here : has_bit set row ≡ true = ap (has_bit set) (let e : row ≡ row + 0 = omega arith in e) ∙ has in
    rw here refl
state-at row (s ∷ states) set (suc k) d lt none has =
    let here : has_bit set row ≡ false = ap (has_bit set) (let e : row ≡ row + 0 = omega arith in e) ∙ none 0 (omega arith) in
    let later = state-at (row + 1) states set k d (omega arith) (λ j below. ap (has_bit set) (let e : (row + 1) + j ≡ row + suc j = omega arith in e) ∙ none (suc j) (omega arith))
    (ap (has_bit set) (let e : (row + 1) + k ≡ row + suc k = omega arith in e) ∙ has) in
    rw here later

-- there is none
pub state-none : (row : ℕ) (states : List (List ℕ)) (set : ℕ) → ((j : ℕ) → j < length states → has_bit set (row + j) ≡ false) → state_text row states set ≡ []
state-none row [] set none = refl
state-none row (s ∷ states) set none =
    let here : has_bit set row ≡ false = ap (has_bit set) (let e : row ≡ row + 0 = omega arith in e) ∙ none 0 (omega arith) in
    let later = state-none (row + 1) states set (λ j below. ap (has_bit set) (let e : (row + 1) + j ≡ row + suc j = omega arith in e) ∙ none (suc j) (omega arith)) in
    rw here later
