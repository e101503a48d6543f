-- The marks that are taken are those of the states.
use Rattle.std.proofs.Common.{◌≡◌, ℕ, Bool, true, false, List, [], ◌∷◌, ◌++◌, refl, ap, ◌∙◌}
use Rattle.std.specs.Prelude.{map, codes, ◌%◌, ◌/◌, ◌==◌}
use Rattle.std.specs.List.{AllByRecursion}
use Rattle.std.specs.Str.{bytes_eq}
use Rattle.rv_dot.specs.Canonical.{State, states_marked}
use Rattle.rv_header.specs.HeaderText.{mark_text}
use Rattle.rv_header.specs.inner.Taking.{marked_by}
use Rattle.rv_header.proofs.Cuts.{simple}

-- a mark is read as it was written
mark_back : (is_marked : Bool) → bytes_eq (mark_text is_marked) (codes "1") ≡ is_marked
mark_back true = refl
mark_back false = refl

-- a mark is simple
mark_simple : (is_marked : Bool) → simple (mark_text is_marked) ≡ true
mark_simple true = refl
mark_simple false = refl

-- the marks are simple
pub marks_simple : (states : List State) → AllByRecursion (λ n. simple n ≡ true) (map (λ (s : State). mark_text s.is_marked) states)
marks_simple [] = tt
marks_simple (s ∷ states) = (mark_simple s.is_marked, marks_simple states)

-- the states with the marks, whatever is behind them
pub marks_back : (bits : ℕ) (names more : List (List ℕ)) → marked_by names (map (λ (s : State). mark_text s.is_marked) (states_marked bits names) ++ more) ≡ states_marked bits names
marks_back bits [] more = refl
marks_back bits (n ∷ names) more =
    ap (λ (b : Bool). record { name = n; is_marked = b } ∷ marked_by names (map (λ (s : State). mark_text s.is_marked) (states_marked (bits / 2) names) ++ more)) (mark_back (bits % 2 == 1))
    ∙ ap (λ (ss : List State). record { name = n; is_marked = bits % 2 == 1 } ∷ ss) (marks_back (bits / 2) names more)
