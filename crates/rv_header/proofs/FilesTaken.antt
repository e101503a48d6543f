-- The text of an automaton file, from what was taken.
use Rattle.std.proofs.Common.{◌≡◌, ℕ, true, false, List, Some, None, refl, sym, ap, ◌∙◌}
use Rattle.rv_dot.specs.Canonical.{drawing_text}
use Rattle.rv_header.specs.inner.Taking.{name_in, state_names_in, events_in, rows_in, marks_in, drawing_by, drawing_in, are_few, file_in}

-- too many states
pub many_states : (text : List ℕ) (states : List (List ℕ)) → states ≡ state_names_in text → are_few 31 states ≡ false → None ≡ file_in text
unfolding file_in
many_states text states is many = let test : are_few 31 (state_names_in text) ≡ false = ap (are_few 31) (sym is) ∙ many in rw test refl

-- too many events
pub many_events : (text : List ℕ) (states events : List (List ℕ)) → states ≡ state_names_in text → events ≡ events_in text → are_few 31 states ≡ true → are_few 64 events ≡ false → None ≡ file_in text
unfolding file_in
many_events text states events is' is few many =
    let first : are_few 31 (state_names_in text) ≡ true = ap (are_few 31) (sym is') ∙ few in
    let second : are_few 64 (events_in text) ≡ false = ap (are_few 64) (sym is) ∙ many in
    rw (first, second) refl

-- as many as an automaton has
pub file_is : (text name : List ℕ) (states events rows marks : List (List ℕ)) (made : List ℕ) → name ≡ name_in text → states ≡ state_names_in text → events ≡ events_in text → rows ≡ rows_in text → marks ≡ marks_in text
    → are_few 31 states ≡ true → are_few 64 events ≡ true → made ≡ drawing_text (drawing_by name states events rows marks)
    → Some made ≡ file_in text
unfolding file_in
file_is text name states events rows marks made n s e r m few few' is =
    let first : are_few 31 (state_names_in text) ≡ true = ap (are_few 31) (sym s) ∙ few in
    let second : are_few 64 (events_in text) ≡ true = ap (are_few 64) (sym e) ∙ few' in
    let drawn : drawing_by name states events rows marks ≡ drawing_in text = rw (n, s, e, r, m) refl in
    rw (first, second) (ap Some (is ∙ ap drawing_text drawn))
