-- A text is appended in parts.
use Rattle.std.proofs.Common.{◌≡◌, ℕ, ◌+◌, ◌<◌, List, [], ◌∷◌, ◌++◌, Result, Ok, Err, Bor, take, drop, length, slice_index_or, sym, ap, ◌∙◌, append_assoc, take-append-drop, append-nil, refl}
use Rattle.std.proofs.lemmas.List.{take_more}
use Rattle.rv_react.specs.Appending.{Appends}
use Rattle.rv_react.specs.inner.Parts.{joined}

-- a refusal in the first part
pub Appends-front : {E : Type 0} (old new first later : List ℕ) (refused : E) → Appends {E = E} old new first (Err refused) → Appends {E = E} old new (first ++ later) (Err refused)
Appends-front old new first later refused part = (part.0, part.1 ++ later, ap (λ text. text ++ later) part.2 ∙ append_assoc part.0 part.1 later, part.3)

-- the later part after the first
pub Appends-later : {E : Type 0} (old middle new first later : List ℕ) (result : Result Unit E) → middle ≡ old ++ first → Appends middle new later result → Appends old new (first ++ later) result
Appends-later old middle new first later (Ok done) begun part = part ∙ ap (λ text. text ++ later) begun ∙ append_assoc old first later
Appends-later old middle new first later (Err refused) begun part =
    (first ++ part.0, part.1, ap (λ text. first ++ text) part.2 ∙ sym (append_assoc first part.0 part.1), part.3 ∙ ap (λ text. text ++ part.0) begun ∙ append_assoc old first part.0)

-- pieces in two parts
joined-append : (pieces more : List (Bor (List ℕ))) → joined (pieces ++ more) ≡ joined pieces ++ joined more
joined-append [] more = refl
joined-append (piece ∷ pieces) more = ap (λ text. piece.now ++ text) (joined-append pieces more) ∙ sym (append_assoc piece.now (joined pieces) (joined more))

-- one more piece
joined-more : (pieces : List (Bor (List ℕ))) (i : ℕ) (d : Bor (List ℕ)) → i < length pieces → joined (take (i + 1) pieces) ≡ joined (take i pieces) ++ (slice_index_or pieces i d).now
joined-more pieces i d within =
    ap joined (take_more pieces i d within) ∙ joined-append (take i pieces) (slice_index_or pieces i d ∷ []) ∙ ap (λ text. joined (take i pieces) ++ text) (append-nil (slice_index_or pieces i d).now)

-- the pieces so far, and the others
pub joined-split : (pieces : List (Bor (List ℕ))) (i : ℕ) → joined pieces ≡ joined (take i pieces) ++ joined (drop i pieces)
joined-split pieces i = sym (ap joined (take-append-drop i pieces)) ∙ joined-append (take i pieces) (drop i pieces)

-- a piece was appended after the pieces before it
pub joined-next : (old out new : List ℕ) (pieces : List (Bor (List ℕ))) (i : ℕ) (d : Bor (List ℕ)) → i < length pieces
    → out ≡ old ++ joined (take i pieces) → new ≡ out ++ (slice_index_or pieces i d).now → new ≡ old ++ joined (take (i + 1) pieces)
joined-next old out new pieces i d within before grown =
    grown ∙ ap (λ text. text ++ (slice_index_or pieces i d).now) before ∙ append_assoc old (joined (take i pieces)) (slice_index_or pieces i d).now
    ∙ ap (λ text. old ++ text) (sym (joined-more pieces i d within))

-- the pieces of a line, however they are grouped
pub line-pieces : {monitor denied event on state line : List ℕ} (front instance : List ℕ) (monitor' denied' event' on' state' line' : List ℕ)
    → monitor ≡ monitor' → denied ≡ denied' → event ≡ event' → on ≡ on' → state ≡ state' → line ≡ line'
    → front ++ (monitor ++ (instance ++ (denied ++ (event ++ (on ++ (state ++ (line ++ []))))))) ≡ (((front ++ monitor') ++ instance) ++ (((denied' ++ event') ++ on') ++ state')) ++ line'
line-pieces {monitor} {denied} {event} {on} {state} {line} front instance monitor' denied' event' on' state' line' a b c d e f =
    rw (a, b, c, d, e, f) (simp (append_assoc, append-nil) refl)

-- a line in its two parts
pub line-parts : (front monitor instance fault line digits close end : List ℕ)
    → (((((front ++ monitor) ++ instance) ++ fault) ++ line) ++ (digits ++ (close ++ end))) ≡ front ++ ((((((monitor ++ instance) ++ fault) ++ line) ++ digits) ++ close) ++ end)
line-parts front monitor instance fault line digits close end = simp append_assoc refl
