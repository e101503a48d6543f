-- A list that a loop makes of another, each item of the item at its place.
use Rattle.std.proofs.Common.{◌≡◌, ℕ, ◌+◌, ◌<◌, ◌≤◌, List, [], ◌∷◌, ◌++◌, length, get_or, map, take, sym, ap, ◌∙◌}
use Rattle.std.specs.Prelude.{All, Option, Some, None, IfSome}
use Rattle.std.proofs.lemmas.List.{map_more}
use Rattle.rv_trace.specs.declared.line.Span.{Span}
use Rattle.rv_trace.specs.FoundFields.{IsInside}

-- one more
pub mapped-more : {X Y : Type 0} (f : X → Y) (xs : List X) (i : ℕ) (x : X) (y : Y) (made new : List Y) → i < length xs → x ≡ get_or xs i x → y ≡ f x → made ≡ map f (take i xs) → new ≡ made ++ y ∷ [] → new ≡ map f (take (i + 1) xs)
mapped-more {X} {Y} f xs i x y made new lt at is so_far put =
    put ∙ ap (λ (l : List Y). l ++ y ∷ []) so_far ∙ ap (λ (z : Y). map f (take i xs) ++ z ∷ []) (is ∙ ap f at) ∙ sym (map_more f xs i x lt)

-- a span in order that ends within
pub inside_from : (fields : List ℕ) (found : Option Span) → IfSome found (λ span. span.from ≤ span.to) → IfSome found (λ span. span.to ≤ length fields) → IsInside fields found
inside_from fields None order inside = tt
inside_from fields (Some span) order inside = (order, inside)
