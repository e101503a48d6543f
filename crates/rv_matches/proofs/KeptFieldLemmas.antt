-- Whether a field is kept, field by field.
use Rattle.std.proofs.Common.{◌≡◌, ℕ, zero, suc, ◌+◌, ◌<◌, Bool, true, false, ◌||◌, List, [], ◌∷◌, length, get_or, map, take, refl, sym, ap, ap₂, ◌∙◌, arith}
use Rattle.std.specs.Prelude.{bytes_eq}
use Rattle.std.proofs.lemmas.List.{map_push, take_more}
use Rattle.rv_matches.specs.declared.rule_lines.FieldLines.{FieldLines}
use Rattle.rv_matches.specs.inner.RuleSteps.{field_name}
use Rattle.rv_matches.specs.Words.{is_kept_among}
use Rattle.rv_matches.proofs.WordLemmas.{among_push, either_way}

-- what is so is so besides another fact
or_true : (a b : Bool) → b ≡ true → (a || b) ≡ true
or_true true b is = refl
or_true false b is = is

-- a field at a place is kept
pub field_there : (fields : List FieldLines) (place : ℕ) (f : FieldLines) (name : List ℕ) → place < length fields → f ≡ get_or fields place f → bytes_eq f.field name ≡ true → is_kept_among (map field_name fields) name ≡ true
field_there [] place f name within is same = absurd (omega arith)
field_there (g ∷ fields) zero f name within is same = ap (λ b. b || is_kept_among (map field_name fields) name) (either_way name g.field ∙ ap (λ (h : FieldLines). bytes_eq h.field name) (sym is) ∙ same)
field_there (g ∷ fields) (suc place) f name within is same = or_true (bytes_eq name g.field) (is_kept_among (map field_name fields) name) (field_there fields place f name (omega arith) is same)

-- a name that is that of none so far, and not of the next
pub field_not : (fields : List FieldLines) (place : ℕ) (f : FieldLines) (name : List ℕ) → place < length fields → f ≡ get_or fields place f → bytes_eq f.field name ≡ false
    → is_kept_among (map field_name (take place fields)) name ≡ false → is_kept_among (map field_name (take (place + 1) fields)) name ≡ false
field_not fields place f name within is differs none =
    ap (λ (fs : List FieldLines). is_kept_among (map field_name fs) name) (take_more fields place f within)
    ∙ ap (λ (ns : List (List ℕ)). is_kept_among ns name) (map_push field_name (take place fields) (get_or fields place f))
    ∙ among_push (map field_name (take place fields)) (get_or fields place f).field name
    ∙ ap₂ (λ a b. a || b) none (ap (λ (h : FieldLines). bytes_eq name h.field) (sym is) ∙ either_way name f.field ∙ differs)
