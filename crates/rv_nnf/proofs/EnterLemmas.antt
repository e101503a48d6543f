-- A part that is entered.
use Rattle.std.proofs.Common.{◌≡◌, ℕ, ◌<◌, ◌≤◌, cond, List, [], ◌∷◌, ◌++◌, length, Ok, nat_lt, sym, ap, ◌∙◌, arith, length-append}
use Rattle.std.specs.Bool.{Decides}
use Rattle.std.proofs.lemmas.List.{length-map, map-append}
use Rattle.std.proofs.lemmas.Bool.{le-ltb, lt-ltb}
use Rattle.rv_nnf.specs.Parts.{PartValue}
use Rattle.rv_nnf.specs.Views.{part_value, part_values}
use Rattle.rv_nnf.specs.declared.parts.Part.{Part}
use Rattle.rv_nnf.specs.Lists.{place}
use Rattle.rv_text.specs.declared.numbers.TheConstants.{TOO_MANY_PARTS}
use Rattle.rv_text.specs.Readings.{refused_with}
use Rattle.rv_nnf.specs.inner.Entering.{same_part, Entered, enter, try_enter}
use Rattle.rv_nnf.proofs.Places.{decided_decides, place_le, place_end, among_from_place, not_among}

-- the test of parts decides
pub same_part_decides : (a b : PartValue) → Decides (same_part a b) (a ≡ b)
same_part_decides a b = decided_decides _

-- a part that has a place stays where it is
pub enter_old : (ps : List PartValue) (p : PartValue) → place same_part ps p < length ps → enter ps p ≡ (ps, place same_part ps p)
enter_old ps p h = ap (λ b. let qs = cond b ps (ps ++ p ∷ []) in let r : Entered = (qs, place same_part qs p) in r) (among_from_place same_part same_part_decides ps p h)

-- a part that has none comes last
pub enter_new : (ps : List PartValue) (p : PartValue) → length ps ≤ place same_part ps p → enter ps p ≡ (ps ++ p ∷ [], length ps)
enter_new ps p h =
    let no = not_among same_part same_part_decides ps p h in
    ap (λ b. let qs = cond b ps (ps ++ p ∷ []) in let r : Entered = (qs, place same_part qs p) in r) no
    ∙ ap (λ n. let r : Entered = (ps ++ p ∷ [], n) in r) (place_end same_part same_part_decides ps p no)

-- a place is within the list
pub place_most : (parts : List Part) (p : PartValue) → place same_part (part_values parts) p ≤ length parts
place_most parts p = let l = length-map parts part_value in let h = place_le same_part same_part_decides (part_values parts) p in omega arith

-- one more part, as plain data
pub part_values_push : (parts : List Part) (p : Part) → part_values (parts ++ p ∷ []) ≡ part_values parts ++ part_value p ∷ []
part_values_push parts p = map-append part_value parts (p ∷ [])

-- what the code answers for a part that is there
pub entered_old : (parts : List Part) (p : PartValue) (n : ℕ) → n ≡ place same_part (part_values parts) p → n < length parts → (let r : Entered = (part_values parts, n) in r) ≡ enter (part_values parts) p
entered_old parts p n e h =
    ap (λ n. let r : Entered = (part_values parts, n) in r) e ∙ sym (enter_old (part_values parts) p (let l = length-map parts part_value in omega arith))

-- what the code leaves where the part is new
pub entered_new : (parts news : List Part) (q : Part) (n : ℕ) → news ≡ parts ++ q ∷ [] → n ≡ place same_part (part_values parts) (part_value q) → length parts ≤ n → (let r : Entered = (part_values news, n) in r) ≡ enter (part_values parts) (part_value q)
entered_new parts news q n s e h =
    let l = length-map parts part_value in
    let m = place_most parts (part_value q) in
    let k : n ≡ length (part_values parts) = omega arith in
    ap (λ ps. let r : Entered = (part_values ps, n) in r) s ∙ ap (λ ps. let r : Entered = (ps, n) in r) (part_values_push parts q)
    ∙ ap (λ n. let r : Entered = (part_values parts ++ part_value q ∷ [], n) in r) k
    ∙ sym (enter_new (part_values parts) (part_value q) (omega arith))

-- a new part where the list is full would be one too many
pub entered_full : (parts : List Part) (p : PartValue) (n : ℕ) → n ≡ place same_part (part_values parts) p → length parts ≤ n → n ≡ 64 → 64 < length (enter (part_values parts) p).0
entered_full parts p n e h k =
    let l = length-map parts part_value in
    let m = place_most parts p in
    let s = ap (λ (r : Entered). length r.0) (enter_new (part_values parts) p (omega arith)) in
    let t = length-append (part_values parts) (p ∷ []) in
    omega arith

-- the two halves of an answer
pub split_pair : (ps : List PartValue) (n : ℕ) (r : Entered) → (let q : Entered = (ps, n) in q) ≡ r → (r.0 ≡ ps) × (r.1 ≡ n)
split_pair ps n r e = (sym (ap (λ (q : Entered). q.0) e), sym (ap (λ (q : Entered). q.1) e))

-- a part is entered where the list stays within the limit
pub try_few : (ps : List PartValue) (p : PartValue) (r : Entered) → r ≡ enter ps p → length r.0 ≤ 64 → try_enter ps p ≡ Ok r
try_few ps p r e h = sym (ap (λ (r : Entered). cond (nat_lt 64 (length r.0)) (refused_with TOO_MANY_PARTS) (Ok r)) e) ∙ ap (λ b. cond b (refused_with TOO_MANY_PARTS) (Ok r)) (le-ltb 64 (length r.0) h)

-- and refused where it would not
pub try_many : (ps : List PartValue) (p : PartValue) → 64 < length (enter ps p).0 → try_enter ps p ≡ refused_with TOO_MANY_PARTS
try_many ps p h = ap (λ b. cond b (refused_with TOO_MANY_PARTS) (Ok (enter ps p))) (lt-ltb 64 (length (enter ps p).0) h)
