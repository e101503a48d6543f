-- The turns of a lane by their places.
use Rattle.std.proofs.Common.{◌≡◌, ℕ, suc, ◌+◌, ◌-◌, ◌<◌, ◌≤◌, ◌==◌, true, false, List, [], ◌∷◌, ◌++◌, length, get_or, set, refl, sym, ap, ◌∙◌, arith}
use Rattle.std.specs.Prelude.{All}
use Rattle.std.proofs.lemmas.List.{get_or_default}
use Rattle.std.proofs.lemmas.List.Elements.{All-set, All-weaker}
use Rattle.rv_model.specs.declared.work.Turn.{Turn}
use Rattle.rv_route.specs.Lanes.{LaneValue, ends_with, longer, with_turn}

-- one more turn in front puts the last place one further
one_less : (t u : Turn) (turns : List Turn) → length (t ∷ u ∷ turns) - 1 ≡ suc (length (u ∷ turns) - 1)
one_less t u turns = omega arith

-- the last turn stands at the last place
ends_with-last : (turns : List Turn) (line : ℕ) (turn : Turn) → 0 < length turns → turn ≡ get_or turns (length turns - 1) turn → ends_with turns line ≡ (turn.line == line)
ends_with-last [] line turn some is = absurd (omega arith)
ends_with-last (t ∷ []) line turn some is = ap (λ (u : Turn). u.line == line) (sym is)
ends_with-last (t ∷ u ∷ turns) line turn some is = ends_with-last (u ∷ turns) line turn (omega arith) (is ∙ ap (λ n. get_or (t ∷ u ∷ turns) n turn) (one_less t u turns))

-- to let the last turn go on is to set it at the last place
longer-last : (turns : List Turn) (to : ℕ) (turn : Turn) → 0 < length turns → turn ≡ get_or turns (length turns - 1) turn → longer turns to ≡ set turns (length turns - 1) (record turn { to = to })
longer-last [] to turn some is = absurd (omega arith)
longer-last (t ∷ []) to turn some is = ap (λ (u : Turn). record u { to = to } ∷ []) (sym is)
longer-last (t ∷ u ∷ turns) to turn some is =
    ap (λ (rest : List Turn). t ∷ rest) (longer-last (u ∷ turns) to turn (omega arith) (is ∙ ap (λ n. get_or (t ∷ u ∷ turns) n turn) (one_less t u turns)))
    ∙ ap (λ n. set (t ∷ u ∷ turns) n (record turn { to = to })) (sym (one_less t u turns))

-- the turn at a place, read twice
pub same_turn : (turns : List Turn) (place line : ℕ) (a b : Turn) → place < length turns → a ≡ get_or turns place a → b ≡ get_or turns place b → a.line ≡ line → b.line ≡ line
same_turn turns place line a b within a_is b_is same =
    let one : b ≡ a = b_is ∙ get_or_default turns place b a within ∙ sym a_is in ap (λ (t : Turn). t.line) one ∙ same

-- the last turn is of the line, and goes on
pub turn_goes_on : (turns : List Turn) (line place count : ℕ) (turn : Turn) → count ≡ length turns → 0 < count → turn ≡ get_or turns (count - 1) turn → turn.line ≡ line
    → set turns (count - 1) (record turn { to = place + 1 }) ≡ with_turn turns line place
turn_goes_on turns line place count turn many some is same =
    let here : turn ≡ get_or turns (length turns - 1) turn = is ∙ ap (λ n. get_or turns (n - 1) turn) many in
    let yes : ends_with turns line ≡ true = ends_with-last turns line turn (omega arith) here ∙ (grind arith) in
    ap (λ n. set turns (n - 1) (record turn { to = place + 1 })) many ∙ sym (longer-last turns (place + 1) turn (omega arith) here) ∙ rw yes refl

-- no turn is of the line, or the last one is of another
pub turn_begins : (turns after : List Turn) (line place : ℕ) → ends_with turns line ≡ false → after ≡ turns ++ record { line = line; from = place; to = place + 1 } ∷ [] → after ≡ with_turn turns line place
turn_begins turns after line place other is = is ∙ rw other refl

-- where there is no turn, no last turn is of the line
pub no_turns : (turns : List Turn) (line : ℕ) → length turns ≤ 0 → ends_with turns line ≡ false
no_turns [] line none = refl
no_turns (t ∷ turns) line none = absurd (omega arith)

-- where the last turn is of another line, the turns do not end with this one
pub other_turn : (turns : List Turn) (line count : ℕ) (turn : Turn) → count ≡ length turns → 0 < count → turn ≡ get_or turns (count - 1) turn → (turn.line ≡ line → ⊥) → ends_with turns line ≡ false
other_turn turns line count turn many some is apart =
    ends_with-last turns line turn (omega arith) (is ∙ ap (λ n. get_or turns (n - 1) turn) many) ∙ (grind arith)

-- one lane grew by one at most, and the count by one
pub lanes_few : (lanes : List LaneValue) (place count : ℕ) (lane : LaneValue) → All (λ (l : LaneValue). length l.deliveries ≤ count) lanes → length lane.deliveries ≤ count + 1
    → All (λ (l : LaneValue). length l.deliveries ≤ count + 1) (set lanes place lane)
lanes_few lanes place count lane few one =
    All-set (λ (l : LaneValue). length l.deliveries ≤ count + 1) lanes place lane one
    (All-weaker (λ (l : LaneValue). length l.deliveries ≤ count) (λ (l : LaneValue). length l.deliveries ≤ count + 1) (λ l h. omega arith) lanes few)
