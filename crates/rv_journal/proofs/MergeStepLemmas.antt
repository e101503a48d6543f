-- The steps of a lane, one by one.
use Rattle.std.proofs.Common.{◌≡◌, ◌≢◌, ℕ, zero, suc, ◌+◌, ◌-◌, ◌<◌, ◌≤◌, List, [], ◌∷◌, ◌++◌, length, take, drop, get_or, refl, sym, ap, ◌∙◌, subst, arith, add-one}
use Rattle.std.specs.Prelude.{slice_range}
use Rattle.std.proofs.lemmas.List.Folds.{drop_split}
use Rattle.std.proofs.Math.Seq.{drop-cons}
use Rattle.rv_model.specs.declared.work.Turn.{Turn}
use Rattle.rv_model.specs.Works.{NamesEach}
use Rattle.rv_journal.specs.declared.counted.Counted.{Counted}
use Rattle.rv_journal.specs.declared.steps.LaneProgress.{LaneProgress}
use Rattle.rv_journal.specs.declared.steps.MergeStep.{MergeStep}
use Rattle.rv_journal.specs.declared.steps.MergeStep.TheVariants.{TurnLook, Item}
use Rattle.rv_journal.specs.CountedLanes.{CountedLaneValue}
use Rattle.rv_journal.specs.MergeSteps.{items_of, item_steps, steps_from}
use Rattle.rv_journal.specs.inner.MergeSteps.{rest_of, Ahead, IsCursor, GoesTo}

-- ---- ranges

-- nothing behind the end
pub drop-all : {X : Type 0} (xs : List X) (n : ℕ) → length xs ≤ n → drop n xs ≡ []
drop-all [] zero le = refl
drop-all [] (suc n) le = refl
drop-all (x ∷ xs) zero le = absurd (omega arith)
drop-all (x ∷ xs) (suc n) le = drop-all xs n (omega arith)

-- nothing from a place up to it
pub range-none : {X : Type 0} (xs : List X) (n : ℕ) → slice_range xs n n ≡ []
range-none xs n = let z : n - n ≡ 0 = omega arith in rw z refl

-- the first of a range
pub range-cons : {X : Type 0} (xs : List X) (d : X) (from to : ℕ) → from < to → from < length xs → slice_range xs from to ≡ get_or xs from d ∷ slice_range xs (suc from) to
range-cons xs d from to lt in' =
    let one : to - from ≡ suc (to - suc from) = omega arith in
    ap (λ (n : ℕ). take n (drop from xs)) one ∙ ap (take (suc (to - suc from))) (drop-cons xs from d in')

-- ---- steps

-- a step of a turn that comes next
pub steps-opens : (items : List Counted) (place : ℕ) (turn : Turn) (turns : List Turn) → turn.from ≡ place → steps_from items place (turn ∷ turns) ≡ TurnLook ∷ steps_from items place turns
steps-opens items place turn turns at =
    subst (λ (n : ℕ). item_steps (slice_range items place n) ++ TurnLook ∷ steps_from items n turns ≡ TurnLook ∷ steps_from items place turns) (sym at)
    (ap (λ (z : List Counted). item_steps z ++ TurnLook ∷ steps_from items place turns) (range-none items place))

-- a step of an item that comes next
pub steps-item : (items : List Counted) (place : ℕ) (d : Counted) (turns : List Turn) → place < length items → Ahead (suc place) turns (length items) → steps_from items place turns ≡ Item (get_or items place d) ∷ steps_from items (suc place) turns
steps-item items place d [] in' ahead = ap item_steps (drop-cons items place d in')
steps-item items place d (turn ∷ turns) in' ahead =
    let before = ahead.0 in
    ap (λ (z : List Counted). item_steps z ++ TurnLook ∷ steps_from items turn.from turns) (range-cons items d place turn.from (omega arith) in')

-- no step is left behind the last item
pub steps-none : (items : List Counted) (place : ℕ) → length items ≤ place → steps_from items place [] ≡ []
steps-none items place le = ap item_steps (drop-all items place le)

-- a turn lies within
pub names-within : (place : ℕ) (turns : List Turn) (count : ℕ) → NamesEach place turns count → place ≤ count
names-within place [] count names = omega (arith, names)
names-within place (turn ∷ turns) count names = let rest = names-within turn.to turns count names.2 in let f = names.0 in let t = names.1 in omega arith

-- behind a turn's look its items are ahead
pub ahead-opens : (place : ℕ) (turn : Turn) (turns : List Turn) (count : ℕ) → turn.from ≡ place → NamesEach turn.from (turn ∷ turns) count → Ahead place turns count
ahead-opens place turn [] count at names = let f = names.1 in let t = names.2 in omega arith
ahead-opens place turn (next ∷ turns) count at names =
    let f = names.1 in
    let t = names.2.0 in
    ((omega arith), subst (λ (n : ℕ). NamesEach n (next ∷ turns) count) (sym t) names.2)

-- before the next turn there is room for an item
pub ahead-item : (place : ℕ) (turns : List Turn) (count : ℕ) → Ahead place turns count → place < count → ((turn : Turn) (more : List Turn) → turns ≡ turn ∷ more → turn.from ≢ place) → Ahead (suc place) turns count
ahead-item place [] count ahead in' apart = omega arith
ahead-item place (turn ∷ turns) count ahead in' apart = let ne = apart turn turns refl in let le = ahead.0 in (omega arith, ahead.1)

-- at the last item no turn is left, unless it comes next
pub ahead-end : (place : ℕ) (turns : List Turn) (count : ℕ) → Ahead place turns count → count ≤ place → ((turn : Turn) (more : List Turn) → turns ≡ turn ∷ more → turn.from ≢ place) → turns ≡ []
ahead-end place [] count ahead end' apart = refl
ahead-end place (turn ∷ turns) count ahead end' apart =
    let ne = apart turn turns refl in
    let le = ahead.0 in
    let within = names-within turn.from (turn ∷ turns) count ahead.1 in
    absurd (omega arith)

-- the items of steps
pub items-append : (a b : List MergeStep) → items_of (a ++ b) ≡ items_of a ++ items_of b
items-append [] b = refl
items-append (TurnLook ∷ a) b = items-append a b
items-append (Item c ∷ a) b = ap (λ (z : List Counted). c ∷ z) (items-append a b)

-- the steps of items and of no turn have just these items
pub items-steps : (items : List Counted) → items_of (item_steps items) ≡ items
items-steps [] = refl
items-steps (c ∷ items) = ap (λ (z : List Counted). c ∷ z) (items-steps items)

-- they are all items from the place on
pub steps-items : (items : List Counted) (place : ℕ) (turns : List Turn) → Ahead place turns (length items) → items_of (steps_from items place turns) ≡ drop place items
steps-items items place [] ahead = items-steps (drop place items)
steps-items items place (turn ∷ turns) ahead =
    let rest = steps-items items turn.from turns (ahead-opens turn.from turn turns (length items) refl ahead.1) in
    items-append (item_steps (slice_range items place turn.from)) (TurnLook ∷ steps_from items turn.from turns)
    ∙ (ap (λ (z : List Counted). z ++ items_of (steps_from items turn.from turns)) (items-steps (slice_range items place turn.from))
    ∙ (ap (λ (z : List Counted). slice_range items place turn.from ++ z) rest ∙ sym (drop_split items place turn.from ahead.0)))

-- ---- cursors

-- a turn opens
pub opens-next : (lane : CountedLaneValue) (cursor : LaneProgress) (d : Turn) → IsCursor lane cursor → cursor.turns < length lane.work.turns → (get_or lane.work.turns cursor.turns d).from ≡ cursor.items
    → GoesTo lane cursor TurnLook (record { turns = cursor.turns + 1; items = cursor.items })
opens-next lane cursor d ahead in' at =
    let turn : Turn = get_or lane.work.turns cursor.turns d in
    let more : List Turn = drop (suc cursor.turns) lane.work.turns in
    let cut : drop cursor.turns lane.work.turns ≡ turn ∷ more = drop-cons lane.work.turns cursor.turns d in' in
    let ahead' : Ahead cursor.items (turn ∷ more) (length lane.counted) = subst (λ (z : List Turn). Ahead cursor.items z (length lane.counted)) cut ahead in
    let one : suc cursor.turns ≡ cursor.turns + 1 = sym (add-one cursor.turns) in
    record {
      steps = ap (steps_from lane.counted cursor.items) cut ∙ (steps-opens lane.counted cursor.items turn more at ∙ ap (λ (n : ℕ). TurnLook ∷ steps_from lane.counted cursor.items (drop n lane.work.turns)) one);
      is_cursor = subst (λ (n : ℕ). Ahead cursor.items (drop n lane.work.turns) (length lane.counted)) one (ahead-opens cursor.items turn more (length lane.counted) at ahead'.1);
    }

-- no turn opens here
abbrev pub NoTurn : CountedLaneValue → LaneProgress → Type 0
NoTurn lane cursor = (turn : Turn) (more : List Turn) → drop cursor.turns lane.work.turns ≡ turn ∷ more → turn.from ≢ cursor.items

-- an item comes
pub item-next : (lane : CountedLaneValue) (cursor : LaneProgress) (d : Counted) → IsCursor lane cursor → NoTurn lane cursor → cursor.items < length lane.counted
    → GoesTo lane cursor (Item (get_or lane.counted cursor.items d)) (record { turns = cursor.turns; items = cursor.items + 1 })
item-next lane cursor d ahead none in' =
    let next = ahead-item cursor.items (drop cursor.turns lane.work.turns) (length lane.counted) ahead in' none in
    let one : suc cursor.items ≡ cursor.items + 1 = sym (add-one cursor.items) in
    record {
      steps = steps-item lane.counted cursor.items d (drop cursor.turns lane.work.turns) in' next ∙ ap (λ (n : ℕ). Item (get_or lane.counted cursor.items d) ∷ steps_from lane.counted n (drop cursor.turns lane.work.turns)) one;
      is_cursor = subst (λ (n : ℕ). Ahead n (drop cursor.turns lane.work.turns) (length lane.counted)) one next;
    }

-- the lane is at its end
pub end-next : (lane : CountedLaneValue) (cursor : LaneProgress) → IsCursor lane cursor → NoTurn lane cursor → length lane.counted ≤ cursor.items → rest_of lane cursor ≡ []
end-next lane cursor ahead none end' =
    ap (steps_from lane.counted cursor.items) (ahead-end cursor.items (drop cursor.turns lane.work.turns) (length lane.counted) ahead end' none) ∙ steps-none lane.counted cursor.items end'

-- no turn opens where none is left
pub no-turn_left : (lane : CountedLaneValue) (cursor : LaneProgress) → length lane.work.turns ≤ cursor.turns → NoTurn lane cursor
no-turn_left lane cursor le = λ turn more eq. absurd (let none : turn ∷ more ≡ [] = sym eq ∙ drop-all lane.work.turns cursor.turns le in cc)

-- nor where the next one comes later
pub no-turn_yet : (lane : CountedLaneValue) (cursor : LaneProgress) (d : Turn) → cursor.turns < length lane.work.turns → (get_or lane.work.turns cursor.turns d).from ≢ cursor.items → NoTurn lane cursor
no-turn_yet lane cursor d in' ne = λ turn more eq.
    (let cut : turn ∷ more ≡ get_or lane.work.turns cursor.turns d ∷ drop (suc cursor.turns) lane.work.turns = sym eq ∙ drop-cons lane.work.turns cursor.turns d in' in
    let it : turn ≡ get_or lane.work.turns cursor.turns d = cc in
    λ at. ne (ap (λ (t : Turn). t.from) (sym it) ∙ at))

-- before the first step
pub first-cursor : (lane : CountedLaneValue) → NamesEach 0 lane.work.turns (length lane.counted) → IsCursor lane (record { turns = 0; items = 0 })
first-cursor lane names = by lane.work.turns names
  where
    by : (turns : List Turn) → NamesEach 0 turns (length lane.counted) → Ahead 0 turns (length lane.counted)
    by [] names' = omega arith
    by (turn ∷ turns) names' = let f = names'.0 in (omega arith, subst (λ (n : ℕ). NamesEach n (turn ∷ turns) (length lane.counted)) (sym f) names')
