-- An index within a turn: the delivery there, and which of those before it a look enables.
use Rattle.std.proofs.Common.{◌≡◌, ℕ, ◌+◌, ◌-◌, ◌<◌, ◌≤◌, Bool, true, false, List, [], ◌∷◌, ◌++◌, length, arith, refl, sym, ap, ◌∙◌, subst, append_assoc, append-nil, take, drop, get_or, length-drop}
use Rattle.std.specs.Prelude.{All, filter, slice_range}
use Rattle.std.proofs.lemmas.List.{take_more, take-take, take-append-drop, get_or-drop}
use Rattle.std.proofs.lemmas.List.Elements.{filter-append, All-get_or}
use Rattle.rv_model.specs.declared.record.Delivered.{Delivered}
use Rattle.rv_model.specs.declared.record.Record.{Record}
use Rattle.rv_model.specs.declared.work.Delivery.{Delivery}
use Rattle.rv_model.specs.declared.work.Turn.{Turn}
use Rattle.rv_model.specs.Numbers.{has_bit}
use Rattle.rv_model.specs.Scripts.{is_enabled_by}
use Rattle.rv_model.specs.Works.{Work}
use Rattle.rv_feed.specs.Kept.{record_on}
use Rattle.rv_feed.specs.Lane.{LaneValue}
use Rattle.rv_feed.specs.inner.Lane.{AddsRecords}

-- ---- records of a lane

-- the record of a delivery that a look enables
abbrev pub record-for : ℕ → ℕ → Delivery → Delivered → Record
record-for line look d outcome = record_on line outcome (has_bit look 33) d

-- no record
pub adds-nothing : (lane : LaneValue) → AddsRecords lane lane []
adds-nothing lane = record { work_is = refl; records_are = sym (append-nil lane.records); room = omega arith }

-- records after records
pub adds-join : (a b c : LaneValue) (rs us : List Record) → AddsRecords a b rs → AddsRecords b c us → AddsRecords a c (rs ++ us)
adds-join a b c rs us one two = record {
  work_is = two.work_is ∙ one.work_is;
  records_are = two.records_are ∙ ap (λ (z : List Record). z ++ us) one.records_are ∙ append_assoc a.records rs us;
  room = let x = one.room in let y = two.room in omega arith;
}

-- the record that was kept is that of the delivery which was found at the place
pub kept-at : {lane lane' : LaneValue} (line word place : ℕ) {d : Delivery} {outcome : Delivered} {b : Bool} → ((any : Delivery) → d ≡ get_or lane.work.deliveries place any)
    → ((any : Delivery) → AddsRecords lane lane' (record_on line outcome b (get_or lane.work.deliveries place any) ∷ [])) → b ≡ has_bit word 33 → AddsRecords lane lane' (record-for line word d outcome ∷ [])
kept-at {lane} {lane'} line word place {d} {outcome} {b} found keeps is =
    subst (λ (x : Bool). AddsRecords lane lane' (record_on line outcome x d ∷ [])) is (subst (λ (x : Delivery). AddsRecords lane lane' (record_on line outcome b x ∷ [])) (sym (found d)) (keeps d))

-- ---- a place of a turn

-- the delivery is at the place, which is one of the turn's and one of the list
pub record AtPlace (ds : List Delivery) (turn : Turn) (place : ℕ) (d : Delivery) : Type 0 where
  pub d_is : d ≡ get_or ds place d
  pub from : turn.from ≤ place
  pub before : place < turn.to
  pub inside : place < length ds

module _ {lane lane' : LaneValue} {rs : List Record} (turn : Turn) {place : ℕ} (kept : AddsRecords lane lane' rs) (from : turn.from ≤ place) (before : place < turn.to) (in_list : turn.to ≤ length lane.work.deliveries) where
  -- a lane to which records were added has the place
  pub place-inside : place < length lane'.work.deliveries
  place-inside = let same = ap (λ (w : Work). length w.deliveries) kept.work_is in omega arith

  -- it gives the delivery that it had at first
  pub at-place : {d : Delivery} → ((any : Delivery) → d ≡ get_or lane'.work.deliveries place any) → AtPlace lane.work.deliveries turn place d
  at-place {d} found = record { d_is = found d ∙ ap (λ (w : Work). get_or w.deliveries place d) kept.work_is; from = from; before = before; inside = omega arith }

-- what holds of each delivery holds of it
pub holds-at : {ds : List Delivery} {turn : Turn} {place : ℕ} {d : Delivery} → AtPlace ds turn place d → (P : Delivery → Type 0) → All P ds → P d
holds-at {ds} {turn} {place} {d} at P all = subst P (sym at.d_is) (All-get_or P ds place d at.inside all)

-- ---- what a look enables

-- one more place
slice-more : (ds : List Delivery) (from place : ℕ) (d : Delivery) → from ≤ place → place < length ds → slice_range ds from (place + 1) ≡ slice_range ds from place ++ get_or ds place d ∷ []
slice-more ds from place d le lt =
    let n : (place + 1) - from ≡ (place - from) + 1 = omega arith in
    let long : place - from < length (drop from ds) = let l = length-drop from ds in omega arith in
    let back : from + (place - from) ≡ place = omega arith in
    ap (λ (k : ℕ). take k (drop from ds)) n ∙ take_more (drop from ds) (place - from) d long
    ∙ ap (λ (x : Delivery). take (place - from) (drop from ds) ++ x ∷ []) (get_or-drop from ds (place - from) d ∙ ap (λ (k : ℕ). get_or ds k d) back)

-- the places before one, and the rest
slice-split : (ds : List Delivery) (from place to : ℕ) → place ≤ to → slice_range ds from to ≡ slice_range ds from place ++ drop (place - from) (slice_range ds from to)
slice-split ds from place to le =
    sym (take-append-drop (place - from) (take (to - from) (drop from ds))) ∙ ap (λ (z : List Delivery). z ++ drop (place - from) (take (to - from) (drop from ds))) (take-take (place - from) (to - from) (drop from ds) (omega arith))

-- a delivery that is shown
filter-one : (word : ℕ) (d : Delivery) → is_enabled_by word d ≡ true → filter (is_enabled_by word) (d ∷ []) ≡ d ∷ []
filter-one word d shown = rw shown refl

-- a delivery that is not
filter-none : (word : ℕ) (d : Delivery) → is_enabled_by word d ≡ false → filter (is_enabled_by word) (d ∷ []) ≡ []
filter-none word d hidden = rw hidden refl

-- what the look enables of the turn's deliveries before an index
abbrev pub shown_to : ℕ → List Delivery → Turn → ℕ → List Delivery
shown_to word ds turn place = filter (is_enabled_by word) (slice_range ds turn.from place)

module _ (word : ℕ) {ds : List Delivery} {turn : Turn} {place : ℕ} {d : Delivery} (at : AtPlace ds turn place d) where
  -- one place more
  so_far : shown_to word ds turn (place + 1) ≡ shown_to word ds turn place ++ filter (is_enabled_by word) (d ∷ [])
  so_far = ap (filter (is_enabled_by word)) (slice-more ds turn.from place d at.from at.inside ∙ ap (λ (x : Delivery). slice_range ds turn.from place ++ x ∷ []) (sym at.d_is)) ∙ filter-append (is_enabled_by word) (slice_range ds turn.from place) (d ∷ [])

  -- whose delivery is not shown
  pub hidden-more : is_enabled_by word d ≡ false → shown_to word ds turn (place + 1) ≡ shown_to word ds turn place
  hidden-more hidden = so_far ∙ ap (λ (z : List Delivery). shown_to word ds turn place ++ z) (filter-none word d hidden) ∙ append-nil (shown_to word ds turn place)

  -- whose delivery is shown
  pub shown-more : is_enabled_by word d ≡ true → shown_to word ds turn (place + 1) ≡ shown_to word ds turn place ++ d ∷ []
  shown-more shown = so_far ∙ ap (λ (z : List Delivery). shown_to word ds turn place ++ z) (filter-one word d shown)

  -- what is shown behind the place
  abbrev pub shown_behind : List Delivery
  shown_behind = filter (is_enabled_by word) (drop ((place + 1) - turn.from) (slice_range ds turn.from turn.to))

  -- all that is shown of the turn
  pub shown-split : is_enabled_by word d ≡ true → shown_to word ds turn turn.to ≡ (shown_to word ds turn place ++ d ∷ []) ++ shown_behind
  shown-split shown =
      let lt = at.before in
      ap (filter (is_enabled_by word)) (slice-split ds turn.from (place + 1) turn.to (omega arith))
      ∙ filter-append (is_enabled_by word) (slice_range ds turn.from (place + 1)) (drop ((place + 1) - turn.from) (slice_range ds turn.from turn.to))
      ∙ ap (λ (z : List Delivery). z ++ shown_behind) (shown-more shown)
