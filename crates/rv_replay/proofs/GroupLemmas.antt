-- The deliveries of one line: they make one turn of their CPU, which the whole list has too.
use Rattle.std.proofs.Common.{◌≡◌, ℕ, zero, suc, ◌+◌, ◌-◌, ◌<◌, ◌≤◌, ◌⊎◌, inl, inr, Bool, List, [], ◌∷◌, ◌++◌, length, get_or, refl, sym, ap, ◌∙◌, subst, arith, append_assoc, length-append, eq-eqb}
use Rattle.std.specs.Prelude.{All, if◌then◌else◌}
use Rattle.std.proofs.lemmas.List.{get_or_append_left, get_or-append-add, get_or_push, get_or_default, take_all}
use Rattle.std.proofs.Math.Seq.{get_or-append_seam}
use Rattle.rv_model.specs.declared.work.Delivery.{Delivery}
use Rattle.rv_model.specs.declared.work.Turn.{Turn}
use Rattle.rv_route.specs.Lanes.{LaneValue, longer, with_turn, with_delivery}
use Rattle.rv_route.specs.Listing.{ListedDelivery}
use Rattle.rv_replay.specs.inner.Own.{own, own_of}
use Rattle.rv_replay.proofs.OwnLemmas.{Extends, ends-no, turns-behind, front, front-more, front-lines, front-extends}

-- a turn of the line is made longer
one-longer : (line from to place : ℕ) → with_turn (record { line = line; from = from; to = to } ∷ []) line place ≡ record { line = line; from = from; to = place + 1 } ∷ []
one-longer line from to place =
    ap (λ (b : Bool). if b then longer (record { line = line; from = from; to = to } ∷ []) (place + 1) else (record { line = line; from = from; to = to } ∷ []) ++ record { line = line; from = place; to = place + 1 } ∷ [])
    (eq-eqb line line refl)

-- and begun where all turns are of lower lines
one-begun : (ts : List Turn) (line place : ℕ) → All (λ t. t.line < line) ts → with_turn ts line place ≡ ts ++ record { line = line; from = place; to = place + 1 } ∷ []
one-begun ts line place below = ap (λ (b : Bool). if b then longer ts (place + 1) else ts ++ record { line = line; from = place; to = place + 1 } ∷ []) (ends-no ts line below)

-- a delivery of the CPU goes last on it
own-here : (cpu : ℕ) (m : LaneValue) (x : ListedDelivery) → x.cpu ≡ cpu → own_of cpu m x ≡ with_delivery m x.line x.delivery
own-here cpu m x is = ap (λ (b : Bool). if b then with_delivery m x.line x.delivery else m) (eq-eqb x.cpu cpu is)

module _ (list : List ListedDelivery) (d : ListedDelivery) (cpu line from : ℕ) where
  -- what the CPU has before the line, and the line's turn with so many deliveries
  abbrev l : LaneValue
  l = front list d cpu from

  abbrev pub turn_of : ℕ → Turn
  turn_of k = record { line = line; from = length l.deliveries; to = length l.deliveries + k }

  -- the lane has this turn more, and its deliveries
  pub record HasTurn (k : ℕ) (m : LaneValue) : Type 0 where
    pub more : List Delivery
    pub turns_are : m.turns ≡ l.turns ++ turn_of k ∷ []
    pub deliveries_are : m.deliveries ≡ l.deliveries ++ more
    pub many : length more ≡ k
    pub each : (j : ℕ) (any : Delivery) → j < k → get_or more j any ≡ (get_or list (from + j) d).delivery

  module _ (below : All (λ t. t.line < line) l.turns) where
    -- the first delivery
    has-first : (x : ListedDelivery) → x ≡ get_or list from d → x.line ≡ line → HasTurn 1 (with_delivery l x.line x.delivery)
    has-first x is line_is = record {
      more = x.delivery ∷ [];
      turns_are = ap (λ (n : ℕ). with_turn l.turns n (length l.deliveries)) line_is ∙ one-begun l.turns line (length l.deliveries) below;
      deliveries_are = refl;
      many = refl;
      each = first;
    }
      where
        first : (j : ℕ) (any : Delivery) → j < 1 → get_or (x.delivery ∷ []) j any ≡ (get_or list (from + j) d).delivery
        first zero any lt = let z : from ≡ from + 0 = omega arith in ap (λ (y : ListedDelivery). y.delivery) is ∙ ap (λ (n : ℕ). (get_or list n d).delivery) z
        first (suc j) any lt = absurd (omega arith)

    -- one delivery more
    has-more : (k : ℕ) (m : LaneValue) (x : ListedDelivery) → x ≡ get_or list (from + k) d → x.line ≡ line → HasTurn k m → HasTurn (k + 1) (with_delivery m x.line x.delivery)
    has-more k m x is line_is h = record {
      more = h.more ++ x.delivery ∷ [];
      turns_are = ap (λ (n : ℕ). with_turn m.turns n (length m.deliveries)) line_is ∙ ap (λ (ts : List Turn). with_turn ts line (length m.deliveries)) h.turns_are
          ∙ turns-behind l.turns (turn_of k ∷ []) line (length m.deliveries) below
          ∙ ap (λ (ts : List Turn). l.turns ++ ts) (one-longer line (length l.deliveries) (length l.deliveries + k) (length m.deliveries))
          ∙ ap (λ (n : ℕ). l.turns ++ record { line = line; from = length l.deliveries; to = n } ∷ []) count;
      deliveries_are = ap (λ (ds : List Delivery). ds ++ x.delivery ∷ []) h.deliveries_are ∙ append_assoc l.deliveries h.more (x.delivery ∷ []);
      many = let n = h.many in let s = length-append h.more (x.delivery ∷ []) in omega arith;
      each = λ j any lt. go j any (grind arith) lt;
    }
      where
        count : length m.deliveries + 1 ≡ length l.deliveries + (k + 1)
        count = let a = ap length h.deliveries_are in let b = length-append l.deliveries h.more in let c = h.many in omega arith

        go : (j : ℕ) (any : Delivery) → (j < k) ⊎ (k ≤ j) → j < k + 1 → get_or (h.more ++ x.delivery ∷ []) j any ≡ (get_or list (from + j) d).delivery
        go j any (inl lt) lt' = get_or_append_left h.more (x.delivery ∷ []) any j (let n = h.many in omega arith) ∙ h.each j any lt
        go j any (inr le) lt' =
            let here : length h.more ≡ j = let n = h.many in omega arith in
            let place : from + k ≡ from + j = omega arith in
            get_or_push h.more x.delivery any j here ∙ ap (λ (y : ListedDelivery). y.delivery) is ∙ ap (λ (n : ℕ). (get_or list n d).delivery) place

    -- all deliveries of the line
    pub has-turn : (k : ℕ) → from + (k + 1) ≤ length list → ((j : ℕ) → from ≤ j → j < from + (k + 1) → ((get_or list j d).line ≡ line) × ((get_or list j d).cpu ≡ cpu)) → HasTurn (k + 1) (front list d cpu (from + (k + 1)))
    has-turn zero le same =
        let at = same from (omega arith) (omega arith) in
        subst (HasTurn 1) (sym (front-more list d cpu from (omega arith) ∙ own-here cpu l (get_or list from d) at.1)) (has-first (get_or list from d) refl at.0)
    has-turn (suc k) le same =
        let place : from + (k + 1) + 1 ≡ from + (suc k + 1) = omega arith in
        let count : (k + 1) + 1 ≡ suc k + 1 = omega arith in
        let at = same (from + (k + 1)) (omega arith) (omega arith) in
        let m : LaneValue = front list d cpu (from + (k + 1)) in
        let so_far : HasTurn (k + 1) m = has-turn k (omega arith) (λ j low high. same j low (omega arith)) in
        subst (λ (n : ℕ). HasTurn n (front list d cpu (from + (suc k + 1)))) count
        (subst (λ (n : ℕ). HasTurn ((k + 1) + 1) (front list d cpu n)) place
        (subst (HasTurn ((k + 1) + 1)) (sym (front-more list d cpu (from + (k + 1)) (omega arith) ∙ own-here cpu m (get_or list (from + (k + 1)) d) at.1))
        (has-more (k + 1) m (get_or list (from + (k + 1)) d) refl at.0 so_far)))

-- ---- in the whole list

-- the turn at this place of the whole is that of the deliveries from one place of the list to another
pub record TurnThere (list : List ListedDelivery) (d : ListedDelivery) (cpu line from to : ℕ) : Type 0 where
  pub turn : Turn
  pub within : length (front list d cpu from).turns < length (own cpu list).turns
  pub is : (u : Turn) → get_or (own cpu list).turns (length (front list d cpu from).turns) u ≡ turn
  pub line_is : turn.line ≡ line
  pub to_is : turn.to ≡ turn.from + (to - from)
  pub next : length (front list d cpu to).turns ≡ length (front list d cpu from).turns + 1
  pub in_list : turn.to ≤ length (own cpu list).deliveries
  pub each : (k : ℕ) (any : Delivery) (e : ListedDelivery) → k < to - from → get_or (own cpu list).deliveries (turn.from + k) any ≡ (get_or list (from + k) e).delivery

module _ (list : List ListedDelivery) (d : ListedDelivery) (cpu : ℕ) where
  -- the front is the whole
  front-whole : front list d cpu (length list) ≡ own cpu list
  front-whole = ap (own cpu) (take_all (length list) list (omega arith))

  -- the whole has the turns of a front, and later ones
  pub whole-extends : (b at : ℕ) → at ≤ length list → ((k : ℕ) → k < at → (get_or list k d).line < b) → ((k : ℕ) → at ≤ k → k < length list → b ≤ (get_or list k d).line) → Extends b (front list d cpu at) (own cpu list)
  whole-extends b at le below later =
      let all : at + (length list - at) ≡ length list = omega arith in
      subst (Extends b (front list d cpu at)) (ap (front list d cpu) all ∙ front-whole)
      (front-extends list d cpu b at (length list - at) (front-lines list d cpu (λ n. n < b) at le below) later (omega arith))

  -- so the next turn is not of a lower line
  pub next-least : (b at : ℕ) (u : Turn) → at ≤ length list → ((k : ℕ) → k < at → (get_or list k d).line < b) → ((k : ℕ) → at ≤ k → k < length list → b ≤ (get_or list k d).line)
      → length (front list d cpu at).turns < length (own cpu list).turns → b ≤ (get_or (own cpu list).turns (length (front list d cpu at).turns) u).line
  next-least b at u le below later some =
      let e = whole-extends b at le below later in
      let l = front list d cpu at in
      let count = ap length e.turns_are in
      let sum = length-append l.turns e.turns in
      let z : length l.turns ≡ length l.turns + 0 = omega arith in
      let same : get_or (own cpu list).turns (length l.turns) u ≡ get_or e.turns 0 u = ap (λ (ts : List Turn). get_or ts (length l.turns) u) e.turns_are ∙ ap (λ (n : ℕ). get_or (l.turns ++ e.turns) n u) z ∙ get_or-append-add l.turns e.turns 0 u in
      subst (λ (t : Turn). b ≤ t.line) (sym same) (e.low 0 u (omega arith))

  -- the deliveries of the line are the next turn
  pub turn-there : (line from to : ℕ) → from < to → to ≤ length list → ((k : ℕ) → k < from → (get_or list k d).line < line)
      → ((j : ℕ) → from ≤ j → j < to → ((get_or list j d).line ≡ line) × ((get_or list j d).cpu ≡ cpu)) → ((k : ℕ) → to ≤ k → k < length list → line + 1 ≤ (get_or list k d).line) → TurnThere list d cpu line from to
  turn-there line from to lt le before same later =
      let k : ℕ = (to - from) - 1 in
      let to_is : from + (k + 1) ≡ to = omega arith in
      let count : k + 1 ≡ to - from = omega arith in
      let l = front list d cpu from in
      let m = front list d cpu to in
      let h : HasTurn list d cpu line from (k + 1) m = subst (λ (n : ℕ). HasTurn list d cpu line from (k + 1) (front list d cpu n)) to_is
      (has-turn list d cpu line from (front-lines list d cpu (λ n. n < line) from (omega arith) before) k (omega arith) (λ j low high. same j low (omega arith))) in
      let e : Extends (line + 1) m (own cpu list) = whole-extends (line + 1) to le (λ j j_lt. up_to j j_lt (grind arith)) later in
      let t : Turn = turn_of list d cpu line from (k + 1) in
      let turns : (own cpu list).turns ≡ l.turns ++ t ∷ e.turns = e.turns_are ∙ ap (λ (ts : List Turn). ts ++ e.turns) h.turns_are ∙ append_assoc l.turns (t ∷ []) e.turns in
      let deliveries : (own cpu list).deliveries ≡ l.deliveries ++ (h.more ++ e.more) = e.deliveries_are ∙ ap (λ (ds : List Delivery). ds ++ e.more) h.deliveries_are ∙ append_assoc l.deliveries h.more e.more in
      record {
        turn = t;
        within = let a = ap length turns in let b = length-append l.turns (t ∷ e.turns) in omega arith;
        is = λ u. ap (λ (ts : List Turn). get_or ts (length l.turns) u) turns ∙ get_or-append_seam l.turns t e.turns u;
        line_is = refl;
        to_is = ap (λ (n : ℕ). length l.deliveries + n) count;
        next = ap length h.turns_are ∙ length-append l.turns (t ∷ []);
        in_list = let a = ap length deliveries in let b = length-append l.deliveries (h.more ++ e.more) in let c = length-append h.more e.more in let n = h.many in omega arith;
        each = λ j any x j_lt.
            let inside : j < length h.more = let n = h.many in omega arith in
            ap (λ (ds : List Delivery). get_or ds (length l.deliveries + j) any) deliveries ∙ get_or-append-add l.deliveries (h.more ++ e.more) j any ∙ get_or_append_left h.more e.more any j inside
            ∙ h.each j any (omega arith) ∙ ap (λ (y : ListedDelivery). y.delivery) (get_or_default list (from + j) d x (omega arith));
      }
    where
      up_to : (j : ℕ) → j < to → (j < from) ⊎ (from ≤ j) → (get_or list j d).line < line + 1
      up_to j j_lt (inl less) = let b = before j less in omega arith
      up_to j j_lt (inr more) = let s = (same j more j_lt).0 in omega arith
