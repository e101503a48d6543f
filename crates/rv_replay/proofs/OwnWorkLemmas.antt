-- The works of a list are what its CPUs have of it.
use Rattle.std.proofs.Common.{◌≡◌, ℕ, zero, suc, ◌+◌, ◌<◌, ◌==◌, inl, inr, Bool, true, false, cond, List, [], ◌∷◌, ◌++◌, length, get_or, set, replicate, refl, sym, ap, ◌∙◌, subst, arith, length-set, get_or-set_same, get_or-set_other}
use Rattle.std.specs.Prelude.{All, Contains, fold, if◌then◌else◌}
use Rattle.std.proofs.lemmas.Bool.{eq-eqb, ne_eqb}
use Rattle.std.proofs.lemmas.List.Elements.{All-nil, All-cons, All-weaker, Contains-append_left, Contains-append_right}
use Rattle.rv_model.specs.Works.{Work, IsWork}
use Rattle.rv_feed.proofs.LaneLemmas.{same_or_not}
use Rattle.rv_route.specs.Lanes.{LaneValue, IsLane, with_delivery}
use Rattle.rv_route.specs.LineByLine.{no_lane, work_in, works_from}
use Rattle.rv_route.specs.Listing.{ListedDelivery, lanes_listed, with_listed, works_listed}
use Rattle.rv_route.proofs.RoutedLemmas.{lane_grows}
use Rattle.rv_replay.specs.inner.Own.{own, own_of}

-- ---- lanes

-- a delivery goes to one lane
own-with : (lanes : List LaneValue) (d : ListedDelivery) (cpu : ℕ) → cpu < length lanes → get_or (with_listed lanes d) cpu no_lane ≡ own_of cpu (get_or lanes cpu no_lane) d
own-with lanes d cpu lt = elim (same_or_not d.cpu cpu) [
  | inl same ↦
      let yes : (d.cpu == cpu) ≡ true = eq-eqb d.cpu cpu same in
      let new : LaneValue = with_delivery (get_or lanes d.cpu no_lane) d.line d.delivery in
      let inside : d.cpu < length lanes = omega arith in
      let there : get_or (set lanes d.cpu new) d.cpu no_lane ≡ new = get_or-set_same lanes d.cpu new no_lane inside in
      ap (λ (n : ℕ). get_or (set lanes d.cpu new) n no_lane) (sym same) ∙ there ∙ ap (λ (n : ℕ). with_delivery (get_or lanes n no_lane) d.line d.delivery) same
      ∙ ap (λ (b : Bool). if b then with_delivery (get_or lanes cpu no_lane) d.line d.delivery else get_or lanes cpu no_lane) (sym yes)
  | inr other ↦
      let no : (d.cpu == cpu) ≡ false = ne_eqb d.cpu cpu other in
      let new : LaneValue = with_delivery (get_or lanes d.cpu no_lane) d.line d.delivery in
      let there : get_or (set lanes d.cpu new) cpu no_lane ≡ get_or lanes cpu no_lane = get_or-set_other lanes d.cpu cpu new no_lane (λ e. other (sym e)) in
      there ∙ ap (λ (b : Bool). if b then with_delivery (get_or lanes cpu no_lane) d.line d.delivery else get_or lanes cpu no_lane) (sym no)
]

-- so each lane is folded alone
own-fold : (list : List ListedDelivery) (lanes : List LaneValue) (cpu : ℕ) → cpu < length lanes → get_or (fold with_listed lanes list) cpu no_lane ≡ fold (own_of cpu) (get_or lanes cpu no_lane) list
own-fold [] lanes cpu lt = refl
own-fold (d ∷ list) lanes cpu lt =
    let new : LaneValue = with_delivery (get_or lanes d.cpu no_lane) d.line d.delivery in
    let many : length (set lanes d.cpu new) ≡ length lanes = length-set lanes d.cpu new in
    own-fold list (with_listed lanes d) cpu (omega arith) ∙ ap (λ (l : LaneValue). fold (own_of cpu) l list) (own-with lanes d cpu lt)

-- as many lanes
lanes-many : (list : List ListedDelivery) (lanes : List LaneValue) → length (fold with_listed lanes list) ≡ length lanes
lanes-many [] lanes = refl
lanes-many (d ∷ list) lanes = lanes-many list (with_listed lanes d) ∙ length-set lanes d.cpu (with_delivery (get_or lanes d.cpu no_lane) d.line d.delivery)

-- none has anything at first
no-lanes : (n i : ℕ) → get_or (replicate n no_lane) i no_lane ≡ no_lane
no-lanes zero i = refl
no-lanes (suc n) zero = refl
no-lanes (suc n) (suc i) = no-lanes n i

-- the lane of a CPU is what the CPU has
pub own-lane : (list : List ListedDelivery) (cpu : ℕ) → cpu < 64 → get_or (lanes_listed list) cpu no_lane ≡ own cpu list
unfolding own lanes_listed
own-lane list cpu lt = own-fold list (replicate 64 no_lane) cpu lt ∙ ap (λ (l : LaneValue). fold (own_of cpu) l list) (no-lanes 64 cpu)

-- there are 64
pub own-lanes : (list : List ListedDelivery) → length (lanes_listed list) ≡ 64
unfolding lanes_listed
own-lanes list = lanes-many list (replicate 64 no_lane)

-- its turns name its deliveries
pub own-is_lane : (cpu : ℕ) (list : List ListedDelivery) → IsLane (own cpu list)
unfolding own
own-is_lane cpu list = go list no_lane refl
  where
    go : (ds : List ListedDelivery) (l : LaneValue) → IsLane l → IsLane (fold (own_of cpu) l ds)
    go [] l is = is
    go (d ∷ ds) l is = go ds (own_of cpu l d) (one (d.cpu == cpu))
      where
        one : (b : Bool) → IsLane (if b then with_delivery l d.line d.delivery else l)
        one true = lane_grows l d.line d.delivery is
        one false = is

-- ---- works

-- the work is that of one of the lanes
record IsWorkOf (cpu : ℕ) (lanes : List LaneValue) (w : Work) : Type 0 where
  place : ℕ
  in_lanes : place < length lanes
  cpu_is : w.cpu ≡ cpu + place
  turns_are : w.turns ≡ (get_or lanes place no_lane).turns
  deliveries_are : w.deliveries ≡ (get_or lanes place no_lane).deliveries

-- of one of the later lanes
of-later : (cpu : ℕ) (lane : LaneValue) (lanes : List LaneValue) (w : Work) → IsWorkOf (cpu + 1) lanes w → IsWorkOf cpu (lane ∷ lanes) w
of-later cpu lane lanes w o = record {
  place = suc o.place;
  in_lanes = let i = o.in_lanes in omega arith;
  cpu_is = let c = o.cpu_is in omega arith;
  turns_are = o.turns_are;
  deliveries_are = o.deliveries_are;
}

-- each work is
works-of : (cpu : ℕ) (lanes : List LaneValue) → All (IsWorkOf cpu lanes) (works_from cpu lanes)
works-of cpu [] = All-nil (IsWorkOf cpu [])
works-of cpu (lane ∷ lanes) = go (length lane.deliveries == 0) (All-weaker (IsWorkOf (cpu + 1) lanes) (IsWorkOf cpu (lane ∷ lanes)) (of-later cpu lane lanes) (works_from (cpu + 1) lanes) (works-of (cpu + 1) lanes))
  where
    w : Work
    w = record { cpu = cpu; turns = lane.turns; deliveries = lane.deliveries }

    go : (none : Bool) → All (IsWorkOf cpu (lane ∷ lanes)) (works_from (cpu + 1) lanes) → All (IsWorkOf cpu (lane ∷ lanes)) (cond none [] (w ∷ []) ++ works_from (cpu + 1) lanes)
    go true later = later
    go false later = All-cons (IsWorkOf cpu (lane ∷ lanes)) w (works_from (cpu + 1) lanes) (record { place = 0; in_lanes = omega arith; cpu_is = omega arith; turns_are = refl; deliveries_are = refl }) later

-- a lane with a delivery has one
work-there : (cpu : ℕ) (lanes : List LaneValue) (place : ℕ) → place < length lanes → 0 < length (get_or lanes place no_lane).deliveries
    → Contains (works_from cpu lanes) (record { cpu = cpu + place; turns = (get_or lanes place no_lane).turns; deliveries = (get_or lanes place no_lane).deliveries })
work-there cpu [] place lt some = absurd (omega arith)
work-there cpu (lane ∷ lanes) zero lt some =
    let w : Work = record { cpu = cpu + 0; turns = lane.turns; deliveries = lane.deliveries } in
    let same : cpu ≡ cpu + 0 = omega arith in
    let no : (length lane.deliveries == 0) ≡ false = ne_eqb (length lane.deliveries) 0 (λ e. omega arith) in
    let first : Contains (work_in cpu lane) w = rw no (0, omega arith, λ i. record { cpu = same i; turns = lane.turns; deliveries = lane.deliveries }) in
    Contains-append_left (work_in cpu lane) (works_from (cpu + 1) lanes) w first
work-there cpu (lane ∷ lanes) (suc place) lt some =
    let same : cpu + 1 + place ≡ cpu + suc place = omega arith in
    let l : LaneValue = get_or lanes place no_lane in
    subst (λ (n : ℕ). Contains (works_from cpu (lane ∷ lanes)) (record { cpu = n; turns = l.turns; deliveries = l.deliveries })) same
    (Contains-append_right (work_in cpu lane) (works_from (cpu + 1) lanes) (record { cpu = cpu + 1 + place; turns = l.turns; deliveries = l.deliveries }) (work-there (cpu + 1) lanes place (omega arith) some))

-- the work is what its CPU, which is below 64, has of the list
pub record IsOwn (list : List ListedDelivery) (w : Work) : Type 0 where
  pub below : w.cpu < 64
  pub turns_are : w.turns ≡ (own w.cpu list).turns
  pub deliveries_are : w.deliveries ≡ (own w.cpu list).deliveries

-- so is each work of the list
pub works-own : (list : List ListedDelivery) → All (IsOwn list) (works_listed list)
works-own list = All-weaker (IsWorkOf 0 (lanes_listed list)) (IsOwn list) one (works_listed list) (works-of 0 (lanes_listed list))
  where
    one : (w : Work) → IsWorkOf 0 (lanes_listed list) w → IsOwn list w
    one w o =
        let many = own-lanes list in
        let in_lanes = o.in_lanes in
        let cpu : o.place ≡ w.cpu = let c = o.cpu_is in omega arith in
        let lane : get_or (lanes_listed list) o.place no_lane ≡ own w.cpu list = ap (λ (n : ℕ). get_or (lanes_listed list) n no_lane) cpu ∙ own-lane list w.cpu (omega arith) in
        record { below = omega arith; turns_are = o.turns_are ∙ ap (λ (l : LaneValue). l.turns) lane; deliveries_are = o.deliveries_are ∙ ap (λ (l : LaneValue). l.deliveries) lane }

-- what the CPU has, as a work
abbrev pub own_work : List ListedDelivery → ℕ → Work
own_work list cpu = record { cpu = cpu; turns = (own cpu list).turns; deliveries = (own cpu list).deliveries }

-- a CPU with a delivery has a work
pub own-there : (list : List ListedDelivery) (cpu : ℕ) → cpu < 64 → 0 < length (own cpu list).deliveries → Contains (works_listed list) (own_work list cpu)
own-there list cpu lt some =
    let lane : get_or (lanes_listed list) cpu no_lane ≡ own cpu list = own-lane list cpu lt in
    let many = own-lanes list in
    let zero_more : 0 + cpu ≡ cpu = omega arith in
    subst (λ (l : LaneValue). Contains (works_listed list) (record { cpu = cpu; turns = l.turns; deliveries = l.deliveries })) lane
    (subst (λ (n : ℕ). Contains (works_listed list) (record { cpu = n; turns = (get_or (lanes_listed list) cpu no_lane).turns; deliveries = (get_or (lanes_listed list) cpu no_lane).deliveries })) zero_more
    (work-there 0 (lanes_listed list) cpu (omega arith) (subst (λ (l : LaneValue). 0 < length l.deliveries) (sym lane) some)))

-- and its work is well formed
pub own-is_work : (list : List ListedDelivery) (w : Work) → IsOwn list w → IsWork w
own-is_work list w o =
    let same : own_work list w.cpu ≡ w = λ i. record { cpu = w.cpu; turns = sym o.turns_are i; deliveries = sym o.deliveries_are i } in
    subst IsWork same (own-is_lane w.cpu list)
