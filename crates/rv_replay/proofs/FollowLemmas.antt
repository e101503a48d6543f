-- The lanes of a run over a list, and the lines of its turns.
use Rattle.std.proofs.Common.{◌≡◌, ◌≢◌, ℕ, ◌+◌, ◌-◌, ◌<◌, ◌≤◌, ◌⊎◌, inl, inr, List, [], ◌∷◌, ◌++◌, length, get_or, refl, sym, ap, ◌∙◌, subst, arith, length-append}
use Rattle.std.specs.Prelude.{All, AllPairs, Contains}
use Rattle.std.proofs.lemmas.List.{length-map, get_or-map, get_or_append_left, get_or-append-add}
use Rattle.std.proofs.lemmas.List.Elements.{All-contains, All-append, All-weaker}
use Rattle.rv_model.specs.declared.record.Record.{Record}
use Rattle.rv_model.specs.Histories.{LinesApart}
use Rattle.rv_model.specs.Setups.{Setup}
use Rattle.rv_model.specs.Works.{Work}
use Rattle.rv_core.specs.Deliveries.{FitsDelivery}
use Rattle.rv_feed.specs.Lane.{LaneValue, lane_records, works_of, FitsLane}
use Rattle.rv_feed.proofs.LaneLemmas.{work-at}
use Rattle.rv_route.specs.Listing.{ListedDelivery, works_listed}
use Rattle.rv_replay.specs.inner.Own.{own}
use Rattle.rv_replay.specs.Lists.{FitsList, fresh_lane, fresh_lanes}
use Rattle.rv_replay.specs.inner.Turns.{OrdersFrom}
use Rattle.rv_replay.proofs.OwnWorkLemmas.{IsOwn, works-own, own_work}
use Rattle.rv_replay.proofs.PresentLemmas.{present, present-work}
use Rattle.rv_replay.proofs.RunLemmas.{fresh-works}

-- ---- lanes

-- a lane of this work stands at a place
pub record LaneThere (lanes : List LaneValue) (w : Work) : Type 0 where
  pub place : ℕ
  pub within : place < length lanes
  pub is : (d : LaneValue) → (get_or lanes place d).work ≡ w

-- where the works contain it
pub lane-there : (lanes : List LaneValue) (w : Work) → Contains (works_of lanes) w → LaneThere lanes w
lane-there lanes w (k, lt, at) =
    let within : k < length lanes = let many = length-map lanes (λ (l : LaneValue). l.work) in omega arith in
    record { place = k; within = within; is = λ d. sym (get_or-map (λ (l : LaneValue). l.work) lanes k d w within) ∙ at }

module _ (list : List ListedDelivery) (lanes : List LaneValue) (same : works_of lanes ≡ works_of (fresh_lanes (works_listed list))) where
  -- the works are those of the list
  are-listed : works_of lanes ≡ works_listed list
  are-listed = same ∙ fresh-works (works_listed list)

  -- each is what its CPU has of the list
  pub lanes-own : (k : ℕ) (d : LaneValue) → k < length lanes → IsOwn list (get_or lanes k d).work
  lanes-own k d lt = All-contains (IsOwn list) (works_listed list) (get_or lanes k d).work (works-own list) (subst (λ (ws : List Work). Contains ws (get_or lanes k d).work) are-listed (work-at lanes k d lt))

  -- the CPU of each delivery has one
  pub cpu-lane : (d : ListedDelivery) (j : ℕ) → j < length list → (get_or list j d).cpu < 64 → LaneThere lanes (own_work list (get_or list j d).cpu)
  cpu-lane d j lt below = lane-there lanes (own_work list (get_or list j d).cpu) (subst (λ (ws : List Work). Contains ws (own_work list (get_or list j d).cpu)) (sym are-listed) (present-work list d j lt below))

-- fresh lanes have no records
pub fresh-none : (works : List Work) → lane_records (fresh_lanes works) ≡ []
fresh-none [] = refl
fresh-none (w ∷ works) = fresh-none works

-- each delivery of a list that fits fits
pub items-fit : (s : Setup) (list : List ListedDelivery) → FitsList s list → All (λ d. FitsDelivery s d.delivery) list
items-fit s list ok j d lt =
    let x : ListedDelivery = get_or list j d in
    let p = present list d j lt in
    let first : List LaneValue = fresh_lanes (works_listed list) in
    let there = cpu-lane list first refl d j lt (ok.cpus j d lt) in
    let any : LaneValue = fresh_lane (own_work list x.cpu) in
    let l : LaneValue = get_or first there.place any in
    let fits : FitsLane s l = ok.lanes.fit there.place any there.within in
    let all : All (FitsDelivery s) (own x.cpu list).deliveries = subst (λ (w : Work). All (FitsDelivery s) w.deliveries) (there.is any) fits.fit in
    subst (FitsDelivery s) (p.is x.delivery) (all p.place x.delivery p.within)

-- the lines of the works are apart
pub listed-apart : (s : Setup) (list : List ListedDelivery) → FitsList s list → LinesApart (works_listed list)
listed-apart s list ok = subst LinesApart (fresh-works (works_listed list)) ok.lanes.apart

-- ---- lines

module _ (list : List ListedDelivery) (ascend : AllPairs (λ d e. d.line ≤ e.line) list) (from to : ℕ) (low : from < to) (high : to ≤ length list)
    (same : (k : ℕ) (d : ListedDelivery) → from ≤ k → k < to → (get_or list k d).line ≡ (get_or list from d).line)
    (last : (d : ListedDelivery) → to < length list → (get_or list to d).line ≢ (get_or list from d).line) where
  -- lines from the place on are not lower
  pub from-on : (k : ℕ) (d : ListedDelivery) → from ≤ k → k < length list → (get_or list from d).line ≤ (get_or list k d).line
  from-on k d le lt = go (grind arith)
    where
      go : (from < k) ⊎ (from ≡ k) → (get_or list from d).line ≤ (get_or list k d).line
      go (inl less) = ascend from k d less lt
      go (inr here) = let e = ap (λ (n : ℕ). (get_or list n d).line) here in omega arith

  -- those of the turn and before it are not higher
  pub up-to : (k : ℕ) (d : ListedDelivery) → k < to → (get_or list k d).line ≤ (get_or list from d).line
  up-to k d lt = go (grind arith)
    where
      go : (k < from) ⊎ (from ≤ k) → (get_or list k d).line ≤ (get_or list from d).line
      go (inl less) = ascend k from d less (omega arith)
      go (inr le) = let e = same k d le lt in omega arith

  -- those behind the turn are higher
  pub behind : (k : ℕ) (d : ListedDelivery) → to ≤ k → k < length list → (get_or list from d).line + 1 ≤ (get_or list k d).line
  behind k d le lt =
      let a = ascend from to d low (omega arith) in
      let b = last d (omega arith) in
      let next : (get_or list from d).line + 1 ≤ (get_or list to d).line = grind arith in
      go next (grind arith)
    where
      go : (get_or list from d).line + 1 ≤ (get_or list to d).line → (to < k) ⊎ (to ≡ k) → (get_or list from d).line + 1 ≤ (get_or list k d).line
      go next (inl less) = let c = ascend to k d less lt in omega arith
      go next (inr here) = let e = ap (λ (n : ℕ). (get_or list n d).line) here in omega arith

  -- so the lines up to the turn and those behind it are apart
  pub lines-apart : (k j : ℕ) (d : ListedDelivery) → k < to → to ≤ j → j < length list → (get_or list k d).line < (get_or list j d).line
  lines-apart k j d k_lt le lt = let a = up-to k d k_lt in let b = behind j d le lt in omega arith

-- ---- orders

-- two lists of records, one behind the other
pub orders-join : (a b c : ℕ) (rs us : List Record) → a ≤ b → b ≤ c → OrdersFrom a b rs → OrdersFrom b c us → OrdersFrom a c (rs ++ us)
orders-join a b c rs us ab bc old new = record {
  low = All-append (λ (r : Record). a ≤ r.order) rs us old.low (All-weaker (λ (r : Record). b ≤ r.order) (λ (r : Record). a ≤ r.order) (λ r h. omega arith) us new.low);
  high = All-append (λ (r : Record). r.order < c) rs us (All-weaker (λ (r : Record). r.order < b) (λ (r : Record). r.order < c) (λ r h. omega arith) rs old.high) new.high;
  ascend = λ i j d lt within. go i j d lt within (grind arith) (grind arith);
}
  where
    left : (i : ℕ) (d : Record) → i < length rs → get_or (rs ++ us) i d ≡ get_or rs i d
    left i d lt = get_or_append_left rs us d i lt

    right : (i : ℕ) (d : Record) → length rs ≤ i → get_or (rs ++ us) i d ≡ get_or us (i - length rs) d
    right i d le = let e : i ≡ length rs + (i - length rs) = omega arith in ap (λ (n : ℕ). get_or (rs ++ us) n d) e ∙ get_or-append-add rs us (i - length rs) d

    inside : (j : ℕ) → j < length (rs ++ us) → length rs ≤ j → j - length rs < length us
    inside j lt le = let s = length-append rs us in omega arith

    go : (i j : ℕ) (d : Record) → i < j → j < length (rs ++ us) → (i < length rs) ⊎ (length rs ≤ i) → (j < length rs) ⊎ (length rs ≤ j) → (get_or (rs ++ us) i d).order < (get_or (rs ++ us) j d).order
    go i j d lt within (inl x) (inl y) = rw (left i d x, left j d y) (old.ascend i j d lt y)
    go i j d lt within (inl x) (inr y) = let p = old.high i d x in let q = new.low (j - length rs) d (inside j within y) in rw (left i d x, right j d y) (omega arith)
    go i j d lt within (inr x) (inl y) = absurd (omega arith)
    go i j d lt within (inr x) (inr y) = rw (right i d x, right j d y) (new.ascend (i - length rs) (j - length rs) d (omega arith) (inside j within y))
