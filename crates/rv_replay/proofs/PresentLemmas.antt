-- Each delivery of a list is one of its CPU's, in a turn of its line. So it fits, and the deliveries of one line are of one CPU.
use Rattle.std.proofs.Common.{◌≡◌, ℕ, zero, suc, ◌+◌, ◌-◌, ◌<◌, ◌≤◌, ◌==◌, Bool, true, false, List, [], ◌∷◌, ◌++◌, length, get_or, refl, sym, ap, ◌∙◌, subst, arith, length-append, eqb-true, eq-eqb, true≢false}
use Rattle.std.specs.Prelude.{Contains, if◌then◌else◌}
use Rattle.std.proofs.lemmas.List.{get_or_append_left, get_or_push, take_all}
use Rattle.std.proofs.lemmas.List.Elements.{Contains-get_or}
use Rattle.rv_model.specs.declared.work.Delivery.{Delivery}
use Rattle.rv_model.specs.declared.work.Turn.{Turn}
use Rattle.rv_model.specs.Histories.{LinesApart}
use Rattle.rv_model.specs.Works.{Work}
use Rattle.rv_route.specs.Lanes.{LaneValue, ends_with, longer, with_turn, with_delivery}
use Rattle.rv_route.specs.Listing.{ListedDelivery, works_listed}
use Rattle.rv_replay.specs.inner.Own.{own, own_of}
use Rattle.rv_replay.proofs.OwnLemmas.{front, front-more}
use Rattle.rv_replay.proofs.OwnWorkLemmas.{own_work, own-there}

-- ---- turns

-- there is a turn of the line
pub record HasLine (line : ℕ) (turns : List Turn) : Type 0 where
  pub place : ℕ
  pub within : place < length turns
  pub is : (u : Turn) → (get_or turns place u).line ≡ line

-- a longer turn keeps its line
longer-line : (turns : List Turn) (to k : ℕ) (u : Turn) → (get_or (longer turns to) k u).line ≡ (get_or turns k u).line
longer-line [] to k u = refl
longer-line (t ∷ []) to zero u = refl
longer-line (t ∷ []) to (suc k) u = refl
longer-line (t ∷ v ∷ turns) to zero u = refl
longer-line (t ∷ v ∷ turns) to (suc k) u = longer-line (v ∷ turns) to k u

-- as many turns
longer-many : (turns : List Turn) (to : ℕ) → length (longer turns to) ≡ length turns
longer-many [] to = refl
longer-many (t ∷ []) to = refl
longer-many (t ∷ v ∷ turns) to = ap suc (longer-many (v ∷ turns) to)

-- a line stays
line-stays : (line other place : ℕ) (turns : List Turn) → HasLine line turns → HasLine line (with_turn turns other place)
line-stays line other place turns h = go (ends_with turns other)
  where
    go : (b : Bool) → HasLine line (if b then longer turns (place + 1) else turns ++ record { line = other; from = place; to = place + 1 } ∷ [])
    go true = record { place = h.place; within = let m = longer-many turns (place + 1) in let w = h.within in omega arith; is = λ u. longer-line turns (place + 1) h.place u ∙ h.is u }
    go false = record {
      place = h.place;
      within = let m = length-append turns (record { line = other; from = place; to = place + 1 } ∷ []) in let w = h.within in omega arith;
      is = λ u. ap (λ (t : Turn). t.line) (get_or_append_left turns (record { line = other; from = place; to = place + 1 } ∷ []) u h.place h.within) ∙ h.is u;
    }

-- the last turn's line is there
last-line : (turns : List Turn) (line : ℕ) → ends_with turns line ≡ true → HasLine line turns
last-line [] line e = absurd (true≢false (sym e))
last-line (t ∷ []) line e = record { place = 0; within = omega arith; is = λ u. eqb-true t.line line e }
last-line (t ∷ v ∷ turns) line e = let r = last-line (v ∷ turns) line e in record { place = suc r.place; within = let w = r.within in omega arith; is = r.is }

-- the line of one more delivery is there
line-more : (turns : List Turn) (line place : ℕ) → HasLine line (with_turn turns line place)
line-more turns line place = go (ends_with turns line) refl
  where
    new : Turn
    new = record { line = line; from = place; to = place + 1 }

    go : (b : Bool) → ends_with turns line ≡ b → HasLine line (if b then longer turns (place + 1) else turns ++ new ∷ [])
    go true e =
        let r = last-line turns line e in
        record { place = r.place; within = let m = longer-many turns (place + 1) in let w = r.within in omega arith; is = λ u. longer-line turns (place + 1) r.place u ∙ r.is u }
    go false e = record { place = length turns; within = let m = length-append turns (new ∷ []) in omega arith; is = λ u. ap (λ (t : Turn). t.line) (get_or_push turns new u (length turns) refl) }

-- ---- deliveries

-- the delivery is there, and a turn of its line
pub record IsPresent (x : ListedDelivery) (l : LaneValue) : Type 0 where
  pub turn : HasLine x.line l.turns
  pub place : ℕ
  pub within : place < length l.deliveries
  pub is : (any : Delivery) → get_or l.deliveries place any ≡ x.delivery

-- it stays
present-stays : (cpu : ℕ) (x d : ListedDelivery) (l : LaneValue) → IsPresent x l → IsPresent x (own_of cpu l d)
present-stays cpu x d l p = go (d.cpu == cpu)
  where
    go : (b : Bool) → IsPresent x (if b then with_delivery l d.line d.delivery else l)
    go true = record {
      turn = line-stays x.line d.line (length l.deliveries) l.turns p.turn;
      place = p.place;
      within = let m = length-append l.deliveries (d.delivery ∷ []) in let w = p.within in omega arith;
      is = λ any. get_or_append_left l.deliveries (d.delivery ∷ []) any p.place p.within ∙ p.is any;
    }
    go false = p

-- one more is there
present-more : (x : ListedDelivery) (l : LaneValue) → IsPresent x (own_of x.cpu l x)
present-more x l = subst (λ (m : LaneValue). IsPresent x m) (sym yes) (record {
  turn = line-more l.turns x.line (length l.deliveries);
  place = length l.deliveries;
  within = let m = length-append l.deliveries (x.delivery ∷ []) in omega arith;
  is = λ any. get_or_push l.deliveries x.delivery any (length l.deliveries) refl;
})
  where
    yes : own_of x.cpu l x ≡ with_delivery l x.line x.delivery
    yes = ap (λ (b : Bool). if b then with_delivery l x.line x.delivery else l) (eq-eqb x.cpu x.cpu refl)

module _ (list : List ListedDelivery) (d : ListedDelivery) where
  -- each delivery is present where it was taken
  present-on : (j n : ℕ) → j + 1 + n ≤ length list → IsPresent (get_or list j d) (front list d (get_or list j d).cpu (j + 1 + n))
  present-on j zero le =
      let x : ListedDelivery = get_or list j d in
      let same : j + 1 ≡ j + 1 + 0 = omega arith in
      subst (λ (k : ℕ). IsPresent x (front list d x.cpu k)) same (subst (IsPresent x) (sym (front-more list d x.cpu j (omega arith))) (present-more x (front list d x.cpu j)))
  present-on j (suc n) le =
      let x : ListedDelivery = get_or list j d in
      let same : j + 1 + n + 1 ≡ j + 1 + suc n = omega arith in
      subst (λ (k : ℕ). IsPresent x (front list d x.cpu k)) same
      (subst (IsPresent x) (sym (front-more list d x.cpu (j + 1 + n) (omega arith))) (present-stays x.cpu x (get_or list (j + 1 + n) d) (front list d x.cpu (j + 1 + n)) (present-on j n (omega arith))))

  -- and in the whole
  pub present : (j : ℕ) → j < length list → IsPresent (get_or list j d) (own (get_or list j d).cpu list)
  present j lt =
      let x : ListedDelivery = get_or list j d in
      let all : j + 1 + (length list - (j + 1)) ≡ length list = omega arith in
      subst (IsPresent x) (ap (own x.cpu) (take_all (length list) list (omega arith))) (subst (λ (k : ℕ). IsPresent x (front list d x.cpu k)) all (present-on j (length list - (j + 1)) (omega arith)))

  -- so its CPU has a work
  pub present-work : (j : ℕ) → j < length list → (get_or list j d).cpu < 64 → Contains (works_listed list) (own_work list (get_or list j d).cpu)
  present-work j lt below = let p = present j lt in own-there list (get_or list j d).cpu below (let w = p.within in omega arith)

  -- and what is of one line is of one CPU
  pub same-cpu : LinesApart (works_listed list) → (i j : ℕ) → i < length list → j < length list → (get_or list i d).cpu < 64 → (get_or list j d).cpu < 64 → (get_or list i d).line ≡ (get_or list j d).line → (get_or list i d).cpu ≡ (get_or list j d).cpu
  same-cpu apart i j i_lt j_lt i_below j_below same =
      let x : ListedDelivery = get_or list i d in
      let y : ListedDelivery = get_or list j d in
      let p = (present i i_lt).turn in
      let q = (present j j_lt).turn in
      let any : Turn = record { line = 0; from = 0; to = 0 } in
      let v : Work = own_work list x.cpu in
      let w : Work = own_work list y.cpu in
      apart v w (get_or v.turns p.place any) (get_or w.turns q.place any) (present-work i i_lt i_below) (present-work j j_lt j_below) (Contains-get_or v.turns p.place any p.within) (Contains-get_or w.turns q.place any q.within)
      (p.is any ∙ same ∙ sym (q.is any))
