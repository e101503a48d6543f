-- Lanes and their works, and a work's turns.
use Rattle.std.proofs.Common.{◌≡◌, ◌≢◌, ℕ, zero, suc, ◌+◌, ◌<◌, ◌≤◌, List, [], ◌∷◌, ◌⊎◌, length, inl, inr, arith, refl, sym, ap, ◌∙◌, get_or, set}
use Rattle.std.specs.Prelude.{Contains, AllPairs}
use Rattle.std.proofs.lemmas.List.{length-map, get_or-map}
use Rattle.rv_model.specs.declared.work.Turn.{Turn}
use Rattle.rv_model.specs.Histories.{work_of}
use Rattle.rv_model.specs.Works.{Work, NamesEach}
use Rattle.rv_model.proofs.SeatLemmas.{find-work}
use Rattle.rv_feed.specs.Lane.{LaneValue, works_of}

-- ---- turns that name deliveries in order

-- the first place is not after the end
names-end : (place : ℕ) (turns : List Turn) (count : ℕ) → NamesEach place turns count → place ≤ count
names-end place [] count names = omega (arith, names)
names-end place (t ∷ turns) count names = let later = names-end t.to turns count names.2 in let is = names.0 in let le = names.1 in omega arith

-- each turn's places are in order, and in the list
pub names-in : (place : ℕ) (turns : List Turn) (count : ℕ) → NamesEach place turns count → (k : ℕ) (d : Turn) → k < length turns → ((get_or turns k d).from ≤ (get_or turns k d).to) × ((get_or turns k d).to ≤ count)
names-in place [] count names k d lt = absurd (omega arith)
names-in place (t ∷ turns) count names zero d lt = (names.1, names-end t.to turns count names.2)
names-in place (t ∷ turns) count names (suc k) d lt = names-in t.to turns count names.2 k d (omega arith)

-- a turn begins where the one before it ends
names-after : (place : ℕ) (turns : List Turn) (count : ℕ) → NamesEach place turns count → (k : ℕ) (d : Turn) → suc k < length turns → (get_or turns (suc k) d).from ≡ (get_or turns k d).to
names-after place [] count names k d lt = absurd (omega arith)
names-after place (t ∷ []) count names k d lt = absurd (omega arith)
names-after place (t ∷ u ∷ turns) count names zero d lt = names.2.0
names-after place (t ∷ u ∷ turns) count names (suc k) d lt = names-after t.to (u ∷ turns) count names.2 k d (omega arith)

-- the same for a place that is a sum
pub names-next : (place : ℕ) (turns : List Turn) (count : ℕ) → NamesEach place turns count → (k : ℕ) (d : Turn) → k + 1 < length turns → (get_or turns (k + 1) d).from ≡ (get_or turns k d).to
names-next place turns count names k d lt =
    let is : k + 1 ≡ suc k = omega arith in
    ap (λ (n : ℕ). (get_or turns n d).from) is ∙ names-after place turns count names k d (omega arith)

-- ---- lanes

-- a lane that keeps its work
pub works-set : (lanes : List LaneValue) (k : ℕ) (l d : LaneValue) → k < length lanes → l.work ≡ (get_or lanes k d).work → works_of (set lanes k l) ≡ works_of lanes
works-set [] k l d lt same = refl
works-set (x ∷ lanes) zero l d lt same = ap (λ (w : Work). w ∷ works_of lanes) same
works-set (x ∷ lanes) (suc k) l d lt same = ap (λ (ws : List Work). x.work ∷ ws) (works-set lanes k l d (omega arith) same)

-- a lane's work is one of the works
pub work-at : (lanes : List LaneValue) (k : ℕ) (d : LaneValue) → k < length lanes → Contains (works_of lanes) (get_or lanes k d).work
work-at lanes k d lt = (k, rw (length-map lanes (λ (l : LaneValue). l.work)) lt, get_or-map (λ (l : LaneValue). l.work) lanes k d (get_or lanes k d).work lt)

-- one way or the other
three : (i j : ℕ) → (i < j) ⊎ ((i ≡ j) ⊎ (j < i))
three i j = grind arith

-- equal or not
pub same_or_not : (a b : ℕ) → (a ≡ b) ⊎ (a ≢ b)
same_or_not a b = grind arith

-- lanes of one CPU are one lane
pub same-lane : (lanes : List LaneValue) → AllPairs (λ l m. l.work.cpu ≢ m.work.cpu) lanes → (i j : ℕ) (d : LaneValue) → i < length lanes → j < length lanes → (get_or lanes i d).work.cpu ≡ (get_or lanes j d).work.cpu → i ≡ j
same-lane lanes apart i j d li lj same = go (three i j)
  where
    go : (i < j) ⊎ ((i ≡ j) ⊎ (j < i)) → i ≡ j
    go (inl lt) = absurd (apart i j d lt lj same)
    go (inr (inl e)) = e
    go (inr (inr lt)) = absurd (apart j i d lt li (sym same))

-- the work of a seat is its lane's
pub work-is : (lanes : List LaneValue) → AllPairs (λ l m. l.work.cpu ≢ m.work.cpu) lanes → (w : Work) → Contains (works_of lanes) w → work_of (works_of lanes) (2 + w.cpu) ≡ w
work-is lanes apart w (k, lt, at) =
    let found = find-work (works_of lanes) (2 + w.cpu) (k, w, lt, at, refl) in
    let v : Work = work_of (works_of lanes) (2 + w.cpu) in
    let j : ℕ = found.has.0 in
    let d : LaneValue = record { work = w; records = []; room = 0 } in
    let many = length-map lanes (λ (l : LaneValue). l.work) in
    let lk : k < length lanes = omega arith in
    let lj : j < length lanes = let l = found.has.1 in omega arith in
    let k_is : (get_or lanes k d).work ≡ w = sym (get_or-map (λ (l : LaneValue). l.work) lanes k d w lk) ∙ at in
    let j_is : (get_or lanes j d).work ≡ v = sym (get_or-map (λ (l : LaneValue). l.work) lanes j d v lj) ∙ found.has.2 in
    let cpus : v.cpu ≡ w.cpu = let s = found.seat_is in omega arith in
    let same : j ≡ k = same-lane lanes apart j k d lj lk (ap (λ (x : Work). x.cpu) j_is ∙ cpus ∙ sym (ap (λ (x : Work). x.cpu) k_is)) in
    sym j_is ∙ ap (λ (n : ℕ). (get_or lanes n d).work) same ∙ k_is

-- lanes of different CPUs have works of different CPUs
pub pairs-to : (lanes : List LaneValue) → AllPairs (λ l m. l.work.cpu ≢ m.work.cpu) lanes → AllPairs (λ v u. v.cpu ≢ u.cpu) (works_of lanes)
pairs-to lanes a i j e lt lj =
    let d : LaneValue = record { work = e; records = []; room = 0 } in
    let many = length-map lanes (λ (l : LaneValue). l.work) in
    let j_in : j < length lanes = omega arith in
    let i_in : i < length lanes = omega arith in
    let x = get_or-map (λ (l : LaneValue). l.work) lanes i d e i_in in
    let y = get_or-map (λ (l : LaneValue). l.work) lanes j d e j_in in
    λ same. a i j d lt j_in (ap (λ (w : Work). w.cpu) (sym x) ∙ same ∙ ap (λ (w : Work). w.cpu) y)

-- and the other way round
pub pairs-from : (lanes : List LaneValue) → AllPairs (λ v u. v.cpu ≢ u.cpu) (works_of lanes) → AllPairs (λ l m. l.work.cpu ≢ m.work.cpu) lanes
pairs-from lanes a i j d lt lj =
    let many = length-map lanes (λ (l : LaneValue). l.work) in
    let i_in : i < length lanes = omega arith in
    let x = get_or-map (λ (l : LaneValue). l.work) lanes i d d.work i_in in
    let y = get_or-map (λ (l : LaneValue). l.work) lanes j d d.work lj in
    λ same. a i j d.work lt (omega arith) (ap (λ (w : Work). w.cpu) x ∙ same ∙ ap (λ (w : Work). w.cpu) (sym y))
