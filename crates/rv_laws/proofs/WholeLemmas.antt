-- What a history of one thread makes: all deliveries that its looks show on, each with its answer, and the steps of each seat on each slot.
use Rattle.std.proofs.Common.{◌≡◌, ◌≢◌, ℕ, zero, suc, ◌+◌, Bool, true, false, ◌==◌, ◌&&◌, List, [], ◌∷◌, ◌++◌, ◌⊎◌, inl, inr, map, arith, refl, sym, ap, ◌∙◌}
use Rattle.std.specs.Prelude.{filter, Contains, AllPairs, slice_index_or, slice_range}
use Rattle.rv_model.specs.declared.entry.Act.TheVariants.{Look}
use Rattle.rv_model.specs.declared.entry.Answer.TheVariants.{Looked}
use Rattle.rv_model.specs.declared.entry.Entry.{Entry}
use Rattle.rv_model.specs.declared.work.Delivery.{Delivery}
use Rattle.rv_model.specs.declared.work.Turn.{Turn}
use Rattle.rv_model.specs.Histories.{IsNoStop, work_of}
use Rattle.rv_model.specs.Judging.{Judge}
use Rattle.rv_model.specs.Scripts.{Played, played}
use Rattle.rv_model.specs.Setups.{Setup}
use Rattle.rv_model.specs.SharedWords.{answer_at}
use Rattle.rv_model.specs.Works.{Work}
use Rattle.rv_laws.specs.Parts.{Placed, placed_of, placed_in}
use Rattle.rv_laws.proofs.ListLemmas.{Every, every-append}
use Rattle.rv_laws.proofs.Made.{Made, is_for, placed_from, IsCalm, AreCalm}
use Rattle.rv_laws.proofs.PastLemmas.{Each}

-- ---- what a seat plays is calm
module _ (look : ℕ) where
  -- where the entry is a look it leaves this word, and it is no Stop
  abbrev pub IsQuiet : List Entry → Entry → Type 0
  IsQuiet past e = (e.act ≡ Look → e.after ≡ look) × IsNoStop e.act

  -- one more entry
  calm-snoc : (ps : List Played) (p : Played) → AreCalm look ps → IsCalm look p → AreCalm look (ps ++ p ∷ [])
  calm-snoc [] p calm last = (last, tt)
  calm-snoc (q ∷ ps) p calm last = (calm.0, calm-snoc ps p calm.1 last)

  -- what a seat plays
  pub calm-played : (s : Setup) (js : List Judge) (seat : ℕ) (past : List Entry) → Each IsQuiet past → AreCalm look (played s js seat past)
  calm-played s js seat [] quiet = tt
  calm-played s js seat (e ∷ past) (here, quiet) = go (e.seat == seat) refl (calm-played s js seat past quiet)
    where
      go : (b : Bool) → (e.seat == seat) ≡ b → AreCalm look (played s js seat past) → AreCalm look (played s js seat (e ∷ past))
      go true mine rest = rw mine (calm-snoc (played s js seat past) (e, answer_at s js past e e.act) rest (record { look_is = λ is. ap (answer_at s js past e) is ∙ ap Looked (here.0 is); free = here.1 }))
      go false other rest = rw other rest

-- ---- works of different CPUs

-- the works are of different CPUs
abbrev pub AreApart : List Work → Type 0
AreApart works = AllPairs (λ w v. w.cpu ≢ v.cpu) works

-- the first work's CPU is none of the others'
pub apart-first : (v : Work) (works : List Work) → AreApart (v ∷ works) → (w : Work) → Contains works w → v.cpu ≢ w.cpu
apart-first v works apart w has same =
    let lt = has.1 in
    let at : slice_index_or works has.0 w ≡ w = has.2 in
    apart zero (suc (has.0)) w (omega arith) (omega arith) (same ∙ ap (λ (u : Work). u.cpu) (sym at))

-- nor are those of each other
pub apart-rest : (v : Work) (works : List Work) → AreApart (v ∷ works) → AreApart works
apart-rest v works apart i j d lt within = apart (suc i) (suc j) d (omega arith) (omega arith)

-- the work that is found for a CPU is its own
pub work-is : (works : List Work) → AreApart works → (w : Work) → Contains works w → work_of works (2 + w.cpu) ≡ w
work-is [] apart w (k, lt, at) = absurd (omega arith)
work-is (v ∷ works) apart w (zero, lt, at) =
    let same : v.cpu ≡ w.cpu = ap (λ (u : Work). u.cpu) at in
    let mine : (2 + v.cpu == 2 + w.cpu) ≡ true = grind arith in
    rw mine at
work-is (v ∷ works) apart w (suc k, lt, at) =
    let has : Contains works w = (k, omega arith, at) in
    let differ = apart-first v works apart w has in
    let other : (2 + v.cpu == 2 + w.cpu) ≡ false = grind arith in
    rw other (work-is works (apart-rest v works apart) w has)

-- the CPU of each is so
abbrev pub HaveCpu : (ℕ → Type 0) → List Placed → Type 0
HaveCpu P places = Every (λ p. P p.cpu) places

-- the deliveries of a work have its CPU
pub cpu-placed : (P : ℕ → Type 0) (cpu : ℕ) → P cpu → (ds : List Delivery) (turns : List Turn) → HaveCpu P (placed_from cpu ds turns)
cpu-placed P cpu is ds [] = tt
cpu-placed P cpu is ds (t ∷ turns) = every-append (λ p. P p.cpu) (map (λ d. record { cpu = cpu; line = t.line; delivery = d }) (slice_range ds t.from t.to)) (placed_from cpu ds turns) (here (slice_range ds t.from t.to)) (cpu-placed P cpu is ds turns)
  where
    here : (some : List Delivery) → HaveCpu P (map (λ d. record { cpu = cpu; line = t.line; delivery = d }) some)
    here [] = tt
    here (d ∷ some) = (is, here some)

-- the deliveries of works have their CPUs
pub cpus-placed : (P : ℕ → Type 0) (works : List Work) → ((w : Work) → Contains works w → P w.cpu) → HaveCpu P (placed_in works)
cpus-placed P [] each = tt
cpus-placed P (w ∷ works) each =
    every-append (λ p. P p.cpu) (placed_of w) (placed_in works) (cpu-placed P w.cpu (each w (0, omega arith, refl)) w.deliveries w.turns) (cpus-placed P works (λ v has. each v (suc (has.0), (let l = has.1 in omega arith), has.2)))

-- what holds of the places of what was made
pub every-made : (P : ℕ → Type 0) (made : List Made) → HaveCpu P (map (λ x. x.place) made) → Every (λ x. P x.place.cpu) made
every-made P [] h = tt
every-made P (x ∷ made) h = (h.0, every-made P made h.1)

-- the delivery is of the seat's CPU, and for the slot
abbrev pub is_at : ℕ → List ℕ → ℕ → Placed → Bool
is_at seat shape slot p = (2 + p.cpu == seat) && is_for shape slot p

-- a test of deliveries as one of what was made
abbrev pub of_place : (Placed → Bool) → Made → Bool
of_place test x = test x.place

-- one seat alone made it
pub own-at : (cpu : ℕ) (shape : List ℕ) (slot : ℕ) (made : List Made) → Every (λ x. x.place.cpu ≡ cpu) made → filter (of_place (is_at (2 + cpu) shape slot)) made ≡ filter (of_place (is_for shape slot)) made
own-at cpu shape slot [] same = refl
own-at cpu shape slot (x ∷ made) same =
    let here : x.place.cpu ≡ cpu = same.0 in
    let mine : (2 + x.place.cpu == 2 + cpu) ≡ true = grind arith in
    go mine (is_for shape slot x.place) refl (own-at cpu shape slot made same.1)
  where
    go : (2 + x.place.cpu == 2 + cpu) ≡ true → (b : Bool) → is_for shape slot x.place ≡ b → filter (of_place (is_at (2 + cpu) shape slot)) made ≡ filter (of_place (is_for shape slot)) made
        → filter (of_place (is_at (2 + cpu) shape slot)) (x ∷ made) ≡ filter (of_place (is_for shape slot)) (x ∷ made)
    go mine true here rest = rw (mine, here) (ap (λ (z : List Made). x ∷ z) rest)
    go mine false off rest = rw (mine, off) rest

-- another seat made none of it
pub none-at : (seat : ℕ) (shape : List ℕ) (slot : ℕ) (made : List Made) → Every (λ x. 2 + x.place.cpu ≢ seat) made → filter (of_place (is_at seat shape slot)) made ≡ []
none-at seat shape slot [] other = refl
none-at seat shape slot (x ∷ made) other =
    let differ = other.0 in
    let away : (2 + x.place.cpu == seat) ≡ false = grind arith in
    rw away (none-at seat shape slot made other.1)

-- a work of the seat, or none
pub find : (works : List Work) (seat : ℕ) → ((w : Work) × Contains works w × (2 + w.cpu ≡ seat)) ⊎ ((w : Work) → Contains works w → 2 + w.cpu ≢ seat)
find [] seat = inr (λ w has. absurd (let l = has.1 in omega arith))
find (w ∷ works) seat = go (2 + w.cpu == seat) refl (find works seat)
  where
    go : (b : Bool) → (2 + w.cpu == seat) ≡ b → ((v : Work) × Contains works v × (2 + v.cpu ≡ seat)) ⊎ ((v : Work) → Contains works v → 2 + v.cpu ≢ seat)
        → ((v : Work) × Contains (w ∷ works) v × (2 + v.cpu ≡ seat)) ⊎ ((v : Work) → Contains (w ∷ works) v → 2 + v.cpu ≢ seat)
    go true mine rest = inl (w, (0, omega arith, refl), grind arith)
    go false other (inl found) = inl (found.0, (suc (found.1.0), (let l = found.1.1 in omega arith), found.1.2), found.2)
    go false other (inr none) = inr all
      where
        all : (v : Work) → Contains (w ∷ works) v → 2 + v.cpu ≢ seat
        all v (zero, lt, at) same = let cpu : w.cpu ≡ v.cpu = ap (λ (u : Work). u.cpu) at in let mine : (2 + w.cpu == seat) ≡ true = grind arith in let no : true ≡ false = sym mine ∙ other in cc
        all v (suc k, lt, at) same = none v (k, omega arith, at) same
