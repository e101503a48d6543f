-- What one seat has played in a history that goes on.
use Rattle.std.proofs.Common.{◌≡◌, ℕ, ◌+◌, ◌<◌, ◌≤◌, Bool, true, false, ◌==◌, List, [], ◌∷◌, ◌++◌, ◌⊎◌, inl, inr, length, map, get_or, reverse, arith, refl, sym, ap, ◌∙◌, append_assoc, append-nil, zero, suc}
use Rattle.std.specs.Prelude.{Contains, Any, slice_index}
use Rattle.std.proofs.lemmas.List.{reverse-append}
use Rattle.rv_model.specs.declared.entry.Answer.{Answer}
use Rattle.rv_model.specs.declared.entry.Entry.{Entry}
use Rattle.rv_model.specs.declared.work.Turn.{Turn}
use Rattle.rv_model.specs.Judging.{Judge}
use Rattle.rv_model.specs.Setups.{Setup}
use Rattle.rv_model.specs.SharedWords.{answer_at}
use Rattle.rv_model.specs.Scripts.{Played, played}
use Rattle.rv_model.specs.Works.{Work}
use Rattle.rv_model.specs.Histories.{look_count, looks_of, NoneOf, work_of}
use Rattle.rv_model.proofs.CutLemmas.{reverse-cut}
use Rattle.rv_model.proofs.AgreeLemmas.{looks_in, looks_in-append}

-- ---- looks
pub looks_of-append : (seat : ℕ) (a b : List Entry) → looks_of seat (a ++ b) ≡ looks_of seat a + looks_of seat b
looks_of-append seat [] b = omega arith
looks_of-append seat (e ∷ a) b = let r = looks_of-append seat a b in omega arith

-- a seat has as many looks in a history that is read backwards
pub looks_of-reverse : (seat : ℕ) (h : List Entry) → looks_of seat (reverse h) ≡ looks_of seat h
looks_of-reverse seat [] = refl
looks_of-reverse seat (e ∷ h) =
    let r = looks_of-reverse seat h in
    ap (looks_of seat) (reverse-append (e ∷ []) h) ∙ looks_of-append seat (reverse h) (e ∷ []) ∙ omega arith

-- a seat without an entry has no look
pub looks_of-none : (seat : ℕ) (h : List Entry) → NoneOf seat h → looks_of seat h ≡ 0
looks_of-none seat [] n = refl
looks_of-none seat (e ∷ h) n = rw n.0 (let z = looks_of-none seat h n.1 in omega arith)

-- entries of other seats add no look
pub looks_on-none : (seat : ℕ) (a b : List Entry) → NoneOf seat b → looks_of seat (a ++ b) ≡ looks_of seat a
looks_on-none seat a b n = let z = looks_of-none seat b n in looks_of-append seat a b ∙ omega arith

module _ (s : Setup) (js : List Judge) where
  -- a seat has as many looks in what it has played as in the past
  pub played-looks : (seat : ℕ) (past : List Entry) → looks_in (played s js seat past) ≡ looks_of seat past
  played-looks seat [] = refl
  played-looks seat (e ∷ past) = go (played-looks seat past) (e.seat == seat) refl
    where
      go : looks_in (played s js seat past) ≡ looks_of seat past → (b : Bool) → (e.seat == seat) ≡ b → looks_in (played s js seat (e ∷ past)) ≡ looks_of seat (e ∷ past)
      go r true y = rw y (looks_in-append (played s js seat past) ((e, answer_at s js past e e.act) ∷ []) ∙ omega arith)
      go r false n = rw n (omega arith)

  -- as the past grows, what a seat has played stays in front
  pub played-later : (seat : ℕ) (later past : List Entry) → (rest : List Played) × (played s js seat (later ++ past) ≡ played s js seat past ++ rest)
  played-later seat [] past = ([], sym (append-nil (played s js seat past)))
  played-later seat (e ∷ later) past = go (e.seat == seat) refl (played-later seat later past)
    where
      go : (b : Bool) → (e.seat == seat) ≡ b → (rest : List Played) × (played s js seat (later ++ past) ≡ played s js seat past ++ rest) → (rest : List Played) × (played s js seat (e ∷ (later ++ past)) ≡ played s js seat past ++ rest)
      go true y r = (r.0 ++ (e, answer_at s js (later ++ past) e e.act) ∷ [], rw y (ap (λ (ps : List Played). ps ++ (e, answer_at s js (later ++ past) e e.act) ∷ []) r.1 ∙ append_assoc (played s js seat past) r.0 ((e, answer_at s js (later ++ past) e e.act) ∷ [])))
      go false n r = (r.0, rw n r.1)

  -- at a cut, the seat has played what it had before, this entry, and the rest
  pub played-cut : (seat : ℕ) (before : List Entry) (e : Entry) (after : List Entry) → e.seat ≡ seat
      → (rest : List Played) × (played s js seat (reverse (before ++ e ∷ after)) ≡ played s js seat (reverse before) ++ (e, answer_at s js (reverse before) e e.act) ∷ rest)
  played-cut seat before e after at =
      let y : (e.seat == seat) ≡ true = grind arith in
      let l = played-later seat (reverse after) (e ∷ reverse before) in
      let a : Answer = answer_at s js (reverse before) e e.act in
      let own : played s js seat (e ∷ reverse before) ≡ played s js seat (reverse before) ++ (e, a) ∷ [] = rw y refl in
      (l.0, ap (played s js seat) (reverse-cut before e after) ∙ l.1 ∙ ap (λ (ps : List Played). ps ++ l.0) own ∙ append_assoc (played s js seat (reverse before)) ((e, a) ∷ []) l.0)

  -- entries of other seats add nothing to what a seat has played
  pub played-none : (seat : ℕ) (b a : List Entry) → NoneOf seat b → played s js seat (reverse (a ++ b)) ≡ played s js seat (reverse a)
  played-none seat [] a n = ap (λ (z : List Entry). played s js seat (reverse z)) (append-nil a)
  played-none seat (e ∷ b) a n =
      ap (λ (z : List Entry). played s js seat (reverse z)) (sym (append_assoc a (e ∷ []) b))
      ∙ played-none seat b (a ++ e ∷ []) n.1
      ∙ ap (played s js seat) (reverse-append a (e ∷ [])) ∙ (rw n.0 refl)

-- ---- the next entry of a seat
pub record Next (seat : ℕ) (u : List Entry) : Type 0 where
  pub front : List Entry
  pub entry : Entry
  pub rest : List Entry
  pub is : u ≡ front ++ entry ∷ rest
  pub none : NoneOf seat front
  pub at : entry.seat ≡ seat

-- a seat has no entry in a list, or a next one
pub next-in : (seat : ℕ) (u : List Entry) → NoneOf seat u ⊎ Next seat u
next-in seat [] = inl tt
next-in seat (e ∷ u) = go (e.seat == seat) refl (next-in seat u)
  where
    go : (b : Bool) → (e.seat == seat) ≡ b → NoneOf seat u ⊎ Next seat u → NoneOf seat (e ∷ u) ⊎ Next seat (e ∷ u)
    go true y r = inr (record { front = []; entry = e; rest = u; is = refl; none = tt; at = grind arith })
    go false n (inl r) = inl (n, r)
    go false n (inr r) = inr (record { front = e ∷ r.front; entry = r.entry; rest = r.rest; is = ap (λ (z : List Entry). e ∷ z) r.is; none = (n, r.none); at = r.at })

-- the entry of a seat with which its looks were all made
pub record LastLook (seat : ℕ) (h : List Entry) : Type 0 where
  pub front : List Entry
  pub entry : Entry
  pub rest : List Entry
  pub is : h ≡ front ++ entry ∷ rest
  pub at : entry.seat ≡ seat
  pub all : looks_of seat front + look_count entry.act ≡ looks_of seat h

-- a seat that has made a look has an entry with which its looks were all made
pub last-look : (seat : ℕ) (h : List Entry) → 1 ≤ looks_of seat h → LastLook seat h
last-look seat [] some = absurd (omega arith)
last-look seat (e ∷ h) some = go (last-look seat h) (looks_of seat h) refl
  where
    here : looks_of seat h ≡ 0 → (b : Bool) → (e.seat == seat) ≡ b → LastLook seat (e ∷ h)
    here z true y = record { front = []; entry = e; rest = h; is = refl; at = grind arith; all = rw y (omega arith) }
    here z false n = absurd (let o : 1 ≤ 0 + looks_of seat h = rw n at some in omega arith)

    go : (1 ≤ looks_of seat h → LastLook seat h) → (n : ℕ) → looks_of seat h ≡ n → LastLook seat (e ∷ h)
    go rest zero z = here z (e.seat == seat) refl
    go rest (suc n) z =
        let l = rest (omega arith) in
        record { front = e ∷ l.front; entry = l.entry; rest = l.rest; is = ap (λ (x : List Entry). e ∷ x) l.is; at = l.at; all = let a = l.all in omega arith }

-- ---- the work of a seat
pub record IsWorkOf (works : List Work) (seat : ℕ) (w : Work) : Type 0 where
  pub has : Contains works w
  pub seat_is : 2 + w.cpu ≡ seat

-- the work that is found for a seat is one of the works and the seat's, where there is such a work
pub find-work : (works : List Work) (seat : ℕ) → Any (λ w. seat ≡ 2 + w.cpu) works → IsWorkOf works seat (work_of works seat)
find-work [] seat (k, x, lt, at, is) = absurd (omega arith)
find-work (w ∷ works) seat any = go (find-work works seat) (2 + w.cpu == seat) refl any
  where
    go : (Any (λ v. seat ≡ 2 + v.cpu) works → IsWorkOf works seat (work_of works seat)) → (b : Bool) → (2 + w.cpu == seat) ≡ b → Any (λ v. seat ≡ 2 + v.cpu) (w ∷ works) → IsWorkOf (w ∷ works) seat (work_of (w ∷ works) seat)
    go find true y any = rw y (record { has = (0, omega arith, refl); seat_is = grind arith })
    go find false n (zero, x, lt, at, is) = absurd (let c : 2 + w.cpu ≡ seat = ap (λ (v : Work). 2 + v.cpu) at ∙ sym is in let y : (2 + w.cpu == seat) ≡ true = grind arith in let no : true ≡ false = sym y ∙ n in cc)
    go find false n (suc k, x, lt, at, is) =
        let r = find (k, x, omega arith, at, is) in
        rw n (record { has = (suc (r.has.0), (let l = r.has.1 in omega arith), r.has.2); seat_is = r.seat_is })

-- the line at a place is that of the turn there
pub line-index : (turns : List Turn) (i : ℕ) (d : Turn) → i < length turns → slice_index (map (λ t. t.line) turns) i ≡ (get_or turns i d).line
line-index [] i d lt = absurd (omega arith)
line-index (t ∷ turns) zero d lt = refl
line-index (t ∷ turns) (suc i) d lt = line-index turns i d (omega arith)
