-- The records of lanes of which one has grown.
use Rattle.std.proofs.Common.{◌≡◌, ℕ, zero, suc, ◌<◌, ◌≤◌, ◌==◌, ◌⊎◌, inl, inr, false, List, [], ◌∷◌, ◌++◌, length, get_or, set, refl, sym, ap, ◌∙◌, arith, append-nil}
use Rattle.std.specs.Prelude.{All}
use Rattle.std.proofs.lemmas.Bool.{ne_eqb}
use Rattle.std.proofs.lemmas.List.Elements.{All-head, All-tail, filter-append}
use Rattle.rv_model.specs.declared.record.Record.{Record}
use Rattle.rv_model.specs.Records.{records_with, sort_records}
use Rattle.rv_model.proofs.SortLemmas.{Ascends-from, sorted-is}
use Rattle.rv_feed.specs.Lane.{LaneValue, lane_records}
use Rattle.rv_replay.specs.inner.Turns.{OrdersFrom}

-- no record has an order that none of them has
pub with-none : (order : ℕ) (rs : List Record) → All (λ r. r.order ≡ order → ⊥) rs → records_with order rs ≡ []
with-none order [] none = refl
with-none order (r ∷ rs) none =
    let no : (r.order == order) ≡ false = ne_eqb r.order order (All-head (λ (u : Record). u.order ≡ order → ⊥) r rs none) in
    rw no (with-none order rs (All-tail (λ (u : Record). u.order ≡ order → ⊥) r rs none))

-- those of two lists
with-append : (order : ℕ) (rs us : List Record) → records_with order (rs ++ us) ≡ records_with order rs ++ records_with order us
with-append order rs us = filter-append (λ (r : Record). r.order == order) rs us

-- the records with an order, of lanes of which one has more
module _ (order : ℕ) (more : List Record) where
  -- where no lane had one
  with-new : (lanes : List LaneValue) → All (λ l. All (λ r. r.order ≡ order → ⊥) l.records) lanes → records_with order (lane_records lanes) ≡ []
  with-new [] none = refl
  with-new (l ∷ lanes) none =
      let Free : LaneValue → Type 0 = λ (m : LaneValue). All (λ (r : Record). r.order ≡ order → ⊥) m.records in
      with-append order l.records (lane_records lanes) ∙ ap (λ (rs : List Record). rs ++ records_with order (lane_records lanes)) (with-none order l.records (All-head Free l lanes none)) ∙ with-new lanes (All-tail Free l lanes none)

  -- where none of the new ones has it
  pub with-old : (lanes : List LaneValue) (k : ℕ) (l' d : LaneValue) → k < length lanes → l'.records ≡ (get_or lanes k d).records ++ more → records_with order more ≡ []
      → records_with order (lane_records (set lanes k l')) ≡ records_with order (lane_records lanes)
  with-old [] k l' d lt is none = refl
  with-old (l ∷ lanes) zero l' d lt is none =
      ap (λ (rs : List Record). records_with order (rs ++ lane_records lanes)) is ∙ with-append order (l.records ++ more) (lane_records lanes)
      ∙ ap (λ (rs : List Record). rs ++ records_with order (lane_records lanes)) (with-append order l.records more ∙ ap (λ (rs : List Record). records_with order l.records ++ rs) none ∙ append-nil (records_with order l.records))
      ∙ sym (with-append order l.records (lane_records lanes))
  with-old (l ∷ lanes) (suc k) l' d lt is none =
      with-append order l.records (lane_records (set lanes k l')) ∙ ap (λ (rs : List Record). records_with order l.records ++ rs) (with-old lanes k l' d (omega arith) is none) ∙ sym (with-append order l.records (lane_records lanes))

  -- where only new ones have it
  pub with-added : (lanes : List LaneValue) (k : ℕ) (l' d : LaneValue) → k < length lanes → l'.records ≡ (get_or lanes k d).records ++ more → All (λ l. All (λ r. r.order ≡ order → ⊥) l.records) lanes
      → records_with order (lane_records (set lanes k l')) ≡ records_with order more
  with-added [] k l' d lt is none = absurd (omega arith)
  with-added (l ∷ lanes) zero l' d lt is none =
      let Free : LaneValue → Type 0 = λ (m : LaneValue). All (λ (r : Record). r.order ≡ order → ⊥) m.records in
      ap (λ (rs : List Record). records_with order (rs ++ lane_records lanes)) is ∙ with-append order (l.records ++ more) (lane_records lanes)
      ∙ ap (λ (rs : List Record). records_with order (l.records ++ more) ++ rs) (with-new lanes (All-tail Free l lanes none)) ∙ append-nil (records_with order (l.records ++ more))
      ∙ with-append order l.records more ∙ ap (λ (rs : List Record). rs ++ records_with order more) (with-none order l.records (All-head Free l lanes none))
  with-added (l ∷ lanes) (suc k) l' d lt is none =
      let Free : LaneValue → Type 0 = λ (m : LaneValue). All (λ (r : Record). r.order ≡ order → ⊥) m.records in
      with-append order l.records (lane_records (set lanes k l')) ∙ ap (λ (rs : List Record). rs ++ records_with order (lane_records (set lanes k l'))) (with-none order l.records (All-head Free l lanes none))
      ∙ with-added lanes k l' d (omega arith) is (All-tail Free l lanes none)

-- the records of all lanes are these, order by order, and so with the records of a turn
pub kept-more : (from to : ℕ) (rs more : List Record) (lanes : List LaneValue) (k : ℕ) (l' d : LaneValue) → k < length lanes → l'.records ≡ (get_or lanes k d).records ++ more
    → OrdersFrom 0 from rs → OrdersFrom from to more → All (λ l. All (λ r. r.order < from) l.records) lanes → ((order : ℕ) → records_with order rs ≡ records_with order (lane_records lanes))
    → (order : ℕ) → records_with order (rs ++ more) ≡ records_with order (lane_records (set lanes k l'))
kept-more from to rs more lanes k l' d lt is old new below kept order = with-append order rs more ∙ go (grind arith)
  where
    go : (order < from) ⊎ (from ≤ order) → records_with order rs ++ records_with order more ≡ records_with order (lane_records (set lanes k l'))
    go (inl less) =
        let none : records_with order more ≡ [] = with-none order more (λ i r i_lt e. let h = new.low i r i_lt in omega arith) in
        ap (λ (us : List Record). records_with order rs ++ us) none ∙ append-nil (records_with order rs) ∙ kept order ∙ sym (with-old order more lanes k l' d lt is none)
    go (inr le) =
        let none : records_with order rs ≡ [] = with-none order rs (λ i r i_lt e. let h = old.high i r i_lt in omega arith) in
        ap (λ (us : List Record). us ++ records_with order more) none ∙ sym (with-added order more lanes k l' d lt is (λ i l i_lt j r j_lt e. let h = below i l i_lt j r j_lt in omega arith))

-- so they are the sorted ones
pub kept-sorted : (to : ℕ) (rs : List Record) (lanes : List LaneValue) → OrdersFrom 0 to rs → ((order : ℕ) → records_with order rs ≡ records_with order (lane_records lanes)) → rs ≡ sort_records (lane_records lanes)
kept-sorted to rs lanes orders kept = sorted-is (lane_records lanes) rs (Ascends-from rs up) (λ x. kept x.order)
  where
    up : (i j : ℕ) (r : Record) → i ≤ j → j < length rs → (get_or rs i r).order ≤ (get_or rs j r).order
    up i j r le lt = go (grind arith)
      where
        go : (i < j) ⊎ (i ≡ j) → (get_or rs i r).order ≤ (get_or rs j r).order
        go (inl less) = let h = orders.ascend i j r less lt in omega arith
        go (inr same) = let h = ap (λ (n : ℕ). (get_or rs n r).order) same in omega arith
