-- The records of an instance, from lists that are alike on its slot.
use Rattle.std.proofs.Common.{◌≡◌, ℕ, suc, ◌≤◌, Bool, true, false, ◌==◌, ◌&&◌, List, [], ◌∷◌, arith, refl, sym, ap, ◌∙◌}
use Rattle.std.specs.Prelude.{filter, nat_le, flat_map, Contains}
use Rattle.std.specs.List.{AllZip}
use Rattle.rv_model.specs.declared.record.Record.{Record}
use Rattle.rv_model.specs.Records.{sort_records}
use Rattle.rv_model.specs.Setups.{slot_of}
use Rattle.rv_model.specs.Works.{Work}
use Rattle.rv_model.specs.inner.Sorting.{insert_record}
use Rattle.rv_model.proofs.OrderLemmas.{Above, Ascends, Above-less}
use Rattle.rv_model.proofs.SortLemmas.{Ascends-sort, sort_records-nil, sort_records-cons}
use Rattle.rv_laws.specs.Verdicts.{is_of_instance, records_on}
use Rattle.rv_laws.proofs.LikeLemmas.{IsLike, zip-append}

-- ---- a sort keeps what is left out apart

module _ (keep : Record → Bool) where
  -- a record that is not below the first goes before it
  insert-first : (r : Record) (rs : List Record) → Above r.order rs → insert_record r (filter keep rs) ≡ r ∷ filter keep rs
  insert-first r [] above = refl
  insert-first r (x ∷ rs) above = go (keep x) refl (insert-first r rs above.1)
    where
      go : (b : Bool) → keep x ≡ b → insert_record r (filter keep rs) ≡ r ∷ filter keep rs → insert_record r (filter keep (x ∷ rs)) ≡ r ∷ filter keep (x ∷ rs)
      go true kept rest = let le : nat_le r.order x.order ≡ true = (let a = above.0 in grind arith) in rw (kept, le) refl
      go false gone rest = rw gone rest

  -- a record that is kept is put in its place
  insert-kept : (r : Record) → keep r ≡ true → (rs : List Record) → Ascends rs → filter keep (insert_record r rs) ≡ insert_record r (filter keep rs)
  insert-kept r mine [] up = rw mine refl
  insert-kept r mine (x ∷ rs) up = go (nat_le r.order x.order) refl (keep x) refl (insert-kept r mine rs up.1)
    where
      go : (b : Bool) → nat_le r.order x.order ≡ b → (c : Bool) → keep x ≡ c → filter keep (insert_record r rs) ≡ insert_record r (filter keep rs) → filter keep (insert_record r (x ∷ rs)) ≡ insert_record r (filter keep (x ∷ rs))
      go true le c kept rest =
          let under : r.order ≤ x.order = grind arith in
          let first = insert-first r (x ∷ rs) (under, Above-less r.order x.order rs under up.0) in
          let whole : filter keep (insert_record r (x ∷ rs)) ≡ r ∷ filter keep (x ∷ rs) = rw (le, mine) refl in
          whole ∙ sym first
      go false gt true kept rest = rw (gt, kept, gt) (ap (λ (z : List Record). x ∷ z) rest)
      go false gt false gone rest = rw (gt, gone) rest

  -- a record that is left out leaves nothing
  insert-gone : (r : Record) → keep r ≡ false → (rs : List Record) → filter keep (insert_record r rs) ≡ filter keep rs
  insert-gone r gone [] = rw gone refl
  insert-gone r gone (x ∷ rs) = go (nat_le r.order x.order) refl (keep x) refl (insert-gone r gone rs)
    where
      go : (b : Bool) → nat_le r.order x.order ≡ b → (c : Bool) → keep x ≡ c → filter keep (insert_record r rs) ≡ filter keep rs → filter keep (insert_record r (x ∷ rs)) ≡ filter keep (x ∷ rs)
      go true le c kept rest = rw (le, gone) refl
      go false gt true kept rest = rw (gt, kept) (ap (λ (z : List Record). x ∷ z) rest)
      go false gt false out rest = rw (gt, out) rest

  -- sorted and then filtered is filtered and then sorted
  pub filter-sort : (rs : List Record) → filter keep (sort_records rs) ≡ sort_records (filter keep rs)
  filter-sort [] = ap (filter keep) sort_records-nil ∙ sym sort_records-nil
  filter-sort (r ∷ rs) = go (keep r) refl (filter-sort rs)
    where
      go : (b : Bool) → keep r ≡ b → filter keep (sort_records rs) ≡ sort_records (filter keep rs) → filter keep (sort_records (r ∷ rs)) ≡ sort_records (filter keep (r ∷ rs))
      go true kept rest =
          let more : filter keep (r ∷ rs) ≡ r ∷ filter keep rs = rw kept refl in
          ap (filter keep) (sort_records-cons r rs) ∙ insert-kept r kept (sort_records rs) (Ascends-sort rs) ∙ ap (insert_record r) rest ∙ sym (sort_records-cons r (filter keep rs)) ∙ ap sort_records (sym more)
      go false gone rest =
          let less : filter keep (r ∷ rs) ≡ filter keep rs = rw gone refl in
          ap (filter keep) (sort_records-cons r rs) ∙ insert-gone r gone (sort_records rs) ∙ rest ∙ ap sort_records (sym less)

-- ---- lists that are alike

-- both of two tests hold
both : (a b : Bool) → (a && b) ≡ true → (a ≡ true) × (b ≡ true)
both true b e = (refl, e)
both false b e = absurd (let wrong : false ≡ true = e in cc)

-- where they are alike on the slot of an instance, its records are the same
pub like-filter : (shape : List ℕ) (monitor instance : ℕ) (rs us : List Record) → AllZip (IsLike shape (slot_of shape monitor instance)) rs us → records_on monitor instance rs ≡ records_on monitor instance us
like-filter shape monitor instance [] [] h = refl
like-filter shape monitor instance [] (u ∷ us) h = absurd h
like-filter shape monitor instance (r ∷ rs) [] h = absurd h
like-filter shape monitor instance (r ∷ rs) (u ∷ us) (like, h) = go (is_of_instance monitor instance r) refl (like-filter shape monitor instance rs us h)
  where
    other : is_of_instance monitor instance u ≡ is_of_instance monitor instance r
    other = ap (λ (n : ℕ). (n == monitor) && (u.instance == instance)) (sym like.monitor) ∙ ap (λ (n : ℕ). (r.monitor == monitor) && (n == instance)) (sym like.instance_is)

    go : (b : Bool) → is_of_instance monitor instance r ≡ b → records_on monitor instance rs ≡ records_on monitor instance us → records_on monitor instance (r ∷ rs) ≡ records_on monitor instance (u ∷ us)
    go true mine rest =
        let tests = both (r.monitor == monitor) (r.instance == instance) mine in
        let m : r.monitor ≡ monitor = (let t = tests.0 in grind arith) in
        let i : r.instance ≡ instance = (let t = tests.1 in grind arith) in
        let same : r ≡ u = like.same (ap (λ (n : ℕ). slot_of shape n r.instance) m ∙ ap (slot_of shape monitor) i) in
        let left : records_on monitor instance (r ∷ rs) ≡ r ∷ records_on monitor instance rs = rw mine refl in
        let right : records_on monitor instance (u ∷ us) ≡ u ∷ records_on monitor instance us = rw (other ∙ mine) refl in
        left ∙ ap (λ (z : List Record). r ∷ z) rest ∙ ap (λ (x : Record). x ∷ records_on monitor instance us) same ∙ sym right
    go false off rest =
        let left : records_on monitor instance (r ∷ rs) ≡ records_on monitor instance rs = rw off refl in
        let right : records_on monitor instance (u ∷ us) ≡ records_on monitor instance us = rw (other ∙ off) refl in
        left ∙ rest ∙ sym right

-- where they are alike on every slot, they are the same
pub like-all : (shape : List ℕ) (rs us : List Record) → ((slot : ℕ) → AllZip (IsLike shape slot) rs us) → rs ≡ us
like-all shape [] [] h = refl
like-all shape [] (u ∷ us) h = absurd (h 0)
like-all shape (r ∷ rs) [] h = absurd (h 0)
like-all shape (r ∷ rs) (u ∷ us) h =
    let same : r ≡ u = (h (slot_of shape r.monitor r.instance)).0.same refl in
    ap (λ (x : Record). x ∷ rs) same ∙ ap (λ (z : List Record). u ∷ z) (like-all shape rs us (λ slot. (h slot).1))

-- lists that are alike for each work are alike for all works
pub zip-works : (R : Record → Record → Type 0) (f g : Work → List Record) (works : List Work) → ((w : Work) → Contains works w → AllZip R (f w) (g w)) → AllZip R (flat_map f works) (flat_map g works)
zip-works R f g [] each = tt
zip-works R f g (w ∷ works) each =
    zip-append R (f w) (g w) (flat_map f works) (flat_map g works) (each w (0, omega arith, refl)) (zip-works R f g works (λ v has. each v (suc (has.0), (let l = has.1 in omega arith), has.2)))
