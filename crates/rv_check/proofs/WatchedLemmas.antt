-- What is next for a seat behind an entry of another one.
use Rattle.std.proofs.Common.{◌≡◌, ◌≢◌, ℕ, ◌+◌, ◌<◌, ◌≤◌, Bool, true, false, ◌&&◌, ◌==◌, cond, List, ◌∷◌, arith, refl}
use Rattle.std.specs.Prelude.{nat_lt}
use Rattle.rv_model.specs.declared.entry.Entry.{Entry}
use Rattle.rv_model.specs.Histories.{changed}
use Rattle.rv_model.specs.Scripts.{Played}
use Rattle.rv_model.specs.Setups.{Setup}
use Rattle.rv_model.specs.Works.{Work}
use Rattle.rv_check.specs.declared.next.Next.{Next}
use Rattle.rv_check.specs.declared.next.Next.TheVariants as next
use Rattle.rv_check.specs.inner.Nexts.{May, IsNext, lost_of, CountsTo, CountsLostTries, after_other}

module _ (s : Setup) (v : Work) (e : Entry) where
  -- it may be next
  pub after_other-next : (x : Next) → IsNext s v x → IsNext s v (after_other e x)
  after_other-next (next.Look turn) is = tt
  after_other-next (next.Deliver due) is = record { in_turn = is.in_turn; in_list = is.in_list; enabled = is.enabled; slot_is = is.slot_is; range = is.range; fits = is.fits }
  after_other-next next.Raise is = tt
  after_other-next next.Over is = tt

  -- what may follow it may follow it still
  pub after_other-may : (panics : ℕ → Bool) (x : Next) (ps : List Played) → May s panics v x ps → May s panics v (after_other e x) ps
  after_other-may panics (next.Look turn) ps h = h
  after_other-may panics (next.Deliver due) ps h = h
  after_other-may panics next.Raise ps h = h
  after_other-may panics next.Over ps h = h

  -- and nothing else may
  pub may-after_other : (panics : ℕ → Bool) (x : Next) (ps : List Played) → May s panics v (after_other e x) ps → May s panics v x ps
  may-after_other panics (next.Look turn) ps h = h
  may-after_other panics (next.Deliver due) ps h = h
  may-after_other panics next.Raise ps h = h
  may-after_other panics next.Over ps h = h

  -- one change more, or none
  counts-on : (lost n : ℕ) (b : Bool) → CountsTo lost n → CountsTo (cond (b && nat_lt lost 3) (lost + 1) lost) (cond b 1 0 + n)
  counts-on lost n true c = on (nat_lt lost 3) refl
    where
      on : (b : Bool) → nat_lt lost 3 ≡ b → CountsTo (cond (nat_lt lost 3) (lost + 1) lost) (1 + n)
      on true y =
          let lt : lost < 3 = grind arith in
          let is = c.below lt in
          rw y (record { most = omega arith; below = λ h. omega arith; enough = λ h. omega arith })
      on false y =
          let ge : 3 ≤ lost = grind arith in
          let more = c.enough ge in
          let most = c.most in
          rw y (record { most = most; below = λ h. absurd (omega arith); enough = λ h. omega arith })
  counts-on lost n false c = record { most = c.most; below = λ h. (let is = c.below h in omega arith); enough = λ h. (let three = c.enough h in omega arith) }

  -- so its tries are counted
  pub after_other-counted : (seat : ℕ) (past : List Entry) (x : Next) → e.seat ≢ seat → CountsLostTries seat past x → CountsLostTries seat (e ∷ past) (after_other e x)
  after_other-counted seat past (next.Look turn) other c = tt
  after_other-counted seat past (next.Deliver due) other c =
      let n : (e.seat == seat) ≡ false = grind arith in
      rw n (counts-on due.lost (lost_of due.slot seat past) (changed due.slot e) c)
  after_other-counted seat past next.Raise other c = tt
  after_other-counted seat past next.Over other c = tt
