-- An act that is allowed fits the machine, and its seat may do it.
use Rattle.std.proofs.Common.{◌≡◌, ℕ, ◌<◌, inr, Bool, false, List, reverse, arith, refl, sym, subst, sum}
use Rattle.std.specs.Prelude.{MatchBool}
use Rattle.rv_model.specs.declared.entry.Act.{Act}
use Rattle.rv_model.specs.declared.entry.Act.TheVariants.{Deliver, Stop, Look, Raise, Lower, Clear, End}
use Rattle.rv_model.specs.declared.entry.Entry.{Entry}
use Rattle.rv_model.specs.declared.hit.Hit.{Hit}
use Rattle.rv_model.specs.declared.hit.What.TheVariants.{Nothing}
use Rattle.rv_model.specs.Histories.{LostThrice, IsJustifiedBy, IsPermittedTo}
use Rattle.rv_model.specs.Scripts.{is_end}
use Rattle.rv_model.specs.Setups.{Setup}
use Rattle.rv_model.specs.Table.{Table}
use Rattle.rv_model.specs.Works.{Work}
use Rattle.rv_core.specs.Advance.{FitsTable, FitsHit}
use Rattle.rv_core.specs.Setup.{FitsAct, table_at}
use Rattle.rv_check.specs.declared.next.Due.{Due}
use Rattle.rv_check.specs.declared.next.Next.{Next}
use Rattle.rv_check.specs.declared.next.Next.TheVariants as next
use Rattle.rv_check.specs.inner.Nexts.{work_delivery, HasPlace, CanMove, IsDue, IsNext, ServesDue, Allows, lost_of, CountsTo, CountsLostTries}
use Rattle.rv_check.proofs.LostLemmas.{counted-thrice}
use Rattle.rv_check.proofs.ServeLemmas.{look-is, halt-is}

-- a delivery that may be next has its place
pub has-place : (s : Setup) (w : Work) (n : Next) → IsNext s w n → HasPlace w n
has-place s w (next.Look turn) is = tt
has-place s w (next.Deliver due) is = let a = is.in_turn in let b = is.in_list in omega arith
has-place s w next.Raise is = tt
has-place s w next.Over is = tt

-- a look that is allowed has its turn
pub can-move : (w : Work) (n : Next) (act : Act) → Allows w n act → CanMove w n
can-move w (next.Look turn) act x = x.1
can-move w (next.Deliver due) act x = tt
can-move w next.Raise act x = tt
can-move w next.Over act x = tt

-- a hit that is no end fits the table
fits-delivered : (t : Table) (hit : Hit) → is_end hit.mode ≡ false → FitsHit t hit → FitsTable t hit
fits-delivered t hit goes fits = subst (λ (b : Bool). MatchBool b (hit.what ≡ Nothing) (FitsTable t hit)) goes fits

-- what serves a delivery that is due fits the machine
serves-fits : (s : Setup) (w : Work) (due : Due) → IsDue s w due → (act : Act) → ServesDue w due act → FitsAct s act
serves-fits s w due is (Deliver slot hit) (goes, at, brings) =
    let P : ℕ → Type 0 = λ m. (m < sum s.shape) × FitsTable (table_at s m) hit in
    subst P (sym at) (is.range, subst (FitsTable (table_at s due.slot)) (sym brings) (fits-delivered (table_at s due.slot) (work_delivery w due.place).hit goes is.fits))
serves-fits s w due is (Stop slot) (goes, at, lost) = subst (λ (m : ℕ). m < sum s.shape) (sym at) is.range
serves-fits s w due is Look x = absurd x
serves-fits s w due is (Raise _) x = absurd x
serves-fits s w due is (Lower _) x = absurd x
serves-fits s w due is (Clear _) x = absurd x
serves-fits s w due is (End slot) (ends, at) = subst (λ (m : ℕ). m < sum s.shape) (sym at) is.range

-- an act that is allowed fits the machine
pub allowed-fits : (s : Setup) (w : Work) (n : Next) → IsNext s w n → (act : Act) → Allows w n act → FitsAct s act
allowed-fits s w (next.Look turn) is act x = subst (FitsAct s) (sym (look-is act x.0)) tt
allowed-fits s w (next.Deliver due) is act x = serves-fits s w due is act x
allowed-fits s w next.Raise is act x = subst (FitsAct s) (sym (halt-is act x)) tt
allowed-fits s w next.Over is act x = absurd x

-- what serves a delivery has the tries that it needs
serves-earned : (w : Work) (seat : ℕ) (h : List Entry) (due : Due) → CountsTo due.lost (lost_of due.slot seat (reverse h)) → (act : Act) → ServesDue w due act → IsJustifiedBy act seat h
serves-earned w seat h due c (Deliver _ _) x = tt
serves-earned w seat h due c (Stop slot) (goes, at, lost) = subst (λ (i : ℕ). LostThrice i seat h) (sym at) (counted-thrice due.slot seat h (c.enough lost))
serves-earned w seat h due c Look x = absurd x
serves-earned w seat h due c (Raise _) x = absurd x
serves-earned w seat h due c (Lower _) x = absurd x
serves-earned w seat h due c (Clear _) x = absurd x
serves-earned w seat h due c (End _) x = tt

-- so has an act that is allowed
pub allowed-earned : (w : Work) (seat : ℕ) (h : List Entry) (n : Next) → CountsLostTries seat (reverse h) n → (act : Act) → Allows w n act → IsJustifiedBy act seat h
allowed-earned w seat h (next.Look turn) c act x = subst (λ (z : Act). IsJustifiedBy z seat h) (sym (look-is act x.0)) tt
allowed-earned w seat h (next.Deliver due) c act x = serves-earned w seat h due c act x
allowed-earned w seat h next.Raise c act x = subst (λ (z : Act). IsJustifiedBy z seat h) (sym (halt-is act x)) tt
allowed-earned w seat h next.Over c act x = absurd x

-- what serves a delivery is no act of another kind of seat
serves-held : (w : Work) (seat : ℕ) (due : Due) (act : Act) → ServesDue w due act → IsPermittedTo act seat
serves-held w seat due (Deliver _ _) x = tt
serves-held w seat due (Stop slot) x = tt
serves-held w seat due Look x = absurd x
serves-held w seat due (Raise _) x = absurd x
serves-held w seat due (Lower _) x = absurd x
serves-held w seat due (Clear _) x = absurd x
serves-held w seat due (End _) x = tt

-- nor is an act that is allowed
pub allowed-held : (w : Work) (seat : ℕ) (n : Next) (act : Act) → Allows w n act → IsPermittedTo act seat
allowed-held w seat (next.Look turn) act x = subst (λ (z : Act). IsPermittedTo z seat) (sym (look-is act x.0)) tt
allowed-held w seat (next.Deliver due) act x = serves-held w seat due act x
allowed-held w seat next.Raise act x = subst (λ (z : Act). IsPermittedTo z seat) (sym (halt-is act x)) (inr (inr refl))
allowed-held w seat next.Over act x = absurd x
