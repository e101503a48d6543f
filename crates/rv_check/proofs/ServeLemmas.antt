-- Looks, raises of the halted bit, and what serves a delivery that is due: it makes the delivery.
use Rattle.std.proofs.Common.{◌≡◌, ℕ, ◌+◌, ◌^◌, ◌≤◌, Bool, true, false, cond, ◌∷◌, inl, inr, refl, sym, ap, ◌∙◌, subst}
use Rattle.rv_model.specs.declared.entry.Act.{Act}
use Rattle.rv_model.specs.declared.entry.Act.TheVariants.{Deliver, Stop, Look, Raise, Lower, Clear, End}
use Rattle.rv_model.specs.declared.entry.Answer.{Answer}
use Rattle.rv_model.specs.declared.entry.Entry.{Entry}
use Rattle.rv_model.specs.declared.work.Delivery.{Delivery}
use Rattle.rv_model.specs.Scripts.{hit_act, Makes}
use Rattle.rv_model.specs.Setups.{Setup, slot_of}
use Rattle.rv_model.specs.Works.{Work}
use Rattle.rv_check.specs.declared.next.Due.{Due}
use Rattle.rv_check.specs.inner.Nexts.{work_delivery, IsDue, is_ending, ServesDue, IsLook, IsHalt}
use Rattle.rv_check.proofs.SettleLemmas.{shown_in, shown-first}

-- a look is the look
pub look-is : (act : Act) → IsLook act → act ≡ Look
look-is (Deliver _ _) x = absurd x
look-is (Stop _) x = absurd x
look-is Look x = refl
look-is (Raise _) x = absurd x
look-is (Lower _) x = absurd x
look-is (Clear _) x = absurd x
look-is (End _) x = absurd x

-- a halt is a raise of the halted bit alone
pub halt-is : (act : Act) → IsHalt act → act ≡ Raise (2 ^ 34)
halt-is (Deliver _ _) x = absurd x
halt-is (Stop _) x = absurd x
halt-is Look x = absurd x
halt-is (Raise bits) x = ap Raise x
halt-is (Lower _) x = absurd x
halt-is (Clear _) x = absurd x
halt-is (End _) x = absurd x

module _ (s : Setup) (w : Work) (due : Due) (is : IsDue s w due) where
  -- the delivery that is due
  abbrev d : Delivery
  d = work_delivery w due.place

  -- its slot
  abbrev at : ℕ
  at = slot_of s.shape d.monitor d.instance

  -- what serves makes the delivery
  pub serves-makes : (act : Act) → ServesDue w due act → (e : Entry) (a : Answer) → e.act ≡ act → Makes s d (e, a)
  serves-makes (Deliver slot hit) (goes, here, brings) e a same =
      let act : hit_act at d.hit ≡ Deliver at d.hit = ap (λ (b : Bool). cond b (End at) (Deliver at d.hit)) goes in
      inl (same ∙ ap (λ (n : ℕ). Deliver n hit) (here ∙ is.slot_is) ∙ ap (Deliver at) brings ∙ sym act)
  serves-makes (Stop slot) (goes, here, lost) e a same = inr (goes, same ∙ ap Stop (here ∙ is.slot_is))
  serves-makes Look x e a same = absurd x
  serves-makes (Raise _) x e a same = absurd x
  serves-makes (Lower _) x e a same = absurd x
  serves-makes (Clear _) x e a same = absurd x
  serves-makes (End slot) (ends, here) e a same =
      let act : hit_act at d.hit ≡ End at = ap (λ (b : Bool). cond b (End at) (Deliver at d.hit)) ends in
      inl (same ∙ ap End (here ∙ is.slot_is) ∙ sym act)

  -- the act of its hit serves
  hit-serves : ServesDue w due (hit_act due.slot d.hit)
  hit-serves = go (is_ending w due) refl
    where
      go : (b : Bool) → is_ending w due ≡ b → ServesDue w due (cond b (End due.slot) (Deliver due.slot d.hit))
      go true ends = (ends, refl)
      go false goes = (goes, refl, refl)

  -- what makes the delivery serves, where a stop was lost three times
  pub makes-serves : (e : Entry) (a : Answer) → (e.act ≡ Stop due.slot → 3 ≤ due.lost) → Makes s d (e, a) → ServesDue w due e.act
  makes-serves e a lost (inl act) = subst (ServesDue w due) (sym (act ∙ ap (λ (n : ℕ). hit_act n d.hit) (sym is.slot_is))) hit-serves
  makes-serves e a lost (inr (goes, act)) =
      let stops : e.act ≡ Stop due.slot = act ∙ ap Stop (sym is.slot_is) in
      subst (ServesDue w due) (sym stops) (goes, refl, lost stops)

  -- the deliveries that are left begin with it
  pub begins-due : shown_in w due.look due.place due.to ≡ d ∷ shown_in w due.look (due.place + 1) due.to
  begins-due = shown-first w due.look due.place due.to is.in_turn is.in_list is.enabled
