-- From a place on, the deliveries that a look shows on begin with the first one of them.
use Rattle.std.proofs.Common.{◌≡◌, ℕ, ◌+◌, ◌<◌, ◌≤◌, true, false, List, [], ◌∷◌, length, refl, sym, ap, ◌∙◌, subst, sum}
use Rattle.std.specs.Prelude.{filter, slice_range, drop}
use Rattle.rv_model.specs.declared.work.Delivery.{Delivery}
use Rattle.rv_model.specs.Scripts.{is_enabled_by, Delivers, PlaysTurns, turns_of}
use Rattle.rv_model.specs.Setups.{Setup, slot_of}
use Rattle.rv_model.specs.Works.{Work}
use Rattle.rv_core.specs.Advance.{FitsHit}
use Rattle.rv_core.specs.Setup.{table_at}
use Rattle.rv_check.specs.declared.next.Next.TheVariants as next
use Rattle.rv_core.specs.Deliveries.{FitsDelivery}
use Rattle.rv_check.specs.inner.Nexts.{work_delivery, Settles}
use Rattle.rv_check.proofs.PlaceLemmas.{slice-first, slice-empty}

-- those that a look shows on, between two places
abbrev pub shown_in : Work → ℕ → ℕ → ℕ → List Delivery
shown_in w look place to = filter (is_enabled_by look) (slice_range w.deliveries place to)

module _ (w : Work) (look at to : ℕ) (lt : at < to) (le : to ≤ length w.deliveries) where
  -- the deliveries between the two places begin with the one at the first place
  first : slice_range w.deliveries at to ≡ work_delivery w at ∷ slice_range w.deliveries (at + 1) to
  first = slice-first w.deliveries at to _ lt le

  -- the delivery at the place is shown on
  pub shown-first : is_enabled_by look (work_delivery w at) ≡ true → shown_in w look at to ≡ work_delivery w at ∷ shown_in w look (at + 1) to
  shown-first enabled = ap (filter (is_enabled_by look)) first ∙ (rw enabled refl)

  -- it is not
  pub hidden-first : is_enabled_by look (work_delivery w at) ≡ false → shown_in w look at to ≡ shown_in w look (at + 1) to
  hidden-first hidden = ap (filter (is_enabled_by look)) first ∙ (rw hidden refl)

module _ (s : Setup) (w : Work) (look place to turn at : ℕ) (same : shown_in w look place to ≡ shown_in w look at to) where
  -- the next one is due
  pub settles-due : (slot : ℕ) → at < to → to ≤ length w.deliveries → is_enabled_by look (work_delivery w at) ≡ true → slot ≡ slot_of s.shape (work_delivery w at).monitor (work_delivery w at).instance → slot < sum s.shape → FitsDelivery s (work_delivery w at)
      → Settles s w look place to turn (next.Deliver (record { look = look; place = at; to = to; turn = turn; slot = slot; lost = 0 }))
  settles-due slot lt le enabled slot_is range fits = record {
    is_next = record {
      in_turn = lt;
      in_list = le;
      enabled = enabled;
      slot_is = slot_is;
      range = range;
      fits = subst (λ (n : ℕ). FitsHit (table_at s n) (work_delivery w at).hit) (sym slot_is) fits.hit;
    };
    fresh = refl;
    may = λ panics ps h. subst (λ (z : List Delivery). Delivers s panics look z (PlaysTurns s panics (drop turn (turns_of w))) ps) same h;
    only = λ panics ps h. subst (λ (z : List Delivery). Delivers s panics look z (PlaysTurns s panics (drop turn (turns_of w))) ps) (sym same) h;
  }

  -- none is left
  pub settles-none : to ≤ at → Settles s w look place to turn (next.Look turn)
  settles-none le =
      let none : shown_in w look place to ≡ [] = same ∙ ap (filter (is_enabled_by look)) (slice-empty w.deliveries at to le) in
      record {
        is_next = tt;
        fresh = tt;
        may = λ panics ps h. subst (λ (z : List Delivery). Delivers s panics look z (PlaysTurns s panics (drop turn (turns_of w))) ps) none h;
        only = λ panics ps h. subst (λ (z : List Delivery). Delivers s panics look z (PlaysTurns s panics (drop turn (turns_of w))) ps) (sym none) h;
      }
