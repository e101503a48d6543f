-- What serves a delivery that fits is an item's act, which fits.
use Rattle.std.proofs.Common.{◌≡◌, ℕ, zero, suc, ◌<◌, List, [], ◌∷◌, ◌++◌, inl, inr, length, take, sym, subst, arith, sum}
use Rattle.std.specs.Prelude.{All, slice_index}
use Rattle.std.proofs.lemmas.List.Elements.{All-head, All-tail}
use Rattle.rv_model.specs.declared.entry.Act.{Act}
use Rattle.rv_model.specs.declared.work.Delivery.{Delivery}
use Rattle.rv_model.specs.Setups.{Setup, slot_of}
use Rattle.rv_core.specs.Setup.{FitsAct, ActFits}
use Rattle.rv_slots.proofs.ShapeLemmas.{sum-cons}
use Rattle.rv_journal.specs.declared.counted.Counted.{Counted}
use Rattle.rv_journal.specs.inner.MergeStates.{IsItemAct}
use Rattle.rv_journal.specs.Merging.{FitsSetup, Serves, AllServed}
use Rattle.rv_journal.specs.inner.Merging.{HitFits}
use Rattle.rv_journal.proofs.ItemLemmas.{by-item}

-- the slot of an instance is one of the setup's
pub slot_of-lt : (shape : List ℕ) (monitor instance : ℕ) → monitor < length shape → instance < slice_index shape monitor → slot_of shape monitor instance < sum shape
slot_of-lt [] monitor instance low in' = absurd (omega arith)
slot_of-lt (count ∷ shape) zero instance low in' = let all = sum-cons count shape in omega arith
slot_of-lt (count ∷ shape) (suc monitor) instance low in' =
    let rest = slot_of-lt shape monitor instance (omega arith) in' in
    let all = sum-cons count shape in
    let front = sum-cons count (take monitor shape) in
    omega arith

-- what serves a delivery that fits, fits
serves-fits : (s : Setup) (d : Delivery) (act : Act) → FitsSetup s d → Serves s d act → IsItemAct act × FitsAct s act
serves-fits s d act fit (inl is) =
    let low = slot_of-lt s.shape d.monitor d.instance fit.monitor fit.instance_fits in
    subst (λ (a : Act). IsItemAct a × FitsAct s a) (sym is) (tt, (low, fit.hit))
serves-fits s d act fit (inr is) =
    let low = slot_of-lt s.shape d.monitor d.instance fit.monitor fit.instance_fits in
    subst (λ (a : Act). IsItemAct a × FitsAct s a) (sym is) (tt, low)

-- of all items
pub all-served : (s : Setup) (ds : List Delivery) (items : List Counted) → All (FitsSetup s) ds → AllServed s ds items → (front : List Counted) (c : Counted) (back : List Counted) → items ≡ front ++ c ∷ back → IsItemAct c.entry.act × FitsAct s c.entry.act
all-served s [] [] fit served [] c back eq = absurd (cc)
all-served s [] [] fit served (x ∷ front) c back eq = absurd (cc)
all-served s [] (i ∷ items) fit served front c back eq = absurd served
all-served s (d ∷ ds) [] fit served front c back eq = absurd served
all-served s (d ∷ ds) (i ∷ items) fit served [] c back eq =
    let it : i ≡ c = cc in
    subst (λ (z : Counted). IsItemAct z.entry.act × FitsAct s z.entry.act) it (serves-fits s d i.entry.act (All-head (FitsSetup s) d ds fit) served.0)
all-served s (d ∷ ds) (i ∷ items) fit served (x ∷ front) c back eq =
    let tail : items ≡ front ++ c ∷ back = cc in
    all-served s ds items (All-tail (FitsSetup s) d ds fit) served.1 front c back tail

-- of an item at a cut
pub all-cut : (P : Counted → Type 0) (items : List Counted) → All P items → (front : List Counted) (c : Counted) (back : List Counted) → items ≡ front ++ c ∷ back → P c
all-cut P [] all [] c back eq = absurd (cc)
all-cut P [] all (x ∷ front) c back eq = absurd (cc)
all-cut P (i ∷ items) all [] c back eq = let it : i ≡ c = cc in subst P it (All-head P i items all)
all-cut P (i ∷ items) all (x ∷ front) c back eq = let tail : items ≡ front ++ c ∷ back = cc in all-cut P items (All-tail P i items all) front c back tail

-- an item's numbers are an act's
pub bits-fit : (s : Setup) (act : Act) → IsItemAct act → HitFits act → ActFits s act
bits-fit s = by-item (λ (a : Act). HitFits a → ActFits s a) (λ slot hit fits. fits) (λ slot fits. tt)
