-- A slot of one CPU alone is not stopped: nobody else changes it.
use Rattle.std.proofs.Common.{◌≡◌, ℕ, ◌+◌, ◌≤◌, Bool, true, false, ◌==◌, ◌&&◌, List, [], ◌∷◌, ◌++◌, length, arith, refl, sym, ap, ◌∙◌, subst, append_assoc}
use Rattle.std.specs.Prelude.{filter}
use Rattle.rv_model.specs.declared.entry.Act.{Act}
use Rattle.rv_model.specs.declared.entry.Act.TheVariants.{Deliver, Stop, Look, Raise, Lower, Clear, End}
use Rattle.rv_model.specs.declared.entry.Entry.{Entry}
use Rattle.rv_model.specs.Cuts.{AtEach}
use Rattle.rv_model.specs.Histories.{Input, IsLegal, IsNoStop, IsJustifiedBy, LostThrice, NoneOf, is_on, changed}
use Rattle.rv_model.specs.Judging.{Judge}
use Rattle.rv_laws.specs.SingleWriter.{HasOneWriter, SingleWriterHasNoStop, AllSingleWriterHaveNoStop}
use Rattle.rv_laws.proofs.OwnerLemmas.{IsByOwner, by-owner}

-- an entry of another seat that changed the slot
record ChangedByOther (slot seat : ℕ) (h : List Entry) : Type 0 where
  front : List Entry
  entry : Entry
  back : List Entry
  is : h ≡ front ++ entry ∷ back
  on : is_on slot entry.act ≡ true
  other : (entry.seat == seat) ≡ false

-- the first of two tests that both hold
both_first : (a b : Bool) → (a && b) ≡ true → a ≡ true
both_first true b e = refl
both_first false b e = e

-- where some entries changed the slot and none is the seat's, one of another seat did
some-other : (slot seat : ℕ) (h : List Entry) → 1 ≤ length (filter (changed slot) h) → NoneOf seat h → ChangedByOther slot seat h
some-other slot seat [] some none = absurd (omega arith)
some-other slot seat (e ∷ h) some none = go (changed slot e) refl (some-other slot seat h)
  where
    go : (b : Bool) → changed slot e ≡ b → (1 ≤ length (filter (changed slot) h) → NoneOf seat h → ChangedByOther slot seat h) → ChangedByOther slot seat (e ∷ h)
    go true yes' rest = record { front = []; entry = e; back = h; is = refl; on = both_first (is_on slot e.act) _ yes'; other = none.0 }
    go false unchanged rest =
        let r = rest (rw unchanged at some) none.1 in
        record { front = e ∷ r.front; entry = r.entry; back = r.back; is = ap (λ (z : List Entry). e ∷ z) r.is; on = r.on; other = r.other }

-- an entry since a cut of the past is one of the history
cut-since : (h before until since front back after : List Entry) (e f : Entry) → h ≡ before ++ e ∷ after → before ≡ until ++ since → since ≡ front ++ f ∷ back → h ≡ (until ++ front) ++ f ∷ (back ++ e ∷ after)
cut-since h before until since front back after e f eq is at =
    eq ∙ ap (λ (z : List Entry). z ++ e ∷ after) (is ∙ ap (λ (z : List Entry). until ++ z) at)
    ∙ append_assoc until (front ++ f ∷ back) (e ∷ after) ∙ ap (λ (z : List Entry). until ++ z) (append_assoc front (f ∷ back) (e ∷ after)) ∙ sym (append_assoc until front (f ∷ (back ++ e ∷ after)))

-- entries of one CPU are of one seat
same-seat : (n m seat other : ℕ) → seat ≡ 2 + n → other ≡ 2 + m → n ≡ m → other ≡ seat
same-seat n m seat other is other_is same = omega arith

-- where each entry on a slot of one CPU alone is by a CPU that has a delivery for it, nothing stops the slot
pub owned-has-no-stop : (input : Input) (js : List Judge) (h : List Entry) (slot : ℕ) → IsLegal input js h → HasOneWriter input.setup.shape input.works slot
    → AtEach (λ before e. is_on slot e.act ≡ true → IsByOwner input.setup.shape slot input.works e) h → AtEach (λ before e. ¬ (e.act ≡ Stop slot)) h
owned-has-no-stop input js h slot legal one_writer owned before e after eq stop =
    let lost : LostThrice slot e.seat before = subst (λ (a : Act). IsJustifiedBy a e.seat before) stop (legal.sound.justified before e after eq) in
    let three = lost.three in
    let c = some-other slot e.seat lost.since (omega arith) lost.none in
    let front : List Entry = lost.until ++ c.front in
    let whole = cut-since h before lost.until lost.since c.front c.back after e c.entry eq lost.is c.is in
    let here : (slot == slot) ≡ true = grind arith in
    let mine = owned before e after eq (ap (is_on slot) stop ∙ here) in
    let theirs = owned front c.entry (c.back ++ e ∷ after) whole c.on in
    let cpu = one_writer mine.by.work theirs.by.work mine.by.has theirs.by.has mine.named theirs.named in
    let seats = same-seat mine.by.work.cpu theirs.by.work.cpu e.seat c.entry.seat mine.by.seat theirs.by.seat cpu in
    let same : (c.entry.seat == e.seat) ≡ true = grind arith in
    let no : true ≡ false = sym same ∙ c.other in cc

-- nothing stops a slot of one CPU alone
pub lone_has_no_stop : SingleWriterHasNoStop
lone_has_no_stop input js h slot legal still one_writer = owned-has-no-stop input js h slot legal one_writer (by-owner input js h legal still slot)

-- an act that stops no slot is no Stop
pub no-stop-by-slot : (act : Act) → ((slot : ℕ) → ¬ (act ≡ Stop slot)) → IsNoStop act
no-stop-by-slot (Deliver _ _) none = tt
no-stop-by-slot (Stop slot) none = none slot refl
no-stop-by-slot Look none = tt
no-stop-by-slot (Raise _) none = tt
no-stop-by-slot (Lower _) none = tt
no-stop-by-slot (Clear _) none = tt
no-stop-by-slot (End _) none = tt

-- nothing stops anything where each slot is one CPU's alone
pub all_lone_have_no_stop : AllSingleWriterHaveNoStop
all_lone_have_no_stop input js h legal still one_writer before e after eq = no-stop-by-slot e.act (λ slot. lone_has_no_stop input js h slot legal still (one_writer slot) before e after eq)
