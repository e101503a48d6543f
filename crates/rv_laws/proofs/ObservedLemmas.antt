-- What a script tells of a slot that is its own: each answer follows from the script's acts on the slot so far.
use Rattle.std.proofs.Common.{◌≡◌, ℕ, ◌+◌, Bool, true, false, ◌==◌, List, [], ◌∷◌, ◌++◌, reverse, arith, refl, sym, ap, ◌∙◌, subst}
use Rattle.std.specs.Prelude.{Contains, if◌then◌else◌}
use Rattle.rv_model.specs.declared.entry.Act.{Act}
use Rattle.rv_model.specs.declared.entry.Act.TheVariants.{Stop, Look}
use Rattle.rv_model.specs.declared.entry.Answer.{Answer}
use Rattle.rv_model.specs.declared.entry.Answer.TheVariants.{Looked}
use Rattle.rv_model.specs.declared.entry.Entry.{Entry}
use Rattle.rv_model.specs.declared.hit.Hit.{Hit}
use Rattle.rv_model.specs.Cuts.{AtEach}
use Rattle.rv_model.specs.Histories.{Input, IsLegal, is_on}
use Rattle.rv_model.specs.Judging.{Judge}
use Rattle.rv_model.specs.Scripts.{Played, played, hit_act}
use Rattle.rv_model.specs.Setups.{Setup}
use Rattle.rv_model.specs.SharedWords.{answer_at}
use Rattle.rv_model.specs.Works.{Work}
use Rattle.rv_laws.specs.SingleWriter.{is_named, HasOneWriter}
use Rattle.rv_laws.specs.Verdicts.{IsSteady}
use Rattle.rv_laws.proofs.AnswerLemmas.{bare, acts_on, answer_by, answer-on}
use Rattle.rv_laws.proofs.OwnerLemmas.{hit-on, by-owner}
use Rattle.rv_laws.proofs.PastLemmas.{Each, each-of, each-before}
use Rattle.rv_laws.proofs.StopLemmas.{lone_has_no_stop}
use Rattle.rv_laws.proofs.SwitchLemmas.{opening_word, look-opening}

module _ (s : Setup) (js : List Judge) (slot : ℕ) where
  -- the acts on the slot, with one more act
  abbrev pub grown : List Entry → Act → List Entry
  grown past act = if is_on slot act then bare act ∷ past else past

  -- a look shows the opening switches, the slot is not stopped, and its answer is by the acts so far
  pub record TellsAt (past : List Entry) (p : Played) : Type 0 where
    pub look : p.0.act ≡ Look → p.1 ≡ Looked (opening_word s)
    pub stop : ¬ (p.0.act ≡ Stop slot)
    pub answer : (hit : Hit) → p.0.act ≡ hit_act slot hit → p.1 ≡ answer_by s js slot past hit

  -- each entry of a script does, after these acts on the slot
  abbrev pub Tells : List Entry → List Played → Type 0
  Tells past [] = Unit {0}
  Tells past (p ∷ ps) = TellsAt past p × Tells (grown past p.0.act) ps

  -- the acts on the slot after a script
  abbrev grown_by : List Entry → List Played → List Entry
  grown_by past [] = past
  grown_by past (p ∷ ps) = grown_by (grown past p.0.act) ps

  -- one more entry
  grown-snoc : (past : List Entry) (ps : List Played) (p : Played) → grown_by past (ps ++ p ∷ []) ≡ grown (grown_by past ps) p.0.act
  grown-snoc past [] p = refl
  grown-snoc past (q ∷ ps) p = grown-snoc (grown past q.0.act) ps p

  -- one more entry tells it too
  tells-snoc : (past : List Entry) (ps : List Played) (p : Played) → Tells past ps → TellsAt (grown_by past ps) p → Tells past (ps ++ p ∷ [])
  tells-snoc past [] p so_far at = (at, tt)
  tells-snoc past (q ∷ ps) p (here, so_far) at = (here, tells-snoc (grown past q.0.act) ps p so_far at)

  -- ---- a past
  module _ (seat : ℕ) where
    -- an entry on the slot is the seat's
    abbrev IsOwn : List Entry → Entry → Type 0
    IsOwn past e = is_on slot e.act ≡ true → (e.seat == seat) ≡ true

    -- a seat's look shows the opening switches, its entry is no Stop of the slot, and the slot is its own where it has a hit on it
    pub record IsSettled (past : List Entry) (e : Entry) : Type 0 where
      pub look : e.act ≡ Look → e.after ≡ opening_word s
      pub stop : ¬ (e.act ≡ Stop slot)
      pub own : (hit : Hit) → e.act ≡ hit_act slot hit → Each IsOwn past

    -- it is, where the entry is the seat's
    abbrev OwnIsSettled : List Entry → Entry → Type 0
    OwnIsSettled past e = (e.seat == seat) ≡ true → IsSettled past e

    -- the seat's acts on a slot of its own are all acts on it
    grown-own : (past : List Entry) → Each IsOwn past → grown_by [] (played s js seat past) ≡ acts_on slot past
    grown-own [] own = refl
    grown-own (e ∷ past) (here, own) = go (e.seat == seat) refl (is_on slot e.act) refl (grown-own past own)
      where
        go : (b : Bool) → (e.seat == seat) ≡ b → (c : Bool) → is_on slot e.act ≡ c → grown_by [] (played s js seat past) ≡ acts_on slot past → grown_by [] (played s js seat (e ∷ past)) ≡ acts_on slot (e ∷ past)
        go true y c on rest =
            let mine : played s js seat (e ∷ past) ≡ played s js seat past ++ (e, answer_at s js past e e.act) ∷ [] = rw y refl in
            ap (grown_by []) mine ∙ grown-snoc [] (played s js seat past) (e, answer_at s js past e e.act) ∙ ap (λ (z : List Entry). grown z e.act) rest ∙ last c on
          where
            last : (c : Bool) → is_on slot e.act ≡ c → grown (acts_on slot past) e.act ≡ acts_on slot (e ∷ past)
            last true yes' = rw yes' refl
            last false none = rw none refl
        go false n true on rest = absurd (let wrong : false ≡ true = sym n ∙ here on in cc)
        go false n false on rest = rw (n, on) rest

    -- so a settled seat tells of the slot
    tells-own : (past : List Entry) → Each OwnIsSettled past → Tells [] (played s js seat past)
    tells-own [] settled = tt
    tells-own (e ∷ past) (here, settled) = go (e.seat == seat) refl (tells-own past settled)
      where
        go : (b : Bool) → (e.seat == seat) ≡ b → Tells [] (played s js seat past) → Tells [] (played s js seat (e ∷ past))
        go true y rest =
            let at = here y in
            let a : Answer = answer_at s js past e e.act in
            let mine : played s js seat (e ∷ past) ≡ played s js seat past ++ (e, a) ∷ [] = rw y refl in
            let told : TellsAt (grown_by [] (played s js seat past)) (e, a) = record {
              look = λ look. ap (answer_at s js past e) look ∙ ap Looked (at.look look);
              stop = at.stop;
              answer = λ hit act. answer-on s js slot past e hit act ∙ ap (λ (z : List Entry). answer_by s js slot z hit) (sym (grown-own past (at.own hit act)));
            } in
            subst (Tells []) (sym mine) (tells-snoc [] (played s js seat past) (e, a) rest told)
        go false n rest = rw n rest

-- ---- a history
module _ (input : Input) (js : List Judge) (h : List Entry) (legal : IsLegal input js h) (steady : IsSteady input) (slot : ℕ) (one_writer : HasOneWriter input.setup.shape input.works slot) where
  -- on a lone slot every entry is by the seat of a CPU that has a delivery for it
  own-at : (w : Work) → Contains input.works w → is_named input.setup.shape slot w.deliveries ≡ true → (seat : ℕ) → 2 + w.cpu ≡ seat → AtEach (λ before e. IsOwn input.setup js slot seat (reverse before) e) h
  own-at w has named seat its before e after eq on =
      let owner = by-owner input js h legal steady.no_changes slot before e after eq on in
      let cpu = one_writer owner.by.work w owner.by.has has owner.named named in
      let same : e.seat ≡ seat = owner.by.seat ∙ ap (λ (n : ℕ). 2 + n) cpu ∙ its in
      grind arith

  -- a CPU's script tells of each lone slot
  pub tells-lone : (w : Work) → Contains input.works w → Tells input.setup js slot [] (played input.setup js (2 + w.cpu) (reverse h))
  tells-lone w has = tells-own input.setup js slot (2 + w.cpu) (reverse h) (each-of (OwnIsSettled input.setup js slot (2 + w.cpu)) h settled)
    where
      settled : AtEach (λ before e. OwnIsSettled input.setup js slot (2 + w.cpu) (reverse before) e) h
      settled before e after eq mine = record {
        look = look-opening input js h legal steady before e after eq;
        stop = lone_has_no_stop input js h slot legal steady.no_changes one_writer before e after eq;
        own = λ hit act.
            let here : (slot == slot) ≡ true = grind arith in
            let owner = by-owner input js h legal steady.no_changes slot before e after eq (ap (is_on slot) act ∙ hit-on slot slot hit ∙ here) in
            let seat : e.seat ≡ 2 + w.cpu = grind arith in
            each-before (IsOwn input.setup js slot (2 + w.cpu)) h before e after eq (own-at owner.by.work owner.by.has owner.named (2 + w.cpu) (sym owner.by.seat ∙ seat));
      }
