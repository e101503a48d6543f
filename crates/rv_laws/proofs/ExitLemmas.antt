-- The status of a history's records is that of its entries.
use Rattle.std.proofs.Common.{◌≡◌, ℕ, ◌+◌, Bool, true, false, ◌==◌, ◌&&◌, ◌||◌, List, [], ◌∷◌, ◌⊎◌, inl, inr, reverse, arith, refl, ap, ◌∙◌}
use Rattle.std.specs.Prelude.{All, flat_map, if◌then◌else◌}
use Rattle.std.specs.List.{list_any}
use Rattle.std.proofs.Math.Bool.{or_comm}
use Rattle.std.proofs.lemmas.List.{reverse-append}
use Rattle.std.proofs.lemmas.List.Elements.{All-head, All-tail, All-weaker}
use Rattle.std.proofs.lemmas.List.Folds.{list_any-append, list_any-from_Any}
use Rattle.rv_model.specs.declared.entry.Act.{Act}
use Rattle.rv_model.specs.declared.entry.Act.TheVariants.{Deliver, Stop, Look, Raise, Lower, Clear, End}
use Rattle.rv_model.specs.declared.entry.Entry.{Entry}
use Rattle.rv_model.specs.declared.record.Delivered.{Delivered}
use Rattle.rv_model.specs.Histories.{Input, IsLegal}
use Rattle.rv_model.specs.Judging.{Judge}
use Rattle.rv_model.specs.Records.{outcome_of, is_delivery_act, failed_outcome, racing_outcome, script_records, records_of}
use Rattle.rv_model.specs.Scripts.{Played, played, fails, Plays}
use Rattle.rv_model.specs.Setups.{Setup}
use Rattle.rv_model.specs.SharedWords.{answer_at}
use Rattle.rv_model.specs.Works.{Work}
use Rattle.rv_laws.specs.Exits.{has_failed, is_stop, has_stop, StatusIsSeen}
use Rattle.rv_laws.proofs.ControlLemmas.{control-none}
use Rattle.rv_laws.proofs.OutcomeLemmas.{tells, shows, any-sort, any-flat_map, told-script}
use Rattle.rv_laws.proofs.PastLemmas.{Each, each-of}

-- ---- one of a list of works

-- the second and the third of four tests change places
or-middle : (a b c d : Bool) → ((a || b) || (c || d)) ≡ ((a || c) || (b || d))
or-middle true b c d = refl
or-middle false true true d = refl
or-middle false true false d = refl
or-middle false false true d = refl
or-middle false false false d = refl

-- one of two tests holds of a work
any-or : (p q : Work → Bool) (works : List Work) → list_any (λ w. p w || q w) works ≡ (list_any p works || list_any q works)
any-or p q [] = refl
any-or p q (w ∷ works) = ap (λ (z : Bool). (p w || q w) || z) (any-or p q works) ∙ or-middle (p w) (q w) (list_any p works) (list_any q works)

-- a test that holds of no work
any-never : (p : Work → Bool) (works : List Work) → list_any (λ w. p w && false) works ≡ false
any-never p [] = refl
any-never p (w ∷ works) = go (p w) (any-never p works)
  where
    go : (b : Bool) → list_any (λ w. p w && false) works ≡ false → ((b && false) || list_any (λ w. p w && false) works) ≡ false
    go true rest = rest
    go false rest = rest

-- a test that nothing is added to
any-still : (p : Work → Bool) (works : List Work) → list_any (λ w. p w && true) works ≡ list_any p works
any-still p [] = refl
any-still p (w ∷ works) = go (p w) (any-still p works)
  where
    go : (b : Bool) → list_any (λ w. p w && true) works ≡ list_any p works → ((b && true) || list_any (λ w. p w && true) works) ≡ (b || list_any p works)
    go true rest = refl
    go false rest = rest

-- where the first test holds of some work, the second decides
any-and : (p : Work → Bool) (works : List Work) → list_any p works ≡ true → (b : Bool) → list_any (λ w. p w && b) works ≡ b
any-and p works some true = any-still p works ∙ some
any-and p works some false = any-never p works

-- tests that are the same for each work
any-same : (p q : Work → Bool) (works : List Work) → All (λ w. p w ≡ q w) works → list_any p works ≡ list_any q works
any-same p q [] each = refl
any-same p q (w ∷ works) each =
    ap (λ (z : Bool). z || list_any p works) (All-head (λ w. p w ≡ q w) w works each) ∙ ap (λ (z : Bool). q w || z) (any-same p q works (All-tail (λ w. p w ≡ q w) w works each))

-- ---- a past

-- the entry is by the seat of a work, or makes no delivery
abbrev IsByWork : List Work → List Entry → Entry → Type 0
IsByWork works past e = (list_any (λ w. e.seat == 2 + w.cpu) works ≡ true) ⊎ (is_delivery_act e.act ≡ false)

-- so a work's seat has a delivery where the entry is one
by-work : (works : List Work) (past : List Entry) (e : Entry) → IsByWork works past e → (b : Bool) → list_any (λ w. (e.seat == 2 + w.cpu) && (is_delivery_act e.act && b)) works ≡ (is_delivery_act e.act && b)
by-work works past e (inl here) b = any-and (λ w. e.seat == 2 + w.cpu) works here (is_delivery_act e.act && b)
by-work works past e (inr none) b = rw none (any-never (λ w. e.seat == 2 + w.cpu) works)

module _ (s : Setup) (js : List Judge) (test : Delivered → Bool) where
  -- an entry with its answer
  abbrev answered : List Entry → Entry → Played
  answered past e = (e, answer_at s js past e e.act)

  -- some entry of the past makes a delivery that has such an outcome
  abbrev has_outcome : List Entry → Bool
  has_outcome [] = false
  has_outcome (e ∷ past) = shows test (answered past e) || has_outcome past

  -- such entries of a work's seat
  abbrev of_work : List Entry → Work → Bool
  of_work past w = list_any (shows test) (played s js (2 + w.cpu) past)

  -- one more entry, if it is the seat's
  work-more : (past : List Entry) (e : Entry) (w : Work) → of_work (e ∷ past) w ≡ (((e.seat == 2 + w.cpu) && shows test (answered past e)) || of_work past w)
  work-more past e w = go (e.seat == 2 + w.cpu) refl
    where
      go : (b : Bool) → (e.seat == 2 + w.cpu) ≡ b → of_work (e ∷ past) w ≡ (((e.seat == 2 + w.cpu) && shows test (answered past e)) || of_work past w)
      go true mine = rw mine (list_any-append (shows test) (played s js (2 + w.cpu) past) (answered past e ∷ []) ∙ or_comm (of_work past w) (shows test (answered past e) || false) ∙ ap (λ (z : Bool). z || of_work past w) (or_comm (shows test (answered past e)) false))
      go false other = rw other refl

  -- where each entry that makes a delivery is by the seat of a work, the works' seats have such entries where the past has
  works-past : (works : List Work) (past : List Entry) → Each (IsByWork works) past → list_any (of_work past) works ≡ has_outcome past
  works-past works [] by = none works
    where
      none : (works : List Work) → list_any (of_work []) works ≡ false
      none [] = refl
      none (w ∷ works) = none works
  works-past works (e ∷ past) (here, by) =
      ap (λ (f : Work → Bool). list_any f works) (λ k w. work-more past e w k)
      ∙ any-or (λ w. (e.seat == 2 + w.cpu) && shows test (answered past e)) (of_work past) works
      ∙ ap (λ (z : Bool). z || list_any (of_work past) works) (by-work works past e here (test (outcome_of e.act (answer_at s js past e e.act))))
      ∙ ap (λ (z : Bool). shows test (answered past e) || z) (works-past works past by)

-- ---- failures and stops

-- an entry that failed is a delivery
failed-entry : (s : Setup) (js : List Judge) (past : List Entry) (e : Entry) (act : Act) → (is_delivery_act act && failed_outcome (outcome_of act (answer_at s js past e act))) ≡ fails (answer_at s js past e act)
failed-entry s js past e (Deliver slot hit) = refl
failed-entry s js past e (Stop slot) = refl
failed-entry s js past e Look = refl
failed-entry s js past e (Raise bits) = refl
failed-entry s js past e (Lower bits) = refl
failed-entry s js past e (Clear slot) = refl
failed-entry s js past e (End slot) = refl

-- failures of the past
failed-past : (s : Setup) (js : List Judge) (past : List Entry) → has_outcome s js failed_outcome past ≡ has_failed s js past
failed-past s js [] = refl
failed-past s js (e ∷ past) = ap (λ (z : Bool). z || has_outcome s js failed_outcome past) (failed-entry s js past e e.act) ∙ ap (λ (z : Bool). fails (answer_at s js past e e.act) || z) (failed-past s js past)

-- an entry whose outcome is Racing is a Stop
stop-entry : (s : Setup) (js : List Judge) (past : List Entry) (e : Entry) (act : Act) → (is_delivery_act act && racing_outcome (outcome_of act (answer_at s js past e e.act))) ≡ is_stop act
stop-entry s js past e (Deliver slot hit) = refl
stop-entry s js past e (Stop slot) = refl
stop-entry s js past e Look = refl
stop-entry s js past e (Raise bits) = refl
stop-entry s js past e (Lower bits) = refl
stop-entry s js past e (Clear slot) = refl
stop-entry s js past e (End slot) = refl

-- stops of the past
stop-past : (s : Setup) (js : List Judge) (past : List Entry) → has_outcome s js racing_outcome past ≡ has_stop past
stop-past s js [] = refl
stop-past s js (e ∷ past) = ap (λ (z : Bool). z || has_outcome s js racing_outcome past) (stop-entry s js past e e.act) ∙ ap (λ (z : Bool). is_stop e.act || z) (stop-past s js past)

-- a history has a Stop where its past does
pub stop-reverse : (h : List Entry) → has_stop (reverse h) ≡ has_stop h
stop-reverse [] = refl
stop-reverse (e ∷ h) =
    ap has_stop (reverse-append (e ∷ []) h) ∙ list_any-append (λ (f : Entry). is_stop f.act) (reverse h) (e ∷ [])
    ∙ or_comm (has_stop (reverse h)) (is_stop e.act || false) ∙ ap (λ (z : Bool). z || has_stop (reverse h)) (or_comm (is_stop e.act) false) ∙ ap (λ (z : Bool). is_stop e.act || z) (stop-reverse h)

-- ---- a history

-- a seat is itself
seat-test : (seat other : ℕ) → seat ≡ other → (seat == other) ≡ true
seat-test seat other same = grind arith

module _ (input : Input) (js : List Judge) (h : List Entry) (legal : IsLegal input js h) where
  -- each entry is by the seat of a work, or makes no delivery
  by-works : Each (IsByWork input.works) (reverse h)
  by-works = each-of (IsByWork input.works) h (λ before e after eq.
      elim (legal.nobody_else before e after eq) [
        | inl control ↦ inr (control-none input js h legal before e after eq control)
        | inr any ↦ inl (list_any-from_Any (λ w. e.seat == 2 + w.cpu) input.works (any.0, any.1, any.2, any.3, seat-test e.seat (2 + any.1.cpu) any.4))
      ])

  -- records tell of such an outcome where the past has it
  records-past : (test : Delivered → Bool) → list_any (tells test) (records_of input js h) ≡ has_outcome input.setup js test (reverse h)
  records-past test =
      let of_seat : Work → List Played = λ w. played input.setup js (2 + w.cpu) (reverse h) in
      any-sort (tells test) (flat_map (λ w. script_records w.deliveries w.turns (of_seat w)) input.works)
      ∙ any-flat_map (tells test) (λ w. script_records w.deliveries w.turns (of_seat w)) input.works
      ∙ any-same (λ w. list_any (tells test) (script_records w.deliveries w.turns (of_seat w))) (λ w. list_any (shows test) (of_seat w)) input.works
      (All-weaker (λ w. Plays input.setup input.panics w (of_seat w)) (λ w. list_any (tells test) (script_records w.deliveries w.turns (of_seat w)) ≡ list_any (shows test) (of_seat w))
      (λ w plays. told-script input.setup input.panics test w.deliveries w.turns (of_seat w) plays) input.works legal.cpus)
      ∙ works-past input.setup js test input.works (reverse h) by-works

-- the status by its two tests
abbrev if_status : Bool → Bool → ℕ
if_status failed stopped = if failed then 1 else if stopped then 6 else 0

-- the status can be seen in the history
pub status_is_seen : StatusIsSeen
status_is_seen input js h legal =
    let failed = records-past input js h legal failed_outcome ∙ failed-past input.setup js (reverse h) in
    let stopped = records-past input js h legal racing_outcome ∙ stop-past input.setup js (reverse h) ∙ stop-reverse h in
    ap (λ (a : Bool). if_status a (list_any (tells racing_outcome) (records_of input js h))) failed ∙ ap (if_status (has_failed input.setup js (reverse h))) stopped
