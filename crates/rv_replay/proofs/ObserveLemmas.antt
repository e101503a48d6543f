-- What is observed of one entry, and of several parts of a run.
use Rattle.std.proofs.Common.{◌≡◌, ℕ, ◌+◌, Bool, true, false, inl, inr, List, [], ◌∷◌, ◌++◌, reverse, sym, ap, ◌∙◌, subst, append_assoc, append-nil, get_or, arith}
use Rattle.std.specs.Bool.{if◌then◌else◌}
use Rattle.std.specs.Prelude.{◌<◌, ◌≤◌, All, length, slice_index}
use Rattle.std.proofs.lemmas.List.{append_cancel_left, reverse-append}
use Rattle.rv_model.specs.declared.entry.Act.{Act}
use Rattle.rv_model.specs.declared.entry.Act.TheVariants.{Deliver, End}
use Rattle.rv_model.specs.declared.entry.Answer.{Answer}
use Rattle.rv_model.specs.declared.entry.Answer.TheVariants.{Looked}
use Rattle.rv_model.specs.declared.entry.Entry.{Entry}
use Rattle.rv_model.specs.declared.hit.Hit.{Hit}
use Rattle.rv_model.specs.declared.record.Delivered.{Delivered}
use Rattle.rv_model.specs.declared.record.Delivered.TheVariants.{Done}
use Rattle.rv_model.specs.declared.record.Record.{Record}
use Rattle.rv_model.specs.declared.record.Task.{Task}
use Rattle.rv_model.specs.declared.work.Delivery.{Delivery}
use Rattle.rv_model.specs.Histories.{IsNoStop}
use Rattle.rv_model.specs.Judging.{Judge}
use Rattle.rv_model.specs.Records.{outcome_of}
use Rattle.rv_model.specs.Scripts.{MakesHit, Played, hit_act, is_end, played}
use Rattle.rv_model.specs.Setups.{Setup, judge_of, monitor_of, slot_of}
use Rattle.rv_model.specs.SharedWords.{answer_at}
use Rattle.rv_model.proofs.ScriptLemmas.{played-own}
use Rattle.rv_core.specs.declared.phase.RowPhase.{RowPhase}
use Rattle.rv_core.specs.Advance.{FitsHit}
use Rattle.rv_core.specs.Core.{CoreValue}
use Rattle.rv_core.specs.Deliveries.{FitsDelivery}
use Rattle.rv_core.specs.RowPhases.{phase_at, row_phase}
use Rattle.rv_core.specs.Setup.{judges_of, table_at, word_index}
use Rattle.rv_feed.specs.Kept.{record_on}
use Rattle.rv_feed.specs.Players.{Halts, LooksAt, Serves}
use Rattle.rv_feed.specs.Turns.{Did}
use Rattle.rv_route.specs.Listing.{ListedDelivery}
use Rattle.rv_replay.specs.Observing.{MakesRecord, ObservesMore, IgnoresSwitches}

-- ---- a delivery of a list

-- it fits the machine, which keeps its setup
pub fits-at : {s now : Setup} (list : List ListedDelivery) {at to : ℕ} {d : Delivery} → now ≡ s → All (λ x. FitsDelivery s x.delivery) list → at < to → to ≤ length list
    → ((x : ListedDelivery) → d ≡ (get_or list at x).delivery) → FitsDelivery now d
fits-at {s} {now} list {at} {to} {d} same fit before inside is =
    let x : ListedDelivery = record { line = 0; cpu = 0; delivery = d } in
    subst (λ (v : Setup). FitsDelivery v d) (sym same) (subst (FitsDelivery s) (sym (is x)) (fit at x (omega arith)))

-- so its monitor and its instance are of the shape
pub fits-shape : {now : Setup} {shape : List ℕ} {d : Delivery} → FitsDelivery now d → shape ≡ now.shape → (d.monitor < length shape) × (d.instance < slice_index shape d.monitor)
fits-shape {now} {shape} {d} fits is = subst (λ (z : List ℕ). (d.monitor < length z) × (d.instance < slice_index z d.monitor)) (sym is) (fits.monitor, fits.instance_fits)

-- what is hit by it is what the list says at its place
hit-of : (list : List ListedDelivery) (at : ℕ) (d : Delivery) (hit : Hit) → ((x : ListedDelivery) → d ≡ (get_or list at x).delivery) → ((x : ListedDelivery) → hit ≡ (get_or list at x).delivery.hit) → hit ≡ d.hit
hit-of list at d hit is hits =
    let x : ListedDelivery = record { line = 0; cpu = 0; delivery = d } in
    hits x ∙ ap (λ (e : Delivery). e.hit) (sym (is x))

-- so that hit fits
pub fits-hit : {s : Setup} (list : List ListedDelivery) (at : ℕ) {d : Delivery} {hit : Hit} → FitsDelivery s d
    → ((x : ListedDelivery) → d ≡ (get_or list at x).delivery) → ((x : ListedDelivery) → hit ≡ (get_or list at x).delivery.hit) → FitsHit (table_at s (slot_of s.shape d.monitor d.instance)) hit
fits-hit {s} list at {d} {hit} fits is hits = subst (FitsHit (table_at s (slot_of s.shape d.monitor d.instance))) (sym (hit-of list at d hit is hits)) fits.hit

-- and serving it serves the delivery
pub serves-hit : {seat : ℕ} {s : Setup} {old new : CoreValue} {outcome : Delivered} (list : List ListedDelivery) (at : ℕ) {d : Delivery} {hit : Hit}
    → ((x : ListedDelivery) → d ≡ (get_or list at x).delivery) → ((x : ListedDelivery) → hit ≡ (get_or list at x).delivery.hit)
    → ((order : ℕ) → Serves (Did seat) s old new (record { order = order; monitor = d.monitor; instance = d.instance; hit = hit }) outcome) → Serves (Did seat) s old new d outcome
serves-hit {seat} {s} {old} {new} {outcome} list at {d} {hit} is hits serves =
    subst (λ (h : Hit). Serves (Did seat) s old new (record { order = d.order; monitor = d.monitor; instance = d.instance; hit = h }) outcome) (hit-of list at d hit is hits) (serves d.order)

-- read again the delivery is the same, and so is its record
pub record-again : {r : Record} {line n : ℕ} {outcome : Delivered} {reacting b : Bool} (list : List ListedDelivery) (at : ℕ) {d e : Delivery}
    → ((x : ListedDelivery) → d ≡ (get_or list at x).delivery) → ((x : ListedDelivery) → e ≡ (get_or list at x).delivery)
    → line ≡ n → reacting ≡ b → r ≡ record_on line outcome reacting e → r ≡ record_on n outcome b d
record-again {r} {line} {n} {outcome} {reacting} {b} list at {d} {e} is too line_is reacting_is made =
    let x : ListedDelivery = record { line = 0; cpu = 0; delivery = d } in
    made ∙ (λ i. record_on (line_is i) outcome (reacting_is i) ((too x ∙ sym (is x)) i))

-- ---- an answer

-- the answer of one entry is the one that its past gives
did-answer : (seat : ℕ) (old new : CoreValue) (e : Entry) (a : Answer) → Did seat old new ((e, a) ∷ []) → answer_at old.setup (judges_of old.setup) (reverse old.history) e e.act ≡ a
did-answer seat old new e a did =
    let s : Setup = old.setup in
    let js : List Judge = judges_of s in
    let past : List Entry = reverse old.history in
    let ps : List Played = played s js seat past in
    let own : ps ++ (e, answer_at s js past e e.act) ∷ [] ≡ ps ++ (e, a) ∷ [] =
    sym (played-own s js seat e past did.by.0.0) ∙ ap (played s js seat) (sym (reverse-append old.history (e ∷ []))) ∙ did.played_is in
    ap (head-answer a) (append_cancel_left ps ((e, answer_at s js past e e.act) ∷ []) ((e, a) ∷ []) own)
  where
    head-answer : Answer → List Played → Answer
    head-answer other [] = other
    head-answer other (p ∷ qs) = p.1

-- what is no stop makes the hit
makes-hit : (slot : ℕ) (hit : Hit) (act : Act) → IsNoStop act → MakesHit slot hit act → act ≡ hit_act slot hit
makes-hit slot hit act free (inl is) = is
makes-hit slot hit act free (inr stop) = absurd (subst IsNoStop stop.1 free)

-- and its outcome is its answer
outcome-hit : (b : Bool) (slot : ℕ) (hit : Hit) (act : Act) (a : Answer) → act ≡ (if b then End slot else Deliver slot hit) → outcome_of act a ≡ Done a
outcome-hit true slot hit act a is = ap (λ (x : Act). outcome_of x a) is
outcome-hit false slot hit act a is = ap (λ (x : Act). outcome_of x a) is

-- the delivery that the machine served makes its record
pub makes-record : (cpu : ℕ) (old new : CoreValue) (slot : ℕ) (before : RowPhase) (d : Delivery) (outcome : Delivered) (r : Record) → Serves (Did (2 + cpu)) old.setup old new d outcome
    → r.hit ≡ d.hit → r.monitor ≡ d.monitor → r.instance ≡ d.instance → r.outcome ≡ outcome
    → slot ≡ slot_of old.setup.shape d.monitor d.instance → monitor_of old.setup.shape slot ≡ d.monitor → before ≡ row_phase (judge_of old.setup (judges_of old.setup) slot) (phase_at old slot)
    → MakesRecord old new slot before r
makes-record cpu old new slot before d outcome r served hit_is monitor instance outcome_is slot_is at before_is =
    let act : served.entry.act ≡ hit_act (slot_of old.setup.shape d.monitor d.instance) d.hit = makes-hit (slot_of old.setup.shape d.monitor d.instance) d.hit served.entry.act served.did.by.0.1 served.makes in
    record {
      entry = served.entry;
      grows = served.did.grows;
      act_is = act ∙ sym (λ i. hit_act (slot_is i) (hit_is i));
      outcome_is = outcome_is ∙ sym served.outcome_is ∙ outcome-hit (is_end d.hit.mode) (slot_of old.setup.shape d.monitor d.instance) d.hit served.entry.act served.answer act
          ∙ ap Done (sym (did-answer (2 + cpu) old new served.entry served.answer served.did));
      slot_is = slot_is ∙ sym (λ i. slot_of old.setup.shape (monitor i) (instance i));
      monitor_is = at ∙ sym monitor;
      before_is = before_is;
    }

-- ---- parts of a run

module _ {O : Type 0} (observed : List Task → CoreValue → List Record → O → Type 0) where
  -- of no entry
  pub observes-none : (core : CoreValue) (o : O) → ObservesMore observed [] core core o o
  observes-none core o tasks rs is = subst (λ (us : List Record). observed tasks core us o) (sym (append-nil rs)) is

  -- of one part and then of another
  pub observes-then : (rs us : List Record) (a b c : CoreValue) (o o' o'' : O) → ObservesMore observed rs a b o o' → ObservesMore observed us b c o' o'' → ObservesMore observed (rs ++ us) a c o o''
  observes-then rs us a b c o o' o'' one two tasks zs is = subst (λ (z : List Record). observed tasks c z o'') (append_assoc zs rs us) (two tasks (zs ++ rs) (one tasks zs is))

  -- of an entry on the switches
  pub observes-passed : IgnoresSwitches observed → (seat : ℕ) (old new : CoreValue) (e : Entry) (a : Answer) (o : O) → word_index e.act ≡ 0 → Did seat old new ((e, a) ∷ []) → ObservesMore observed [] old new o o
  observes-passed passes seat old new e a o other did tasks rs is =
      subst (λ (core : CoreValue). observed tasks core (rs ++ []) o) (sym did.grows) (subst (λ (us : List Record). observed tasks (record old { history = old.history ++ e ∷ [] }) us o) (sym (append-nil rs)) (passes tasks old e rs o other is))

  -- of a look
  pub observes-look : IgnoresSwitches observed → (cpu : ℕ) (old cur : CoreValue) (word : ℕ) (o : O) → LooksAt (Did (2 + cpu)) old cur word → ObservesMore observed [] old cur o o
  observes-look passes cpu old cur word o look = observes-passed passes (2 + cpu) old cur look.entry (Looked word) o (ap word_index look.act_is) look.did

  -- of a delivery, and then of a halt
  pub observes-halt : IgnoresSwitches observed → (cpu : ℕ) (rs : List Record) (old mid new : CoreValue) (o o' : O) → ObservesMore observed rs old mid o o' → Halts (Did (2 + cpu)) mid new → ObservesMore observed rs old new o o'
  observes-halt passes cpu rs old mid new o o' one halts =
      subst (λ (us : List Record). ObservesMore observed us old new o o') (append-nil rs) (observes-then rs [] old mid new o o' o' one (observes-passed passes (2 + cpu) mid new halts.entry halts.answer o' (ap word_index halts.act_is) halts.did))
