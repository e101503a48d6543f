-- A run is legal, and that of a fresh machine in order and without changes. Its records are the lanes'.
use Rattle.std.proofs.Common.{◌≡◌, ◌≢◌, ℕ, ◌+◌, ◌<◌, Bool, false, ◌==◌, List, [], ◌∷◌, ◌++◌, ◌⊎◌, length, inr, reverse, arith, refl, sym, ap, ◌∙◌, subst, get_or, All}
use Rattle.std.specs.Prelude.{Any, flat_map}
use Rattle.std.proofs.lemmas.List.{get_or-map, length-map}
use Rattle.std.proofs.lemmas.List.Elements.{All-get_or, All-head, All-tail}
use Rattle.rv_model.specs.declared.entry.Act.{Act}
use Rattle.rv_model.specs.declared.entry.Act.TheVariants.{Deliver, Stop, Look, Raise, Lower, Clear, End}
use Rattle.rv_model.specs.declared.entry.Entry.{Entry}
use Rattle.rv_model.specs.declared.record.Record.{Record}
use Rattle.rv_model.specs.Cuts.{AtEach}
use Rattle.rv_model.specs.Judging.{Judge}
use Rattle.rv_model.specs.declared.formula.Spec.{Spec}
use Rattle.rv_model.specs.Setups.{Setup}
use Rattle.rv_model.specs.declared.work.Change.{Change}
use Rattle.rv_model.specs.Scripts.{played, Plays, control_acts}
use Rattle.rv_model.specs.Histories.{Input, input_with, AreJudges, IsSound, IsLegal, IsOneHistory, IsJustifiedBy, IsNoStop, Replays, IsInOrder, acts_of}
use Rattle.rv_model.specs.Records.{records_of, sort_records, script_records, status_of}
use Rattle.rv_model.specs.Works.{Work}
use Rattle.rv_model.proofs.CutLemmas.{at_each-weaker}
use Rattle.rv_model.proofs.SortedLemmas.{status-sorted}
use Rattle.rv_core.specs.Core.{CoreValue}
use Rattle.rv_core.specs.Setup.{judges_of}
use Rattle.rv_feed.specs.Lane.{LaneValue, works_of, lane_records}
use Rattle.rv_feed.specs.Order.{Whole, Ran}
use Rattle.rv_feed.specs.Runs.{IsRunOf}

-- nothing is asked of what is no stop
earned-free : (before : List Entry) (seat : ℕ) (act : Act) → IsNoStop act → IsJustifiedBy act seat before
earned-free before seat (Deliver _ _) free = tt
earned-free before seat (Stop _) free = absurd free
earned-free before seat Look free = tt
earned-free before seat (Raise _) free = tt
earned-free before seat (Lower _) free = tt
earned-free before seat (Clear _) free = tt
earned-free before seat (End _) free = tt

-- a seat without entries has no acts
acts-none : (seat : ℕ) (h : List Entry) → AtEach (λ before e. e.seat ≢ seat) h → acts_of seat h ≡ []
acts-none seat [] none = refl
acts-none seat (e ∷ h) none =
    let not_mine : e.seat ≢ seat = none [] e h refl in
    let no : (e.seat == seat) ≡ false = grind arith in
    rw no (acts-none seat h (λ before f after eq. none (e ∷ before) f after (ap (λ (z : List Entry). e ∷ z) eq)))

-- ---- records

-- the scripts' records are the lanes'
lane-records : (s : Setup) (panics : ℕ → Bool) (h : List Entry) (lanes : List LaneValue) → All (Whole s panics [] h) lanes
    → flat_map (λ w. script_records w.deliveries w.turns (played s (judges_of s) (2 + w.cpu) (reverse h))) (works_of lanes) ≡ lane_records lanes
lane-records s panics h [] whole = refl
lane-records s panics h (l ∷ lanes) whole =
    let w = All-head (Whole s panics [] h) l lanes whole in
    let mine : script_records l.work.deliveries l.work.turns (played s (judges_of s) (2 + l.work.cpu) (reverse h)) ≡ l.records = ap (script_records l.work.deliveries l.work.turns) w.played_is ∙ w.records in
    ap (λ (z : List Record). z ++ flat_map (λ w. script_records w.deliveries w.turns (played s (judges_of s) (2 + w.cpu) (reverse h))) (works_of lanes)) mine
    ∙ ap (λ (z : List Record). l.records ++ z) (lane-records s panics h lanes (All-tail (Whole s panics [] h) l lanes whole))

-- ---- a run

module _ (s : Setup) (panics : ℕ → Bool) (h : List Entry) (lanes lanes' : List LaneValue) (specs : List Spec) (changes : List Change) (same_works : works_of lanes' ≡ works_of lanes) (whole : All (Whole s panics [] h) lanes') where
  -- each CPU's script, the changes and nothing else
  pub legal-of-run : IsSound s (judges_of s) h → acts_of 1 h ≡ control_acts s.shape changes → AtEach (λ before e. (e.seat ≡ 1) ⊎ Any (λ w. e.seat ≡ 2 + w.cpu) (works_of lanes)) h
      → IsLegal (input_with s specs panics (works_of lanes) changes) (judges_of s) h
  legal-of-run sound control nobody = record {
    sound = sound;
    cpus = subst (All (λ w. Plays s panics w (played s (judges_of s) (2 + w.cpu) (reverse h)))) same_works (plays lanes' whole);
    control = control;
    nobody_else = nobody;
  }
    where
      plays : (ls : List LaneValue) → All (Whole s panics [] h) ls → All (λ w. Plays s panics w (played s (judges_of s) (2 + w.cpu) (reverse h))) (works_of ls)
      plays ls whole i d lt =
          let e : LaneValue = record { work = d; records = []; room = 0 } in
          let many = length-map ls (λ (l : LaneValue). l.work) in
          let in_lanes : i < length ls = omega arith in
          let w = All-get_or (Whole s panics [] h) ls i e in_lanes whole in
          let at : get_or (works_of ls) i d ≡ (get_or ls i e).work = get_or-map (λ (l : LaneValue). l.work) ls i e d in_lanes in
          subst (λ (x : Work). Plays s panics x (played s (judges_of s) (2 + x.cpu) (reverse h))) (sym at) (subst (Plays s panics (get_or ls i e).work) (sym w.played_is) w.plays)

  -- the lanes have its records
  pub run-of : (Says : Input → List Judge → List Entry → Type 0) → AreJudges specs s.tables (judges_of s) → Says (input_with s specs panics (works_of lanes) changes) (judges_of s) h → IsRunOf Says (input_with s specs panics (works_of lanes) changes) (lane_records lanes') h
  run-of Says are history =
      let js : List Judge = judges_of s in
      let recs : records_of (input_with s specs panics (works_of lanes) changes) js h ≡ sort_records (lane_records lanes') =
      ap sort_records (ap (flat_map (λ w. script_records w.deliveries w.turns (played s js (2 + w.cpu) (reverse h)))) (sym same_works) ∙ lane-records s panics h lanes' whole) in
      record {
        judges = js;
        are_judges = are;
        history = history;
        records_are = recs;
        status_is = ap status_of recs ∙ status-sorted (lane_records lanes');
      }

-- a run of a fresh machine
pub one-of-run : (s : Setup) (panics : ℕ → Bool) (h : List Entry) (lanes lanes' : List LaneValue) (specs : List Spec) → AreJudges specs s.tables (judges_of s) → Replays s (judges_of s) h
    → Ran panics (record { setup = s; history = [] }) (record { setup = s; history = h }) lanes lanes' → IsRunOf IsOneHistory (input_with s specs panics (works_of lanes) []) (lane_records lanes') h
one-of-run s panics h lanes lanes' specs are replays ran =
    let is : h ≡ ran.more = ap (λ (v : CoreValue). v.history) ran.grows in
    let nobody : AtEach (λ before e. Any (λ w. e.seat ≡ 2 + w.cpu) (works_of lanes)) h = subst (AtEach (λ before e. Any (λ w. e.seat ≡ 2 + w.cpu) (works_of lanes))) (sym is) ran.nobody_else in
    let sound : IsSound s (judges_of s) h = record {
      replays = replays;
      justified = at_each-weaker (λ before e. IsNoStop e.act) (λ before e. IsJustifiedBy e.act e.seat before) (λ before e free. earned-free before e.seat e.act free) h (subst (AtEach (λ before e. IsNoStop e.act)) (sym is) ran.no_stop);
      permitted = subst (AtEach _) (sym is) ran.permitted;
    } in
    let control : acts_of 1 h ≡ [] = acts-none 1 h (at_each-weaker (λ before e. Any (λ w. e.seat ≡ 2 + w.cpu) (works_of lanes)) (λ before e. e.seat ≢ 1) (λ before e a. not_one e a) h nobody) in
    let nobody_else = at_each-weaker (λ before e. Any (λ w. e.seat ≡ 2 + w.cpu) (works_of lanes)) (λ before e. (e.seat ≡ 1) ⊎ Any (λ w. e.seat ≡ 2 + w.cpu) (works_of lanes)) (λ before e a. inr a) h nobody in
    run-of s panics h lanes lanes' specs [] ran.same_works ran.whole IsOneHistory are (record {
      legal = legal-of-run s panics h lanes lanes' specs [] ran.same_works ran.whole sound control nobody_else;
      in_order = subst (IsInOrder (works_of lanes)) (sym is) ran.in_order;
      no_changes = refl;
    })
  where
    not_one : (e : Entry) → Any (λ w. e.seat ≡ 2 + w.cpu) (works_of lanes) → e.seat ≢ 1
    not_one e (k, w, lt, at, is) = λ one. absurd (omega arith)
