-- The run that a journal is judged by: its works, and the monitors that halt it.
use Rattle.std.proofs.Common.{◌≡◌, ◌≢◌, ◌⊎◌, ℕ, zero, suc, ◌%◌, ◌<◌, ◌≤◌, ◌^◌, ◌==◌, Bool, true, false, List, [], ◌∷◌, ◌++◌, length, map, get_or, refl, sym, ap, ◌∙◌, subst, inl, inr, arith, append_assoc}
use Rattle.std.specs.Prelude.{Option, Some, None, Ok, All, AllPairs}
use Rattle.std.proofs.Math.Nat.{div-eq_of_lt}
use Rattle.std.proofs.Math.Pow.{pow_mono}
use Rattle.std.proofs.lemmas.List.{append-nil, length-map}
use Rattle.std.proofs.lemmas.List.Elements.{All-nil, All-cons, All-head, All-tail, All-weaker}
use Rattle.rv_model.specs.declared.formula.Spec.{Spec}
use Rattle.rv_model.specs.declared.reactor.Reactor.{Reactor}
use Rattle.rv_model.specs.Histories.{input_with}
use Rattle.rv_model.specs.Numbers.{has_bit, number_of}
use Rattle.rv_model.specs.Setups.{Setup}
use Rattle.rv_model.specs.Works.{Work}
use Rattle.rv_model.proofs.NumberLemmas.{number_of-lt, has_bit-number_of}
use Rattle.rv_core.specs.Judged.{JudgesBySpecs}
use Rattle.rv_feed.specs.Lane.{LaneValue, FitsLane, FitLanes, panics_of, works_of}
use Rattle.rv_check.specs.Beginnings.{FitsWork, FitWorks}
use Rattle.rv_check.specs.declared.reading.Verdict.{Verdict}
use Rattle.rv_check.specs.Readings.{ReaderValue, with_more_text, grown}
use Rattle.rv_check.specs.Verdicts.{Journal, VerdictHolds}
use Rattle.rv_bind.specs.declared.bindings.Monitor.{Monitor}
use Rattle.rv_bind.specs.Outcomes.{accepted}
use Rattle.rv_tool.specs.declared.input.Prepared.{Prepared}
use Rattle.rv_tool.specs.inner.Prepared.{prepared_value, IsPrepared}
use Rattle.rv_tool.specs.Checks.{panic_bits, judged, IsJudged}
use Rattle.rv_tool.specs.inner.Checks.{JudgesSome}
use Rattle.rv_tool.specs.Possible.{MayInput, MayCheck}
use Rattle.rv_tool.specs.Inputs.{InputValue, run_of}
use Rattle.rv_tool.specs.inner.JournalPieces.{IsSameRun, EnoughOf}
use Rattle.rv_tool.proofs.PreparedLemmas.{get_or-works, works_counted}

-- ---- reactors

-- a number below 2 ^ 32 has no bit from 32 on
no_bit : (n b : ℕ) → n < 2 ^ 32 → 32 ≤ b → has_bit n b ≡ false
no_bit n b lt le =
    let wider : 2 ^ 32 ≤ 2 ^ b = pow_mono le in
    let below : n < 2 ^ b = omega arith in
    ap (λ d. d % 2 == 1) (div-eq_of_lt below)

-- no monitor past the last one halts
none_past : (reactors : List Reactor) (b : ℕ) → length reactors ≤ b → panics_of reactors b ≡ false
none_past [] b le = refl
none_past (r ∷ reactors) zero le = absurd (omega arith)
none_past (r ∷ reactors) (suc b) le = none_past reactors b (omega arith)

-- a number is below 32 or not
below_or_past : (b : ℕ) → (b < 32) ⊎ (32 ≤ b)
below_or_past b = grind arith

-- the bits of the monitors that halt
panic_at : (reactors : List Reactor) → length reactors ≤ 32 → (b : ℕ) → has_bit (number_of (panics_of reactors) 32) b ≡ panics_of reactors b
panic_at reactors few b = go (below_or_past b)
  where
    go : (b < 32) ⊎ (32 ≤ b) → has_bit (number_of (panics_of reactors) 32) b ≡ panics_of reactors b
    go (inl lt) = has_bit-number_of (panics_of reactors) 32 b lt
    go (inr le) = no_bit (number_of (panics_of reactors) 32) b (number_of-lt (panics_of reactors) 32) le ∙ sym (none_past reactors b (omega arith))

-- the bits of that number are the monitors that halt, and no others
pub panics_same : (reactors : List Reactor) → length reactors ≤ 32 → has_bit (number_of (panics_of reactors) 32) ≡ panics_of reactors
panics_same reactors few = λ j b. panic_at reactors few b j

-- ---- works

-- what holds of each lane's work
all_mapped : (P : Work → Type 0) (lanes : List LaneValue) → All (λ (l : LaneValue). P l.work) lanes → All P (works_of lanes)
all_mapped P [] all = All-nil P
all_mapped P (lane ∷ lanes) all = All-cons P lane.work (works_of lanes) (All-head (λ (l : LaneValue). P l.work) lane lanes all) (all_mapped P lanes (All-tail (λ (l : LaneValue). P l.work) lane lanes all))

-- the works of lanes of different CPUs
pairs_mapped : (lanes : List LaneValue) → AllPairs (λ (l m : LaneValue). l.work.cpu ≢ m.work.cpu) lanes → AllPairs (λ (v w : Work). v.cpu ≢ w.cpu) (works_of lanes)
pairs_mapped lanes pairs i j d lt within =
    let lane : LaneValue = record { work = d; records = []; room = 0 } in
    let many = works_counted lanes in
    let apart = pairs i j lane lt (omega arith) in
    subst (λ (w : Work). w.cpu ≢ (get_or (works_of lanes) j d).cpu) (sym (get_or-works lanes i lane)) (subst (λ (v : Work). (get_or lanes i lane).work.cpu ≢ v.cpu) (sym (get_or-works lanes j lane)) apart)

-- a lane that fits has a work that fits
fits_work : (s : Setup) (lane : LaneValue) → FitsLane s lane → FitsWork s lane.work
fits_work s lane f = record { cpu = f.cpu; fit = f.fit }

-- lanes that fit have works that fit
pub works_fit : (s : Setup) (lanes : List LaneValue) → FitLanes s lanes → FitWorks s (works_of lanes)
works_fit s lanes f = record {
  fit = all_mapped (FitsWork s) lanes (All-weaker (FitsLane s) (λ (l : LaneValue). FitsWork s l.work) (fits_work s) lanes f.fit);
  apart = pairs_mapped lanes f.cpus;
}

-- one lane's work more is taken
pub work_taken : (works more : List Work) (lane : LaneValue) (work : Work) (items rest : List LaneValue) (all : List Work) → items ≡ lane ∷ rest → works ++ works_of items ≡ all → work ≡ lane.work → more ≡ works ++ work ∷ [] → more ++ works_of rest ≡ all
work_taken works more lane work items rest all split so_far is added =
    ap (λ (ws : List Work). ws ++ works_of rest) added ∙ append_assoc works (work ∷ []) (works_of rest) ∙ ap (λ (w : Work). works ++ w ∷ works_of rest) is ∙ ap (λ (ls : List LaneValue). works ++ works_of ls) (sym split) ∙ so_far

-- ---- what is judged

-- without changes it is the run that is judged
run_is : (i : InputValue) → i.changes ≡ [] → length i.bound.monitors ≤ 32 → input_with (run_of i).setup (run_of i).specs (has_bit (panic_bits i)) (run_of i).works [] ≡ run_of i
run_is i unchanged few =
    let reactors : List Reactor = map (λ (m : Monitor). m.reactor) i.bound.monitors in
    let many : length reactors ≡ length i.bound.monitors = length-map i.bound.monitors (λ (m : Monitor). m.reactor) in
    let same : has_bit (number_of (panics_of reactors) 32) ≡ panics_of reactors = panics_same reactors (omega arith) in
    λ j. record { setup = (run_of i).setup; specs = (run_of i).specs; panics = same j; works = (run_of i).works; changes = (sym unchanged) j }

-- what is judged, before its journal is read
pub begins_judged : (ready : Prepared) → IsPrepared ready → (reactors : List Reactor) (panics : ℕ) → reactors ≡ ready.reactors.items → panics ≡ number_of (panics_of reactors) 32
    → record { setup = ready.setup; panics = panics; works = works_of ready.lanes.items; text = [] } ≡ judged (prepared_value ready) []
begins_judged ready is reactors panics same number =
    let bits : panics ≡ panic_bits (prepared_value ready) = number ∙ ap (λ (rs : List Reactor). number_of (panics_of rs) 32) (same ∙ is.reactors) in
    λ j. record { setup = is.setup j; panics = bits j; works = works_of ready.lanes.items; text = [] }

module _ (ready : Prepared) (is : IsPrepared ready) (unchanged : ready.changes.items ≡ []) (known : JudgesBySpecs ready.setup) (r : ReaderValue) (verdict : Verdict) (run : IsSameRun (judged (prepared_value ready) []) r.journal)
    (holds : (specs : List Spec) → VerdictHolds r.journal specs verdict) (stays : r.stopped ≡ true → (specs : List Spec) (more : List ℕ) → VerdictHolds (with_more_text r.journal more) specs verdict) where
  -- a verdict that holds of bytes is one on the run with these bytes as its journal
  judged_so : (bytes : List ℕ) → VerdictHolds (judged (prepared_value ready) bytes) (run_of (prepared_value ready)).specs verdict → IsJudged (record { input = prepared_value ready; journal = bytes }) verdict
  judged_so bytes so = record {
    are_judges = known (run_of (prepared_value ready)).specs is.mean;
    is_run = run_is (prepared_value ready) unchanged is.few_monitors;
    holds = so;
  }

  -- the verdict is that on what was fed
  pub verdict_some : (bindings trace journal : List ℕ) → MayInput bindings trace (accepted (prepared_value ready)) → JudgesSome (Ok verdict) (MayCheck bindings trace journal)
  verdict_some bindings trace journal some =
      let specs = (run_of (prepared_value ready)).specs in (
        record { input = prepared_value ready; journal = r.journal.text },
        (accepted (prepared_value ready), some, (Some r.journal.text, refl)),
        judged_so r.journal.text (subst (λ (j : Journal). VerdictHolds j specs verdict) run (holds specs)),
      )

  -- the verdict holds of all that the file holds
  pub verdict_judged : (held : Option (List ℕ)) → EnoughOf held r → (bytes : List ℕ) × (held ≡ Some bytes) × IsJudged (record { input = prepared_value ready; journal = bytes }) verdict
  verdict_judged None enough = absurd enough
  verdict_judged (Some bytes) enough = (bytes, refl, judged_so bytes (go enough.2))
    where
      fed : with_more_text r.journal enough.0 ≡ judged (prepared_value ready) bytes
      fed = ap (λ (j : Journal). with_more_text j enough.0) run ∙ ap (judged (prepared_value ready)) (sym enough.1)

      go : ((enough.0 ≡ []) ⊎ (r.stopped ≡ true)) → VerdictHolds (judged (prepared_value ready) bytes) (run_of (prepared_value ready)).specs verdict
      go (inr stopped) = subst (λ (j : Journal). VerdictHolds j (run_of (prepared_value ready)).specs verdict) fed (stays stopped (run_of (prepared_value ready)).specs enough.0)
      go (inl none) =
          let all : bytes ≡ r.journal.text = enough.1 ∙ ap (λ (t : List ℕ). r.journal.text ++ t) none ∙ append-nil r.journal.text in
          subst (λ (j : Journal). VerdictHolds j (run_of (prepared_value ready)).specs verdict) (run ∙ ap (judged (prepared_value ready)) (sym all)) (holds (run_of (prepared_value ready)).specs)

-- but for a longer text it is the same
pub same_longer : (old : Journal) (r new : ReaderValue) (more : List ℕ) (stopped : Bool) → IsSameRun old r.journal → new ≡ grown r more stopped → IsSameRun old new.journal
same_longer old r new more stopped same is =
    let j : new.journal ≡ with_more_text r.journal more = ap (λ (x : ReaderValue). x.journal) is in
    j ∙ (λ i. record { setup = (same i).setup; panics = (same i).panics; works = (same i).works; text = (sym (ap (λ (x : Journal). x.text) j)) i })
