-- The run of the list is one of the works of its lanes.
use Rattle.std.proofs.Common.{◌≡◌, ℕ, Bool, List, [], ◌∷◌, refl, sym, ap, ◌∙◌, subst, arith}
use Rattle.std.specs.Prelude.{All}
use Rattle.std.proofs.lemmas.List.Elements.{All-nil, All-cons}
use Rattle.rv_model.specs.declared.entry.Entry.{Entry}
use Rattle.rv_model.specs.declared.formula.Spec.{Spec}
use Rattle.rv_model.specs.declared.record.Record.{Record}
use Rattle.rv_model.specs.Histories.{AreJudges, Input, input_with, IsLegal, IsOneHistory}
use Rattle.rv_model.specs.Judging.{Judge}
use Rattle.rv_model.specs.Records.{records_of, sort_records, status_of}
use Rattle.rv_model.specs.Setups.{Setup}
use Rattle.rv_model.specs.Works.{Work}
use Rattle.rv_model.proofs.SortLemmas.{Ascends-sort, sorted-is}
use Rattle.rv_core.specs.Judged.{AllMean}
use Rattle.rv_core.specs.Setup.{IsSetup, judges_of}
use Rattle.rv_core.proofs.TableLemmas.{tables_are_judges}
use Rattle.rv_feed.specs.Lane.{IsNewLane, LaneValue, lane_records, works_of}
use Rattle.rv_feed.specs.Order.{Ran}
use Rattle.rv_feed.specs.Runs.{IsRunOf}
use Rattle.rv_feed.proofs.OneLemmas.{run-of}
use Rattle.rv_replay.specs.Lists.{fresh_lane, fresh_lanes}
use Rattle.rv_replay.specs.Observing.{IsRunByTables}

-- the works of fresh lanes are those that they were made of
pub fresh-works : (works : List Work) → works_of (fresh_lanes works) ≡ works
fresh-works [] = refl
fresh-works (w ∷ works) = ap (λ (ws : List Work). w ∷ ws) (fresh-works works)

-- fresh lanes are new
pub fresh-new : (works : List Work) → All (λ l. IsNewLane l.work l) (fresh_lanes works)
fresh-new [] = All-nil (λ (l : LaneValue). IsNewLane l.work l)
fresh-new (w ∷ works) = All-cons (λ (l : LaneValue). IsNewLane l.work l) (fresh_lane w) (fresh_lanes works) (record { work_is = refl; no_records = refl; room = omega arith }) (fresh-new works)

-- records that were sorted are sorted
pub sorted-twice : (rs us : List Record) → rs ≡ sort_records us → rs ≡ sort_records rs
sorted-twice rs us is = is ∙ sorted-is (sort_records us) (sort_records us) (Ascends-sort us) (λ x. refl) ∙ ap sort_records (sym is)

-- a run of the lanes' works with these records is one of the works with the sorted records
pub run-sorted : (s : Setup) (panics : ℕ → Bool) (works : List Work) (lanes' : List LaneValue) (specs : List Spec) (rs : List Record) (h : List Entry) → rs ≡ sort_records (lane_records lanes')
    → IsRunOf IsOneHistory (input_with s specs panics (works_of (fresh_lanes works)) []) (lane_records lanes') h → IsRunOf IsOneHistory (input_with s specs panics works []) rs h
run-sorted s panics works lanes' specs rs h is run =
    subst (λ (ws : List Work). IsRunOf IsOneHistory (input_with s specs panics ws []) rs h) (fresh-works works) (record {
      judges = run.judges;
      are_judges = run.are_judges;
      history = run.history;
      records_are = run.records_are ∙ sym is ∙ sorted-twice rs (lane_records lanes') is;
      status_is = ap status_of (run.records_are ∙ sym is);
    })

-- and one by the tables, which judge by the specifications
pub run-by-tables : (s : Setup) (panics : ℕ → Bool) (works : List Work) (lanes' : List LaneValue) (specs : List Spec) (rs : List Record) (h : List Entry) → IsSetup s → AllMean specs s.tables → AreJudges specs s.tables (judges_of s)
    → rs ≡ sort_records (lane_records lanes') → Ran panics (record { setup = s; history = [] }) (record { setup = s; history = h }) (fresh_lanes works) lanes' → IsRunOf IsOneHistory (input_with s specs panics works []) rs h
    → IsRunByTables s panics works specs rs h
run-by-tables s panics works lanes' specs rs h is_setup mean are is ran run =
    let js : List Judge = judges_of s in
    let input : List Work → Input = λ ws. input_with s specs panics ws [] in
    let own : List Work = works_of (fresh_lanes works) in
    let legal : IsLegal (input works) js h = (tables_are_judges.legal (input works) run.judges h is_setup mean run.are_judges).0 run.history.legal in
    let told : IsRunOf (λ i judges past. judges ≡ js) (input own) (lane_records lanes') h = run-of s panics h (fresh_lanes works) lanes' specs [] ran.same_works ran.whole (λ i judges past. judges ≡ js) are refl in
    record {
      is_one = record { legal = legal; in_order = run.history.in_order; no_changes = refl };
      records_are = ap (λ (ws : List Work). records_of (input ws) js h) (sym (fresh-works works)) ∙ ap (λ (judges : List Judge). records_of (input own) judges h) (sym told.history) ∙ told.records_are ∙ sym is;
    }
