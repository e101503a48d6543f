-- The records of lone slots are the same in all histories of an input.
use Rattle.std.proofs.Common.{◌≡◌, ℕ, ◌+◌, List, [], reverse, sym, ap, ◌∙◌, subst}
use Rattle.std.specs.Prelude.{flat_map}
use Rattle.std.specs.List.{AllZip}
use Rattle.rv_model.specs.declared.entry.Entry.{Entry}
use Rattle.rv_model.specs.declared.record.Record.{Record}
use Rattle.rv_model.specs.Histories.{Input, IsLegal, IsOneHistory}
use Rattle.rv_model.specs.Judging.{Judge}
use Rattle.rv_model.specs.Records.{script_records, sort_records, records_of}
use Rattle.rv_model.specs.Scripts.{played}
use Rattle.rv_model.specs.Setups.{slot_of}
use Rattle.rv_model.specs.Works.{Work}
use Rattle.rv_model.proofs.OneJudgeLemmas.{lists-same}
use Rattle.rv_laws.specs.SingleWriter.{HasOneWriter}
use Rattle.rv_laws.specs.Verdicts.{IsSteady, AreHistories, AgreeOnSingleWriter, is_of_instance, SingleWriterRecordsAgree, AllRecordsAgree, SingleWriterRecordsAreOne, AllRecordsAreOne}
use Rattle.rv_laws.proofs.FilterLemmas.{filter-sort, like-filter, like-all, zip-works}
use Rattle.rv_laws.proofs.LikeLemmas.{IsLike, like-script}
use Rattle.rv_laws.proofs.OwnerLemmas.{plays}
use Rattle.rv_laws.proofs.ObservedLemmas.{tells-lone}

-- the records of a work
abbrev work_records : Input → List Judge → List Entry → Work → List Record
work_records input js h w = script_records w.deliveries w.turns (played input.setup js (2 + w.cpu) (reverse h))

module _ (input : Input) (js : List Judge) (h k : List Entry) (steady : IsSteady input) (legal : IsLegal input js h) (legal' : IsLegal input js k) where
  -- on a lone slot the records of two histories are alike
  alike : (slot : ℕ) → HasOneWriter input.setup.shape input.works slot → AllZip (IsLike input.setup.shape slot) (flat_map (work_records input js h) input.works) (flat_map (work_records input js k) input.works)
  alike slot one_writer = zip-works (IsLike input.setup.shape slot) (work_records input js h) (work_records input js k) input.works
      (λ w has. like-script input.setup js input.panics steady.no_panics slot w.deliveries w.turns [] (played input.setup js (2 + w.cpu) (reverse h)) (played input.setup js (2 + w.cpu) (reverse k))
      (plays input js h legal steady.no_changes w has) (plays input js k legal' steady.no_changes w has) (tells-lone input js h legal steady slot one_writer w has) (tells-lone input js k legal' steady slot one_writer w has))

  -- so its records are the same
  on-lone : AgreeOnSingleWriter input js js h k
  on-lone monitor instance one_writer =
      filter-sort (is_of_instance monitor instance) (flat_map (work_records input js h) input.works)
      ∙ ap sort_records (like-filter input.setup.shape monitor instance (flat_map (work_records input js h) input.works) (flat_map (work_records input js k) input.works) (alike (slot_of input.setup.shape monitor instance) one_writer))
      ∙ sym (filter-sort (is_of_instance monitor instance) (flat_map (work_records input js k) input.works))

  -- where all slots are lone, all records are the same
  on-all : ((slot : ℕ) → HasOneWriter input.setup.shape input.works slot) → records_of input js h ≡ records_of input js k
  on-all one_writer = ap sort_records (like-all input.setup.shape (flat_map (work_records input js h) input.works) (flat_map (work_records input js k) input.works) (λ slot. alike slot (one_writer slot)))

-- the judges of the specifications are one list
same-judges : (Is : Input → List Judge → List Entry → Type 0) (input : Input) (js ks : List Judge) (h k : List Entry) → AreHistories Is input js ks h k → js ≡ ks
same-judges Is input js ks h k two = lists-same input.specs input.setup.tables js ks two.judges two.other_judges

-- on lone slots any two histories have the same records
pub lone_records_agree : SingleWriterRecordsAgree
lone_records_agree input js ks h k steady two =
    let same : js ≡ ks = same-judges IsLegal input js ks h k two in
    let other : IsLegal input js k = subst (λ (z : List Judge). IsLegal input z k) (sym same) two.other in
    subst (λ (z : List Judge). AgreeOnSingleWriter input js z h k) same (on-lone input js h k steady two.history other)

-- where all slots are lone, all their records are the same
pub all_records_agree : AllRecordsAgree
all_records_agree input js ks h k steady two one_writer =
    let same : js ≡ ks = same-judges IsLegal input js ks h k two in
    let other : IsLegal input js k = subst (λ (z : List Judge). IsLegal input z k) (sym same) two.other in
    on-all input js h k steady two.history other one_writer ∙ ap (λ (z : List Judge). records_of input z k) same

-- the history of one thread is one of the histories
legal-too : (input : Input) (js ks : List Judge) (h k : List Entry) → AreHistories IsOneHistory input js ks h k → AreHistories IsLegal input js ks h k
legal-too input js ks h k two = record { judges = two.judges; other_judges = two.other_judges; history = two.history; other = two.other.legal }

-- so on lone slots the records are those of one thread
pub lone_records_are_one : SingleWriterRecordsAreOne
lone_records_are_one input js ks h k steady two = lone_records_agree input js ks h k steady (legal-too input js ks h k two)

-- and where all slots are lone, all records are
pub all_records_are_one : AllRecordsAreOne
all_records_are_one input js ks h k steady two one_writer = all_records_agree input js ks h k steady (legal-too input js ks h k two) one_writer
