-- The whole's report is made of what its parts count and say.
use Rattle.std.proofs.Common.{◌≡◌, ℕ, ◌+◌, Bool, ◌&&◌, ◌||◌, List, [], ◌∷◌, ◌++◌, map, length, Option, Some, None, refl, sym, ap, ◌∙◌, subst, append_assoc, length-append}
use Rattle.std.specs.Prelude.{codes, flat_map, count_by, slice_get, slice_index, All, if◌then◌else◌}
use Rattle.std.specs.List.{list_any, sum_by}
use Rattle.std.proofs.lemmas.List.Elements.{All-head, All-tail}
use Rattle.std.proofs.lemmas.List.Folds.{list_any-append}
use Rattle.std.proofs.lemmas.List.Sums.{sum_by-cons}
use Rattle.rv_model.specs.declared.entry.Answer.TheVariants.{Passed, Started, Kept, Failed, Stopped, Cleared, Ended, Looked, Switched}
use Rattle.rv_model.specs.declared.entry.Entry.{Entry}
use Rattle.rv_model.specs.declared.record.Delivered.{Delivered}
use Rattle.rv_model.specs.declared.record.Delivered.TheVariants.{Done, Racing}
use Rattle.rv_model.specs.declared.record.Record.{Record}
use Rattle.rv_model.specs.declared.record.Task.{Task}
use Rattle.rv_model.specs.declared.work.Scope.{Scope}
use Rattle.rv_model.specs.declared.work.Scope.TheVariants as scope
use Rattle.rv_model.specs.Histories.{Input}
use Rattle.rv_model.specs.Judging.{Judge}
use Rattle.rv_model.specs.Records.{records_of, is_failure, is_stopped, status_of}
use Rattle.rv_model.specs.Reports.{Reported, task_text, place_text, fault_text, reaction_text, failed_text, record_text, instances_in, is_of_monitor, instance_count, count_text, summary_text, summaries_text}
use Rattle.rv_laws.specs.Joins.{PlayedPart, kept_records, records_by, joined_records, ArePartsOf, MeanOne, HasSlots, PartSaysItsOwn, joined_summary, joined_summaries, ReportIsJoined, StatusIsJoined}
use Rattle.rv_laws.specs.Parts.{record_in}
use Rattle.rv_laws.proofs.JoinLemmas.{parts_have_all_records}
use Rattle.rv_laws.proofs.OutcomeLemmas.{any-sort}
use Rattle.rv_laws.proofs.SumLemmas.{count-sort, count-parts, many-joined}

-- ---- what a part says of a record

-- the names of one instance
same-place : (tasks own : List Task) (s : Scope) (instance other : ℕ) → MeanOne tasks own s instance other → place_text tasks s instance ≡ place_text own s other
same-place tasks own scope.Global instance other same = refl
same-place tasks own scope.Cpu instance other same = ap (place_text tasks scope.Cpu) same
same-place tasks own scope.Task instance other same = ap (λ (t : Task). codes "[task " ++ task_text t ++ codes "]") same

-- what is said of a failure
same-failed : (m : Reported) (tasks own : List Task) (r : Record) (order instance line : ℕ) (outcome : Delivered) → place_text tasks m.scope instance ≡ place_text own m.scope r.instance
    → failed_text m tasks (record r { order = order; instance = instance; line = line }) outcome ≡ failed_text m own (record r { line = line }) outcome
same-failed m tasks own r order instance line (Done (Failed set)) same =
    ap (λ (z : List ℕ). if r.reacting then reaction_text m.reactor (m.display_name ++ z) (fault_text m.spec r.hit.what set) line else []) same
same-failed m tasks own r order instance line (Done Passed) same = refl
same-failed m tasks own r order instance line (Done Started) same = refl
same-failed m tasks own r order instance line (Done Kept) same = refl
same-failed m tasks own r order instance line (Done Stopped) same = refl
same-failed m tasks own r order instance line (Done Cleared) same = refl
same-failed m tasks own r order instance line (Done Ended) same = refl
same-failed m tasks own r order instance line (Done (Looked word)) same = refl
same-failed m tasks own r order instance line (Done Switched) same = refl
same-failed m tasks own r order instance line Racing same = refl

-- what is said of a record of the part
pub part_says_its_own : PartSaysItsOwn
part_says_its_own monitors tasks p r means has = go (slice_get monitors r.monitor) refl
  where
    go : (found : Option Reported) → slice_get monitors r.monitor ≡ found → record_text (slice_get monitors r.monitor) tasks (record_in p.numbers r) ≡ record_text (slice_get monitors r.monitor) p.tasks (record r { line = p.numbers.line r.line })
    go None none = rw none refl
    go (Some m) some =
        let place : place_text tasks m.scope (p.numbers.instance_of r.monitor r.instance) ≡ place_text p.tasks m.scope r.instance =
        same-place tasks p.tasks m.scope (p.numbers.instance_of r.monitor r.instance) r.instance (means r.monitor r.instance m some has) in
        let left : record_text (slice_get monitors r.monitor) tasks (record_in p.numbers r) ≡ failed_text m tasks (record_in p.numbers r) r.outcome = ap (λ (f : Option Reported). record_text f tasks (record_in p.numbers r)) some in
        let right : record_text (slice_get monitors r.monitor) p.tasks (record r { line = p.numbers.line r.line }) ≡ failed_text m p.tasks (record r { line = p.numbers.line r.line }) r.outcome =
        ap (λ (f : Option Reported). record_text f p.tasks (record r { line = p.numbers.line r.line })) some in
        left ∙ same-failed m tasks p.tasks r (p.numbers.order r.order) (p.numbers.instance_of r.monitor r.instance) (p.numbers.line r.line) r.outcome place ∙ sym right

-- ---- summaries

module _ (whole : Input) (js : List Judge) (h : List Entry) (tasks : List Task) (parts : List PlayedPart) (a : ArePartsOf whole js h parts) where
  -- a count that numbers do not change
  count-joined : (test : Record → Bool) → ((p : PlayedPart) → (λ (r : Record). test (record_in p.numbers r)) ≡ test) → count_by test (records_of whole js h) ≡ sum_by (λ p. count_by test (kept_records p)) parts
  count-joined test same = ap (count_by test) (parts_have_all_records whole js h parts a) ∙ count-sort test (flat_map records_by parts) ∙ count-parts test same parts

  -- the slots of each part's monitor
  abbrev SlotsAt : ℕ → Reported → PlayedPart → Type 0
  SlotsAt monitor m p = slice_index p.input.setup.shape monitor ≡ instances_in p.tasks m.scope

  -- the instances of each part, by its slots
  sum-slots : (monitor : ℕ) (m : Reported) (some : List PlayedPart) → All (SlotsAt monitor m) some
      → sum_by (λ p. instance_count monitor (kept_records p) (slice_index p.input.setup.shape monitor)) some ≡ sum_by (λ p. instance_count monitor (kept_records p) (instances_in p.tasks m.scope)) some
  sum-slots monitor m [] all = refl
  sum-slots monitor m (p ∷ some) all =
      sum_by-cons (λ q. instance_count monitor (kept_records q) (slice_index q.input.setup.shape monitor)) p some
      ∙ ap (λ (n : ℕ). instance_count monitor (kept_records p) n + sum_by (λ q. instance_count monitor (kept_records q) (slice_index q.input.setup.shape monitor)) some) (All-head (SlotsAt monitor m) p some all)
      ∙ ap (λ (n : ℕ). instance_count monitor (kept_records p) (instances_in p.tasks m.scope) + n) (sum-slots monitor m some (All-tail (SlotsAt monitor m) p some all))
      ∙ sym (sum_by-cons (λ q. instance_count monitor (kept_records q) (instances_in q.tasks m.scope)) p some)

  -- a monitor's line
  summary-joined : (monitor : ℕ) (m : Reported) → slice_index whole.setup.shape monitor ≡ instances_in tasks m.scope → All (SlotsAt monitor m) parts → summary_text tasks (records_of whole js h) monitor m ≡ joined_summary parts monitor m
  summary-joined monitor m slots all =
      let instances : instance_count monitor (records_of whole js h) (instances_in tasks m.scope) ≡ sum_by (λ p. instance_count monitor (kept_records p) (instances_in p.tasks m.scope)) parts =
      ap (instance_count monitor (records_of whole js h)) (sym slots) ∙ many-joined whole js h monitor parts a ∙ sum-slots monitor m parts all in
      let deliveries = count-joined (is_of_monitor monitor) (λ p. refl) in
      let failures = count-joined (λ r. is_of_monitor monitor r && is_failure r) (λ p. refl) in
      let stopped = count-joined (λ r. is_of_monitor monitor r && is_stopped r) (λ p. refl) in
      ap (λ (n : ℕ). count_text m.display_name n (count_by (is_of_monitor monitor) (records_of whole js h)) (count_by (λ r. is_of_monitor monitor r && is_failure r) (records_of whole js h)) (count_by (λ r. is_of_monitor monitor r && is_stopped r) (records_of whole js h))) instances
      ∙ ap (λ (n : ℕ). count_text m.display_name (sum_by (λ p. instance_count monitor (kept_records p) (instances_in p.tasks m.scope)) parts) n (count_by (λ r. is_of_monitor monitor r && is_failure r) (records_of whole js h)) (count_by (λ r. is_of_monitor monitor r && is_stopped r) (records_of whole js h))) deliveries
      ∙ ap (λ (n : ℕ). count_text m.display_name (sum_by (λ p. instance_count monitor (kept_records p) (instances_in p.tasks m.scope)) parts) (sum_by (λ p. count_by (is_of_monitor monitor) (kept_records p)) parts) n (count_by (λ r. is_of_monitor monitor r && is_stopped r) (records_of whole js h))) failures
      ∙ ap (count_text m.display_name (sum_by (λ p. instance_count monitor (kept_records p) (instances_in p.tasks m.scope)) parts) (sum_by (λ p. count_by (is_of_monitor monitor) (kept_records p)) parts) (sum_by (λ p. count_by (λ r. is_of_monitor monitor r && is_failure r) (kept_records p)) parts)) stopped

  -- the lines of all monitors from a place on
  summaries-joined : (front monitors : List Reported) → HasSlots (front ++ monitors) tasks whole.setup.shape → All (λ p. HasSlots (front ++ monitors) p.tasks p.input.setup.shape) parts → summaries_text tasks (records_of whole js h) (length front) monitors ≡ joined_summaries parts (length front) monitors
  summaries-joined front [] slots all = refl
  summaries-joined front (m ∷ monitors) slots all =
      let more : List Reported = front ++ m ∷ [] in
      let same : more ++ monitors ≡ front ++ m ∷ monitors = append_assoc front (m ∷ []) monitors in
      let next : length more ≡ length front + 1 = length-append front (m ∷ []) in
      let one = summary-joined (length front) m (slot-at tasks whole.setup.shape slots) (each parts all) in
      let rest = summaries-joined more monitors (subst (λ (z : List Reported). HasSlots z tasks whole.setup.shape) (sym same) slots) (subst (λ (z : List Reported). All (λ p. HasSlots z p.tasks p.input.setup.shape) parts) (sym same) all) in
      let rest' : summaries_text tasks (records_of whole js h) (length front + 1) monitors ≡ joined_summaries parts (length front + 1) monitors = subst (λ (n : ℕ). summaries_text tasks (records_of whole js h) n monitors ≡ joined_summaries parts n monitors) next rest in
      ap (λ (z : List ℕ). z ++ summaries_text tasks (records_of whole js h) (length front + 1) monitors) one ∙ ap (λ (z : List ℕ). joined_summary parts (length front) m ++ z) rest'
    where
      slot-at : (tasks' : List Task) (shape : List ℕ) → HasSlots (front ++ m ∷ monitors) tasks' shape → slice_index shape (length front) ≡ instances_in tasks' m.scope
      slot-at tasks' shape is = ap (λ (z : List ℕ). slice_index z (length front)) is ∙ at front
        where
          at : (some : List Reported) → slice_index (map (λ x. instances_in tasks' x.scope) (some ++ m ∷ monitors)) (length some) ≡ instances_in tasks' m.scope
          at [] = refl
          at (x ∷ some) = at some

      each : (some : List PlayedPart) → All (λ p. HasSlots (front ++ m ∷ monitors) p.tasks p.input.setup.shape) some → All (SlotsAt (length front) m) some
      each some all k d lt = slot-at _ _ (all k d lt)

-- the whole's report
pub report_is_joined : ReportIsJoined
report_is_joined whole js h monitors tasks parts a slots all =
    ap (λ (rs : List Record). flat_map (λ r. record_text (slice_get monitors r.monitor) tasks r) rs ++ summaries_text tasks (records_of whole js h) 0 monitors) (parts_have_all_records whole js h parts a)
    ∙ ap (λ (z : List ℕ). flat_map (λ r. record_text (slice_get monitors r.monitor) tasks r) (joined_records parts) ++ z) (summaries-joined whole js h tasks parts a [] monitors slots all)

-- ---- the status
module _ (test : Record → Bool) where
  -- a test that numbers do not change
  any-map : (f : Record → Record) → (λ (r : Record). test (f r)) ≡ test → (rs : List Record) → list_any test (map f rs) ≡ list_any test rs
  any-map f same [] = refl
  any-map f same (r ∷ rs) = ap (λ (t : Record → Bool). t r || list_any test (map f rs)) same ∙ ap (λ (b : Bool). test r || b) (any-map f same rs)

  -- of all parts
  any-parts : ((p : PlayedPart) → (λ (r : Record). test (record_in p.numbers r)) ≡ test) → (parts : List PlayedPart) → list_any test (flat_map records_by parts) ≡ list_any test (flat_map kept_records parts)
  any-parts same [] = refl
  any-parts same (p ∷ parts) =
      list_any-append test (records_by p) (flat_map records_by parts)
      ∙ ap (λ (b : Bool). b || list_any test (flat_map records_by parts)) (any-map (record_in p.numbers) (same p) (kept_records p))
      ∙ ap (λ (b : Bool). list_any test (kept_records p) || b) (any-parts same parts)
      ∙ sym (list_any-append test (kept_records p) (flat_map kept_records parts))

-- the status by its two tests
abbrev if_status : Bool → Bool → ℕ
if_status failed stopped = if failed then 1 else if stopped then 6 else 0

-- the whole's status
pub status_is_joined : StatusIsJoined
status_is_joined whole js h parts a =
    let failed : list_any is_failure (joined_records parts) ≡ list_any is_failure (flat_map kept_records parts) = any-sort is_failure (flat_map records_by parts) ∙ any-parts is_failure (λ p. refl) parts in
    let stopped : list_any is_stopped (joined_records parts) ≡ list_any is_stopped (flat_map kept_records parts) = any-sort is_stopped (flat_map records_by parts) ∙ any-parts is_stopped (λ p. refl) parts in
    ap status_of (parts_have_all_records whole js h parts a)
    ∙ ap (λ (b : Bool). if_status b (list_any is_stopped (joined_records parts))) failed ∙ ap (if_status (list_any is_failure (flat_map kept_records parts))) stopped
