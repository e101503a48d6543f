-- Parts together: the whole has the records of all of them, and its report is theirs joined.
use Rattle.std.specs.Prelude.{◌≡◌, ◌≢◌, ◌↔◌, ℕ, ◌+◌, ◌<◌, ◌≤◌, Bool, true, ◌&&◌, List, [], ◌∷◌, ◌++◌, map, filter, flat_map, count_by, Some, slice_get, All, AllPairs, Any, Contains}
use Rattle.std.specs.List.{sum_by}
use Rattle.rv_model.specs.declared.entry.Entry.{Entry}
use Rattle.rv_model.specs.declared.record.Record.{Record}
use Rattle.rv_model.specs.declared.record.Task.{Task}
use Rattle.rv_model.specs.declared.work.Scope.{Scope}
use Rattle.rv_model.specs.declared.work.Scope.TheVariants as scope
use Rattle.rv_model.specs.Histories.{Input, IsOneHistory}
use Rattle.rv_model.specs.Judging.{Judge}
use Rattle.rv_model.specs.Records.{records_of, sort_records, is_failure, is_stopped, status_of}
use Rattle.rv_model.specs.Reports.{Reported, record_text, task_at, instances_in, is_of_monitor, instance_count, count_text, report_text}
use Rattle.rv_model.specs.Works.{Work}
use Rattle.rv_laws.specs.SingleWriter.{HasInstance}
use Rattle.rv_laws.specs.Parts.{Numbering, Placed, placed_in, placed_by, record_in, keeps, is_kept, IsPlain, ArePlayed}

-- ---- records

-- a part of an input: its numbers in the whole, what it keeps, its history, and the tasks that its report names
pub record PlayedPart : Type 0 where
  pub numbers : Numbering
  pub keep : ℕ → ℕ → Bool
  pub input : Input
  pub judges : List Judge
  pub history : List Entry
  pub tasks : List Task

-- the records of a part
abbrev pub own_records : PlayedPart → List Record
own_records p = records_of p.input p.judges p.history

-- those of the instances that it keeps
abbrev pub kept_records : PlayedPart → List Record
kept_records p = filter (λ r. is_kept p.keep (record_in p.numbers r)) (own_records p)

-- the same, as the whole has them
abbrev pub records_by : PlayedPart → List Record
records_by p = map (record_in p.numbers) (kept_records p)

-- the records of all parts, ascending by order
abbrev pub joined_records : List PlayedPart → List Record
joined_records parts = sort_records (flat_map records_by parts)

-- each is a part with its history, each instance that the whole has is kept by one part and no other, and no two deliveries have one order
pub record ArePartsOf (whole : Input) (js : List Judge) (h : List Entry) (parts : List PlayedPart) : Type 0 where
  pub plain : IsPlain whole
  pub history : IsOneHistory whole js h
  pub each : All (λ p. ArePlayed p.numbers p.keep whole p.input js p.judges h p.history) parts
  pub once : (monitor instance : ℕ) → HasInstance whole.setup.shape monitor instance → count_by (λ p. p.keep monitor instance) parts ≡ 1
  pub orders : AllPairs (λ p q. p.delivery.order ≢ q.delivery.order) (placed_in whole.works)

-- a law: the whole has the records of its parts, and no other
abbrev pub PartsHaveAllRecords : Type 0
PartsHaveAllRecords = (whole : Input) (js : List Judge) (h : List Entry) (parts : List PlayedPart) → ArePartsOf whole js h parts → records_of whole js h ≡ joined_records parts

-- the part has deliveries to instances that it keeps, and to no other
abbrev pub KeepsAll : PlayedPart → Type 0
KeepsAll p = All (λ q. keeps p.keep (placed_by p.numbers q) ≡ true) (placed_in p.input.works)

-- a law: then it keeps all its records
abbrev pub AllAreKept : Type 0
AllAreKept = (p : PlayedPart) → IsPlain p.input → IsOneHistory p.input p.judges p.history → KeepsAll p → kept_records p ≡ own_records p

-- ---- by lines

-- a delivery of a later line has a higher order
abbrev pub OrdersFollowLines : List Work → Type 0
OrdersFollowLines works = (p q : Placed) → Contains (placed_in works) p → Contains (placed_in works) q → p.line < q.line → p.delivery.order < q.delivery.order

-- of the deliveries of one line the same parts keep each
abbrev pub LinesOfOnePart : List PlayedPart → List Work → Type 0
LinesOfOnePart parts works = (p q : Placed) → Contains (placed_in works) p → Contains (placed_in works) q → p.line ≡ q.line → All (λ part. keeps part.keep p ≡ keeps part.keep q) parts

-- the lines never descend, what each part keeps of the records are its own, in their order, and each record is kept by some part
pub record IsMergedByLine (parts : List PlayedPart) (rs : List Record) : Type 0 where
  pub lines : AllPairs (λ r t. r.line ≤ t.line) rs
  pub each : All (λ p. filter (is_kept p.keep) rs ≡ records_by p) parts
  pub some : All (λ r. Any (λ p. is_kept p.keep r ≡ true) parts) rs

-- a law: where each line is one part's, the records of the parts are merged by line in one way, which gives the whole's
abbrev pub MergedByLineIsWhole : Type 0
MergedByLineIsWhole = (whole : Input) (js : List Judge) (h : List Entry) (parts : List PlayedPart) → ArePartsOf whole js h parts → OrdersFollowLines whole.works → LinesOfOnePart parts whole.works
    → (rs : List Record) → IsMergedByLine parts rs ↔ (rs ≡ records_of whole js h)

-- ---- reports

-- two numbers mean one instance of a monitor, each by its own tasks
abbrev pub MeanOne : List Task → List Task → Scope → ℕ → ℕ → Type 0
MeanOne tasks own scope.Global instance other = instance ≡ other
MeanOne tasks own scope.Cpu instance other = instance ≡ other
MeanOne tasks own scope.Task instance other = task_at tasks instance ≡ task_at own other

-- the setup has for each monitor as many slots as the monitor has instances
abbrev pub HasSlots : List Reported → List Task → List ℕ → Type 0
HasSlots monitors tasks shape = shape ≡ map (λ m. instances_in tasks m.scope) monitors

-- the instances of a part are those that its numbers mean in the whole
abbrev pub MeansItsOwn : List Reported → List Task → PlayedPart → Type 0
MeansItsOwn monitors tasks p = (monitor instance : ℕ) (m : Reported) → slice_get monitors monitor ≡ Some m → HasInstance p.input.setup.shape monitor instance → MeanOne tasks p.tasks m.scope (p.numbers.instance_of monitor instance) instance

-- a law: a part says of a record what the whole says of it, with the line that the record has in the part
abbrev pub PartSaysItsOwn : Type 0
PartSaysItsOwn = (monitors : List Reported) (tasks : List Task) (p : PlayedPart) (r : Record) → MeansItsOwn monitors tasks p → HasInstance p.input.setup.shape r.monitor r.instance
    → record_text (slice_get monitors r.monitor) tasks (record_in p.numbers r) ≡ record_text (slice_get monitors r.monitor) p.tasks (record r { line = p.numbers.line r.line })

-- a monitor's line, by the sums of what the parts count of the instances that they keep
abbrev pub joined_summary : List PlayedPart → ℕ → Reported → List ℕ
joined_summary parts monitor m =
    count_text m.display_name (sum_by (λ p. instance_count monitor (kept_records p) (instances_in p.tasks m.scope)) parts) (sum_by (λ p. count_by (is_of_monitor monitor) (kept_records p)) parts)
    (sum_by (λ p. count_by (λ r. is_of_monitor monitor r && is_failure r) (kept_records p)) parts) (sum_by (λ p. count_by (λ r. is_of_monitor monitor r && is_stopped r) (kept_records p)) parts)

-- a line for each monitor, the first of which has this number
abbrev pub joined_summaries : List PlayedPart → ℕ → List Reported → List ℕ
joined_summaries parts monitor [] = []
joined_summaries parts monitor (m ∷ monitors) = joined_summary parts monitor m ++ joined_summaries parts (monitor + 1) monitors

-- the report that is made of the parts
abbrev pub joined_text : List Reported → List Task → List PlayedPart → List ℕ
joined_text monitors tasks parts = flat_map (λ r. record_text (slice_get monitors r.monitor) tasks r) (joined_records parts) ++ joined_summaries parts 0 monitors

-- a law: the whole's report is made of its parts
abbrev pub ReportIsJoined : Type 0
ReportIsJoined = (whole : Input) (js : List Judge) (h : List Entry) (monitors : List Reported) (tasks : List Task) (parts : List PlayedPart) → ArePartsOf whole js h parts
    → HasSlots monitors tasks whole.setup.shape → All (λ p. HasSlots monitors p.tasks p.input.setup.shape) parts → report_text monitors tasks (records_of whole js h) ≡ joined_text monitors tasks parts

-- a law: its status is that of what the parts keep
abbrev pub StatusIsJoined : Type 0
StatusIsJoined = (whole : Input) (js : List Judge) (h : List Entry) (parts : List PlayedPart) → ArePartsOf whole js h parts → status_of (records_of whole js h) ≡ status_of (flat_map kept_records parts)
