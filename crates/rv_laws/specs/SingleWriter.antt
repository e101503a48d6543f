-- Slots that only one CPU's deliveries are for.
use Rattle.std.specs.Prelude.{◌≡◌, ◌≢◌, ℕ, ◌<◌, Bool, ◌==◌, List, [], length, slice_index, All, Contains, IsTrue}
use Rattle.std.specs.List.{list_any}
use Rattle.rv_model.specs.declared.entry.Act.TheVariants.{Stop}
use Rattle.rv_model.specs.declared.entry.Entry.{Entry}
use Rattle.rv_model.specs.declared.work.Delivery.{Delivery}
use Rattle.rv_model.specs.Cuts.{AtEach}
use Rattle.rv_model.specs.Histories.{Input, IsLegal, IsNoStop}
use Rattle.rv_model.specs.Judging.{Judge}
use Rattle.rv_model.specs.Records.{records_of, status_of}
use Rattle.rv_model.specs.Setups.{slot_of}
use Rattle.rv_model.specs.Works.{Work}

-- one of the deliveries is for the slot
abbrev pub is_named : List ℕ → ℕ → List Delivery → Bool
is_named shape slot ds = list_any (λ d. slot_of shape d.monitor d.instance == slot) ds

-- no two CPUs have deliveries for the slot
abbrev pub HasOneWriter : List ℕ → List Work → ℕ → Type 0
HasOneWriter shape works slot = (w v : Work) → Contains works w → Contains works v → IsTrue (is_named shape slot w.deliveries) → IsTrue (is_named shape slot v.deliveries) → w.cpu ≡ v.cpu

-- a law: without changes nothing stops a lone slot
abbrev pub SingleWriterHasNoStop : Type 0
SingleWriterHasNoStop = (input : Input) (js : List Judge) (h : List Entry) (slot : ℕ) → IsLegal input js h → input.changes ≡ [] → HasOneWriter input.setup.shape input.works slot → AtEach (λ before e. ¬ (e.act ≡ Stop slot)) h

-- a law: without changes, where all slots are lone, nothing is stopped
abbrev pub AllSingleWriterHaveNoStop : Type 0
AllSingleWriterHaveNoStop = (input : Input) (js : List Judge) (h : List Entry) → IsLegal input js h → input.changes ≡ [] → ((slot : ℕ) → HasOneWriter input.setup.shape input.works slot) → AtEach (λ before e. IsNoStop e.act) h

-- a law: without changes, where all slots are lone, the status is never that of an instance that was stopped
abbrev pub AllSingleWriterGiveNoSix : Type 0
AllSingleWriterGiveNoSix = (input : Input) (js : List Judge) (h : List Entry) → IsLegal input js h → input.changes ≡ [] → ((slot : ℕ) → HasOneWriter input.setup.shape input.works slot) → status_of (records_of input js h) ≢ 6

-- ---- slots of cpu monitors

-- the setup has the instance
pub record HasInstance (shape : List ℕ) (monitor instance : ℕ) : Type 0 where
  pub monitor_below : monitor < length shape
  pub instance_below : instance < slice_index shape monitor

-- every delivery is to an instance that the setup has
abbrev pub HaveInstances : List ℕ → List Work → Type 0
HaveInstances shape works = All (λ w. All (λ d. HasInstance shape d.monitor d.instance) w.deliveries) works

-- what a CPU delivers to the monitor is for the instance that has the CPU's number
abbrev pub IsByCpu : List Work → ℕ → Type 0
IsByCpu works monitor = All (λ w. All (λ d. d.monitor ≡ monitor → d.instance ≡ w.cpu) w.deliveries) works

-- a law: the slots of a monitor by CPU are lone
abbrev pub CpuSlotsHaveOneWriter : Type 0
CpuSlotsHaveOneWriter = (shape : List ℕ) (works : List Work) (monitor instance : ℕ) → HaveInstances shape works → IsByCpu works monitor → HasInstance shape monitor instance → HasOneWriter shape works (slot_of shape monitor instance)

-- a law: where all monitors are by CPU, all slots are lone
abbrev pub AllByCpuHaveOneWriter : Type 0
AllByCpuHaveOneWriter = (shape : List ℕ) (works : List Work) → HaveInstances shape works → ((monitor : ℕ) → IsByCpu works monitor) → (slot : ℕ) → HasOneWriter shape works slot
