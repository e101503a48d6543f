-- The slots of monitors by CPU are lone, in a run that is ready.
use Rattle.std.proofs.Common.{◌≡◌, ℕ, zero, suc, ◌<◌, List, [], ◌∷◌, map, length, get_or, refl, sym, ap, ◌∙◌, subst, arith}
use Rattle.std.specs.Prelude.{All}
use Rattle.std.proofs.lemmas.List.Elements.{All-head, All-tail, All-weaker, All-map}
use Rattle.rv_model.specs.declared.work.Scope.TheVariants as scopes
use Rattle.rv_model.specs.declared.work.Delivery.{Delivery}
use Rattle.rv_model.specs.Setups.{Setup, slot_of}
use Rattle.rv_model.specs.Works.{Work}
use Rattle.rv_slots.specs.Shapes.{count_of}
use Rattle.rv_slots.specs.declared.shape.TheConstants.{CPUS}
use Rattle.rv_bind.specs.declared.bindings.Monitor.{Monitor}
use Rattle.rv_core.specs.Deliveries.{FitsDelivery}
use Rattle.rv_feed.specs.Lane.{LaneValue, FitsLane, FitLanes, works_of}
use Rattle.rv_laws.specs.SingleWriter.{HasInstance, HaveInstances, IsByCpu}
use Rattle.rv_laws.proofs.CpuLemmas.{cpu_slots_are_lone, all_by_cpu_are_lone}
use Rattle.rv_tool.specs.declared.input.Prepared.{Prepared}
use Rattle.rv_tool.specs.Inputs.{InputValue, run_of, HasCpus}
use Rattle.rv_tool.specs.inner.Prepared.{prepared_value, IsPrepared}
use Rattle.rv_tool.specs.Verdicts.{HasOneWriterIn, AllHaveCpus}

-- ---- what is known of the scripts

-- the deliveries are to instances that the setup has, and to the CPUs' own of a monitor by CPU
pub record FitCpus (i : InputValue) : Type 0 where
  pub instances : HaveInstances (run_of i).setup.shape (run_of i).works
  pub by_cpu : (place : ℕ) → HasCpus i.bound.monitors place → IsByCpu (run_of i).works place

-- a delivery that fits the setup is to an instance that it has
fits_instance : (s : Setup) (d : Delivery) → FitsDelivery s d → HasInstance s.shape d.monitor d.instance
fits_instance s d f = record { monitor_below = f.monitor; instance_below = f.instance_fits }

-- the deliveries of lanes that fit are to instances that the setup has
lanes_instances : (s : Setup) (lanes : List LaneValue) → FitLanes s lanes → HaveInstances s.shape (works_of lanes)
lanes_instances s lanes f =
    let Has : Work → Type 0 = λ (w : Work). All (λ (d : Delivery). HasInstance s.shape d.monitor d.instance) w.deliveries in
    All-map Has (λ (l : LaneValue). l.work) lanes
    (All-weaker (FitsLane s) (λ (l : LaneValue). Has l.work) (λ l fit. All-weaker (FitsDelivery s) (λ (d : Delivery). HasInstance s.shape d.monitor d.instance) (fits_instance s) l.work.deliveries fit.fit) lanes f.fit)

-- what is ready is routed
pub ready_routed : (r : Prepared) → IsPrepared r → FitCpus (prepared_value r)
ready_routed r is = record {
  instances = subst (λ (s : Setup). HaveInstances s.shape (works_of r.lanes.items)) is.setup (lanes_instances r.setup r.lanes.items is.lanes);
  by_cpu = is.by_cpu;
}

-- ---- monitors by CPU

-- a monitor by CPU has an instance for each CPU
has_instance : (tasks : ℕ) (monitors : List Monitor) (place cpu : ℕ) → HasCpus monitors place → cpu < CPUS → HasInstance (map (count_of tasks) (map (λ (m : Monitor). m.scope) monitors)) place cpu
has_instance tasks [] place cpu has below = let e = has.there in cc
has_instance tasks (m ∷ monitors) zero cpu has below =
    let there = has.there in
    let same : m ≡ has.monitor = cc in
    let count : count_of tasks m.scope ≡ CPUS = ap (λ (n : Monitor). count_of tasks n.scope) same ∙ ap (count_of tasks) has.scope in
    record { monitor_below = omega arith; instance_below = subst (λ n. cpu < n) (sym count) below }
has_instance tasks (m ∷ monitors) (suc place) cpu has below =
    let rest = has_instance tasks monitors place cpu (record { monitor = has.monitor; there = has.there; scope = has.scope }) below in
    record { monitor_below = let b = rest.monitor_below in omega arith; instance_below = rest.instance_below }

-- where all monitors are by CPU, each is
has_cpus : (tasks : ℕ) (monitors : List Monitor) (place : ℕ) → All (λ (m : Monitor). m.scope ≡ scopes.Cpu) monitors → place < length (map (count_of tasks) (map (λ (m : Monitor). m.scope) monitors)) → HasCpus monitors place
has_cpus tasks [] place all below = absurd (omega arith)
has_cpus tasks (m ∷ monitors) zero all below = record { monitor = m; there = refl; scope = All-head (λ (m : Monitor). m.scope ≡ scopes.Cpu) m monitors all }
has_cpus tasks (m ∷ monitors) (suc place) all below =
    let rest = has_cpus tasks monitors place (All-tail (λ (m : Monitor). m.scope ≡ scopes.Cpu) m monitors all) (omega arith) in
    record { monitor = rest.monitor; there = rest.there; scope = rest.scope }

module _ (i : InputValue) (routed : FitCpus i) where
  -- a CPU's slot of a monitor by CPU is lone
  pub cpu_is_lone : (monitor cpu : ℕ) → HasCpus i.bound.monitors monitor → cpu < CPUS → HasOneWriterIn i (slot_of (run_of i).setup.shape monitor cpu)
  cpu_is_lone monitor cpu has below =
      cpu_slots_are_lone (run_of i).setup.shape (run_of i).works monitor cpu routed.instances (routed.by_cpu monitor has) (has_instance (length i.routed.tasks) i.bound.monitors monitor cpu has below)

  -- where all monitors are by CPU, what a CPU delivers to any number is for its own instance
  all_own : AllHaveCpus i → (monitor : ℕ) → IsByCpu (run_of i).works monitor
  all_own all monitor n nobody below m nothing within at =
      let d : Delivery = get_or (get_or (run_of i).works n nobody).deliveries m nothing in
      let there = routed.instances n nobody below m nothing within in
      routed.by_cpu d.monitor (has_cpus (length i.routed.tasks) i.bound.monitors d.monitor all there.monitor_below) n nobody below m nothing within refl

  -- where all monitors are by CPU, all slots are lone
  pub all_are_lone : AllHaveCpus i → (slot : ℕ) → HasOneWriterIn i slot
  all_are_lone all = all_by_cpu_are_lone (run_of i).setup.shape (run_of i).works routed.instances (all_own all)
