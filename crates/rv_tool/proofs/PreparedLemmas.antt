-- What is read makes a run ready: the setup has the bindings' tables, and the lanes fit it.
use Rattle.std.proofs.Common.{◌≡◌, ◌≢◌, ℕ, zero, suc, ◌<◌, ◌≤◌, ◌+◌, List, [], ◌∷◌, ◌++◌, ◌^◌, map, length, get_or, take, refl, sym, ap, ◌∙◌, subst, arith}
use Rattle.std.specs.Prelude.{All, AllPairs, Some, slice_get, slice_index, slice_index_or}
use Rattle.std.proofs.lemmas.List.{append_assoc, length-map, map-append, map_more, take_all}
use Rattle.std.proofs.lemmas.List.Elements.{All-push, All-nil, All-cons, All-head, All-tail, All-weaker}
use Rattle.rv_model.specs.declared.work.Scope.{Scope}
use Rattle.rv_model.specs.declared.work.Delivery.{Delivery}
use Rattle.rv_model.specs.declared.work.Turn.{Turn}
use Rattle.rv_model.specs.Table.{Table}
use Rattle.rv_model.specs.Works.{Work}
use Rattle.rv_model.specs.Setups.{Setup, monitor_of, slot_of}
use Rattle.rv_slots.specs.Shapes.{count_of}
use Rattle.rv_slots.proofs.ShapeLemmas.{monitor_of-slot_of}
use Rattle.rv_core.specs.Setup.{FitsShape, no_table, table_at}
use Rattle.rv_core.specs.Judged.{AllMean}
use Rattle.rv_core.specs.Deliveries.{FitsDelivery}
use Rattle.rv_feed.specs.Lane.{LaneValue, IsNewLane, FitsLane, FitLanes, works_of}
use Rattle.rv_bind.specs.declared.bindings.Monitor.{Monitor}
use Rattle.rv_bind.specs.Compiling.{IsTableOf}
use Rattle.rv_bind.specs.WellFormed.{MonitorKind, kind_of, kinds_of, HasTable, HaveTables}
use Rattle.rv_route.specs.Fitting.{FitsKindOf, WorksFit}
use Rattle.rv_laws.specs.SingleWriter.{IsByCpu}
use Rattle.rv_tool.specs.Inputs.{opened, HasCpus}
use Rattle.rv_tool.proofs.FitLemmas.{rule-fits}

-- ---- tables

-- there are as many tables as monitors
pub tables_counted : (monitors : List Monitor) (tables : List Table) → HaveTables (kinds_of monitors) tables → length tables ≡ length monitors
tables_counted [] [] h = refl
tables_counted [] (t ∷ tables) h = absurd h
tables_counted (m ∷ monitors) [] h = absurd h
tables_counted (m ∷ monitors) (t ∷ tables) h = ap (λ n. suc n) (tables_counted monitors tables h.1)

-- a setup has one table and one starting value for each monitor
pub shape_fits : (monitors : List Monitor) (tables : List Table) (tasks : ℕ) (scopes : List Scope) (shape starts : List ℕ) (switches : ℕ) → HaveTables (kinds_of monitors) tables → scopes ≡ map (λ (m : Monitor). m.scope) monitors
    → shape ≡ map (count_of tasks) scopes → starts ≡ map (λ (m : Monitor). m.starting) monitors → switches < 2 ^ 35 → FitsShape (record { shape = shape; tables = tables; starts = starts; switches = switches })
shape_fits monitors tables tasks scopes shape starts switches have scopes_are shape_is starts_are known =
    let many : length shape ≡ length monitors = ap (λ (ns : List ℕ). length ns) shape_is ∙ length-map scopes (count_of tasks) ∙ ap (λ (ss : List Scope). length ss) scopes_are ∙ length-map monitors (λ (m : Monitor). m.scope) in
    let started : length starts ≡ length monitors = ap (λ (ns : List ℕ). length ns) starts_are ∙ length-map monitors (λ (m : Monitor). m.starting) in
    record { many = tables_counted monitors tables have ∙ sym many; many_starts = started ∙ sym many; known_switches = known }

-- each monitor's table means its specification
pub tables_mean : (monitors : List Monitor) (tables : List Table) → HaveTables (kinds_of monitors) tables → AllMean (map (λ (m : Monitor). m.spec) monitors) tables
tables_mean [] [] h = tt
tables_mean [] (t ∷ tables) h = absurd h
tables_mean (m ∷ monitors) [] h = absurd h
tables_mean (m ∷ monitors) (t ∷ tables) h = (h.0.compiles.means, tables_mean monitors tables h.1)

-- what stands at a monitor's place
record At (monitors : List Monitor) (tables : List Table) (tasks place : ℕ) (kind : MonitorKind) : Type 0 where
  below : place < length (map (count_of tasks) (map (λ (m : Monitor). m.scope) monitors))
  count : slice_index (map (count_of tasks) (map (λ (m : Monitor). m.scope) monitors)) place ≡ count_of tasks kind.scope
  table : HasTable kind (slice_index_or tables place no_table)

-- at a monitor's place stand how many instances it has, and its table
at_place : (monitors : List Monitor) (tables : List Table) (tasks place : ℕ) (kind : MonitorKind) → slice_get (kinds_of monitors) place ≡ Some kind → HaveTables (kinds_of monitors) tables → At monitors tables tasks place kind
at_place [] tables tasks place kind there h = cc
at_place (m ∷ monitors) [] tasks place kind there h = absurd h
at_place (m ∷ monitors) (t ∷ tables) tasks zero kind there h =
    let same : kind_of m ≡ kind = cc in
    record { below = omega arith; count = ap (λ (k : MonitorKind). count_of tasks k.scope) same; table = subst (λ (k : MonitorKind). HasTable k t) same h.0 }
at_place (m ∷ monitors) (t ∷ tables) tasks (suc place) kind there h =
    let rest = at_place monitors tables tasks place kind there h.1 in
    record { below = let b = rest.below in omega arith; count = rest.count; table = rest.table }

-- ---- deliveries

-- the work of a lane
pub get_or-works : (lanes : List LaneValue) (i : ℕ) (d : LaneValue) → get_or (works_of lanes) i d.work ≡ (get_or lanes i d).work
get_or-works [] i d = refl
get_or-works (lane ∷ lanes) zero d = refl
get_or-works (lane ∷ lanes) (suc i) d = get_or-works lanes i d

-- there is a work for each lane
pub works_counted : (lanes : List LaneValue) → length (works_of lanes) ≡ length lanes
works_counted [] = refl
works_counted (lane ∷ lanes) = ap (λ n. suc n) (works_counted lanes)

module _ (monitors : List Monitor) (tables : List Table) (tasks : ℕ) (have : HaveTables (kinds_of monitors) tables) where
  -- a delivery that fits its monitor fits the setup that the monitors open with
  delivery_fits : (cpu : ℕ) (d : Delivery) → FitsKindOf (kinds_of monitors) tasks cpu d → FitsDelivery (opened monitors tables tasks) d
  delivery_fits cpu d f =
      let at = at_place monitors tables tasks d.monitor f.kind f.there have in
      let shape : List ℕ = map (count_of tasks) (map (λ (m : Monitor). m.scope) monitors) in
      let small : d.instance < slice_index shape d.monitor = subst (λ n. d.instance < n) (sym at.count) f.instance_fits in
      let monitor : monitor_of shape (slot_of shape d.monitor d.instance) ≡ d.monitor = monitor_of-slot_of shape d.monitor d.instance at.below small in
      record {
        monitor = at.below;
        instance_fits = small;
        hit = rule-fits f.kind.spec (table_at (opened monitors tables tasks) (slot_of shape d.monitor d.instance)) d.hit
            (subst (λ n. IsTableOf f.kind.spec (slice_index_or tables n no_table)) (sym monitor) at.table.compiles.is) f.hit;
      }

  -- ---- lanes

  -- what holds of all works holds of the work of each lane
  all_works : (P : Work → Type 0) (lanes : List LaneValue) → All P (works_of lanes) → All (λ (l : LaneValue). P l.work) lanes
  all_works P [] all = All-nil (λ (l : LaneValue). P l.work)
  all_works P (lane ∷ lanes) all = All-cons (λ (l : LaneValue). P l.work) lane lanes (All-head P lane.work (works_of lanes) all) (all_works P lanes (All-tail P lane.work (works_of lanes) all))

  -- the lanes ascend by CPU, where their works do
  pair_works : (lanes : List LaneValue) → AllPairs (λ (w v : Work). w.cpu < v.cpu) (works_of lanes) → AllPairs (λ (l m : LaneValue). l.work.cpu < m.work.cpu) lanes
  pair_works lanes pairs i j d lt within =
      let many = works_counted lanes in
      let below = pairs i j d.work lt (omega arith) in
      subst (λ (w : Work). w.cpu < (get_or lanes j d).work.cpu) (get_or-works lanes i d) (subst (λ (v : Work). (get_or (works_of lanes) i d.work).cpu < v.cpu) (get_or-works lanes j d) below)

  -- lanes that ascend by CPU are of different CPUs
  lanes_apart : (lanes : List LaneValue) → AllPairs (λ (l m : LaneValue). l.work.cpu < m.work.cpu) lanes → AllPairs (λ (l m : LaneValue). l.work.cpu ≢ m.work.cpu) lanes
  lanes_apart lanes pairs i j d lt within e = let below = pairs i j d lt within in absurd (omega arith)

  -- each new lane fits the setup, where the works fit the monitors
  each_fits : (lanes : List LaneValue) → WorksFit (kinds_of monitors) tasks (works_of lanes) → All (λ (l : LaneValue). IsNewLane l.work l) lanes → All (FitsLane (opened monitors tables tasks)) lanes
  each_fits lanes f new i d within = record {
    new_lane = new i d within;
    cpu = all_works (λ (w : Work). w.cpu < 64) lanes f.cpus_below i d within;
    lines = all_works (λ (w : Work). AllPairs (λ (t u : Turn). t.line < u.line) w.turns) lanes f.lines i d within;
    fit =
        let w : Work = (get_or lanes i d).work in
        All-weaker (FitsKindOf (kinds_of monitors) tasks w.cpu) (FitsDelivery (opened monitors tables tasks)) (delivery_fits w.cpu) w.deliveries
        (all_works (λ (w : Work). All (FitsKindOf (kinds_of monitors) tasks w.cpu) w.deliveries) lanes f.deliveries i d within);
  }

  -- new lanes of routed works fit the setup
  pub lanes_fit : (works : List Work) (lanes : List LaneValue) → WorksFit (kinds_of monitors) tasks works → works_of lanes ≡ works → All (λ (l : LaneValue). IsNewLane l.work l) lanes → FitLanes (opened monitors tables tasks) lanes
  lanes_fit works lanes fit is new =
      let f : WorksFit (kinds_of monitors) tasks (works_of lanes) = subst (WorksFit (kinds_of monitors) tasks) (sym is) fit in
      record { fit = each_fits lanes f new; cpus = lanes_apart lanes (pair_works lanes f.cpus); apart = f.apart }

-- ---- lists that are made of the monitors

-- with one monitor more, the list is still made of the monitors so far
pub one_more : {Y : Type 0} (f : Monitor → Y) (monitors : List Monitor) (place : ℕ) (m : Monitor) (old new : List Y) → place < length monitors → m ≡ slice_index_or monitors place m → old ≡ map f (take place monitors) → new ≡ old ++ f m ∷ []
    → new ≡ map f (take (place + 1) monitors)
one_more {Y} f monitors place m old new within is so_far added =
    added ∙ ap (λ (ys : List Y). ys ++ f m ∷ []) so_far ∙ ap (λ (n : Monitor). map f (take place monitors) ++ f n ∷ []) is ∙ sym (map_more f monitors place m within)

-- at the end it is made of all of them
pub all_made : {Y : Type 0} (f : Monitor → Y) (monitors : List Monitor) (place : ℕ) (made : List Y) → length monitors ≤ place → made ≡ map f (take place monitors) → made ≡ map f monitors
all_made f monitors place made past so_far = so_far ∙ ap (map f) (take_all place monitors past)

-- ---- lanes as they are made

-- with one lane more, the lanes' works and those that are left are still all works
pub lane_added : (lanes more : List LaneValue) (lane : LaneValue) (items rest all : List Work) (work : Work) → items ≡ work ∷ rest → works_of lanes ++ items ≡ all → lane.work ≡ work → more ≡ lanes ++ lane ∷ [] → works_of more ++ rest ≡ all
lane_added lanes more lane items rest all work split so_far is added =
    ap (λ (ls : List LaneValue). works_of ls ++ rest) added ∙ ap (λ (ws : List Work). ws ++ rest) (map-append (λ (l : LaneValue). l.work) lanes (lane ∷ []))
    ∙ append_assoc (works_of lanes) (lane.work ∷ []) rest ∙ ap (λ (w : Work). works_of lanes ++ w ∷ rest) is ∙ ap (λ (ws : List Work). works_of lanes ++ ws) (sym split) ∙ so_far

-- the lanes are still new with one new lane more
pub lanes_new : (lanes more : List LaneValue) (lane : LaneValue) (work : Work) → All (λ (l : LaneValue). IsNewLane l.work l) lanes → IsNewLane work lane → more ≡ lanes ++ lane ∷ [] → All (λ (l : LaneValue). IsNewLane l.work l) more
lanes_new lanes more lane work all is added =
    subst (λ (ls : List LaneValue). All (λ (l : LaneValue). IsNewLane l.work l) ls) (sym added)
    (All-push (λ (l : LaneValue). IsNewLane l.work l) lanes lane all (record { work_is = refl; no_records = is.no_records; room = subst (λ (w : Work). length w.deliveries ≤ lane.room) (sym is.work_is) is.room }))

-- ---- monitors by CPU

-- the kind of a monitor
kind_at : (monitors : List Monitor) (place : ℕ) (m : Monitor) → slice_get monitors place ≡ Some m → slice_get (kinds_of monitors) place ≡ Some (kind_of m)
kind_at [] place m e = cc
kind_at (first ∷ monitors) zero m e = let same : first ≡ m = cc in ap (λ (n : Monitor). Some (kind_of n)) same
kind_at (first ∷ monitors) (suc place) m e = kind_at monitors place m e

-- a delivery that fits its CPU is to the CPU's own instance of a monitor by CPU
own_instance : (monitors : List Monitor) (tasks place cpu : ℕ) → HasCpus monitors place → (d : Delivery) → FitsKindOf (kinds_of monitors) tasks cpu d → d.monitor ≡ place → d.instance ≡ cpu
own_instance monitors tasks place cpu has d f at =
    let both : Some f.kind ≡ Some (kind_of has.monitor) = sym f.there ∙ ap (slice_get (kinds_of monitors)) at ∙ kind_at monitors place has.monitor has.there in
    let same : f.kind ≡ kind_of has.monitor = cc in
    f.by_cpu (ap (λ (k : MonitorKind). k.scope) same ∙ has.scope)

-- routed works are to the CPUs' own instances of a monitor by CPU
works_own : (monitors : List Monitor) (tasks : ℕ) (works : List Work) → WorksFit (kinds_of monitors) tasks works → (place : ℕ) → HasCpus monitors place → IsByCpu works place
works_own monitors tasks works fit place has =
    All-weaker (λ (w : Work). All (FitsKindOf (kinds_of monitors) tasks w.cpu) w.deliveries) (λ (w : Work). All (λ (d : Delivery). d.monitor ≡ place → d.instance ≡ w.cpu) w.deliveries)
    (λ w all. All-weaker (FitsKindOf (kinds_of monitors) tasks w.cpu) (λ (d : Delivery). d.monitor ≡ place → d.instance ≡ w.cpu) (own_instance monitors tasks place w.cpu has) w.deliveries all) works fit.deliveries

-- ---- all of it

-- the setup is the monitors' and has their tables, the lanes fit and ascend by CPU, and their works fit
pub record Made (monitors : List Monitor) (setup : Setup) (tasks : ℕ) (lanes : List LaneValue) : Type 0 where
  pub again : setup ≡ opened monitors setup.tables tasks
  pub mean : AllMean (map (λ (m : Monitor). m.spec) monitors) setup.tables
  pub fit : FitLanes setup lanes
  pub ascend : AllPairs (λ (l m : LaneValue). l.work.cpu < m.work.cpu) lanes
  pub by_cpu : (place : ℕ) → HasCpus monitors place → IsByCpu (works_of lanes) place
  pub tables : HaveTables (kinds_of monitors) setup.tables
  pub routed : WorksFit (kinds_of monitors) tasks (works_of lanes)

-- it is so of new lanes of works that fit, with the setup that the monitors open with
pub ready_made : (monitors given : List Monitor) (tables : List Table) (setup : Setup) (n tasks : ℕ) (works : List Work) (lanes : List LaneValue) → HaveTables (kinds_of monitors) tables → WorksFit (kinds_of monitors) tasks works
    → setup ≡ opened given tables n → given ≡ monitors → n ≡ tasks → works_of lanes ≡ works → All (λ (l : LaneValue). IsNewLane l.work l) lanes → Made monitors setup tasks lanes
ready_made monitors given tables setup n tasks works lanes have fit setup_is same many works_are new =
    let is : setup ≡ opened monitors tables tasks = setup_is ∙ ap (λ (ms : List Monitor). opened ms tables n) same ∙ ap (opened monitors tables) many in
    let tables_are : setup.tables ≡ tables = ap (λ (s : Setup). s.tables) is in
    let routed : WorksFit (kinds_of monitors) tasks (works_of lanes) = subst (WorksFit (kinds_of monitors) tasks) (sym works_are) fit in
    record {
      again = is ∙ ap (λ (ts : List Table). opened monitors ts tasks) (sym tables_are);
      mean = subst (λ (ts : List Table). AllMean (map (λ (m : Monitor). m.spec) monitors) ts) (sym tables_are) (tables_mean monitors tables have);
      fit = subst (λ (s : Setup). FitLanes s lanes) (sym is) (lanes_fit monitors tables tasks have works lanes fit works_are new);
      ascend = pair_works monitors tables tasks have lanes routed.cpus;
      by_cpu = works_own monitors tasks (works_of lanes) routed;
      tables = subst (HaveTables (kinds_of monitors)) (sym tables_are) have;
      routed = routed;
    }
