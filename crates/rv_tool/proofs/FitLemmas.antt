-- What the opening switches show on of routed works fits the counted words.
use Rattle.std.proofs.Common.{◌≡◌, ◌≢◌, ℕ, zero, suc, ◌+◌, ◌-◌, ◌<◌, ◌≤◌, ◌^◌, Bool, true, false, List, [], ◌∷◌, length, map, get_or, refl, sym, ap, subst, arith}
use Rattle.std.specs.Prelude.{All, MatchBool, Some, slice_get, slice_index, slice_index_or}
use Rattle.std.specs.List.{AllZip}
use Rattle.std.proofs.Math.Pow.{pow_mono}
use Rattle.std.proofs.lemmas.Bool.{and_parts}
use Rattle.std.proofs.lemmas.List.Elements.{AllZip-get_or, length_all_zip}
use Rattle.rv_model.specs.declared.formula.Spec.{Spec}
use Rattle.rv_model.specs.declared.formula.Spec.TheVariants as specs
use Rattle.rv_model.specs.declared.hit.Hit.{Hit}
use Rattle.rv_model.specs.declared.hit.Mode.{Mode}
use Rattle.rv_model.specs.declared.hit.Mode.TheVariants as modes
use Rattle.rv_model.specs.declared.hit.What.{What}
use Rattle.rv_model.specs.declared.hit.What.TheVariants as whats
use Rattle.rv_model.specs.declared.work.Delivery.{Delivery}
use Rattle.rv_model.specs.Scripts.{is_end}
use Rattle.rv_model.specs.Setups.{Setup, monitor_of, slot_of}
use Rattle.rv_model.specs.Table.{Table, Node, of_labels}
use Rattle.rv_model.specs.Works.{Work}
use Rattle.rv_slots.specs.Shapes.{count_of}
use Rattle.rv_slots.proofs.ShapeLemmas.{monitor_of-slot_of}
use Rattle.rv_table.specs.Rows.{row_count}
use Rattle.rv_core.specs.Advance.{RunsItsEvent, FitsKind, FitsTable, FitsHit}
use Rattle.rv_core.specs.Setup.{no_table, table_at}
use Rattle.rv_bind.specs.declared.bindings.Monitor.{Monitor}
use Rattle.rv_bind.specs.Compiling.{IsTableOf}
use Rattle.rv_bind.specs.WellFormed.{MonitorKind, kind_of, kinds_of, FitsAtoms, FitsSpec, FitsRule, HasTable, HaveTables}
use Rattle.rv_bind.proofs.TableLemmas.{labelled}
use Rattle.rv_route.specs.Fitting.{FitsKindOf, WorksFit}
use Rattle.rv_journal.specs.CountedLanes.{FitsCounted}
use Rattle.rv_journal.specs.CountedWords.{IsBelow}
use Rattle.rv_journal.specs.Running.{FitsCountedWork}
use Rattle.rv_journal.specs.Enabled.{IsEnabledWork}
use Rattle.rv_journal.proofs.EnabledFitLemmas.{shown-fits}
use Rattle.rv_tool.specs.CountsFit.{atom_count, monitor_fits_counts, monitors_fit_counts}
use Rattle.rv_tool.proofs.CountsFitLemmas.{narrow-room}

-- ---- one monitor

-- what stands at a monitor's place
record At (monitors : List Monitor) (tables : List Table) (tasks place : ℕ) (kind : MonitorKind) : Type 0 where
  below : place < length (map (count_of tasks) (map (λ (m : Monitor). m.scope) monitors))
  count : slice_index (map (count_of tasks) (map (λ (m : Monitor). m.scope) monitors)) place ≡ count_of tasks kind.scope
  table : HasTable kind (slice_index_or tables place no_table)
  narrow : row_count (slice_index_or tables place no_table) + atom_count kind.spec ≤ 32

-- at a monitor's place stand how many instances it has, and its narrow table
at-place : (monitors : List Monitor) (tables : List Table) (tasks place : ℕ) (kind : MonitorKind) → slice_get (kinds_of monitors) place ≡ Some kind → HaveTables (kinds_of monitors) tables → monitors_fit_counts monitors tables ≡ true → At monitors tables tasks place kind
at-place [] tables tasks place kind there have narrow = cc
at-place (m ∷ monitors) [] tasks place kind there have narrow = absurd have
at-place (m ∷ monitors) (t ∷ tables) tasks zero kind there have narrow =
    let same : kind_of m ≡ kind = cc in
    let room = narrow-room m t (and_parts (monitor_fits_counts m t) (monitors_fit_counts monitors tables) narrow).0 in
    record {
      below = omega arith;
      count = ap (λ (k : MonitorKind). count_of tasks k.scope) same;
      table = subst (λ (k : MonitorKind). HasTable k t) same have.0;
      narrow = subst (λ (k : MonitorKind). row_count t + atom_count k.spec ≤ 32) same room;
    }
at-place (m ∷ monitors) (t ∷ tables) tasks (suc place) kind there have narrow =
    let rest = at-place monitors tables tasks place kind there have.1 (and_parts (monitor_fits_counts m t) (monitors_fit_counts monitors tables) narrow).1 in
    record { below = let b = rest.below in omega arith; count = rest.count; table = rest.table; narrow = rest.narrow }

-- ---- one delivery

-- a mode that is no end, and no start without its event, runs its event
runs : (mode : Mode) → is_end mode ≡ false → mode ≢ modes.Start → RunsItsEvent mode
runs modes.Event goes h = tt
runs modes.Start goes h = absurd (h refl)
runs modes.StartRun goes h = tt
runs modes.End goes h = absurd (let n : true ≡ false = goes in cc)

-- a change of atoms fits a table with labels
label-fits : (nodes : List Node) (count : ℕ) (mode : Mode) (what : What) → is_end mode ≡ false → mode ≢ modes.Start → FitsAtoms count what → FitsKind (of_labels nodes) mode what
label-fits nodes count mode (whats.Da event) goes run fits = absurd fits
label-fits nodes count mode (whats.Ltl on off pulse) goes run fits = runs mode goes run
label-fits nodes count mode whats.Nothing goes run fits = absurd fits

-- a hit that is no end and fits a specification fits its table
hit-fits : (spec : Spec) (t : Table) (mode : Mode) (what : What) → IsTableOf spec t → is_end mode ≡ false → FitsSpec spec (record { mode = mode; what = what }) → FitsKind t mode what
hit-fits (specs.Ltl rule) t mode what is goes fits =
    let labels = labelled rule.formula t is in
    subst (λ (u : Table). FitsKind u mode what) (sym labels.1) (label-fits labels.0 (length rule.atoms) mode what goes fits.0 fits.1)
hit-fits (specs.Da a) t mode (whats.Da event) is goes fits = subst (λ (u : Table). FitsKind u mode (whats.Da event)) (sym is) fits
hit-fits (specs.Da a) t mode (whats.Ltl on off pulse) is goes fits = absurd fits
hit-fits (specs.Da a) t mode whats.Nothing is goes fits = absurd fits

-- what fits as a rule's hit fits the table, or ends the instance
pub rule-fits : (spec : Spec) (t : Table) (hit : Hit) → IsTableOf spec t → FitsRule spec hit → FitsHit t hit
rule-fits spec t hit is fits = go (is_end hit.mode) refl fits
  where
    go : (b : Bool) → is_end hit.mode ≡ b → MatchBool b (hit.what ≡ whats.Nothing) (FitsSpec spec hit) → MatchBool b (hit.what ≡ whats.Nothing) (FitsTable t hit)
    go true e f = f
    go false e f = (e, hit-fits spec t hit.mode hit.what is e f)

-- what fits as a rule's hit and is no end fits the specification
spec-fits : (spec : Spec) (hit : Hit) → is_end hit.mode ≡ false → FitsRule spec hit → FitsSpec spec hit
spec-fits spec hit goes fits = go (is_end hit.mode) goes fits
  where
    go : (b : Bool) → b ≡ false → MatchBool b (hit.what ≡ whats.Nothing) (FitsSpec spec hit) → FitsSpec spec hit
    go true e f = absurd (let n : true ≡ false = e in cc)
    go false e f = f

-- a number of few bits is one of more bits
wider : (count levels n : ℕ) → count ≤ levels → n < 2 ^ count → n < 2 ^ levels
wider count levels n le lt = let more : 2 ^ count ≤ 2 ^ levels = pow_mono le in omega arith

-- sets of atoms are below the levels that there is room for
atoms-below : (count levels : ℕ) (what : What) → count ≤ levels → FitsAtoms count what → IsBelow levels what
atoms-below count levels (whats.Da event) le fits = absurd fits
atoms-below count levels whats.Nothing le fits = absurd fits
atoms-below count levels (whats.Ltl on off pulse) le fits = (wider count levels on le fits.0, wider count levels off le fits.1, wider count levels pulse le fits.2)

-- what fits a narrow specification is below the levels that its rows leave room for
what-below : (spec : Spec) (mode : Mode) (what : What) (rows : ℕ) → rows + atom_count spec ≤ 32 → FitsSpec spec (record { mode = mode; what = what }) → IsBelow (32 - rows) what
what-below (specs.Ltl rule) mode what rows narrow fits = atoms-below (length rule.atoms) (32 - rows) what (omega arith) fits.1
what-below (specs.Da a) mode (whats.Da event) rows narrow fits = tt
what-below (specs.Da a) mode (whats.Ltl on off pulse) rows narrow fits = absurd fits
what-below (specs.Da a) mode whats.Nothing rows narrow fits = absurd fits

-- ---- works

-- the setup is that of accepted bindings and so many tasks
pub record IsOpened (monitors : List Monitor) (tasks : ℕ) (s : Setup) : Type 0 where
  pub shape : s.shape ≡ map (count_of tasks) (map (λ m. m.scope) monitors)
  pub tables : HaveTables (kinds_of monitors) s.tables
  pub starts : s.starts ≡ map (λ m. m.starting) monitors

-- no delivery of the works ends its instance
abbrev pub HaveNoEnds : List Work → Type 0
HaveNoEnds works = All (λ w. All (λ d. is_end d.hit.mode ≡ false) w.deliveries) works

module _ (monitors : List Monitor) (tasks : ℕ) (s : Setup) (opened : IsOpened monitors tasks s) (narrow : monitors_fit_counts monitors s.tables ≡ true) where
  -- a delivery to an instance of a monitor that it fits
  delivery-fits : (cpu : ℕ) (d : Delivery) → FitsKindOf (kinds_of monitors) tasks cpu d → is_end d.hit.mode ≡ false → FitsCounted s d
  delivery-fits cpu d f goes =
      let fits : FitsSpec f.kind.spec d.hit = spec-fits f.kind.spec d.hit goes f.hit in
      let at = at-place monitors s.tables tasks d.monitor f.kind f.there opened.tables narrow in
      let below : d.monitor < length s.shape = subst (λ (z : List ℕ). d.monitor < length z) (sym opened.shape) at.below in
      let small : d.instance < slice_index s.shape d.monitor =
      subst (λ (z : List ℕ). d.instance < slice_index z d.monitor) (sym opened.shape) (subst (λ (n : ℕ). d.instance < n) (sym at.count) f.instance_fits) in
      let monitor : monitor_of s.shape (slot_of s.shape d.monitor d.instance) ≡ d.monitor = monitor_of-slot_of s.shape d.monitor d.instance below small in
      let table : table_at s (slot_of s.shape d.monitor d.instance) ≡ slice_index_or s.tables d.monitor no_table = ap (λ (n : ℕ). slice_index_or s.tables n no_table) monitor in
      record {
        monitor = below;
        instance_fits = small;
        hit = (goes, subst (λ (t : Table). FitsKind t d.hit.mode d.hit.what) (sym table) (hit-fits f.kind.spec (slice_index_or s.tables d.monitor no_table) d.hit.mode d.hit.what at.table.compiles.is goes fits));
        levels = subst (λ (t : Table). IsBelow (32 - row_count t) d.hit.what) (sym table) (what-below f.kind.spec d.hit.mode d.hit.what (row_count (slice_index_or s.tables d.monitor no_table)) at.narrow fits);
      }

  -- what the opening switches show on of routed works fits the counted words, where the monitors are narrow and no delivery ends an instance
  pub works-fit : (works shown : List Work) → WorksFit (kinds_of monitors) tasks works → HaveNoEnds works → AllZip (IsEnabledWork s.switches) works shown → All (FitsCountedWork s) shown
  works-fit works shown fit goes zip place none below =
      let many = length_all_zip (IsEnabledWork s.switches) works shown zip in
      let within : place < length works = omega arith in
      let w : Work = get_or works place none in
      let few = fit.few place none within in
      let fits : All (FitsCounted s) w.deliveries = (λ i d low. delivery-fits w.cpu (get_or w.deliveries i d) (fit.deliveries place none within i d low) (goes place none within i d low)) in
      shown-fits s w (get_or shown place none) (fit.cpus_below place none within) (omega arith) fits (AllZip-get_or (IsEnabledWork s.switches) works shown place none none zip within)
