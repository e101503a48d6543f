-- A change of a monitor, or of its starting value, keeps bindings well formed.
use Rattle.std.proofs.Common.{◌≡◌, ℕ, zero, suc, true, List, [], ◌∷◌, map, length, refl, sym, ap, subst}
use Rattle.std.specs.Prelude.{Option, Some, None, Result, Ok, Err, slice_get}
use Rattle.std.proofs.lemmas.List.Elements.{All-weaker}
use Rattle.rv_model.specs.declared.work.Scope.{Scope}
use Rattle.rv_model.specs.declared.formula.Spec.{Spec}
use Rattle.rv_model.specs.Table.{Table}
use Rattle.rv_bind.specs.declared.bindings.Monitor.{Monitor}
use Rattle.rv_bind.specs.LineWords.{after}
use Rattle.rv_bind.specs.Values.{OnValue, BoundValue}
use Rattle.rv_bind.specs.Changes.{atom_bit}
use Rattle.rv_bind.specs.MonitorLines.{allows_by, monitors_with, bindings_with, change_bound, beginning, begin_at, begin_bound}
use Rattle.rv_bind.specs.WellFormed.{MonitorKind, kind_of, kinds_of, FitsRule, HaveTables, FitsKind, IsWellFormed}
use Rattle.rv_bind.proofs.ChangeLemmas.{starts_more}

-- ---- a change of a monitor

-- a change that keeps what is seen of each monitor keeps what is seen of the list
monitors_with-map : {X : Type 0} (change : Monitor → Monitor) (f : Monitor → X) → ((m : Monitor) → f (change m) ≡ f m) → (monitors : List Monitor) (place : ℕ) → map f (monitors_with change monitors place) ≡ map f monitors
monitors_with-map change f same [] place = refl
monitors_with-map change f same (m ∷ monitors) zero = ap (λ x. x ∷ map f monitors) (same m)
monitors_with-map change f same (m ∷ monitors) (suc place) = ap (λ xs. f m ∷ xs) (monitors_with-map change f same monitors place)

-- a change of one monitor keeps their number
monitors_with-length : (change : Monitor → Monitor) (monitors : List Monitor) (place : ℕ) → length (monitors_with change monitors place) ≡ length monitors
monitors_with-length change [] place = refl
monitors_with-length change (m ∷ monitors) zero = refl
monitors_with-length change (m ∷ monitors) (suc place) = ap (λ n. suc n) (monitors_with-length change monitors place)

-- a change that leaves what tables and rules go by
pub change_formed : (b after : BoundValue) (place : Option ℕ) (change : Monitor → Monitor) → ((m : Monitor) → kind_of (change m) ≡ kind_of m) → ((m : Monitor) → (change m).container ≡ m.container)
    → ((m : Monitor) → (change m).name ≡ m.name) → IsWellFormed b → change_bound b place change ≡ Ok after → IsWellFormed after
change_formed b after None change kind holder name w e = cc
change_formed b after (Some place) change kind holder name w e =
    let is : bindings_with b change place ≡ after = cc in
    subst IsWellFormed is (record {
      few_containers = w.few_containers;
      few_monitors = rw (monitors_with-length change b.monitors place) w.few_monitors;
      few_rules = w.few_rules;
      tables = rw (monitors_with-map change kind_of kind b.monitors place) w.tables;
      rules = rw (monitors_with-map change kind_of kind b.monitors place) w.rules;
      holders = rw (monitors_with-map change (λ m. m.container) holder b.monitors place) w.holders;
      items = rw (monitors_with-length change b.monitors place) w.items;
      distinct = rw (monitors_with-map change (λ m. m.name) name b.monitors place) w.distinct;
      named = rw (monitors_with-map change (λ m. m.name) name b.monitors place) w.named;
    })

-- ---- an atom that starts true

-- a kind that differs in its starting value alone
record Began (kinds : List MonitorKind) (i : ℕ) (kind : MonitorKind) : Type 0 where
  other : MonitorKind
  there : slice_get kinds i ≡ Some other
  scope : other.scope ≡ kind.scope
  spec : other.spec ≡ kind.spec

-- where an atom starts true, each kind differs at most in its starting value
kinds-began : (bit : ℕ) (monitors : List Monitor) (place i : ℕ) (kind : MonitorKind) → slice_get (kinds_of monitors) i ≡ Some kind → Began (kinds_of (monitors_with (beginning bit) monitors place)) i kind
kinds-began bit [] place i kind e = cc
kinds-began bit (m ∷ monitors) zero zero kind e =
    let same : kind_of m ≡ kind = cc in
    record { other = kind_of (beginning bit m); there = refl; scope = ap (λ (k : MonitorKind). k.scope) same; spec = ap (λ (k : MonitorKind). k.spec) same }
kinds-began bit (m ∷ monitors) zero (suc i) kind e = record { other = kind; there = e; scope = refl; spec = refl }
kinds-began bit (m ∷ monitors) (suc place) zero kind e = record { other = kind; there = e; scope = refl; spec = refl }
kinds-began bit (m ∷ monitors) (suc place) (suc i) kind e =
    let later = kinds-began bit monitors place i kind e in
    record { other = later.other; there = later.there; scope = later.scope; spec = later.spec }

-- a rule that fits the monitors fits them where an atom starts true
fits-began : (bit : ℕ) (monitors : List Monitor) (place : ℕ) (r : OnValue) → FitsKind (kinds_of monitors) r → FitsKind (kinds_of (monitors_with (beginning bit) monitors place)) r
fits-began bit monitors place r f =
    let began = kinds-began bit monitors place r.monitor f.kind f.there in
    record {
      kind = began.other;
      there = began.there;
      hit = subst (λ (s : Spec). FitsRule s r.hit) (sym began.spec) f.hit;
      by = subst (λ (s : Scope). allows_by s r.by ≡ true) (sym began.scope) f.by;
    }

module _ (atom : List ℕ) (bit : ℕ) (m : Monitor) (found : atom_bit m.spec atom ≡ Ok bit) where
  -- where an atom starts true, the monitors still have their tables
  tables-began : (monitors : List Monitor) (tables : List Table) (place : ℕ) → slice_get monitors place ≡ Some m → HaveTables (kinds_of monitors) tables → HaveTables (kinds_of (monitors_with (beginning bit) monitors place)) tables
  tables-began [] tables place e h = cc
  tables-began (x ∷ monitors) [] place e h = absurd h
  tables-began (x ∷ monitors) (t ∷ tables) zero e h =
      let same : x ≡ m = cc in
      (record { compiles = h.0.compiles; starting = starts_more x.spec atom x.starting bit (subst (λ (y : Monitor). atom_bit y.spec atom ≡ Ok bit) (sym same) found) h.0.starting }, h.1)
  tables-began (x ∷ monitors) (t ∷ tables) (suc place) e h = (h.0, tables-began monitors tables place e h.1)

  -- bindings in which an atom starts true too stay well formed
  began_formed : (b : BoundValue) (place : ℕ) → slice_get b.monitors place ≡ Some m → IsWellFormed b → IsWellFormed (bindings_with b (beginning bit) place)
  began_formed b place there w = record {
    few_containers = w.few_containers;
    few_monitors = rw (monitors_with-length (beginning bit) b.monitors place) w.few_monitors;
    few_rules = w.few_rules;
    tables = tables-began b.monitors b.tables place there w.tables;
    rules = All-weaker (FitsKind (kinds_of b.monitors)) (FitsKind (kinds_of (monitors_with (beginning bit) b.monitors place))) (fits-began bit b.monitors place) b.rules w.rules;
    holders = rw (monitors_with-map (beginning bit) (λ m. m.container) (λ m. refl) b.monitors place) w.holders;
    items = rw (monitors_with-length (beginning bit) b.monitors place) w.items;
    distinct = rw (monitors_with-map (beginning bit) (λ m. m.name) (λ m. refl) b.monitors place) w.distinct;
    named = rw (monitors_with-map (beginning bit) (λ m. m.name) (λ m. refl) b.monitors place) w.named;
  }

-- an atom that starts true at the monitor of a place keeps bindings well formed
begin_at_formed : (b done : BoundValue) (place : ℕ) (atom : List ℕ) → IsWellFormed b → (m : Option Monitor) → slice_get b.monitors place ≡ m → begin_at b place m atom ≡ Ok done → IsWellFormed done
begin_at_formed b done place atom w None there e = cc
begin_at_formed b done place atom w (Some m) there e = go (atom_bit m.spec atom) refl e
  where
    go : (bit : Result ℕ ℕ) → atom_bit m.spec atom ≡ bit → after bit (λ bit. Ok (bindings_with b (beginning bit) place)) ≡ Ok done → IsWellFormed done
    go (Err number) found e = cc
    go (Ok bit) found e = let is : bindings_with b (beginning bit) place ≡ done = cc in subst IsWellFormed is (began_formed atom bit m found b place there w)

-- a line by which an atom starts true keeps bindings well formed
pub begin_formed : (b done : BoundValue) (place : Option ℕ) (atom : List ℕ) → IsWellFormed b → begin_bound b place atom ≡ Ok done → IsWellFormed done
begin_formed b done None atom w e = cc
begin_formed b done (Some place) atom w e = begin_at_formed b done place atom w (slice_get b.monitors place) refl e
