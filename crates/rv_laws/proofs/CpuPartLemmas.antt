-- Where all monitors are by CPU, the work of a CPU is a part.
use Rattle.std.proofs.Common.{◌≡◌, ◌≢◌, ℕ, zero, suc, Bool, true, false, ◌==◌, List, [], ◌∷◌, ◌++◌, arith, refl, sym, ap, ◌∙◌, subst}
use Rattle.std.specs.Prelude.{filter, All, Contains, slice_index_or}
use Rattle.std.proofs.lemmas.List.{map-id}
use Rattle.std.proofs.lemmas.List.Elements.{All-contains, All-filter, filter-append}
use Rattle.std.proofs.lemmas.List.Kept.{AllPairs-filter}
use Rattle.rv_model.specs.Works.{Work}
use Rattle.rv_laws.specs.CpuParts.{is_of_cpu, CpuWorkIsPart}
use Rattle.rv_laws.specs.SingleWriter.{HasInstance, IsByCpu}
use Rattle.rv_laws.specs.Parts.{Placed, placed_of, placed_in, keeps}
use Rattle.rv_laws.proofs.KnownLemmas.{every-turn}
use Rattle.rv_laws.proofs.ListLemmas.{Every, every-weaker, filter-all, filter-none, filter-twice}

-- one of some is one of all
contains-filter : (test : Work → Bool) (works : List Work) (w : Work) → Contains (filter test works) w → Contains works w
contains-filter test [] w has = has
contains-filter test (v ∷ works) w has = go (test v) refl (contains-filter test works w)
  where
    later : Contains works w → Contains (v ∷ works) w
    later found = (suc (found.0), (let l = found.1 in omega arith), found.2)

    kept : Contains (v ∷ filter test works) w → (Contains (filter test works) w → Contains works w) → Contains (v ∷ works) w
    kept (zero, lt, at) rest = (0, omega arith, at)
    kept (suc k, lt, at) rest = later (rest (k, omega arith, at))

    go : (b : Bool) → test v ≡ b → (Contains (filter test works) w → Contains works w) → Contains (v ∷ works) w
    go true yes' rest = let all : filter test (v ∷ works) ≡ v ∷ filter test works = rw yes' refl in kept (subst (λ (z : List Work). Contains z w) all has) rest
    go false no' rest = let all : filter test (v ∷ works) ≡ filter test works = rw no' refl in later (rest (subst (λ (z : List Work). Contains z w) all has))

-- a delivery of a work is to the instance of its CPU
abbrev pub IsOwn : Work → Type 0
IsOwn w = Every (λ p. p.delivery.instance ≡ w.cpu) (placed_of w)

module _ (works : List Work) (by : (monitor : ℕ) → IsByCpu works monitor) where
  -- so is each of a work's
  own-of : (w : Work) → Contains works w → IsOwn w
  own-of w has = every-turn (λ d. d.instance ≡ w.cpu) w.cpu w.deliveries w.turns all
    where
      all : All (λ d. d.instance ≡ w.cpu) w.deliveries
      all k d lt = All-contains (λ v. All (λ e. e.monitor ≡ (slice_index_or w.deliveries k d).monitor → e.instance ≡ v.cpu) v.deliveries) works w (by (slice_index_or w.deliveries k d).monitor) has k d lt refl

  -- some of the works
  pub owns : (some : List Work) → ((w : Work) → Contains some w → Contains works w) → Every IsOwn some
  owns [] each = tt
  owns (w ∷ some) each = (own-of w (each w (0, omega arith, refl)), owns some (λ v has. each v (suc (has.0), (let l = has.1 in omega arith), has.2)))

module _ (cpu : ℕ) where
  -- the work is the CPU's
  abbrev test : Work → Bool
  test w = w.cpu == cpu

  -- the deliveries to its instances are those of its work
  pub kept-works : (works : List Work) → Every IsOwn works → filter (keeps (is_of_cpu cpu)) (placed_in works) ≡ placed_in (filter test works)
  kept-works [] own = refl
  kept-works (w ∷ works) own = filter-append (keeps (is_of_cpu cpu)) (placed_of w) (placed_in works) ∙ go (test w) refl (kept-works works own.1)
    where
      go : (b : Bool) → test w ≡ b → filter (keeps (is_of_cpu cpu)) (placed_in works) ≡ placed_in (filter test works)
          → filter (keeps (is_of_cpu cpu)) (placed_of w) ++ filter (keeps (is_of_cpu cpu)) (placed_in works) ≡ placed_in (filter test (w ∷ works))
      go true mine rest =
          let all : filter (keeps (is_of_cpu cpu)) (placed_of w) ≡ placed_of w =
          filter-all (keeps (is_of_cpu cpu)) (placed_of w) (every-weaker (λ p. p.delivery.instance ≡ w.cpu) (λ p. keeps (is_of_cpu cpu) p ≡ true) (λ p is. ap (λ (n : ℕ). n == cpu) is ∙ mine) (placed_of w) own.0) in
          let right : placed_in (filter test (w ∷ works)) ≡ placed_of w ++ placed_in (filter test works) = rw mine refl in
          ap (λ (z : List Placed). z ++ filter (keeps (is_of_cpu cpu)) (placed_in works)) all ∙ ap (λ (z : List Placed). placed_of w ++ z) rest ∙ sym right
      go false other rest =
          let none : filter (keeps (is_of_cpu cpu)) (placed_of w) ≡ [] =
          filter-none (keeps (is_of_cpu cpu)) (placed_of w) (every-weaker (λ p. p.delivery.instance ≡ w.cpu) (λ p. keeps (is_of_cpu cpu) p ≡ false) (λ p is. ap (λ (n : ℕ). n == cpu) is ∙ other) (placed_of w) own.0) in
          let right : placed_in (filter test (w ∷ works)) ≡ placed_in (filter test works) = rw other refl in
          ap (λ (z : List Placed). z ++ filter (keeps (is_of_cpu cpu)) (placed_in works)) none ∙ rest ∙ sym right

-- the law
pub cpu_work_is_part : CpuWorkIsPart
cpu_work_is_part input js h k cpu plain by judges one one' =
    let own = owns input.works by input.works (λ w has. has) in
    let kept = kept-works cpu input.works own in
    let mine = λ (w : Work). w.cpu == cpu in
    record {
      plain = plain;
      part_plain = record {
        steady = record { no_changes = plain.steady.no_changes; no_panics = plain.steady.no_panics };
        cpus = AllPairs-filter (λ w v. w.cpu ≢ v.cpu) mine input.works plain.cpus;
        apart = λ w v t u has has'. plain.apart w v t u (contains-filter mine input.works w has) (contains-filter mine input.works v has');
        instances = All-filter mine (λ w. All (λ d. HasInstance input.setup.shape d.monitor d.instance) w.deliveries) input.works plain.instances;
      };
      numbers = record { lines = λ a b le. le; orders = λ a b lt. lt; instances = λ monitor a b has has' same. same };
      is_part = record {
        deliveries = ap (filter (keeps (is_of_cpu cpu))) (map-id (placed_in (filter mine input.works)) ∙ sym kept) ∙ filter-twice (keeps (is_of_cpu cpu)) (placed_in input.works);
        specs = refl;
        tables = refl;
        starts = refl;
        switches = refl;
      };
      judges = judges;
      part_judges = judges;
      history = one;
      part_history = one';
    }
