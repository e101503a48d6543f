-- Of works whose deliveries fit the counted words, the enabled deliveries fit them too.
use Rattle.std.proofs.Common.{◌≡◌, ℕ, ◌<◌, ◌≤◌, true, List, [], ◌∷◌, length, sym, subst, arith}
use Rattle.std.specs.Prelude.{All, AllPairs}
use Rattle.std.specs.List.{AllZip}
use Rattle.std.proofs.lemmas.List.Elements.{All-filter, AllZip-get_or, filter_passes, length_all_zip}
use Rattle.rv_model.specs.declared.work.Delivery.{Delivery}
use Rattle.rv_model.specs.Scripts.{is_enabled_by}
use Rattle.rv_model.specs.Setups.{Setup}
use Rattle.rv_model.specs.Works.{Work}
use Rattle.rv_laws.specs.Enabled.{IsEnabledOf}
use Rattle.rv_journal.specs.CountedLanes.{FitsCounted}
use Rattle.rv_journal.specs.CountedWords.{most_entries}
use Rattle.rv_journal.specs.Running.{FitsCountedWork}
use Rattle.rv_journal.specs.Enabled.{IsEnabledWork}
use Rattle.rv_journal.proofs.RangeLemmas.{filter-few}

-- it can be recorded
pub shown-fits : (s : Setup) (w v : Work) → w.cpu < 64 → length w.deliveries ≤ most_entries → All (FitsCounted s) w.deliveries → IsEnabledWork s.switches w v → FitsCountedWork s v
shown-fits s w v cpu few fits enabled =
    let are = enabled.deliveries_are in
    let less = filter-few (is_enabled_by s.switches) w.deliveries in
    record {
      cpu = subst (λ (n : ℕ). n < 64) (sym enabled.enabled_of.cpu) cpu;
      few = subst (λ (ds : List Delivery). length ds ≤ most_entries) (sym are) (omega arith);
      fit = subst (All (FitsCounted s)) (sym are) (All-filter (is_enabled_by s.switches) (FitsCounted s) w.deliveries fits);
      enabled = subst (All (λ d. is_enabled_by s.switches d ≡ true)) (sym are) (filter_passes (is_enabled_by s.switches) w.deliveries);
    }

-- it ascends by CPU where the works do
pub shown-ascends : (look : ℕ) (works enabled : List Work) → AllPairs (λ v w. v.cpu < w.cpu) works → AllZip (IsEnabledWork look) works enabled → AllPairs (λ v w. v.cpu < w.cpu) enabled
shown-ascends look works enabled ascend zip i j d lt within =
    let many = length_all_zip (IsEnabledWork look) works enabled zip in
    let below = ascend i j d lt (omega arith) in
    let first = (AllZip-get_or (IsEnabledWork look) works enabled i d d zip (omega arith)).enabled_of.cpu in
    let last = (AllZip-get_or (IsEnabledWork look) works enabled j d d zip (omega arith)).enabled_of.cpu in
    omega arith

-- the works are of the same CPUs, and their turns have the deliveries that are enabled
pub shown-of-each : (look : ℕ) (works enabled : List Work) → AllZip (IsEnabledWork look) works enabled → AllZip (IsEnabledOf look) works enabled
shown-of-each look [] [] zip = tt
shown-of-each look [] (v ∷ enabled) zip = absurd zip
shown-of-each look (w ∷ works) [] zip = absurd zip
shown-of-each look (w ∷ works) (v ∷ enabled) zip = (zip.0.enabled_of, shown-of-each look works enabled zip.1)
