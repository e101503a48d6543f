-- Works without the deliveries that the opening switches do not enable.
use Rattle.std.specs.Prelude.{◌≡◌, ℕ, map, filter}
use Rattle.rv_model.specs.Scripts.{is_enabled_by}
use Rattle.rv_model.specs.Works.{Work}
use Rattle.rv_laws.specs.Enabled.{IsEnabledOf}

-- the work `v` has those deliveries of `w` that the look enables, in order, and turns of the same lines
pub record IsEnabledWork (look : ℕ) (w v : Work) : Type 0 where
  pub enabled_of : IsEnabledOf look w v
  pub deliveries_are : v.deliveries ≡ filter (is_enabled_by look) w.deliveries
  pub lines_are : map (λ t. t.line) v.turns ≡ map (λ t. t.line) w.turns
