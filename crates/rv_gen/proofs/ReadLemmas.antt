-- What is read of the automata's texts.
use Rattle.std.proofs.Common.{◌≡◌, refl}
use Rattle.std.specs.Prelude.{Ok}
use Rattle.rv_dot.specs.Canonical.{dot_text}
use Rattle.rv_dot.specs.Dot.{dot_of}
use Rattle.rv_dot.proofs.ReadAgain.{read_again}
use Rattle.rv_gen.specs.Generated.{wip, wwnr}
use Rattle.rv_gen.proofs.AutomatonLemmas.{wip_made, wwnr_made}

-- wip is read of its text
pub wip_read : dot_of (dot_text wip) ≡ Ok wip
wip_read = read_again wip (wip_made wip.states wip.events wip.edges refl refl refl)

-- wwnr is read of its text
pub wwnr_read : dot_of (dot_text wwnr) ≡ Ok wwnr
wwnr_read = read_again wwnr (wwnr_made wwnr.states wwnr.events wwnr.edges refl refl refl)
