-- What the act of a hit is: it is no look, and makes a delivery.
use Rattle.std.proofs.Common.{◌≡◌, ℕ, Bool, true, false, refl, cond}
use Rattle.rv_model.specs.declared.entry.Act.{Act}
use Rattle.rv_model.specs.declared.entry.Act.TheVariants.{Deliver, End}
use Rattle.rv_model.specs.declared.hit.Hit.{Hit}
use Rattle.rv_model.specs.Histories.{look_count}
use Rattle.rv_model.specs.Records.{is_look_act, is_delivery_act}
use Rattle.rv_model.specs.Scripts.{is_end, hit_act}

-- what both acts have, the act of a hit has
pub by_hit : (P : Act → Type 0) (slot : ℕ) (hit : Hit) → P (End slot) → P (Deliver slot hit) → P (hit_act slot hit)
by_hit P slot hit ends delivers = go (is_end hit.mode)
  where
    go : (b : Bool) → P (cond b (End slot) (Deliver slot hit))
    go true = ends
    go false = delivers

-- it is no look
pub hit-no_look : (slot : ℕ) (hit : Hit) → look_count (hit_act slot hit) ≡ 0
hit-no_look slot hit = by_hit (λ act. look_count act ≡ 0) slot hit refl refl

-- it does not pass the test for a look
pub hit-not_look : (slot : ℕ) (hit : Hit) → is_look_act (hit_act slot hit) ≡ false
hit-not_look slot hit = by_hit (λ act. is_look_act act ≡ false) slot hit refl refl

-- it makes a delivery
pub hit-delivers : (slot : ℕ) (hit : Hit) → is_delivery_act (hit_act slot hit) ≡ true
hit-delivers slot hit = by_hit (λ act. is_delivery_act act ≡ true) slot hit refl refl
