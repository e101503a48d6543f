-- The act of a hit fits the machine, and everybody may do it.
use Rattle.std.proofs.Common.{◌≡◌, ℕ, ◌<◌, Bool, true, false, cond, refl, sum, sym, ap}
use Rattle.std.specs.Prelude.{MatchBool}
use Rattle.rv_model.specs.declared.entry.Act.{Act}
use Rattle.rv_model.specs.declared.entry.Act.TheVariants.{Deliver, End}
use Rattle.rv_model.specs.declared.entry.Answer.{Answer}
use Rattle.rv_model.specs.declared.hit.Hit.{Hit}
use Rattle.rv_model.specs.declared.hit.What.TheVariants.{Nothing}
use Rattle.rv_model.specs.declared.record.Delivered.TheVariants.{Done}
use Rattle.rv_model.specs.Histories.{IsNoStop, IsPermittedTo}
use Rattle.rv_model.specs.Records.{outcome_of}
use Rattle.rv_model.specs.Scripts.{is_end, hit_act}
use Rattle.rv_model.specs.Setups.{Setup}
use Rattle.rv_model.proofs.HitLemmas.{by_hit}
use Rattle.rv_core.specs.Advance.{FitsTable, FitsHit}
use Rattle.rv_core.specs.Setup.{FitsAct, table_at}

-- it fits where the hit does
pub fits-hit : (s : Setup) (slot : ℕ) (hit : Hit) → slot < sum s.shape → FitsHit (table_at s slot) hit → FitsAct s (hit_act slot hit)
fits-hit s slot hit inside fits = go (is_end hit.mode) fits
  where
    go : (b : Bool) → MatchBool b (hit.what ≡ Nothing) (FitsTable (table_at s slot) hit) → FitsAct s (cond b (End slot) (Deliver slot hit))
    go true f = inside
    go false f = (inside, f)

-- the act of a hit, by whether it ends
pub act-of : (slot : ℕ) (hit : Hit) (b : Bool) → is_end hit.mode ≡ b → cond b (End slot) (Deliver slot hit) ≡ hit_act slot hit
act-of slot hit b is = ap (λ (e : Bool). cond e (End slot) (Deliver slot hit)) (sym is)

-- a hit that is no end fits the table
pub fits-delivered : (s : Setup) (slot : ℕ) (hit : Hit) → is_end hit.mode ≡ false → FitsHit (table_at s slot) hit → FitsTable (table_at s slot) hit
fits-delivered s slot hit goes fits = go (is_end hit.mode) goes fits
  where
    go : (b : Bool) → b ≡ false → MatchBool b (hit.what ≡ Nothing) (FitsTable (table_at s slot) hit) → FitsTable (table_at s slot) hit
    go true e f = absurd (let no : true ≡ false = e in cc)
    go false e f = f

-- it is no stop, anybody may do it, and it is done with its answer
pub hit-free : (slot : ℕ) (hit : Hit) → IsNoStop (hit_act slot hit)
hit-free slot hit = by_hit IsNoStop slot hit tt tt

-- each seat may do it
pub hit-held : (seat slot : ℕ) (hit : Hit) → IsPermittedTo (hit_act slot hit) seat
hit-held seat slot hit = by_hit (λ (a : Act). IsPermittedTo a seat) slot hit tt tt

-- it is done with its answer
pub hit-done : (slot : ℕ) (hit : Hit) (answer : Answer) → outcome_of (hit_act slot hit) answer ≡ Done answer
hit-done slot hit answer = by_hit (λ (a : Act). outcome_of a answer ≡ Done answer) slot hit refl refl
