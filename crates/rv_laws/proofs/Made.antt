-- What a script makes: its deliveries with their answers, what is recorded of them, and its steps on a slot.
use Rattle.std.proofs.Common.{◌≡◌, ℕ, suc, ◌+◌, Bool, ◌==◌, List, [], ◌∷◌, map}
use Rattle.std.specs.Prelude.{filter, flat_map, slice_range, slice_index, if◌then◌else◌}
use Rattle.rv_model.specs.declared.entry.Act.{Act}
use Rattle.rv_model.specs.declared.entry.Act.TheVariants.{Look}
use Rattle.rv_model.specs.declared.entry.Answer.{Answer}
use Rattle.rv_model.specs.declared.entry.Answer.TheVariants.{Looked}
use Rattle.rv_model.specs.declared.record.Delivered.TheVariants.{Done}
use Rattle.rv_model.specs.declared.record.Record.{Record}
use Rattle.rv_model.specs.declared.work.Delivery.{Delivery}
use Rattle.rv_model.specs.declared.work.Turn.{Turn}
use Rattle.rv_model.specs.Histories.{IsNoStop, is_on}
use Rattle.rv_model.specs.Numbers.{has_bit}
use Rattle.rv_model.specs.Scripts.{Played, is_enabled_by, hit_act}
use Rattle.rv_model.specs.Setups.{slot_of}
use Rattle.rv_laws.specs.Parts.{Placed}
use Rattle.rv_laws.proofs.StepLemmas.{at_zero, Step, Answered}

-- ---- what is made

-- a delivery that was made, and its answer
pub record Made : Type 0 where
  pub place : Placed
  pub answer : Answer

-- its record, by the look of its turn
abbrev pub made_record : ℕ → Made → Record
made_record look x = record { order = x.place.delivery.order; line = x.place.line; monitor = x.place.delivery.monitor; instance = x.place.delivery.instance; hit = x.place.delivery.hit; outcome = Done x.answer; reacting = has_bit look 33 }

-- a delivery as a step
abbrev pub placed_step : Placed → Step
placed_step p = record { seat = 2 + p.cpu; line = p.line; act = hit_act 0 p.delivery.hit }

-- what was made as a step with its answer
abbrev pub made_told : Made → Answered
made_told x = record { step = placed_step x.place; answer = x.answer }

-- the delivery is for the slot
abbrev pub is_for : List ℕ → ℕ → Placed → Bool
is_for shape slot p = slot_of shape p.delivery.monitor p.delivery.instance == slot

-- ---- the steps of a script

-- how many looks were made with the act
abbrev pub looked : Act → ℕ → ℕ
looked Look n = suc n
looked _ n = n

module _ (at : ℕ → ℕ) (seat slot : ℕ) where
  -- the steps of a script on the slot after n looks, where the line of each look is known
  abbrev pub told_by : ℕ → List Played → List Answered
  told_by n [] = []
  told_by n (p ∷ ps) =
      if is_on slot p.0.act then record { step = record { seat = seat; line = at (looked p.0.act n); act = at_zero p.0.act }; answer = p.1 } ∷ told_by (looked p.0.act n) ps
      else told_by (looked p.0.act n) ps

-- the lines of the turns that come after n looks
abbrev pub Ahead : List Turn → (ℕ → ℕ) → ℕ → Type 0
Ahead turns at n = (k : ℕ) → at (suc (n + k)) ≡ slice_index (map (λ t. t.line) turns) k

-- the deliveries of turns
abbrev pub placed_from : ℕ → List Delivery → List Turn → List Placed
placed_from cpu ds turns = flat_map (λ t. map (λ d. record { cpu = cpu; line = t.line; delivery = d }) (slice_range ds t.from t.to)) turns

-- the look shows it on
abbrev pub shown : ℕ → Placed → Bool
shown look p = is_enabled_by look p.delivery

-- where it is a look it shows this word, and it is no Stop
pub record IsCalm (look : ℕ) (p : Played) : Type 0 where
  pub look_is : p.0.act ≡ Look → p.1 ≡ Looked look
  pub free : IsNoStop p.0.act

-- each entry is so
abbrev pub AreCalm : ℕ → List Played → Type 0
AreCalm look [] = Unit {0}
AreCalm look (p ∷ ps) = IsCalm look p × AreCalm look ps

-- these deliveries were made, with these records, and the script's steps on each slot are theirs
pub record MadeBy (shape : List ℕ) (look cpu : ℕ) (places : List Placed) (rs : List Record) (ps : List Played) (At : (ℕ → ℕ) → ℕ → Type 0) : Type 0 where
  pub made : List Made
  pub places_are : map (λ x. x.place) made ≡ places
  pub records_are : rs ≡ map (made_record look) made
  pub told : (slot : ℕ) (at : ℕ → ℕ) (n : ℕ) → At at n → told_by at (2 + cpu) slot n ps ≡ map made_told (filter (λ x. is_for shape slot x.place) made)
