-- What a player does: a look, a delivery, a halt. `does old new ps` says that its CPU played these from the one value to the other.
use Rattle.std.specs.Prelude.{◌≡◌, ℕ, ◌^◌, List, [], ◌∷◌, ◌++◌}
use Rattle.rv_model.specs.declared.entry.Act.TheVariants.{Look, Raise}
use Rattle.rv_model.specs.declared.entry.Answer.{Answer}
use Rattle.rv_model.specs.declared.entry.Answer.TheVariants.{Looked}
use Rattle.rv_model.specs.declared.entry.Entry.{Entry}
use Rattle.rv_model.specs.declared.record.Delivered.{Delivered}
use Rattle.rv_model.specs.declared.work.Delivery.{Delivery}
use Rattle.rv_model.specs.Records.{outcome_of, failed_outcome}
use Rattle.rv_model.specs.Scripts.{Played, fails, Makes}
use Rattle.rv_model.specs.Setups.{Setup}

-- what it did, and then something more, is what it did
abbrev pub Composes : {M : Type 0} → (M → M → List Played → Type 0) → Type 0
Composes {M} does = (a b c : M) (ps : List Played) (q : Played) (qs : List Played) → does a b ps → does b c (q ∷ qs) → does a c (ps ++ q ∷ qs)

module _ {M : Type 0} (does : M → M → List Played → Type 0) where
  -- the CPU made a look, which found the switches `word`
  pub record LooksAt (old new : M) (word : ℕ) : Type 0 where
    pub entry : Entry
    pub act_is : entry.act ≡ Look
    pub did : does old new ((entry, Looked word) ∷ [])

  -- the CPU halted the run
  pub record Halts (old new : M) : Type 0 where
    pub entry : Entry
    pub answer : Answer
    pub act_is : entry.act ≡ Raise (2 ^ 34)
    pub did : does old new ((entry, answer) ∷ [])

  -- the CPU made the delivery, or stopped the slot in its place, and its entry and answer give the outcome
  pub record Serves (s : Setup) (old new : M) (d : Delivery) (outcome : Delivered) : Type 0 where
    pub entry : Entry
    pub answer : Answer
    pub makes : Makes s d (entry, answer)
    pub did : does old new ((entry, answer) ∷ [])
    pub outcome_is : outcome_of entry.act answer ≡ outcome
    pub fails_is : fails answer ≡ failed_outcome outcome
