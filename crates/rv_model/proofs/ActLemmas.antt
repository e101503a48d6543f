-- A word and a stop, by an entry's act alone.
use Rattle.std.proofs.Common.{◌≡◌, ◌≢◌, ℕ, ◌≤◌, Bool, true, false, ◌==◌, List, [], ◌∷◌, ◌++◌, length, ◌⊎◌, inl, inr, arith, refl, sym, ap, ◌∙◌}
use Rattle.std.specs.Prelude.{filter}
use Rattle.rv_model.specs.declared.entry.Act.{Act}
use Rattle.rv_model.specs.declared.entry.Act.TheVariants.{Deliver, Stop, Look, Raise, Lower, Clear, End}
use Rattle.rv_model.specs.declared.entry.Entry.{Entry}
use Rattle.rv_model.specs.Judging.{Judge}
use Rattle.rv_model.specs.Setups.{Setup}
use Rattle.rv_model.specs.SharedWords.{word_on}
use Rattle.rv_model.specs.Histories.{acts_of, changed, IsNoStop}

-- a seat with an entry has an act
pub acts_of-own : (seat : ℕ) (before : List Entry) (e : Entry) (after : List Entry) → e.seat ≡ seat → acts_of seat (before ++ e ∷ after) ≡ [] → ⊥
acts_of-own seat [] e after at none = let y : (e.seat == seat) ≡ true = grind arith in let no = rw y at none in cc
acts_of-own seat (x ∷ before) e after at none = go (acts_of-own seat before e after at) (x.seat == seat) refl
  where
    go : (acts_of seat (before ++ e ∷ after) ≡ [] → ⊥) → (b : Bool) → (x.seat == seat) ≡ b → ⊥
    go rest true y = let absent = rw y at none in cc
    go rest false n = rest (rw n at none)

-- the stop of a seat, by its act
pub stop-or : (act : Act) → IsNoStop act ⊎ ((slot : ℕ) × (act ≡ Stop slot))
stop-or (Deliver _ _) = inl tt
stop-or (Stop slot) = inr (slot, refl)
stop-or Look = inl tt
stop-or (Raise _) = inl tt
stop-or (Lower _) = inl tt
stop-or (Clear _) = inl tt
stop-or (End _) = inl tt

-- a word after an entry depends on its act alone
word_by : Setup → List Judge → List Entry → Act → Act → ℕ
word_by s js past on act = word_on s js (record { seat = 0; act = act; before = 0; after = 0 } ∷ past) on

-- the same for every act
word-act : (s : Setup) (js : List Judge) (past : List Entry) (e : Entry) (on : Act) → word_on s js (e ∷ past) on ≡ word_by s js past on e.act
unfolding word_by
word-act s js past e (Deliver _ _) = refl
word-act s js past e (Stop _) = refl
word-act s js past e Look = refl
word-act s js past e (Raise _) = refl
word-act s js past e (Lower _) = refl
word-act s js past e (Clear _) = refl
word-act s js past e (End _) = refl

-- entries of one act leave one word
pub word-same : (s : Setup) (js : List Judge) (past : List Entry) (e f : Entry) → e.act ≡ f.act → (on : Act) → word_on s js (e ∷ past) on ≡ word_on s js (f ∷ past) on
word-same s js past e f same on = word-act s js past e on ∙ ap (word_by s js past on) same ∙ sym (word-act s js past f on)

-- numbers are the same or not
pub same_or_not : (a b : ℕ) → (a ≡ b) ⊎ (a ≢ b)
same_or_not a b = grind arith

-- where a slot changed three times there is an entry
pub first-of : (slot : ℕ) (since : List Entry) → 3 ≤ length (filter (changed slot) since) → (y : Entry) × (rest : List Entry) × (since ≡ y ∷ rest)
first-of slot [] three = absurd (omega arith)
first-of slot (y ∷ rest) three = (y, rest, refl)
