-- After any history a seat can do any act: its entry has the words that the history gives, and so it replays on.
use Rattle.std.proofs.Common.{ℕ, ◌^◌, List, [], ◌∷◌, ◌++◌, reverse, inl, inr, refl}
use Rattle.rv_model.specs.declared.entry.Act.{Act}
use Rattle.rv_model.specs.declared.entry.Act.TheVariants.{Look, Raise}
use Rattle.rv_model.specs.declared.entry.Answer.{Answer}
use Rattle.rv_model.specs.declared.entry.Entry.{Entry}
use Rattle.rv_model.specs.declared.record.Delivered.TheVariants.{Done}
use Rattle.rv_model.specs.declared.work.Delivery.{Delivery}
use Rattle.rv_model.specs.Histories.{FitsWords, IsNoStop, IsPermittedTo, Replays}
use Rattle.rv_model.specs.Judging.{Judge}
use Rattle.rv_model.specs.Scripts.{Played, hit_act}
use Rattle.rv_model.specs.Setups.{Setup, slot_of}
use Rattle.rv_model.specs.SharedWords.{word_on, answer_at}
use Rattle.rv_model.proofs.ActLemmas.{word-same}
use Rattle.rv_model.proofs.CutLemmas.{at_each-snoc}
use Rattle.rv_core.specs.Core.{CoreValue, Steps}
use Rattle.rv_core.specs.Setup.{judges_of}
use Rattle.rv_feed.specs.inner.Composing.{did-composes}
use Rattle.rv_feed.specs.Players.{Composes, LooksAt, Halts, Serves}
use Rattle.rv_feed.specs.Turns.{Did}
use Rattle.rv_feed.proofs.ActLemmas.{hit-free, hit-held, hit-done}
use Rattle.rv_feed.proofs.DoneLemmas.{did-step}

-- every entry has the words that the history gives
abbrev pub IsReplayed : CoreValue → Type 0
IsReplayed v = Replays v.setup (judges_of v.setup) v.history

-- the seat did this, and the history replays on
abbrev pub DoesAfter : ℕ → CoreValue → CoreValue → List Played → Type 0
DoesAfter seat old new ps = Did seat old new ps × (IsReplayed old → IsReplayed new)

-- both, one after another
pub does-composes : (seat : ℕ) → Composes (DoesAfter seat)
does-composes seat a b c ps q qs one two = (did-composes seat a b c ps q qs one.0 two.0, λ replays. two.1 (one.1 replays))

module _ (s : Setup) (js : List Judge) (h : List Entry) (seat : ℕ) (act : Act) where
  -- the seat's entry of the act that finds the word which the history gives, and leaves this one
  abbrev leaving : ℕ → Entry
  leaving word = record { seat = seat; act = act; before = word_on s js (reverse h) act; after = word }

  -- the one that leaves the word which the history gives with the act
  abbrev pub next_entry : Entry
  next_entry = leaving (word_on s js (leaving 0 ∷ reverse h) act)

  -- it has the words of the history
  pub next-fits : FitsWords s js h next_entry
  next-fits = record { found = refl; left = word-same s js (reverse h) (leaving 0) next_entry refl act }

module _ (seat : ℕ) (old : CoreValue) where
  -- the seat's entry of an act, its answer, and the machine after it
  abbrev pub entry_of : Act → Entry
  entry_of act = next_entry old.setup (judges_of old.setup) old.history seat act

  abbrev pub answer_of : Act → Answer
  answer_of act = answer_at old.setup (judges_of old.setup) (reverse old.history) (entry_of act) act

  abbrev pub after : Act → CoreValue
  after act = record old { history = old.history ++ entry_of act ∷ [] }

  -- the seat does an act that is no stop, and that it may do
  pub acts : (act : Act) → IsNoStop act → IsPermittedTo act seat → DoesAfter seat old (after act) ((entry_of act, answer_of act) ∷ [])
  acts act free held =
      let fits = next-fits old.setup (judges_of old.setup) old.history seat act in
      let step : Steps old (after act) seat act (answer_of act) = record { entry = entry_of act; seat_is = refl; act_is = refl; grows = refl; fits = fits; answer = refl } in
      (did-step seat old (after act) act (answer_of act) step free held, λ replays. at_each-snoc (FitsWords old.setup (judges_of old.setup)) old.history (entry_of act) replays fits)

  -- a look
  pub looks : LooksAt (DoesAfter seat) old (after Look) (entry_of Look).after
  looks = record { entry = entry_of Look; act_is = refl; did = acts Look tt tt }

  -- a halt
  pub halts : Halts (DoesAfter seat) old (after (Raise (2 ^ 34)))
  halts = record { entry = entry_of (Raise (2 ^ 34)); answer = answer_of (Raise (2 ^ 34)); act_is = refl; did = acts (Raise (2 ^ 34)) tt (inr (inr refl)) }

  -- the act of a delivery
  abbrev pub act_for : Delivery → Act
  act_for d = hit_act (slot_of old.setup.shape d.monitor d.instance) d.hit

  -- a delivery
  pub serves : (d : Delivery) → Serves (DoesAfter seat) old.setup old (after (act_for d)) d (Done (answer_of (act_for d)))
  serves d =
      let slot : ℕ = slot_of old.setup.shape d.monitor d.instance in
      record {
        entry = entry_of (act_for d);
        answer = answer_of (act_for d);
        makes = inl refl;
        did = acts (act_for d) (hit-free slot d.hit) (hit-held seat slot d.hit);
        outcome_is = hit-done slot d.hit (answer_of (act_for d));
        fails_is = refl;
      }
