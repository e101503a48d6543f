-- What a counted delivery observes of its entry and its counts is so in its seat's list.
use Rattle.std.proofs.Common.{◌≡◌, ℕ, ◌+◌, ◌<◌, ◌≤◌, List, [], ◌∷◌, ◌++◌, sum, ap, sym, ◌∙◌, subst, arith, append_assoc}
use Rattle.atomic_table.specs.Seated.{TableId}
use Rattle.rv_model.specs.declared.entry.Act.{Act}
use Rattle.rv_model.specs.declared.entry.Act.TheVariants.{Deliver, Stop}
use Rattle.rv_model.specs.declared.entry.Entry.{Entry}
use Rattle.rv_model.specs.declared.hit.Hit.{Hit}
use Rattle.rv_model.specs.declared.record.Delivered.TheVariants.{Racing}
use Rattle.rv_model.specs.Setups.{Setup}
use Rattle.rv_model.specs.Histories.{IsSound}
use Rattle.rv_model.specs.Seats.{entries_of}
use Rattle.rv_core.specs.Setup.{word_index, table_at, judges_of}
use Rattle.rv_core.specs.Advance.{advanced}
use Rattle.rv_board.specs.declared.view.View.{View}
use Rattle.rv_board.specs.inner.Known.{knows}
use Rattle.rv_board.specs.inner.Rule.{word_at}
use Rattle.rv_board.specs.Seats.{SeatValue, seat_value}
use Rattle.rv_board.specs.inner.Seats.{board_id}
use Rattle.rv_board.specs.inner.Steps.{made_after}
use Rattle.rv_board.proofs.Knowing.{none_append, known_is}
use Rattle.rv_board.proofs.SoundLemmas.{filter_append, sound-front}
use Rattle.rv_journal.specs.declared.counted.Counted.{Counted}
use Rattle.rv_journal.specs.CountedWords.{count_on, rows_at}
use Rattle.rv_journal.specs.inner.CountedWords.{word_in, count_in, counted_at}
use Rattle.rv_journal.specs.inner.CountedSteps.{MadeCounted, next_word}
use Rattle.rv_journal.specs.CountedSeats.{Counts}
use Rattle.rv_journal.proofs.CountedWordLemmas.{found-count}
use Rattle.rv_journal.proofs.CountedDeliveryLemmas.{Tried, w-setup, word-found}

-- an entry by its parts
abbrev pub entry_at : ℕ → Act → ℕ → ℕ → Entry
entry_at seat act before after = record { seat = seat; act = act; before = before; after = after }

module _ {old : SeatValue} {u w : View} {slot begun lost raw : ℕ} (t : Tried old u w slot begun lost raw) where
  -- what is none of the seat's after the first load is none of its before the call
  quiet-since : (more : List Entry) → entries_of (knows u.part) more ≡ [] → entries_of (knows old.part) more ≡ []
  quiet-since more none = subst (λ (z : View). entries_of (knows z.part) more ≡ []) t.saw.0.same none

  module _ {x : View} {found : ℕ} {act : Act} (m : MadeCounted w x act found) where
    -- what the call's own entry was added to
    front-is : w.part.seen ++ m.made.rest ≡ (old.part.seen ++ t.saw.0.rest) ++ (t.since.plain.rest ++ m.made.rest)
    front-is = ap (λ z. z ++ m.made.rest) (t.since.plain.list ∙ ap (λ z. z ++ t.since.plain.rest) t.saw.0.list) ∙ append_assoc (old.part.seen ++ t.saw.0.rest) t.since.plain.rest m.made.rest

    -- it is sound
    front-sound : IsSound w.setup (judges_of w.setup) (w.part.seen ++ m.made.rest)
    front-sound = sound-front w.setup (judges_of w.setup) (w.part.seen ++ m.made.rest) (made_after w.setup w.part.number act (w.part.seen ++ m.made.rest) ∷ []) (subst (IsSound w.setup (judges_of w.setup)) m.made.list m.made.sound)

    -- the count that was found is the slot's, just before the entry
    count-found : word_index act ≡ slot + 1 → count_in found ≡ count_on slot (w.part.seen ++ m.made.rest)
    count-found at =
        found-count w.setup (w.part.seen ++ m.made.rest) 0 slot m.before (subst (λ (k : Setup). slot < sum k.shape) (sym (w-setup t)) t.low) found front-sound
        (m.made.word ∙ ap (counted_at w.setup (w.part.seen ++ m.made.rest)) at)

    -- what the call tells of its entry and the counts
    pub counts-by : {table : TableId} {observed : Counted} → word_index act ≡ slot + 1 → observed.entry ≡ made_after w.setup w.part.number act (w.part.seen ++ m.made.rest) → observed.first ≡ count_in begun → observed.count ≡ count_in found → (observed.outcome ≡ Racing → 3 ≤ lost)
        → Counts old (seat_value x.part (board_id table x.setup)) slot observed
    counts-by {table} {observed} at entry-is first-is count-is racing = record {
      earlier = t.saw.0.rest;
      since = t.since.plain.rest ++ m.made.rest;
      list = m.made.list ∙ (λ i. front-is i ++ sym entry-is i ∷ []);
      others = subst (λ (p : ℕ → _). entries_of p (t.saw.0.rest ++ (t.since.plain.rest ++ m.made.rest)) ≡ []) (sym (known_is old.part))
          (none_append (knows old.part) t.saw.0.rest (t.since.plain.rest ++ m.made.rest) t.saw.0.none
          (none_append (knows old.part) t.since.plain.rest m.made.rest (quiet-since t.since.plain.rest t.since.plain.none)
          (quiet-since m.made.rest (subst (λ (z : View). entries_of (knows z.part) m.made.rest ≡ []) t.since.plain.same m.made.none))));
      first = first-is ∙ found-count old.board.setup u.part.seen 0 slot t.saw.1 t.low begun t.saw.0.sound t.saw.0.word ∙ ap (count_on slot) t.saw.0.list;
      count = count-is ∙ count-found at ∙ ap (count_on slot) front-is;
      racing = λ is. let three = racing is in let some = t.since.plain.count in let both = filter_append slot t.since.plain.rest m.made.rest in omega arith;
    }

  -- the entry that the call answers with, where the delivery was made
  pub entry-made : {x : View} {found : ℕ} (hit : Hit) (m : MadeCounted w x (Deliver slot hit) found) {number before after : ℕ} → found ≡ raw → number ≡ w.part.number → before ≡ word_in (rows_at old.board.setup slot) raw → after ≡ next_word (table_at old.board.setup slot) (rows_at old.board.setup slot) raw hit
      → entry_at number (Deliver slot hit) before after ≡ made_after w.setup w.part.number (Deliver slot hit) (w.part.seen ++ m.made.rest)
  entry-made {x} {found} hit m {number} {before} {after} hits mine at is =
      let word = ap (word_in (rows_at old.board.setup slot)) (sym hits) ∙ word-found t (Deliver slot hit) m m.made.word in
      let setup = w-setup t in
      let left : after ≡ (advanced (table_at w.setup slot) (word_at w.setup (w.part.seen ++ m.made.rest) (slot + 1)) hit).1 = is ∙ (λ i. (advanced (table_at (sym setup i) slot) (word i) hit).1) in
      λ i. entry_at (mine i) (Deliver slot hit) ((at ∙ word) i) (left i)

  -- and where the slot was stopped
  pub entry-stopped : {x : View} {found : ℕ} (m : MadeCounted w x (Stop slot) found) {number before : ℕ} → number ≡ w.part.number → before ≡ word_in (rows_at old.board.setup slot) found
      → entry_at number (Stop slot) before 0 ≡ made_after w.setup w.part.number (Stop slot) (w.part.seen ++ m.made.rest)
  entry-stopped m mine at = λ i. entry_at (mine i) (Stop slot) ((at ∙ word-found t (Stop slot) m m.made.word) i) 0
