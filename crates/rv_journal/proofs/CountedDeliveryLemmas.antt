-- After some lost tries a counted delivery is made, or its slot is stopped.
use Rattle.std.proofs.Common.{◌≡◌, ℕ, ◌+◌, ◌<◌, ◌≤◌, [], ◌∷◌, ◌++◌, sum, refl, ap, sym, ◌∙◌, subst}
use Rattle.atomic_table.specs.Seated.{TableId}
use Rattle.rv_model.specs.declared.entry.Act.{Act}
use Rattle.rv_model.specs.declared.entry.Act.TheVariants.{Deliver, Stop}
use Rattle.rv_model.specs.declared.entry.Answer.{Answer}
use Rattle.rv_model.specs.declared.hit.Hit.{Hit}
use Rattle.rv_model.specs.Setups.{Setup}
use Rattle.rv_model.specs.Histories.{IsSound}
use Rattle.rv_core.specs.Setup.{table_at, judges_of}
use Rattle.rv_core.specs.Advance.{advanced}
use Rattle.rv_board.specs.declared.view.View.{View}
use Rattle.rv_board.specs.Deliveries.{IsMade, IsGivenUp}
use Rattle.rv_board.specs.inner.Rule.{word_at}
use Rattle.rv_board.specs.Seats.{BoardId, SeatValue, seat_value}
use Rattle.rv_board.specs.inner.Seats.{board_id}
use Rattle.rv_board.specs.inner.Steps.{Ours, made_after}
use Rattle.rv_board.proofs.SoundLemmas.{sound-front}
use Rattle.rv_board.proofs.RaceLemmas.{Lost, opened, opened_is, is-made, given_up}
use Rattle.rv_journal.specs.CountedWords.{rows_at}
use Rattle.rv_journal.specs.inner.CountedWords.{word_in, counted_at}
use Rattle.rv_journal.specs.inner.CountedSteps.{SawCounted, MadeCounted}
use Rattle.rv_journal.specs.CountedSeats.{CountedValue, counted_value, IsCountedSeat}
use Rattle.rv_journal.proofs.CountedWordLemmas.{found-word}
use Rattle.rv_journal.proofs.CountedCallLemmas.{saw-plain, made-plain}
use Rattle.rv_journal.proofs.CountedRaceLemmas.{LostCounted, lost-longer}

-- a counted delivery behind so many lost tries, from what contracts saw of its seat before the call
pub record Tried (old : SeatValue) (u w : View) (slot first lost raw : ℕ) : Type 0 where
  -- the first load
  pub saw : SawCounted (opened old) u (slot + 1) first
  -- the tries since
  pub since : LostCounted u w slot lost raw
  pub low : slot < sum old.board.setup.shape
  pub has : old.part.number < old.part.end

-- it is known by what the call has
pub tried : {number end left lost raw slot index first : ℕ} {table : TableId} {me : Ours} {u w : View} {old : CountedValue} {board : BoardId} → IsCountedSeat number end left me → counted_value (seat_value me.0.part (board_id table me.0.setup)) left ≡ old → old.seat.board ≡ board → slot < sum board.setup.shape
    → index ≡ slot + 1 → SawCounted me.0 u index first → LostCounted u w slot lost raw → Tried old.seat u w slot first lost raw
tried {number} {end} {left} {lost} {raw} {slot} {index} {first} {table} {me} {u} {w} {old} {board} c seen of low at saw since = record {
  saw = subst (λ (z : View × ℕ). SawCounted z.0 u z.1 first) (λ j. (opened_is c.usable (ap (λ (f : CountedValue). f.seat) seen) j, at j)) saw;
  since = since;
  low = subst (λ (b : BoardId). slot < sum b.setup.shape) (sym of) low;
  has = subst (λ (f : CountedValue). f.seat.part.number < f.seat.part.end) seen c.usable.has;
}

module _ {old : SeatValue} {u w : View} {slot first lost raw : ℕ} (t : Tried old u w slot first lost raw) where
  -- the setup is that of the board
  u-setup : u.setup ≡ old.board.setup
  u-setup = ap (λ (z : View). z.setup) t.saw.0.same

  -- it is still that of the board after the lost tries
  pub w-setup : w.setup ≡ old.board.setup
  w-setup = ap (λ (z : View). z.setup) t.since.plain.same ∙ u-setup

  -- the tries were lost since the call began
  pub lost-since : Lost (opened old) w slot lost (word_in (rows_at old.board.setup slot) raw)
  lost-since = subst (λ (k : Setup). Lost (opened old) w slot lost (word_in (rows_at k slot) raw)) u-setup (lost-longer slot (opened old) u w (slot + 1) _ lost (word_in (rows_at u.setup slot) raw) (saw-plain t.saw.0) t.since.plain)

  -- the word that was found, in the history that the act was added to
  pub word-found : {x : View} {found : ℕ} (act : Act) (m : MadeCounted w x act found) → found ≡ counted_at w.setup (w.part.seen ++ m.made.rest) (slot + 1) → word_in (rows_at old.board.setup slot) found ≡ word_at w.setup (w.part.seen ++ m.made.rest) (slot + 1)
  word-found {x} {found} act m is =
      let sound : IsSound w.setup (judges_of w.setup) (w.part.seen ++ m.made.rest) = sound-front w.setup (judges_of w.setup) (w.part.seen ++ m.made.rest) (made_after w.setup w.part.number act (w.part.seen ++ m.made.rest) ∷ []) (subst (IsSound w.setup (judges_of w.setup)) m.made.list m.made.sound) in
      ap (λ (k : Setup). word_in (rows_at k slot) found) (sym w-setup) ∙ found-word w.setup (w.part.seen ++ m.made.rest) 0 slot m.before (subst (λ (k : Setup). slot < sum k.shape) (sym w-setup) t.low) found sound is

  -- the delivery is made
  pub counted-made-is : {x : View} {found : ℕ} {table : TableId} (hit : Hit) {answer : Answer} → table ≡ old.board.table → found ≡ raw → answer ≡ (advanced (table_at old.board.setup slot) (word_in (rows_at old.board.setup slot) raw) hit).0
      → MadeCounted w x (Deliver slot hit) found → IsMade old (seat_value x.part (board_id table x.setup)) slot hit answer
  counted-made-is hit same hits is m =
      is-made old slot (word_in (rows_at old.board.setup slot) raw) hit t.has same lost-since
      (sym (word-found (Deliver slot hit) m m.made.word) ∙ ap (word_in (rows_at old.board.setup slot)) hits) is (made-plain m.made)

  -- the seat gives up
  pub counted-given-up : {x : View} {found : ℕ} {table : TableId} → 3 ≤ lost → table ≡ old.board.table → MadeCounted w x (Stop slot) found → IsGivenUp old (seat_value x.part (board_id table x.setup)) slot
  counted-given-up three same m = given_up old slot t.has three refl same lost-since (made-plain m.made)
