-- What seats of a counted board keep as they are split and joined.
use Rattle.std.proofs.Common.{◌≡◌, ℕ, suc, ◌+◌, ◌<◌, ◌≤◌, true, [], refl, ap, sym, ◌∙◌, subst, arith}
use Rattle.std.proofs.lemmas.Bool.Decides.{nat_tests}
use Rattle.rv_model.specs.Setups.{Setup}
use Rattle.rv_model.specs.Histories.{IsSound}
use Rattle.rv_model.specs.Seats.{is_within, entries_of}
use Rattle.rv_core.specs.Setup.{judges_of}
use Rattle.rv_board.specs.declared.view.View.{View}
use Rattle.rv_board.specs.Rule.{cut_left, cut_right, joined}
use Rattle.rv_board.specs.inner.Rule.{first_view}
use Rattle.rv_board.specs.inner.Steps.{Ours}
use Rattle.rv_board.proofs.Knowing.{none_of}
use Rattle.rv_board.proofs.NumberLemmas.{range_left, range_right}
use Rattle.rv_board.proofs.CallLemmas.{usable_first}
use Rattle.rv_journal.specs.CountedWords.{entries_by, most_entries, FitsCounts}
use Rattle.rv_journal.specs.inner.CountedSteps.{SawCounted}
use Rattle.rv_journal.specs.CountedSeats.{IsCountedSeat}
use Rattle.rv_journal.proofs.CountLemmas.{by-none}
use Rattle.rv_journal.proofs.CountedCallLemmas.{room-begun, unused-begun}

-- the first seat
pub seat-first : (k : Setup) (me : Ours) → me ≡ (first_view k, []) → FitsCounts k [] → IsCountedSeat 0 67 most_entries me
seat-first k me is counted = subst (IsCountedSeat 0 67 most_entries) (sym is) record { usable = usable_first k (first_view k, []) refl; counted = counted; room = omega arith; unused = refl }

-- the number of a cut may be handed on
in-cut : (number at end : ℕ) → number < at → at < end → is_within (suc number) end at ≡ true
unfolding is_within
in-cut number at end low high = grind (arith, nat_tests)

module _ {number end left at : ℕ} (me : Ours) (c : IsCountedSeat number end left me) (range : (me.0.part.number < at) × (at < me.0.part.end)) where
  -- the seat that was cut keeps what is below
  pub seat-below : {me' : Ours} → me' ≡ (cut_left at me.0, me.1) → IsCountedSeat number at left me'
  seat-below {me'} is =
      let u = c.usable in
      let low = range.0 in
      let high = range.1 in
      let small = u.small in
      subst (IsCountedSeat number at left) (sym is) record {
        usable = record { number_is = u.number_is; end_is = refl; has = range.0; small = omega arith; left = refl; right = refl; empty = u.empty; sound = u.sound };
        counted = c.counted;
        room = c.room;
        unused = none_of (is_within (suc me.0.part.number) me.0.part.end) (is_within (suc me.0.part.number) at) me.0.part.seen (λ n t. range_left (suc me.0.part.number) at me.0.part.end n (omega arith) t) c.unused;
      }

  -- the new seat has made no entry
  pub seat-above : {me' : Ours} → me' ≡ (cut_right at me.0, []) → IsCountedSeat at end most_entries me'
  seat-above {me'} is =
      let u = c.usable in
      let low = range.0 in
      let high = range.1 in
      let none : entries_by at me.0.part.seen ≡ 0 = by-none (is_within (suc me.0.part.number) me.0.part.end) at me.0.part.seen (in-cut me.0.part.number at me.0.part.end low high) c.unused in
      subst (IsCountedSeat at end most_entries) (sym is) record {
        usable = record { number_is = refl; end_is = u.end_is; has = range.1; small = u.small; left = refl; right = refl; empty = refl; sound = u.sound };
        counted = c.counted;
        room = omega arith;
        unused = none_of (is_within (suc me.0.part.number) me.0.part.end) (is_within (suc at) me.0.part.end) me.0.part.seen (λ n t. range_right (suc me.0.part.number) (suc at) me.0.part.end n (omega arith) t) c.unused;
      }

-- a seat that another was joined into, after its load
pub seat-joined : {number end left : ℕ} (m : Ours) {m' : Ours} (w : View) {index found : ℕ} → IsCountedSeat number end left m → SawCounted (joined m.0 w) m'.0 index found → m'.1 ≡ [] → IsCountedSeat number end left m'
seat-joined {number} {end} {left} m {m'} w {index} {found} c s held =
    let saw = s.0 in
    let u = c.usable in
    let has = u.has in
    let small = u.small in
    let n : m'.0.part.number ≡ m.0.part.number = ap (λ (z : View). z.part.number) saw.same in
    let e : m'.0.part.end ≡ m.0.part.end = ap (λ (z : View). z.part.end) saw.same in
    let k : m'.0.setup ≡ m.0.setup = ap (λ (z : View). z.setup) saw.same in
    let room = c.room in
    let same = room-begun m'.0.part.seen m.0.part saw.left u.has in
    let all : entries_by m.0.part.number m'.0.part.seen + left ≤ most_entries = omega arith in record {
      usable = record {
        number_is = u.number_is ∙ sym n;
        end_is = u.end_is ∙ sym e;
        has = omega arith;
        small = omega arith;
        left = ap (λ (z : View). z.left) saw.same;
        right = ap (λ (z : View). z.right) saw.same;
        empty = held;
        sound = subst (λ (z : Setup). IsSound z (judges_of z) m'.0.part.seen) (sym k) saw.sound;
      };
      counted = subst (λ (z : Setup). FitsCounts z m'.0.part.seen) (sym k) s.1;
      room = subst (λ (z : ℕ). entries_by z m'.0.part.seen + left ≤ most_entries) (sym n) all;
      unused = subst (λ (z : ℕ × ℕ). entries_of (is_within (suc z.0) z.1) m'.0.part.seen ≡ []) (λ i. (sym n i, sym e i)) (unused-begun m'.0.part.seen m.0.part saw.left c.unused);
    }
