-- Each try is allowed, and counts one change by others where it is lost.
use Rattle.std.proofs.Common.{◌≡◌, ◌+◌, ◌-◌, ◌<◌, ℕ, refl, sym, ap, ◌∙◌, subst, arith, sum}
use Rattle.rv_model.specs.declared.entry.Act.TheVariants.{Stop}
use Rattle.rv_model.specs.declared.record.Delivered.TheVariants.{Done, Racing}
use Rattle.rv_model.specs.Setups.{Setup}
use Rattle.rv_core.specs.Advance.{FitsTable}
use Rattle.rv_core.specs.Setup.{table_at}
use Rattle.rv_board.specs.declared.view.View.{View}
use Rattle.rv_board.specs.Seats.{BoardId}
use Rattle.rv_board.proofs.MeetLemmas.{meets}
use Rattle.rv_board.proofs.RaceLemmas.{at_same, at_other}
use Rattle.rv_board.proofs.SpacingLemmas.{index-at, slot-at}
use Rattle.rv_journal.specs.CountedWords.{IsBelow, rows_at}
use Rattle.rv_journal.specs.inner.CountedWords.{word_in, count_in}
use Rattle.rv_journal.specs.inner.CountedSteps.{MadeCounted}
use Rattle.rv_journal.specs.CountedSeats.{CountedValue, IsCountedSeat}
use Rattle.rv_journal.proofs.CountedCallLemmas.{seat-seen, seat-made}
use Rattle.rv_journal.proofs.CountedDeliveryLemmas.{tried, counted-made-is, counted-given-up}
use Rattle.rv_journal.proofs.CountedNextLemmas.{computed, narrow-computed, counted-computed}
use Rattle.rv_journal.proofs.CountedRaceLemmas.{counted-none, counted-more}
use Rattle.rv_journal.proofs.CountedTellingLemmas.{counts-by, entry-made, entry-stopped}
use Rattle.rv_journal.proofs.CountedTryLemmas.{counted-loads, counted-exchanges, counted-stops, next-narrow, next-fits}
use Rattle.rv_journal.proofs.board.CountedBoard.deliver.Goals as goal

pub load-raw-requires : goal.load-raw-requires
load-raw-requires g c =
    let m = meets (ap (λ (f : CountedValue). f.seat) c.seat.view_is) c.requires.board c.self.view_is c.self.invariant in
    let at = m.stands c.requires.slot c.place-place.ensures.place in
    let low = at.low in
    (m.table_is, at.below, counted-loads _ _ c.seat.invariant m.setup_is (c.args.slot + 1) at.at (omega arith))

pub loop-lost-init : goal.loop-lost-init
loop-lost-init g c =
    let s = c.load-raw.ensures in
    let m = meets (ap (λ (f : CountedValue). f.seat) c.seat.view_is) c.requires.board c.self.view_is c.self.invariant in
    let at = m.stands c.requires.slot c.place-place.ensures.place in
    let some_left = c.requires.left in
    let is = ap (λ (f : CountedValue). f.left) c.seat.view_is in
    let back : c.seat.inside.left ≡ (c.seat.inside.left - 1) + 1 = omega arith in
    record {
      table = s.0 ∙ ap (λ (f : CountedValue). f.seat.board.table) c.seat.view_is;
      seat = subst (λ (n : ℕ). IsCountedSeat c.seat.inside.number c.seat.inside.end n c.load-raw.new.seat.me) back (seat-seen c.seat.inside.token.me c.seat.invariant s.2.0 s.2.1);
      left = sym back ∙ is;
      lost = counted-none c.args.slot (subst (λ (k : Setup). c.args.slot < sum k.shape) (sym (ap (λ (v : View). v.setup) s.2.0.0.same ∙ m.setup_is)) at.low) (index-at (c.args.slot + 1) m.setup_is at.at) s.2.0;
    }

pub count_after-after-requires : goal.count_after-after-requires
count_after-after-requires g c =
    let m = meets (ap (λ (f : CountedValue). f.seat) c.seat.view_is) c.requires.board c.self.view_is c.self.invariant in
    let more = next-fits c.loop-lost.invariant.lost (ap (λ (v : View). v.setup) c.load-raw.ensures.2.0.0.same ∙ m.setup_is) (m.stands c.requires.slot c.place-place.ensures.place).low in
    let is = c.count_in-count.ensures in
    omega arith

pub counted_word-requires-clause-narrow : goal.counted_word-requires-clause-narrow
counted_word-requires-clause-narrow g c =
    let m = meets (ap (λ (f : CountedValue). f.seat) c.seat.view_is) c.requires.board c.self.view_is c.self.invariant in
    let n = computed c.args.slot c.args.hit.now (sym c.self.invariant.0) c.rows_of-rows.ensures c.table-table.ensures c.word_in-before.ensures c.advance-next.ensures.word c.advance-next.ensures.answer in
    let below = subst (λ (s : Setup). IsBelow (32 - rows_at s c.args.slot) c.args.hit.now.what) (sym m.key_is) c.requires.levels in
    narrow-computed n (next-narrow c.loop-lost.invariant.lost (ap (λ (v : View). v.setup) c.load-raw.ensures.2.0.0.same ∙ m.setup_is) (m.stands c.requires.slot c.place-place.ensures.place).low c.args.hit.now below)

pub compare_exchange_with-found-requires : goal.compare_exchange_with-found-requires
compare_exchange_with-found-requires g c =
    let i = c.loop-lost.invariant in
    let m = meets (ap (λ (f : CountedValue). f.seat) c.seat.view_is) c.requires.board c.self.view_is c.self.invariant in
    let at = m.stands c.requires.slot c.place-place.ensures.place in
    let here = ap (λ (v : View). v.setup) (i.lost.plain.same) ∙ ap (λ (v : View). v.setup) c.load-raw.ensures.2.0.0.same ∙ m.setup_is in
    let fits : FitsTable (table_at c.self.inside.table.shared.key c.args.slot) c.args.hit.now = subst (λ (s : Setup). FitsTable (table_at s c.args.slot) c.args.hit.now) (sym m.key_is) c.requires.hit in
    let below = subst (λ (s : Setup). IsBelow (32 - rows_at s c.args.slot) c.args.hit.now.what) (sym m.key_is) c.requires.levels in
    let n = computed c.args.slot c.args.hit.now (sym c.self.invariant.0) c.rows_of-rows.ensures c.table-table.ensures c.word_in-before.ensures c.advance-next.ensures.word c.advance-next.ensures.answer in (
      i.table ∙ ap (λ (f : CountedValue). f.seat.board.table) (sym c.seat.view_is) ∙ m.table_is,
      at.below,
      counted-exchanges _ _ i.seat here c.args.slot _ c.args.hit.now at.at (omega arith) at.low fits c.advance-next.ensures.fits below (counted-computed n c.counted_word.ensures c.count_after-after.ensures c.count_in-count.ensures),
    )

pub invariant_of-seat : goal.invariant_of-seat
invariant_of-seat g c = let s = c.compare_exchange_with-found.ensures in seat-made c.loop-lost.seat-inside.token.me c.loop-lost.invariant.seat (at_same _ c.if-found-raw.true s.2.0) s.2.1

pub returns-then-found-raw-clause-delivers : goal.returns-then-found-raw-clause-delivers
returns-then-found-raw-clause-delivers g c =
    let m = meets (ap (λ (f : CountedValue). f.seat) c.seat.view_is) c.requires.board c.self.view_is c.self.invariant in
    let at = m.stands c.requires.slot c.place-place.ensures.place in
    let t = tried c.seat.invariant c.seat.view_is c.requires.board c.requires.slot (index-at (c.args.slot + 1) m.setup_is at.at) c.load-raw.ensures.2.0 c.loop-lost.invariant.lost in
    let n = computed c.args.slot c.args.hit.now (ap (λ (b : BoardId). b.setup) (c.self.view_is ∙ sym c.requires.board)) c.rows_of-rows.ensures c.table-table.ensures c.word_in-before.ensures c.advance-next.ensures.word c.advance-next.ensures.answer in
    let s = c.compare_exchange_with-found.ensures in
    counted-made-is t c.args.hit.now (s.0 ∙ c.loop-lost.invariant.table) c.if-found-raw.true n.answer_is (at_same _ c.if-found-raw.true s.2.0)

pub returns-then-found-raw-clause-counts : goal.returns-then-found-raw-clause-counts
returns-then-found-raw-clause-counts g c =
    let m = meets (ap (λ (f : CountedValue). f.seat) c.seat.view_is) c.requires.board c.self.view_is c.self.invariant in
    let at = m.stands c.requires.slot c.place-place.ensures.place in
    let t = tried c.seat.invariant c.seat.view_is c.requires.board c.requires.slot (index-at (c.args.slot + 1) m.setup_is at.at) c.load-raw.ensures.2.0 c.loop-lost.invariant.lost in
    let n = computed c.args.slot c.args.hit.now (ap (λ (b : BoardId). b.setup) (c.self.view_is ∙ sym c.requires.board)) c.rows_of-rows.ensures c.table-table.ensures c.word_in-before.ensures c.advance-next.ensures.word c.advance-next.ensures.answer in
    let made = at_same _ c.if-found-raw.true c.compare_exchange_with-found.ensures.2.0 in
    counts-by t made refl (entry-made t c.args.hit.now made c.if-found-raw.true c.loop-lost.invariant.seat.usable.number_is n.before_is n.word_is) c.count_in-first.ensures (c.count_in-count.ensures ∙ ap count_in (sym c.if-found-raw.true))
    (λ (is : Done c.advance-next.result.answer ≡ Racing). absurd (let no : ⊥ = cc in no))

pub loop-lost-preserved : goal.loop-lost-preserved
loop-lost-preserved g c =
    let i = c.loop-lost.invariant in
    let m = meets (ap (λ (f : CountedValue). f.seat) c.seat.view_is) c.requires.board c.self.view_is c.self.invariant in
    let at = m.stands c.requires.slot c.place-place.ensures.place in
    let begun = ap (λ (v : View). v.setup) c.load-raw.ensures.2.0.0.same ∙ m.setup_is in
    let s = c.compare_exchange_with-found.ensures in
    let saw = at_other _ c.if-found-raw.false s.2.0 in
    record {
      table = s.0 ∙ i.table;
      seat = seat-seen c.loop-lost.seat-inside.token.me i.seat saw s.2.1;
      left = i.left;
      lost = counted-more c.args.slot (subst (λ (k : Setup). c.args.slot < sum k.shape) (sym begun) at.low) (index-at (c.args.slot + 1) (ap (λ (v : View). v.setup) i.lost.plain.same ∙ begun) at.at) i.lost saw c.if-found-raw.false;
    }

pub fetch_and-found-requires : goal.fetch_and-found-requires
fetch_and-found-requires g c =
    let i = c.loop-lost.invariant in
    let m = meets (ap (λ (f : CountedValue). f.seat) c.seat.view_is) c.requires.board c.self.view_is c.self.invariant in
    let at = m.stands c.requires.slot c.place-place.ensures.place in
    let begun = c.load-raw.ensures.2.0.0.same in
    let here = ap (λ (v : View). v.setup) i.lost.plain.same ∙ ap (λ (v : View). v.setup) begun ∙ m.setup_is in
    let number = ap (λ (v : View). v.part.number) begun in
    let end = ap (λ (v : View). v.part.end) begun in
    let had = c.seat.invariant.usable.has in
    let three = c.loop-lost-test.false in
    (i.table ∙ ap (λ (f : CountedValue). f.seat.board.table) (sym c.seat.view_is) ∙ m.table_is, at.below, counted-stops _ _ i.seat here c.args.slot at.at (omega arith) at.low (omega arith) (omega arith) i.lost)

pub invariant_of-seat-2 : goal.invariant_of-seat-2
invariant_of-seat-2 g c = let s = c.fetch_and-found.ensures in seat-made c.loop-lost.seat-inside.token.me c.loop-lost.invariant.seat s.2.0 s.2.1

pub returns-clause-delivers : goal.returns-clause-delivers
returns-clause-delivers g c =
    let m = meets (ap (λ (f : CountedValue). f.seat) c.seat.view_is) c.requires.board c.self.view_is c.self.invariant in
    let at = m.stands c.requires.slot c.place-place.ensures.place in
    let t = tried c.seat.invariant c.seat.view_is c.requires.board c.requires.slot (index-at (c.args.slot + 1) m.setup_is at.at) c.load-raw.ensures.2.0 c.loop-lost.invariant.lost in
    let s = c.fetch_and-found.ensures in
    let here = ap (λ (v : View). v.setup) c.loop-lost.invariant.lost.plain.same ∙ ap (λ (v : View). v.setup) c.load-raw.ensures.2.0.0.same ∙ m.setup_is in
    let same = slot-at c.args.slot here at.at in
    let made = subst (λ (n : ℕ). MadeCounted c.loop-lost.seat-inside.token.me.0 c.fetch_and-found.new.seat.me.0 (Stop n) c.fetch_and-found.result) same s.2.0 in
    let three = c.loop-lost-test.false in
    counted-given-up t (omega arith) (s.0 ∙ c.loop-lost.invariant.table) made

pub returns-clause-counts : goal.returns-clause-counts
returns-clause-counts g c =
    let m = meets (ap (λ (f : CountedValue). f.seat) c.seat.view_is) c.requires.board c.self.view_is c.self.invariant in
    let at = m.stands c.requires.slot c.place-place.ensures.place in
    let t = tried c.seat.invariant c.seat.view_is c.requires.board c.requires.slot (index-at (c.args.slot + 1) m.setup_is at.at) c.load-raw.ensures.2.0 c.loop-lost.invariant.lost in
    let here = ap (λ (v : View). v.setup) c.loop-lost.invariant.lost.plain.same ∙ ap (λ (v : View). v.setup) c.load-raw.ensures.2.0.0.same ∙ m.setup_is in
    let same = slot-at c.args.slot here at.at in
    let made = subst (λ (n : ℕ). MadeCounted c.loop-lost.seat-inside.token.me.0 c.fetch_and-found.new.seat.me.0 (Stop n) c.fetch_and-found.result) same c.fetch_and-found.ensures.2.0 in
    let back = ap (λ (b : BoardId). b.setup) (c.self.view_is ∙ sym c.requires.board) in
    let before = c.word_in.ensures ∙ ap (λ (n : ℕ). word_in n c.fetch_and-found.result) (c.rows_of-rows.ensures ∙ ap (λ (s : Setup). rows_at s c.args.slot) back) in
    counts-by t made refl (entry-stopped t made c.loop-lost.invariant.seat.usable.number_is before) c.count_in-first.ensures c.count_in.ensures (λ is. let three = c.loop-lost-test.false in omega arith)
