-- What a call of a counted board has to show so that its step is allowed, and what the step shows of the call.
use Rattle.std.proofs.Common.{◌≡◌, ℕ, suc, ◌+◌, ◌<◌, ◌≤◌, ◌==◌, true, false, List, [], ◌∷◌, ◌++◌, refl, ap, sym, ◌∙◌, subst, arith}
use Rattle.std.proofs.lemmas.Bool.Decides.{nat_tests}
use Rattle.rv_model.specs.declared.entry.Act.{Act}
use Rattle.rv_model.specs.declared.entry.Entry.{Entry}
use Rattle.rv_model.specs.Setups.{Setup}
use Rattle.rv_model.specs.Seats.{Seat, is_within, entries_of}
use Rattle.rv_core.specs.Setup.{word_index}
use Rattle.rv_board.specs.declared.view.View.{View}
use Rattle.rv_board.specs.inner.Known.{knows, Begun}
use Rattle.rv_board.specs.inner.Rule.{word_at, with_seen}
use Rattle.rv_board.specs.Seats.{IsUsable}
use Rattle.rv_board.specs.inner.Steps.{Ours, Saw, Made, made_after}
use Rattle.rv_board.proofs.Knowing.{none_of, none_append, knows_own}
use Rattle.rv_board.proofs.ViewLemmas.{range_within, range_not_own}
use Rattle.rv_board.proofs.CallLemmas.{usable}
use Rattle.rv_journal.specs.CountedWords.{entries_by, most_entries, FitsCounts}
use Rattle.rv_journal.specs.inner.CountedWords.{counted_at}
use Rattle.rv_journal.specs.inner.CountedSteps.{SawCounted, MadeCounted}
use Rattle.rv_journal.specs.CountedSeats.{IsCountedSeat}
use Rattle.rv_journal.proofs.CountLemmas.{by-append, by-none, by-snoc}

-- ---- what the words of a board tell

-- a load, as it would tell of the words without counts
pub saw-plain : {v w : View} {place found : ℕ} → Saw counted_at v w place found → Saw word_at v w place (word_at v.setup w.part.seen place)
saw-plain s = record { same = s.same; rest = s.rest; list = s.list; none = s.none; word = refl; sound = s.sound; left = s.left; right = s.right }

-- an act
pub made-plain : {v w : View} {act : Act} {found : ℕ} → (m : Made counted_at v w act found) → Made word_at v w act (word_at v.setup (v.part.seen ++ m.rest) (word_index act))
made-plain m = record { same = m.same; rest = m.rest; list = m.list; none = m.none; word = refl; sound = m.sound; answer = m.answer }

-- ---- what a seat keeps

-- what others add is not by the seat's number
pub room-begun : (h : List Entry) (p : Seat) → Begun h p → p.number < p.end → entries_by p.number h ≡ entries_by p.number p.seen
room-begun h p b has =
    let none : entries_by p.number b.rest ≡ 0 = by-none (knows p) p.number b.rest (knows_own p.number p.end p.joined_in has) b.none in
    let both = by-append p.number p.seen b.rest in
    ap (entries_by p.number) b.whole ∙ omega arith

-- nor by a number that may be handed on
pub unused-begun : (h : List Entry) (p : Seat) → Begun h p → entries_of (is_within (suc p.number) p.end) p.seen ≡ [] → entries_of (is_within (suc p.number) p.end) h ≡ []
unused-begun h p b none =
    subst (λ (l : List Entry). entries_of (is_within (suc p.number) p.end) l ≡ []) (sym b.whole)
    (none_append (is_within (suc p.number) p.end) p.seen b.rest none (none_of (knows p) (is_within (suc p.number) p.end) b.rest (λ n t. range_within p.number p.end p.joined_in n t) b.none))

-- a view with another list has the same numbers
number-same : (v w : View) → w ≡ with_seen v w.part.seen → w.part.number ≡ v.part.number
number-same v w same = ap (λ (z : View). z.part.number) same

-- it has the same end of its numbers
end-same : (v w : View) → w ≡ with_seen v w.part.seen → w.part.end ≡ v.part.end
end-same v w same = ap (λ (z : View). z.part.end) same

-- it has the same setup
setup-same : (v w : View) → w ≡ with_seen v w.part.seen → w.setup ≡ v.setup
setup-same v w same = ap (λ (z : View). z.setup) same

-- what a seat keeps by its view before the step it keeps by the one after
kept : (v w : View) (number end left : ℕ) (m' : Ours) → m'.0 ≡ w → w ≡ with_seen v w.part.seen → IsUsable number end m' → FitsCounts v.setup w.part.seen → entries_by v.part.number w.part.seen + left ≤ most_entries → entries_of (is_within (suc v.part.number) v.part.end) w.part.seen ≡ [] → IsCountedSeat number end left m'
kept v w number end left m' is same u counted room unused =
    let n = number-same v w same in
    let e = end-same v w same in
    let s = setup-same v w same in record {
      usable = u;
      counted = subst (λ (z : View). FitsCounts z.setup z.part.seen) (sym is) (subst (λ (k : Setup). FitsCounts k w.part.seen) (sym s) counted);
      room = subst (λ (z : View). entries_by z.part.number z.part.seen + left ≤ most_entries) (sym is) (subst (λ (k : ℕ). entries_by k w.part.seen + left ≤ most_entries) (sym n) room);
      unused = subst (λ (z : View). entries_of (is_within (suc z.part.number) z.part.end) z.part.seen ≡ []) (sym is) (subst (λ (z : ℕ × ℕ). entries_of (is_within (suc z.0) z.1) w.part.seen ≡ []) (λ i. (sym n i, sym e i)) unused);
    }

-- a seat that has seen more
pub seat-seen : {number end left : ℕ} (m : Ours) {m' : Ours} {place found : ℕ} → IsCountedSeat number end left m → SawCounted m.0 m'.0 place found → m'.1 ≡ m.1 → IsCountedSeat number end left m'
seat-seen {number} {end} {left} m {m'} {place} {found} c s held =
    let saw = s.0 in
    let u = c.usable in
    let b : Begun m'.0.part.seen m.0.part = record { rest = saw.rest; whole = saw.list; none = saw.none } in
    let room = c.room in
    let same = room-begun m'.0.part.seen m.0.part b u.has in
    kept m.0 m'.0 number end left m' refl saw.same (usable number end m m' u saw.same saw.sound held) s.1 (omega arith) (unused-begun m'.0.part.seen m.0.part b c.unused)

-- a seat that has made an entry may make one less
pub seat-made : {number end left : ℕ} (m : Ours) {m' : Ours} {act : Act} {found : ℕ} → IsCountedSeat number end (left + 1) m → MadeCounted m.0 m'.0 act found → m'.1 ≡ m.1 → IsCountedSeat number end left m'
seat-made {number} {end} {left} m {m'} {act} {found} c t held =
    let made = t.made in
    let u = c.usable in
    let p = m.0.part in
    let x : Entry = made_after m.0.setup p.number act (p.seen ++ made.rest) in
    let b : Begun (p.seen ++ made.rest) p = record { rest = made.rest; whole = refl; none = made.none } in
    let room = c.room in
    let before = room-begun (p.seen ++ made.rest) p b u.has in
    let mine : (x.seat == p.number) ≡ true = grind (arith, nat_tests) in
    let one : entries_by p.number ((p.seen ++ made.rest) ++ x ∷ []) ≡ entries_by p.number (p.seen ++ made.rest) + 1 = rw mine at (by-snoc p.number (p.seen ++ made.rest) x) in
    let list = ap (entries_by p.number) made.list in
    let out : is_within (suc p.number) p.end x.seat ≡ false = range_not_own p.number p.end in
    let last : entries_of (is_within (suc p.number) p.end) (x ∷ []) ≡ [] = rw out refl in
    kept m.0 m'.0 number end left m' refl made.same (usable number end m m' u made.same made.sound held) t.after (omega arith)
    (subst (λ (l : List Entry). entries_of (is_within (suc p.number) p.end) l ≡ []) (sym made.list) (none_append (is_within (suc p.number) p.end) (p.seen ++ made.rest) (x ∷ []) (unused-begun (p.seen ++ made.rest) p b c.unused) last))
