-- Seats are split off from the first one, work by work from the last to the first.
use Rattle.std.proofs.Common.{◌≡◌, inl, inr, ℕ, ◌+◌, ◌<◌, true, List, [], ◌∷◌, ◌++◌, length, map, reverse, get_or, arith, refl, sym, ap, ◌∙◌, subst, append_assoc, append-nil}
use Rattle.std.specs.Prelude.{All, AllPairs}
use Rattle.std.proofs.lemmas.Bool.Decides.{nat_tests}
use Rattle.std.proofs.lemmas.List.{reverse-append, map-append, get_or_at, get_or_append_left, length-append}
use Rattle.std.proofs.lemmas.List.Elements.{All-nil, All-head, All-push}
use Rattle.std.proofs.lemmas.List.Quantifiers.{Any-push}
use Rattle.rv_model.specs.Seats.{is_within, is_among, known_of}
use Rattle.rv_model.specs.Setups.{Setup}
use Rattle.rv_model.specs.Works.{Work}
use Rattle.rv_board.specs.Known.{part}
use Rattle.rv_board.specs.inner.Known.{known_by}
use Rattle.rv_board.specs.RunSeats.{IsFirst}
use Rattle.rv_board.specs.Seats.{BoardId, SeatValue, seat_value}
use Rattle.rv_board.proofs.Knowing.{known_is}
use Rattle.rv_board.proofs.ListLemmas.{All-front, All-back, Any-front}
use Rattle.rv_board.proofs.RunSeatLemmas.{split_known}
use Rattle.rv_journal.specs.declared.feeding.CountedFeeder.{CountedFeeder}
use Rattle.rv_journal.specs.CountedLanes.{IsNewCountedLane, FitsCounted}
use Rattle.rv_journal.specs.CountedSeats.{CountedValue, counted_value}
use Rattle.rv_journal.specs.Running.{FitsCountedWork}
use Rattle.rv_journal.specs.inner.Running.{IsCountedSeated, IsSeatedFor, works_in, AreCountedSeated}

-- the first seat of a board has all numbers
all_known : (n : ℕ) → n < 67 → known_by 0 67 [] n ≡ true
unfolding known_by is_within is_among
all_known n lt = grind (arith, nat_tests)

-- ---- one work

-- its feeder has the numbers from its CPU's on
pub seated-for : {G : Type 0} (board : BoardId) (old new : SeatValue) (w : Work) (f : CountedFeeder G) (number : ℕ) → IsFirst board old → FitsCountedWork board.setup w → 2 + w.cpu < old.part.end → IsNewCountedLane w f.lane → number ≡ 2 + w.cpu
    → f.seat ≡ counted_value (seat_value (part number old.part.end [] old.part.seen) old.board) 4000000 → new ≡ seat_value (part old.part.number number old.part.joined_in old.part.seen) old.board → IsSeatedFor board old new w f
seated-for {G} board old new w f number first fits below lane at seat rest =
    let is : f.lane.work ≡ w = lane.work_is in
    let mine : f.seat.seat.part.number ≡ 2 + w.cpu = ap (λ (s : CountedValue). s.seat.part.number) seat ∙ at in
    record {
      work_is = is;
      seated = record {
        fits = record {
          board_is = ap (λ (s : CountedValue). s.seat.board) seat ∙ first.board_is;
          seat_is = mine ∙ ap (λ (v : Work). 2 + v.cpu) (sym is);
          left =
              let few = fits.few in
              let room : f.seat.left ≡ 4000000 = ap (λ (s : CountedValue). s.left) seat in
              let same : length f.lane.work.deliveries ≡ length w.deliveries = ap (λ (v : Work). length v.deliveries) is in
              omega arith;
          new_lane = subst (λ (v : Work). IsNewCountedLane v f.lane) (sym is) lane;
          fit = subst (λ (v : Work). All (FitsCounted board.setup) v.deliveries) (sym is) fits.fit;
        };
        fresh = record {
          has = let e : f.seat.seat.part.end ≡ old.part.end = ap (λ (s : CountedValue). s.seat.part.end) seat in omega arith;
          seen = ap (λ (s : CountedValue). s.seat.part.seen) seat ∙ first.seen;
        };
        work = subst (FitsCountedWork board.setup) (sym is) fits;
      };
      first = record {
        board_is = ap (λ (s : SeatValue). s.board) rest ∙ first.board_is;
        number = ap (λ (s : SeatValue). s.part.number) rest ∙ first.number;
        end = let e : new.part.end ≡ number = ap (λ (s : SeatValue). s.part.end) rest in omega arith;
        seen = ap (λ (s : SeatValue). s.part.seen) rest ∙ first.seen;
      };
      end = ap (λ (s : SeatValue). s.part.end) rest ∙ at;
      cover = λ n knows. split_known old new f.seat.seat number n (ap (λ (s : SeatValue). s.part) rest) (ap (λ (s : CountedValue). s.seat.part) seat) knows;
    }

-- ---- all works

-- what is left to be seated: works that fit, by ascending CPUs, all below the first seat's end
pub record CanSeatWorks (s : Setup) (first : SeatValue) (left : List Work) : Type 0 where
  pub fit : All (FitsCountedWork s) left
  pub ascend : AllPairs (λ (v w : Work). v.cpu < w.cpu) left
  pub below : All (λ (w : Work). 2 + w.cpu < first.part.end) left

module _ (board : BoardId) where
  -- no work is seated
  pub works-seated-none : {G : Type 0} (first : CountedValue) (works : List Work) → first ≡ counted_value (seat_value (part 0 67 [] []) board) 4000000 → AreCountedSeated {G = G} board first.seat works works []
  works-seated-none {G} first works is = record {
    is_first = record {
      board_is = ap (λ (s : CountedValue). s.seat.board) is;
      number = ap (λ (s : CountedValue). s.seat.part.number) is;
      end = let e : first.seat.part.end ≡ 67 = ap (λ (s : CountedValue). s.seat.part.end) is in omega arith;
      seen = ap (λ (s : CountedValue). s.seat.part.seen) is;
    };
    seated = All-nil (IsCountedSeated board);
    works_are = sym (append-nil works);
    cover = λ n lt. inl ((λ i. known_of (is i).seat.part n) ∙ (λ i. known_is (part 0 67 [] []) i n) ∙ all_known n lt);
  }

  -- all can be
  pub works-can-start : (first : CountedValue) (works : List Work) → first ≡ counted_value (seat_value (part 0 67 [] []) board) 4000000 → All (FitsCountedWork board.setup) works → AllPairs (λ (v w : Work). v.cpu < w.cpu) works → CanSeatWorks board.setup first.seat works
  works-can-start first works is fit ascend = record { fit = fit; ascend = ascend; below = λ k d lt. let c = (fit k d lt).cpu in let e : first.seat.part.end ≡ 67 = ap (λ (s : CountedValue). s.seat.part.end) is in omega arith }

  module _ (old new : SeatValue) (left : List Work) (w : Work) (can : CanSeatWorks board.setup old (left ++ w ∷ [])) where
    -- the last work of those that are left
    pub last-work-fits : FitsCountedWork board.setup w
    last-work-fits = All-head (FitsCountedWork board.setup) w [] (All-back (FitsCountedWork board.setup) left (w ∷ []) can.fit)

    -- its number is below the first seat's end
    pub last-work-below : 2 + w.cpu < old.part.end
    last-work-below = All-head (λ (v : Work). 2 + v.cpu < old.part.end) w [] (All-back (λ (v : Work). 2 + v.cpu < old.part.end) left (w ∷ []) can.below)

    -- the others can be seated then
    pub works-can-more : new.part.end ≡ 2 + w.cpu → CanSeatWorks board.setup new left
    works-can-more end = record {
      fit = All-front (FitsCountedWork board.setup) left (w ∷ []) can.fit;
      ascend = λ i j d lt within.
          let many = length-append left (w ∷ []) in
          subst (λ (p : Work × Work). p.0.cpu < p.1.cpu) (λ k. (get_or_append_left left (w ∷ []) d i (omega arith) k, get_or_append_left left (w ∷ []) d j within k)) (can.ascend i j d lt (omega arith));
      below = λ k d lt.
          let many = length-append left (w ∷ []) in
          let less : (get_or left k d).cpu < w.cpu =
          subst (λ (p : Work × Work). p.0.cpu < p.1.cpu) (λ j. (get_or_append_left left (w ∷ []) d k lt j, get_or_at left w [] d (length left) refl j)) (can.ascend k (length left) d lt (omega arith)) in
          omega arith;
    }

    -- the work is seated
    pub works-seated-more : {G : Type 0} (all : List Work) (fs : List (CountedFeeder G)) (f : CountedFeeder G) → AreCountedSeated board old all (left ++ w ∷ []) fs → IsSeatedFor board old new w f → AreCountedSeated board new all left (fs ++ f ∷ [])
    works-seated-more {G} all fs f are made = record {
      is_first = made.first;
      seated = All-push (IsCountedSeated board) fs f are.seated made.seated;
      works_are = are.works_are ∙ append_assoc left (w ∷ []) (works_in fs) ∙ ap (λ (z : List Work). left ++ z) (sym one);
      cover = λ n lt. elim (are.cover n lt) [
        | inl t ↦ elim (made.cover n t) [
          | inl a ↦ inl a
          | inr b ↦ inr (Any-push (λ (f : CountedFeeder G). known_of f.seat.seat.part n ≡ true) fs f b)
        ]
        | inr any ↦ inr (Any-front (λ (f : CountedFeeder G). known_of f.seat.seat.part n ≡ true) fs (f ∷ []) any)
      ];
    }
      where
        one : works_in (fs ++ f ∷ []) ≡ w ∷ works_in fs
        one = ap reverse (map-append (λ (f : CountedFeeder G). f.lane.work) fs (f ∷ [])) ∙ reverse-append (map (λ (f : CountedFeeder G). f.lane.work) fs) (f.lane.work ∷ []) ∙ ap (λ (v : Work). v ∷ works_in fs) made.work_is
