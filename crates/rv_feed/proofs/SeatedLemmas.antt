-- Seats are split off from the first one, lane by lane from the last to the first.
use Rattle.std.proofs.Common.{◌≡◌, inl, inr, ℕ, ◌+◌, ◌<◌, true, List, [], ◌∷◌, ◌++◌, length, map, reverse, get_or, arith, refl, sym, ap, ◌∙◌, subst, append_assoc, append-nil}
use Rattle.std.specs.Prelude.{All, AllPairs}
use Rattle.std.proofs.lemmas.Bool.Decides.{nat_tests}
use Rattle.std.proofs.lemmas.List.{reverse-append, map-append, get_or_at, get_or_append_left, length-append}
use Rattle.std.proofs.lemmas.List.Elements.{All-nil, All-head, All-push}
use Rattle.std.proofs.lemmas.List.Quantifiers.{Any-push}
use Rattle.rv_model.specs.Seats.{is_within, is_among, known_of}
use Rattle.rv_model.specs.Setups.{Setup}
use Rattle.rv_board.specs.Known.{part}
use Rattle.rv_board.specs.inner.Known.{known_by}
use Rattle.rv_board.specs.RunSeats.{IsFirst}
use Rattle.rv_board.specs.Seats.{BoardId, SeatValue, seat_value}
use Rattle.rv_board.proofs.Knowing.{known_is}
use Rattle.rv_board.proofs.ListLemmas.{All-front, All-back, Any-front}
use Rattle.rv_board.proofs.RunSeatLemmas.{split_known}
use Rattle.rv_feed.specs.declared.feeder.Feeder.{Feeder}
use Rattle.rv_feed.specs.AtOnce.{IsSeated, lanes_of, AreSeated}
use Rattle.rv_feed.specs.Feeding.{CanFeed}
use Rattle.rv_feed.specs.Lane.{LaneValue, FitsLane}

-- ---- numbers

-- a seat with number 0 has all numbers below its end
all_known : (end : ℕ) (joined_in : List ℕ) (n : ℕ) → n < end → known_by 0 end joined_in n ≡ true
unfolding known_by is_within is_among
all_known end joined_in n lt = grind (arith, nat_tests)

-- ---- lanes

-- what is left to be seated: lanes that fit, by ascending CPUs, all below the first seat's end
pub record CanSeat (s : Setup) (first : SeatValue) (left : List LaneValue) : Type 0 where
  pub fit : All (FitsLane s) left
  pub ascend : AllPairs (λ (l m : LaneValue). l.work.cpu < m.work.cpu) left
  pub below : All (λ (l : LaneValue). 2 + l.work.cpu < first.part.end) left

module _ (board : BoardId) where
  -- no lane is seated
  pub seated-none : {G : Type 0} (first : SeatValue) (lanes : List LaneValue) → IsFirst board first → AreSeated {G = G} board first.part.end first lanes lanes []
  seated-none {G} first lanes is = record {
    is_first = is;
    seated = All-nil (IsSeated board);
    lanes_are = sym (append-nil lanes);
    cover = λ n lt. inl ((λ i. known_is first.part i n) ∙ (λ i. known_by (is.number i) first.part.end first.part.joined_in n) ∙ all_known first.part.end first.part.joined_in n lt);
  }

  -- all can be
  pub can-start : (first : SeatValue) (lanes : List LaneValue) → 65 < first.part.end → All (FitsLane board.setup) lanes → AllPairs (λ (l m : LaneValue). l.work.cpu < m.work.cpu) lanes → CanSeat board.setup first lanes
  can-start first lanes end fit ascend = record { fit = fit; ascend = ascend; below = λ k d lt. let c = (fit k d lt).cpu in omega arith }

  module _ (old new : SeatValue) (left : List LaneValue) (l : LaneValue) (can : CanSeat board.setup old (left ++ l ∷ [])) where
    -- the last lane of those that are left
    pub last-fits : FitsLane board.setup l
    last-fits = All-head (FitsLane board.setup) l [] (All-back (FitsLane board.setup) left (l ∷ []) can.fit)

    -- its number is below the first seat's end
    pub last-below : 2 + l.work.cpu < old.part.end
    last-below = All-head (λ (l : LaneValue). 2 + l.work.cpu < old.part.end) l [] (All-back (λ (l : LaneValue). 2 + l.work.cpu < old.part.end) left (l ∷ []) can.below)

    -- the others can be seated then
    pub can-more : new.part.end ≡ 2 + l.work.cpu → CanSeat board.setup new left
    can-more end = record {
      fit = All-front (FitsLane board.setup) left (l ∷ []) can.fit;
      ascend = λ i j d lt within.
          let many = length-append left (l ∷ []) in
          subst (λ (p : LaneValue × LaneValue). p.0.work.cpu < p.1.work.cpu) (λ k. (get_or_append_left left (l ∷ []) d i (omega arith) k, get_or_append_left left (l ∷ []) d j within k)) (can.ascend i j d lt (omega arith));
      below = λ k d lt.
          let many = length-append left (l ∷ []) in
          let less : (get_or left k d).work.cpu < l.work.cpu =
          subst (λ (p : LaneValue × LaneValue). p.0.work.cpu < p.1.work.cpu) (λ j. (get_or_append_left left (l ∷ []) d k lt j, get_or_at left l [] d (length left) refl j)) (can.ascend k (length left) d lt (omega arith)) in
          omega arith;
    }

    -- the lane is seated
    pub seated-more : {G : Type 0} (end : ℕ) (all : List LaneValue) (fs : List (Feeder G LaneValue)) (f : Feeder G LaneValue) → AreSeated board end old all (left ++ l ∷ []) fs → f.lane ≡ l → f.seat ≡ seat_value (part (2 + l.work.cpu) old.part.end [] old.part.seen) old.board
        → new ≡ seat_value (part old.part.number (2 + l.work.cpu) old.part.joined_in old.part.seen) old.board → AreSeated board end new all left (fs ++ f ∷ [])
    seated-more {G} end all fs f are lane seat first = record {
      is_first = record {
        board_is = ap (λ (s : SeatValue). s.board) first ∙ are.is_first.board_is;
        number = ap (λ (s : SeatValue). s.part.number) first ∙ are.is_first.number;
        end = let e : new.part.end ≡ 2 + l.work.cpu = ap (λ (s : SeatValue). s.part.end) first in omega arith;
        seen = ap (λ (s : SeatValue). s.part.seen) first ∙ are.is_first.seen;
      };
      seated = All-push (IsSeated board) fs f are.seated (record {
        fits = record {
          board_is = ap (λ (s : SeatValue). s.board) seat ∙ are.is_first.board_is;
          seat_is = ap (λ (s : SeatValue). s.part.number) seat ∙ ap (λ (m : LaneValue). 2 + m.work.cpu) (sym lane);
          lane_fits = subst (CanFeed board) (sym lane) (record { new_lane = last-fits.new_lane; fit = last-fits.fit });
        };
        fresh = record {
          has = let n : f.seat.part.number ≡ 2 + l.work.cpu = ap (λ (s : SeatValue). s.part.number) seat in let e : f.seat.part.end ≡ old.part.end = ap (λ (s : SeatValue). s.part.end) seat in let b = last-below in omega arith;
          seen = ap (λ (s : SeatValue). s.part.seen) seat ∙ are.is_first.seen;
        };
      });
      lanes_are = are.lanes_are ∙ append_assoc left (l ∷ []) (lanes_of fs) ∙ ap (λ (z : List LaneValue). left ++ z) (sym one);
      cover = λ n lt. elim (are.cover n lt) [
        | inl t ↦ elim (split_known old new f.seat (2 + l.work.cpu) n (ap (λ (s : SeatValue). s.part) first) (ap (λ (s : SeatValue). s.part) seat) t) [
          | inl a ↦ inl a
          | inr b ↦ inr (Any-push (λ (f : Feeder G LaneValue). known_of f.seat.part n ≡ true) fs f b)
        ]
        | inr any ↦ inr (Any-front (λ (f : Feeder G LaneValue). known_of f.seat.part n ≡ true) fs (f ∷ []) any)
      ];
    }
      where
        one : lanes_of (fs ++ f ∷ []) ≡ l ∷ lanes_of fs
        one = ap reverse (map-append (λ (f : Feeder G LaneValue). f.lane) fs (f ∷ [])) ∙ reverse-append (map (λ (f : Feeder G LaneValue). f.lane) fs) (f.lane ∷ []) ∙ ap (λ (m : LaneValue). m ∷ lanes_of fs) lane
