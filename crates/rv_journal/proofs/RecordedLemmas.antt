-- The lists of all lanes are the joined seat's list, so they can be merged.
use Rattle.std.proofs.Common.{◌≡◌, ◌≢◌, ◌⊎◌, inl, inr, ℕ, zero, suc, ◌+◌, ◌<◌, true, false, List, [], ◌∷◌, ◌++◌, length, map, reverse, get_or, arith, refl, sym, ap, ◌∙◌, subst}
use Rattle.std.specs.Prelude.{All, AllPairs, Any}
use Rattle.std.specs.List.{AllZip}
use Rattle.std.proofs.lemmas.List.{get_or-map, length-map}
use Rattle.std.proofs.lemmas.List.Elements.{All-map, All-weaker}
use Rattle.rv_model.specs.declared.entry.Entry.{Entry}
use Rattle.rv_model.specs.declared.formula.Spec.{Spec}
use Rattle.rv_model.specs.Cuts.{AtEach}
use Rattle.rv_model.specs.Histories.{input_with, IsSound, IsLegal}
use Rattle.rv_model.specs.Numbers.{has_bit}
use Rattle.rv_model.specs.Seats.{known_of, entries_of}
use Rattle.rv_model.specs.Setups.{Setup}
use Rattle.rv_model.specs.Works.{Work}
use Rattle.rv_core.specs.Setup.{judges_of}
use Rattle.rv_board.specs.RunSeats.{HasTakenIn}
use Rattle.rv_board.specs.Seats.{BoardId, SeatValue, ExtendsSeen}
use Rattle.rv_board.proofs.ListLemmas.{map-reverse, All-reverse, Any-reverse, Any-map, zip-with, zip-right, zip-map}
use Rattle.rv_board.proofs.RunSeatLemmas.{later-own, not-fresh}
use Rattle.rv_journal.specs.declared.feeding.CountedFeeder.{CountedFeeder}
use Rattle.rv_journal.specs.CountedFeeders.{FitsCountedFeeder, RunsCounted}
use Rattle.rv_journal.specs.CountedLanes.{CountedLaneValue, FitsCounted, AllObservedAfter, FeedsCounted, entries_observed}
use Rattle.rv_journal.specs.Merging.{FitsSetup, IsSeatPartOf, FitsLane, CanMerge, IsMergeOf, seat_of, works_of}
use Rattle.rv_journal.specs.Running.{FitsCountedWork}
use Rattle.rv_journal.specs.inner.Running.{IsCountedSeated, lanes_in, works_in, AreCountedSeated, AreJoined}
use Rattle.rv_journal.proofs.PartLemmas.{is-part, all-served}

module _ {G : Type 0} (board : BoardId) (h : List Entry) where
  -- the history has what the lane tells as its CPU's part, and nothing else by the numbers of the feeder's seat
  record IsRecorded (old new : CountedFeeder G) : Type 0 where
    work_is : new.lane.work ≡ old.lane.work
    fits : FitsLane board.setup h new.lane
    own : (before : List Entry) (e : Entry) (after : List Entry) → h ≡ before ++ e ∷ after → known_of old.seat.seat.part e.seat ≡ true → e.seat ≡ seat_of new.lane

  -- a feeder that ran, and whose seat was joined
  is-recorded : (old new : CountedFeeder G) → RunsCounted old new → IsCountedSeated board old → ExtendsSeen h new.seat.seat.part → IsRecorded old new
  is-recorded old new runs seated later =
      let fresh = seated.fresh in
      let work : old.lane.work ≡ new.lane.work = sym runs.work_is in
      let number : old.seat.seat.part.number ≡ seat_of new.lane = seated.fits.seat_is ∙ ap (λ (w : Work). 2 + w.cpu) work in
      let feeds : FeedsCounted old.seat new.seat new.lane.work.deliveries new.lane.counted = subst (λ (w : Work). FeedsCounted old.seat new.seat w.deliveries new.lane.counted) work runs.feeds in
      let on : old.seat.seat.board.setup ≡ board.setup = ap (λ (b : BoardId). b.setup) seated.fits.board_is in
      let fit : FitsCountedWork board.setup new.lane.work = subst (FitsCountedWork board.setup) work seated.work in
      record {
        work_is = runs.work_is;
        fits = record {
          cpu = fit.cpu;
          fit = All-weaker (FitsCounted board.setup) (FitsSetup board.setup) (λ d f. record { monitor = f.monitor; instance_fits = f.instance_fits; hit = f.hit }) new.lane.work.deliveries fit.fit;
          enabled = fit.enabled;
          served = all-served board.setup (known_of old.seat.seat.part) old.seat.seat.part.seen new.seat.seat.part.seen (entries_of (known_of old.seat.seat.part) old.seat.seat.part.seen) new.lane.work.deliveries new.lane.counted
              (subst (λ (s : Setup). AllObservedAfter s (known_of old.seat.seat.part) old.seat.seat.part.seen new.seat.seat.part.seen (entries_of (known_of old.seat.seat.part) old.seat.seat.part.seen) new.lane.work.deliveries new.lane.counted) on feeds.observed);
          part = subst (λ (n : ℕ). IsSeatPartOf h n new.lane.counted) number (is-part old.seat new.seat h fresh.seen fresh.has later new.lane.work.deliveries new.lane.counted feeds);
        };
        own = λ before e after cut knows. later-own old.seat.seat new.seat.seat h fresh.seen later (entries_observed new.lane.counted) runs.feeds.grows before e after cut knows ∙ number;
      }

  -- all feeders ran, from seats that had all numbers, and the history follows all seats
  pub record AreRecorded (first : SeatValue) (works : List Work) (fs fs' : List (CountedFeeder G)) : Type 0 where
    pub sound : IsSound board.setup (judges_of board.setup) h
    pub seated : All (IsCountedSeated board) fs
    pub works_are : works ≡ works_in fs
    pub ran : AllZip RunsCounted fs fs'
    pub feeders_in : All (λ f. ExtendsSeen h f.seat.seat.part) fs'
    pub seen : first.part.seen ≡ []
    pub first_in : ExtendsSeen h first.part
    pub cover : (n : ℕ) → n < 67 → (known_of first.part n ≡ true) ⊎ Any (λ f. known_of f.seat.seat.part n ≡ true) fs

  module _ (first : SeatValue) (works : List Work) (fs fs' : List (CountedFeeder G)) (are : AreRecorded first works fs fs') where
    -- each feeder's part is in the history
    all-recorded : AllZip IsRecorded fs fs'
    all-recorded = zip-with RunsCounted (IsCountedSeated board) (λ f. ExtendsSeen h f.seat.seat.part) IsRecorded is-recorded fs fs' are.ran are.seated are.feeders_in

    -- each lane fits
    lanes-fit : All (FitsLane board.setup h) (lanes_in fs')
    lanes-fit = All-reverse (FitsLane board.setup h) (map (λ f. f.lane) fs') (All-map (FitsLane board.setup h) (λ f. f.lane) fs' (zip-right IsRecorded (λ f. FitsLane board.setup h f.lane) (λ f f' i. i.fits) fs fs' all-recorded))

    -- the works are as before
    pub recorded-works : works_of (lanes_in fs') ≡ works
    recorded-works =
        map-reverse (λ (l : CountedLaneValue). l.work) (map (λ f. f.lane) fs')
        ∙ (ap reverse (twice fs') ∙ (ap reverse (zip-map IsRecorded (λ (f : CountedFeeder G). f.lane.work) (λ f f' i. i.work_is) fs fs' all-recorded) ∙ sym are.works_are))
      where
        twice : (gs : List (CountedFeeder G)) → map (λ (l : CountedLaneValue). l.work) (map (λ (f : CountedFeeder G). f.lane) gs) ≡ map (λ (f : CountedFeeder G). f.lane.work) gs
        twice [] = refl
        twice (g ∷ gs) = ap (λ (z : List Work). g.lane.work ∷ z) (twice gs)

    -- every entry is a lane's
    nobody-else : AtEach (λ before e. Any (λ l. e.seat ≡ seat_of l) (lanes_in fs')) h
    nobody-else before e after cut = elim (are.cover e.seat (are.sound.permitted before e after cut).0) [
      | inl knows ↦ absurd (not-fresh first.part h are.seen are.first_in before e after cut knows)
      | inr any ↦ of_lanes (over fs fs' all-recorded any.0 any.1 any.2 any.3 any.4)
    ]
      where
        -- a feeder whose seat knew the number has it in its lane
        over : (gs gs' : List (CountedFeeder G)) → AllZip IsRecorded gs gs' → (k : ℕ) (f : CountedFeeder G) → k < length gs → get_or gs k f ≡ f → known_of f.seat.seat.part e.seat ≡ true → Any (λ (f : CountedFeeder G). e.seat ≡ seat_of f.lane) gs'
        over [] gs' zip k f low at knows = absurd (omega arith)
        over (g ∷ gs) [] zip k f low at knows = absurd zip
        over (g ∷ gs) (g' ∷ gs') zip zero f low at knows = (0, g', omega arith, refl, zip.0.own before e after cut (subst (λ (x : CountedFeeder G). known_of x.seat.seat.part e.seat ≡ true) (sym at) knows))
        over (g ∷ gs) (g' ∷ gs') zip (suc k) f low at knows = let r = over gs gs' zip.1 k f (omega arith) at knows in (suc r.0, r.1, (let l = r.2 in omega arith), r.3, r.4)

        of_lanes : Any (λ (f : CountedFeeder G). e.seat ≡ seat_of f.lane) fs' → Any (λ (l : CountedLaneValue). e.seat ≡ seat_of l) (lanes_in fs')
        of_lanes any = Any-reverse (λ (l : CountedLaneValue). e.seat ≡ seat_of l) (map (λ f. f.lane) fs') (Any-map (λ (l : CountedLaneValue). e.seat ≡ seat_of l) (λ f. f.lane) fs' any)

    -- so they can be merged
    pub recorded-can-merge : AllPairs (λ (v w : Work). v.cpu < w.cpu) works → has_bit board.setup.switches 34 ≡ false → CanMerge board.setup h (lanes_in fs')
    recorded-can-merge ascend running = record {
      sound = are.sound;
      fit = lanes-fit;
      cpus = apart (lanes_in fs') (subst (AllPairs (λ (v w : Work). v.cpu < w.cpu)) (sym recorded-works) ascend);
      no_other = nobody-else;
      running = running;
    }
      where
        apart : (lanes : List CountedLaneValue) → AllPairs (λ (v w : Work). v.cpu < w.cpu) (works_of lanes) → AllPairs (λ (l m : CountedLaneValue). l.work.cpu ≢ m.work.cpu) lanes
        apart lanes up i j d lt within = λ same.
            let many = length-map lanes (λ (l : CountedLaneValue). l.work) in
            let less : (get_or lanes i d).work.cpu < (get_or lanes j d).work.cpu =
            subst (λ (p : Work × Work). p.0.cpu < p.1.cpu) (λ k. (get_or-map (λ (l : CountedLaneValue). l.work) lanes i d d.work (omega arith) k, get_or-map (λ (l : CountedLaneValue). l.work) lanes j d d.work within k)) (up i j d.work lt (omega arith)) in
            omega arith

    -- and what they become is legal for the works, whatever specifications there are
    pub recorded-legal : (specs : List Spec) (merged : List Entry) → IsMergeOf board.setup h (lanes_in fs') merged → IsLegal (input_with board.setup specs (λ _. false) works []) (judges_of board.setup) merged
    recorded-legal specs merged is =
        let l = is.legal in
        subst (λ (ws : List Work). IsLegal (input_with board.setup specs (λ _. false) ws []) (judges_of board.setup) merged) recorded-works (record { sound = l.sound; cpus = l.cpus; control = l.control; nobody_else = l.nobody_else })

-- ---- from the calls of a run

module _ {G : Type 0} (board : BoardId) where
  -- feeders with seats fit the board
  pub all-fit : (fs : List (CountedFeeder G)) → All (IsCountedSeated board) fs → All (FitsCountedFeeder board) fs
  all-fit fs all = All-weaker (IsCountedSeated board) (FitsCountedFeeder board) (λ f seated. seated.fits) fs all

  -- feeders that ran are on the same board
  pub all-on : (fs fs' : List (CountedFeeder G)) → All (IsCountedSeated board) fs → AllZip RunsCounted fs fs' → All (λ (f : CountedFeeder G). f.seat.seat.board ≡ board) fs'
  all-on fs fs' seated ran =
      zip-right On (λ (f : CountedFeeder G). f.seat.seat.board ≡ board) (λ f f' on. on) fs fs'
      (zip-with RunsCounted (IsCountedSeated board) (λ (f : CountedFeeder G). Unit {0}) On (λ f f' runs seated free. runs.feeds.grows.board ∙ seated.fits.board_is) fs fs' ran seated (λ k d lt. tt))
    where
      On : CountedFeeder G → CountedFeeder G → Type 0
      On f f' = f'.seat.seat.board ≡ board

  -- the seats were split off, the feeders ran, and all seats were joined
  pub recorded-from : (first last : SeatValue) (works : List Work) (fs fs' : List (CountedFeeder G)) (lanes : List CountedLaneValue) → AreCountedSeated board first works [] fs → AllZip RunsCounted fs fs' → AreJoined board first last fs' lanes
      → IsSound last.board.setup (judges_of last.board.setup) last.part.seen → AreRecorded board last.part.seen first works fs fs'
  recorded-from first last works fs fs' lanes are ran joined sound = record {
    sound = subst (λ (b : BoardId). IsSound b.setup (judges_of b.setup) last.part.seen) joined.board_is sound;
    seated = are.seated;
    works_are = are.works_are;
    ran = ran;
    feeders_in = All-weaker (λ (f : CountedFeeder G). HasTakenIn last f.seat.seat) (λ (f : CountedFeeder G). ExtendsSeen last.part.seen f.seat.seat.part) (λ f holds. holds.follows) fs' joined.seats;
    seen = are.is_first.seen;
    first_in = joined.into.follows;
    cover = are.cover;
  }

  -- what is merged of the lanes is legal for the works, by the setup that the board was made with
  pub whole-run : (setup : Setup) (first last : SeatValue) (works : List Work) (fs fs' : List (CountedFeeder G)) (lanes : List CountedLaneValue) → AreCountedSeated board first works [] fs → AllZip RunsCounted fs fs' → AreJoined board first last fs' lanes
      → IsSound last.board.setup (judges_of last.board.setup) last.part.seen → board.setup ≡ setup
      → (lent_setup : Setup) (slice : List CountedLaneValue) (merged closed : List Entry) → lent_setup ≡ board.setup → slice ≡ lanes → IsMergeOf lent_setup last.part.seen slice merged → closed ≡ merged
      → (specs : List Spec) → IsLegal (input_with setup specs (λ _. false) works []) (judges_of setup) closed
  whole-run setup first last works fs fs' lanes are ran joined sound setup_is lent_setup slice merged closed lent_is slice_is merges closed_is specs =
      let recorded = recorded-from first last works fs fs' lanes are ran joined sound in
      let mine : IsMergeOf board.setup last.part.seen (lanes_in fs') merged =
      subst (λ (z : Setup × List CountedLaneValue). IsMergeOf z.0 last.part.seen z.1 merged) (λ i. (lent_is i, (slice_is ∙ joined.lanes_are) i)) merges in
      subst (λ (z : Setup × List Entry). IsLegal (input_with z.0 specs (λ _. false) works []) (judges_of z.0) z.1) (λ i. (setup_is i, sym closed_is i)) (recorded-legal board last.part.seen first works fs fs' recorded specs merged mine)
