-- The history of a run at once is legal, and its records are the lanes'.
use Rattle.std.proofs.Common.{◌≡◌, ◌⊎◌, inl, inr, ℕ, ◌+◌, ◌<◌, ◌≤◌, Bool, true, List, [], ◌∷◌, ◌++◌, length, map, reverse, arith, sym, ap, ◌∙◌, subst}
use Rattle.std.specs.Prelude.{All, Any}
use Rattle.std.specs.List.{AllZip}
use Rattle.std.proofs.lemmas.List.{length-map, length-reverse}
use Rattle.std.proofs.lemmas.List.Elements.{All-map, All-weaker, length_all_zip}
use Rattle.rv_model.specs.declared.entry.Entry.{Entry}
use Rattle.rv_model.specs.declared.formula.Spec.{Spec}
use Rattle.rv_model.specs.declared.work.Change.{Change}
use Rattle.rv_model.specs.Cuts.{AtEach}
use Rattle.rv_model.specs.Histories.{Input, input_with, IsSound, IsLegal, AreJudges, acts_of}
use Rattle.rv_model.specs.Judging.{Judge}
use Rattle.rv_model.specs.Records.{script_records}
use Rattle.rv_model.specs.Scripts.{played, Plays, control_acts}
use Rattle.rv_model.specs.Seats.{known_of}
use Rattle.rv_model.specs.Setups.{Setup}
use Rattle.rv_model.specs.Works.{Work}
use Rattle.rv_core.specs.Setup.{judges_of}
use Rattle.rv_board.specs.Known.{part}
use Rattle.rv_board.specs.RunSeats.{IsFresh, HasTakenIn}
use Rattle.rv_board.specs.Seats.{BoardId, SeatValue, seat_value, ExtendsSeen, Joins, Closes}
use Rattle.rv_board.proofs.ListLemmas.{map-reverse, All-reverse, Any-reverse, Any-implied, Any-map, zip-with, zip-left, zip-right, zip-map}
use Rattle.rv_board.proofs.RunSeatLemmas.{follows-then, holds-itself, holds-still, holds-joined, later-own, not-fresh, split_known}
use Rattle.rv_feed.specs.declared.feeder.Feeder.{Feeder}
use Rattle.rv_feed.specs.AtOnce.{IsSeated, lanes_of, AreSeated}
use Rattle.rv_feed.specs.Changes.{DoesAll}
use Rattle.rv_feed.specs.Feeders.{RunsFeeder}
use Rattle.rv_feed.specs.Lane.{LaneValue, works_of, lane_records}
use Rattle.rv_feed.specs.Order.{Whole}
use Rattle.rv_feed.specs.Runs.{IsRunOf}
use Rattle.rv_feed.proofs.JoinedLemmas.{later-played, later-acts}
use Rattle.rv_feed.proofs.OneLemmas.{legal-of-run, run-of}

module _ {G : Type 0} (board : BoardId) (panics : ℕ → Bool) (h : List Entry) where
  -- the history has a feeder's script and nothing else by the numbers of its seat, and the lane has the script's records
  record IsIn (old new : Feeder G LaneValue) : Type 0 where
    work_is : new.lane.work ≡ old.lane.work
    whole : Whole board.setup panics [] h new.lane
    own : (before : List Entry) (e : Entry) (after : List Entry) → h ≡ before ++ e ∷ after → known_of old.seat.part e.seat ≡ true → e.seat ≡ 2 + old.lane.work.cpu

  -- a feeder that ran, and whose seat was joined
  is-in : (old new : Feeder G LaneValue) → RunsFeeder panics old new → IsSeated board old → ExtendsSeen h new.seat.part → IsIn old new
  is-in old new runs seated later =
      let on : old.seat.board ≡ board = seated.fits.board_is in
      let fresh = seated.fresh in
      let number : old.seat.part.number ≡ 2 + old.lane.work.cpu = seated.fits.seat_is in
      let work : old.lane.work ≡ new.lane.work = sym runs.work_is in
      let has : played board.setup (judges_of board.setup) (2 + new.lane.work.cpu) (reverse h) ≡ runs.script =
      sym (λ i. played (on i).setup (judges_of (on i).setup) ((number ∙ ap (λ (w : Work). 2 + w.cpu) work) i) (reverse h)) ∙ later-played old.seat new.seat h fresh.seen fresh.has later runs.script runs.adds in
      record {
        work_is = runs.work_is;
        whole = record {
          script = runs.script;
          played_is = has;
          plays = subst (λ (w : Work). Plays board.setup panics w runs.script) work (subst (λ (b : BoardId). Plays b.setup panics old.lane.work runs.script) on runs.plays);
          records = subst (λ (w : Work). script_records w.deliveries w.turns runs.script ≡ new.lane.records) work runs.records;
        };
        own = λ before e after cut knows. later-own old.seat new.seat h fresh.seen later _ runs.adds.grows before e after cut knows ∙ number;
      }

  -- all feeders ran and the changes were made, from seats that had all numbers, and the history follows all seats
  pub record IsFed (first actor actor' : SeatValue) (changes : List Change) (fs fs' : List (Feeder G LaneValue)) : Type 0 where
    pub sound : IsSound board.setup (judges_of board.setup) h
    pub seated : All (IsSeated board) fs
    pub ran : AllZip (RunsFeeder panics) fs fs'
    pub feeders_in : All (λ f. ExtendsSeen h f.seat.part) fs'
    pub actor_is : actor.part.number ≡ 1
    pub actor_fresh : IsFresh actor
    pub did : DoesAll actor actor' (control_acts board.setup.shape changes)
    pub actor_in : ExtendsSeen h actor'.part
    pub seen : first.part.seen ≡ []
    pub first_in : ExtendsSeen h first.part
    pub cover : (n : ℕ) → n < 67 → (known_of first.part n ≡ true) ⊎ ((known_of actor.part n ≡ true) ⊎ Any (λ f. known_of f.seat.part n ≡ true) fs)

  module _ (first actor actor' : SeatValue) (changes : List Change) (fs fs' : List (Feeder G LaneValue)) (fed : IsFed first actor actor' changes fs fs') where
    -- each feeder's script is in the history
    all-in : AllZip IsIn fs fs'
    all-in = zip-with (RunsFeeder panics) (IsSeated board) (λ f. ExtendsSeen h f.seat.part) IsIn is-in fs fs' fed.ran fed.seated fed.feeders_in

    -- each lane has the records of a whole script
    whole : All (Whole board.setup panics [] h) (lanes_of fs')
    whole = All-reverse (Whole board.setup panics [] h) (map (λ f. f.lane) fs') (All-map (Whole board.setup panics [] h) (λ f. f.lane) fs' (zip-right IsIn (λ f. Whole board.setup panics [] h f.lane) (λ f f' i. i.whole) fs fs' all-in))

    -- the works are as before
    pub fed-works : works_of (lanes_of fs') ≡ works_of (lanes_of fs)
    fed-works =
        map-reverse (λ (l : LaneValue). l.work) (map (λ f. f.lane) fs')
        ∙ ap reverse (zip-map (λ (l l' : LaneValue). l'.work ≡ l.work) (λ (l : LaneValue). l.work) (λ l l' same. same) (map (λ f. f.lane) fs) (map (λ f. f.lane) fs') (lanes fs fs' all-in))
        ∙ sym (map-reverse (λ (l : LaneValue). l.work) (map (λ f. f.lane) fs))
      where
        lanes : (fs fs' : List (Feeder G LaneValue)) → AllZip IsIn fs fs' → AllZip (λ (l l' : LaneValue). l'.work ≡ l.work) (map (λ f. f.lane) fs) (map (λ f. f.lane) fs')
        lanes [] [] zip = tt
        lanes [] (f' ∷ fs') zip = absurd zip
        lanes (f ∷ fs) [] zip = absurd zip
        lanes (f ∷ fs) (f' ∷ fs') zip = (zip.0.work_is, lanes fs fs' zip.1)

    -- every entry is the control actor's or a CPU's
    nobody : AtEach (λ before e. (e.seat ≡ 1) ⊎ Any (λ w. e.seat ≡ 2 + w.cpu) (works_of (lanes_of fs))) h
    nobody before e after cut = elim (fed.cover e.seat (fed.sound.permitted before e after cut).0) [
      | inl knows ↦ absurd (not-fresh first.part h fed.seen fed.first_in before e after cut knows)
      | inr other ↦ elim other [
        | inl knows ↦ inl (later-own actor actor' h fed.actor_fresh.seen fed.actor_in fed.did.own fed.did.grows before e after cut knows ∙ fed.actor_is)
        | inr any ↦ inr (of_works (Any-implied (λ f. known_of f.seat.part e.seat ≡ true) (λ f. e.seat ≡ 2 + f.lane.work.cpu) fs (zip-left IsIn (λ f. known_of f.seat.part e.seat ≡ true → e.seat ≡ 2 + f.lane.work.cpu) (λ f f' i. i.own before e after cut) fs fs' all-in) any))
      ]
    ]
      where
        of_works : Any (λ (f : Feeder G LaneValue). e.seat ≡ 2 + f.lane.work.cpu) fs → Any (λ w. e.seat ≡ 2 + w.cpu) (works_of (lanes_of fs))
        of_works any =
            Any-map (λ (w : Work). e.seat ≡ 2 + w.cpu) (λ (l : LaneValue). l.work) (lanes_of fs)
            (Any-reverse (λ (l : LaneValue). e.seat ≡ 2 + l.work.cpu) (map (λ f. f.lane) fs) (Any-map (λ (l : LaneValue). e.seat ≡ 2 + l.work.cpu) (λ f. f.lane) fs any))

    -- so the history is legal, and the lanes have its records; whatever is said of a legal history by these judges may be said with it
    pub fed-says : (specs : List Spec) (Says : Input → List Judge → List Entry → Type 0)
        → (IsLegal (input_with board.setup specs panics (works_of (lanes_of fs)) changes) (judges_of board.setup) h → Says (input_with board.setup specs panics (works_of (lanes_of fs)) changes) (judges_of board.setup) h)
        → AreJudges specs board.setup.tables (judges_of board.setup) → IsRunOf Says (input_with board.setup specs panics (works_of (lanes_of fs)) changes) (lane_records (lanes_of fs')) h
    fed-says specs Says says are =
        let acts : acts_of 1 h ≡ control_acts board.setup.shape changes = subst (λ (n : ℕ). acts_of n h ≡ control_acts board.setup.shape changes) fed.actor_is (later-acts actor actor' h fed.actor_fresh.seen fed.actor_fresh.has fed.actor_in _ fed.did) in
        run-of board.setup panics h (lanes_of fs) (lanes_of fs') specs changes fed-works whole Says are
        (says (legal-of-run board.setup panics h (lanes_of fs) (lanes_of fs') specs changes fed-works whole fed.sound acts nobody))

  module _ {first actor actor' : SeatValue} {changes : List Change} {fs fs' : List (Feeder G LaneValue)} (fed : IsFed first actor actor' changes fs fs') where
    -- the lanes come back where there are none
    pub lanes-back : {back left : List LaneValue} → back ≡ left ++ lanes_of fs' → left ≡ [] → back ≡ lanes_of fs'
    lanes-back is empty = is ∙ ap (λ (z : List LaneValue). z ++ lanes_of fs') empty

    -- with the works of the lanes of the call
    pub works-back : {lanes back left : List LaneValue} → lanes ≡ lanes_of fs → back ≡ left ++ lanes_of fs' → left ≡ [] → works_of back ≡ works_of lanes
    works-back lanes_are is empty = ap works_of (lanes-back is empty) ∙ fed-works first actor actor' changes fs fs' fed ∙ ap works_of (sym lanes_are)

    -- nothing else is said, of the setup and the lanes of the call
    pub fed-legal : {setup : Setup} {lanes back left : List LaneValue} (specs : List Spec) → board.setup ≡ setup → lanes ≡ lanes_of fs → back ≡ left ++ lanes_of fs' → left ≡ [] → AreJudges specs setup.tables (judges_of setup)
        → IsRunOf IsLegal (input_with setup specs panics (works_of lanes) changes) (lane_records back) h
    fed-legal {setup} {lanes} {back} {left} specs setup_is lanes_are is empty are =
        let judges : AreJudges specs board.setup.tables (judges_of board.setup) = subst (λ (s : Setup). AreJudges specs s.tables (judges_of s)) (sym setup_is) are in
        subst (λ (z : Setup × (List LaneValue × List LaneValue)). IsRunOf IsLegal (input_with z.0 specs panics (works_of z.1.0) changes) (lane_records z.1.1) h) (λ i. (setup_is i, (sym lanes_are i, sym (lanes-back is empty) i))) (fed-says first actor actor' changes fs fs' fed specs IsLegal (λ legal. legal) judges)

-- ---- from the calls of a run

-- feeders that ran are on the same board
pub ran-on : {G : Type 0} (board : BoardId) (panics : ℕ → Bool) (fs fs' : List (Feeder G LaneValue)) → All (IsSeated board) fs → AllZip (RunsFeeder panics) fs fs' → All (λ (f : Feeder G LaneValue). f.seat.board ≡ board) fs'
ran-on {G} board panics fs fs' seated ran =
    zip-right On (λ (f : Feeder G LaneValue). f.seat.board ≡ board) (λ f f' on. on) fs fs'
    (zip-with (RunsFeeder panics) (IsSeated board) (λ (f : Feeder G LaneValue). Unit {0}) On (λ f f' runs seated free. runs.adds.grows.board ∙ seated.fits.board_is) fs fs' ran seated (λ k d lt. tt))
  where
    On : Feeder G LaneValue → Feeder G LaneValue → Type 0
    On f f' = f'.seat.board ≡ board

-- and as many as there were lanes
pub ran-many : {G : Type 0} (panics : ℕ → Bool) (lanes : List LaneValue) (fs fs' : List (Feeder G LaneValue)) → lanes ≡ lanes_of fs → AllZip (RunsFeeder panics) fs fs' → length fs' ≡ length lanes
ran-many {G} panics lanes fs fs' is ran =
    sym (length_all_zip (RunsFeeder panics) fs fs' ran) ∙ sym (ap length is ∙ length-reverse (map (λ (f : Feeder G LaneValue). f.lane) fs) ∙ length-map fs (λ (f : Feeder G LaneValue). f.lane))

-- their lanes have room where theirs stood
pub ran-room : {G : Type 0} (panics : ℕ → Bool) {lanes left : List LaneValue} (fs fs' : List (Feeder G LaneValue)) (cap : ℕ) → lanes ≡ lanes_of fs → AllZip (RunsFeeder panics) fs fs' → left ≡ [] → length lanes ≤ cap → length left + length fs' ≤ cap
ran-room {G} panics {lanes} {left} fs fs' cap is ran empty room =
    let many = ran-many panics lanes fs fs' is ran in
    let none : length left ≡ 0 = ap length empty in
    omega arith

-- the seats were split off, the feeders and the control actor ran, and all seats were joined into the one that closed the board
pub fed-from : {G : Type 0} {board : BoardId} {end : ℕ} {panics : ℕ → Bool} {h : List Entry} {old first actor actor' mid last : SeatValue} (changes : List Change) {lanes : List LaneValue} {fs fs' : List (Feeder G LaneValue)}
    → AreSeated board end old lanes [] fs → end ≡ 67 → first ≡ seat_value (part old.part.number 1 old.part.joined_in old.part.seen) old.board → actor ≡ seat_value (part 1 old.part.end [] old.part.seen) old.board
    → AllZip (RunsFeeder panics) fs fs' → DoesAll actor actor' (control_acts actor.board.setup.shape changes)
    → Joins first actor' mid → HasTakenIn last mid → All (λ (f : Feeder G LaneValue). HasTakenIn last f.seat) fs' → last.board ≡ board → Closes last h → IsFed board panics h first actor actor' changes fs fs'
fed-from {G} {board} {end} {panics} {h} {old} {first} {actor} {actor'} {mid} {last} changes {lanes} {fs} {fs'} are all first_is actor_is ran did joins held feeders on closes =
    let mid_in : ExtendsSeen h mid.part = follows-then last mid h held closes.list in
    let same_board : actor.board ≡ board = ap (λ (s : SeatValue). s.board) actor_is ∙ are.is_first.board_is in
    record {
      sound = subst (λ (b : BoardId). IsSound b.setup (judges_of b.setup) h) on closes.sound;
      seated = are.seated;
      ran = ran;
      feeders_in = All-weaker (λ (f : Feeder G LaneValue). HasTakenIn last f.seat) (λ (f : Feeder G LaneValue). ExtendsSeen h f.seat.part) (λ f holds. follows-then last f.seat h holds closes.list) fs' feeders;
      actor_is = ap (λ (s : SeatValue). s.part.number) actor_is;
      actor_fresh = record {
        has = let n : actor.part.number ≡ 1 = ap (λ (s : SeatValue). s.part.number) actor_is in let e : actor.part.end ≡ old.part.end = ap (λ (s : SeatValue). s.part.end) actor_is in let above = are.is_first.end in omega arith;
        seen = ap (λ (s : SeatValue). s.part.seen) actor_is ∙ are.is_first.seen;
      };
      did = subst (λ (b : BoardId). DoesAll actor actor' (control_acts b.setup.shape changes)) same_board did;
      actor_in = follows-then mid actor' h (holds-joined first actor' mid joins) mid_in;
      seen = ap (λ (s : SeatValue). s.part.seen) first_is ∙ are.is_first.seen;
      first_in = follows-then mid first h (holds-still first actor' mid joins first (holds-itself first)) mid_in;
      cover = λ n lt. elim (are.cover n (omega arith)) [
        | inl t ↦ elim (split_known old first actor 1 n (ap (λ (s : SeatValue). s.part) first_is) (ap (λ (s : SeatValue). s.part) actor_is) t) [
          | inl a ↦ inl a
          | inr b ↦ inr (inl b)
        ]
        | inr any ↦ inr (inr any)
      ];
    }
