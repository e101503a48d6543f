-- A watched run: its history is legal, and the words are the slot's along it.
use Rattle.std.proofs.Common.{◌≡◌, inl, inr, ℕ, ◌<◌, Bool, true, List, [], ◌∷◌, length, reverse, arith, refl, sym, ap, ◌∙◌, subst}
use Rattle.std.specs.Prelude.{All}
use Rattle.std.specs.List.{AllZip}
use Rattle.std.proofs.lemmas.List.{take_all}
use Rattle.std.proofs.lemmas.List.Elements.{All-weaker}
use Rattle.rv_model.specs.declared.entry.Entry.{Entry}
use Rattle.rv_model.specs.declared.formula.Spec.{Spec}
use Rattle.rv_model.specs.declared.record.Record.{Record}
use Rattle.rv_model.specs.Histories.{Input, input_with, IsSound, IsLegal, AreJudges}
use Rattle.rv_model.specs.Seats.{known_of, entries_of}
use Rattle.rv_model.specs.Setups.{Setup}
use Rattle.rv_model.specs.SharedWords.{word_of}
use Rattle.rv_model.proofs.NumberLemmas.{nat_lt_or}
use Rattle.rv_core.specs.Setup.{judges_of}
use Rattle.rv_board.specs.Known.{part}
use Rattle.rv_board.specs.inner.Known.{known_by}
use Rattle.rv_board.specs.RunSeats.{HasTakenIn}
use Rattle.rv_board.specs.Seats.{BoardId, SeatValue, SeatGrows, seat_value, ExtendsSeen, Joins, Closes}
use Rattle.rv_board.proofs.GrowLemmas.{same_known}
use Rattle.rv_board.proofs.Knowing.{known_is, knows_own, none_of, none_either}
use Rattle.rv_board.proofs.SoundLemmas.{sound-empty}
use Rattle.rv_board.proofs.ListLemmas.{Any-implied, zip-with, zip-left}
use Rattle.rv_board.proofs.RunSeatLemmas.{follows-then, holds-itself, holds-still, holds-joined}
use Rattle.rv_feed.specs.declared.feeder.Feeder.{Feeder}
use Rattle.rv_feed.specs.AtOnce.{IsSeated, lanes_of, AreSeated}
use Rattle.rv_feed.specs.Feeders.{RunsFeeder}
use Rattle.rv_feed.specs.Lane.{LaneValue, works_of, lane_records}
use Rattle.rv_feed.specs.Runs.{IsRunOf}
use Rattle.rv_feed.proofs.AtOnceLemmas.{IsFed, fed-says, fed-works}
use Rattle.rv_feed.proofs.ChangeLemmas.{does-none}
use Rattle.rv_watch.specs.declared.watcher.Watcher.{Watcher}
use Rattle.rv_watch.specs.Runs.{IsWatched}
use Rattle.rv_watch.specs.Watching.{WatchesSlot}
use Rattle.rv_watch.specs.Words.{AreWords, word_after}
use Rattle.rv_watch.proofs.IdleLemmas.{grows-holds, holds-through, none-of-fresh, two-known, zero-known, other-known, from-one, from-one-within}
use Rattle.rv_watch.proofs.WordLemmas.{words-later, words-anywhere}

module _ {G : Type 0} (board : BoardId) (panics : ℕ → Bool) (h : List Entry) where
  -- the calls of a watched run: seats were made and split off, the feeders and the watcher ran, all seats were joined, the last word was read, and the board was closed
  pub record IsRun (slot last : ℕ) (start first own before mid read final : SeatValue) (lanes : List LaneValue) (fs fs' : List (Feeder G LaneValue)) (w w' : Watcher G) : Type 0 where
    pub start_is : start ≡ seat_value (part 0 67 [] []) board
    pub first_is : first ≡ seat_value (part start.part.number 66 start.part.joined_in start.part.seen) start.board
    pub own_is : own ≡ seat_value (part 66 start.part.end [] start.part.seen) start.board
    pub watcher_is : w.seat ≡ own
    pub slot_is : w.slot ≡ slot
    pub seated : AreSeated board first.part.end before lanes [] fs
    pub ran : AllZip (RunsFeeder panics) fs fs'
    pub watched : WatchesSlot w w'
    pub permitted : HasTakenIn mid before
    pub feeders : All (λ (f : Feeder G LaneValue). HasTakenIn mid f.seat) fs'
    pub joins : Joins mid w'.seat read
    pub reads : SeatGrows read final []
    pub last_is : last ≡ word_of board.setup (judges_of board.setup) (reverse final.part.seen) slot
    pub closes : Closes final h
    pub on : final.board ≡ board

  module _ (slot last : ℕ) (start first own before mid read final : SeatValue) (lanes : List LaneValue) (fs fs' : List (Feeder G LaneValue)) (w w' : Watcher G) (run : IsRun slot last start first own before mid read final lanes fs fs' w w') where
    -- ---- what the last seat holds

    read-held : HasTakenIn final read
    read-held = grows-holds read final run.reads

    mid-held : HasTakenIn final mid
    mid-held = holds-through final read mid read-held (holds-still mid w'.seat read run.joins mid (holds-itself mid))

    before-held : HasTakenIn final before
    before-held = holds-through final mid before mid-held run.permitted

    feeders-held : All (λ (f : Feeder G LaneValue). HasTakenIn final f.seat) fs'
    feeders-held = All-weaker (λ (f : Feeder G LaneValue). HasTakenIn mid f.seat) (λ (f : Feeder G LaneValue). HasTakenIn final f.seat) (λ f holds. holds-through final mid f.seat mid-held holds) fs' run.feeders

    watched-held : HasTakenIn final w'.seat
    watched-held = holds-through final read w'.seat read-held (holds-joined mid w'.seat read run.joins)

    own-held : HasTakenIn final w.seat
    own-held = holds-through final w'.seat w.seat watched-held (grows-holds w.seat w'.seat run.watched.grows)

    -- ---- numbers

    -- the watcher's seat
    own-value : w.seat ≡ seat_value (part 66 67 [] []) board
    own-value = run.watcher_is ∙ run.own_is ∙ (λ i. seat_value (part 66 (run.start_is i).part.end [] (run.start_is i).part.seen) (run.start_is i).board)

    -- it knows its number
    watcher-known : known_of w.seat.part 66 ≡ true
    watcher-known = (λ i. known_of (own-value i).part 66) ∙ (λ i. known_is (part 66 67 [] []) i 66) ∙ knows_own 66 67 [] (omega arith)

    end-is : first.part.end ≡ 66
    end-is = ap (λ (s : SeatValue). s.part.end) run.first_is

    -- what the first seat knows after it has handed on numbers
    before-known : (n : ℕ) → known_of before.part n ≡ known_by 0 before.part.end before.part.joined_in n
    before-known n = (λ i. known_is before.part i n) ∙ (λ i. known_by (run.seated.is_first.number i) before.part.end before.part.joined_in n)

    -- the last seat knows all numbers
    all-known : (n : ℕ) → n < 67 → known_of final.part n ≡ true
    all-known n lt = elim (nat_lt_or n 66 (omega arith)) [
      | inl below ↦ elim (run.seated.cover n (let e = end-is in omega arith)) [
        | inl t ↦ before-held.within n t
        | inr any ↦ (Any-implied (λ (f : Feeder G LaneValue). known_of f.seat.part n ≡ true) (λ (f : Feeder G LaneValue). known_of final.part n ≡ true) fs each any).4
      ]
      | inr is ↦ subst (λ (m : ℕ). known_of final.part m ≡ true) (sym is) (own-held.within 66 watcher-known)
    ]
      where
        Knows : Feeder G LaneValue → Feeder G LaneValue → Type 0
        Knows f f' = known_of f.seat.part n ≡ true → known_of final.part n ≡ true

        both : AllZip Knows fs fs'
        both = zip-with (RunsFeeder panics) (IsSeated board) (λ (f : Feeder G LaneValue). HasTakenIn final f.seat) Knows (λ f f' runs seated holds t. holds.within n (ap (λ (k : ℕ → Bool). k n) (same_known f.seat f'.seat _ runs.adds.grows) ∙ t)) fs fs' run.ran run.seated.seated feeders-held

        each : All (λ (f : Feeder G LaneValue). known_of f.seat.part n ≡ true → known_of final.part n ≡ true) fs
        each = zip-left Knows (λ (f : Feeder G LaneValue). known_of f.seat.part n ≡ true → known_of final.part n ≡ true) (λ f f' k. k) fs fs' both

    -- so the history is the last seat's list
    whole : h ≡ final.part.seen
    whole = run.closes.whole all-known

    -- ---- the history

    -- a seat that is held by the last one is in the history
    in-history : (seat : SeatValue) → HasTakenIn final seat → ExtendsSeen h seat.part
    in-history seat holds = follows-then final seat h holds run.closes.list

    -- the seat of 0 and of the watcher's number
    abbrev idle : SeatValue
    idle = seat_value (part 0 1 (66 ∷ []) []) board

    -- the control actor's seat, which does nothing
    abbrev actor : SeatValue
    actor = seat_value (part 1 before.part.end before.part.joined_in []) board

    none-before : entries_of (known_of before.part) h ≡ []
    none-before = none-of-fresh before.part h run.seated.is_first.seen (in-history before before-held)

    none-watched : entries_of (known_of w.seat.part) h ≡ []
    none-watched = none-of-fresh w.seat.part h (ap (λ (s : SeatValue). s.part.seen) own-value) (in-history w.seat own-held)

    idle-in : ExtendsSeen h idle.part
    idle-in = record {
      rest = h;
      list = refl;
      none = none_either (known_of before.part) (known_of w.seat.part) (known_of idle.part) h (λ n t. elim (two-known 66 n (sym (λ i. known_is idle.part i n) ∙ t)) [
        | inl zero ↦ inl (before-known n ∙ ap (known_by 0 before.part.end before.part.joined_in) zero ∙ knows_own 0 before.part.end before.part.joined_in (let e = run.seated.is_first.end in omega arith))
        | inr is ↦ inr (ap (known_of w.seat.part) is ∙ watcher-known)
      ]) none-before none-watched;
    }

    actor-in : ExtendsSeen h actor.part
    actor-in = record {
      rest = h;
      list = refl;
      none = none_of (known_of before.part) (known_of actor.part) h (λ n t. before-known n ∙ from-one-within before.part.end before.part.joined_in n (sym (λ i. known_is actor.part i n) ∙ t)) none-before;
    }

    -- the run is one of all scripts at once, without changes
    pub run-fed : IsFed board panics h idle actor actor [] fs fs'
    run-fed = record {
      sound = subst (λ (b : BoardId). IsSound b.setup (judges_of b.setup) h) run.on run.closes.sound;
      seated = run.seated.seated;
      ran = run.ran;
      feeders_in = All-weaker (λ (f : Feeder G LaneValue). HasTakenIn final f.seat) (λ (f : Feeder G LaneValue). ExtendsSeen h f.seat.part) (λ f holds. in-history f.seat holds) fs' feeders-held;
      actor_is = refl;
      actor_fresh = record { has = run.seated.is_first.end; seen = refl };
      did = does-none actor (sound-empty board.setup (judges_of board.setup));
      actor_in = actor-in;
      seen = refl;
      first_in = idle-in;
      cover = λ n lt. elim (nat_lt_or n 66 (omega arith)) [
        | inl below ↦ elim (run.seated.cover n (let e = end-is in omega arith)) [
          | inl t ↦ elim (from-one before.part.end before.part.joined_in n (sym (before-known n) ∙ t)) [
            | inl zero ↦ inl ((λ i. known_is idle.part i n) ∙ ap (known_by 0 1 (66 ∷ [])) zero ∙ zero-known 66)
            | inr more ↦ inr (inl ((λ i. known_is actor.part i n) ∙ more))
          ]
          | inr any ↦ inr (inr any)
        ]
        | inr is ↦ inl ((λ i. known_is idle.part i n) ∙ ap (known_by 0 1 (66 ∷ [])) is ∙ other-known 66)
      ];
    }

    -- ---- the words

    -- the words that were kept
    pub run-words : AreWords board.setup (judges_of board.setup) h slot 0 w'.words.items
    run-words =
        let later = in-history w'.seat watched-held in
        let same : w'.seat.board ≡ board = run.watched.grows.board ∙ ap (λ (s : SeatValue). s.board) own-value in
        let least : ℕ = length w.seat.part.seen in
        let own : AreWords board.setup (judges_of board.setup) w'.seat.part.seen slot least w'.words.items =
        subst (λ (b : BoardId). AreWords b.setup (judges_of b.setup) w'.seat.part.seen slot least w'.words.items) same (subst (λ (n : ℕ). AreWords w'.seat.board.setup (judges_of w'.seat.board.setup) w'.seat.part.seen n least w'.words.items) run.slot_is run.watched.words) in
        words-anywhere board.setup (judges_of board.setup) slot least h w'.words.items
        (subst (λ (l : List Entry). AreWords board.setup (judges_of board.setup) l slot least w'.words.items) (sym later.list) (words-later board.setup (judges_of board.setup) slot least w'.seat.part.seen later.rest w'.words.items own))

    -- and the last one
    pub run-last : last ≡ word_after board.setup (judges_of board.setup) h slot (length h)
    run-last = run.last_is ∙ ap (λ (l : List Entry). word_of board.setup (judges_of board.setup) (reverse l) slot) (sym whole ∙ sym (take_all (length h) h (omega arith)))

    -- so it is a watched run
    pub run-watched : (specs : List Spec) → AreJudges specs board.setup.tables (judges_of board.setup) → IsRunOf (IsWatched slot w'.words.items last) (input_with board.setup specs panics (works_of (lanes_of fs)) []) (lane_records (lanes_of fs')) h
    run-watched specs are = fed-says board panics h idle actor actor [] fs fs' run-fed specs (IsWatched slot w'.words.items last) (λ legal. record { legal = legal; kept_are = run-words; last_is = run-last }) are

    -- the works are as before
    pub run-works : works_of (lanes_of fs') ≡ works_of lanes
    run-works = fed-works board panics h idle actor actor [] fs fs' run-fed ∙ ap works_of (sym run.seated.lanes_are)

    -- as it is told of the setup and the lanes of the call
    pub run-promised : (setup : Setup) (back : List LaneValue) (specs : List Spec) → board.setup ≡ setup → back ≡ lanes_of fs' → AreJudges specs setup.tables (judges_of setup)
        → IsRunOf (IsWatched slot w'.words.items last) (input_with setup specs panics (works_of lanes) []) (lane_records back) h
    run-promised setup back specs setup_is back_is are =
        let judges : AreJudges specs board.setup.tables (judges_of board.setup) = subst (λ (s : Setup). AreJudges specs s.tables (judges_of s)) (sym setup_is) are in
        subst (λ (z : Setup × (List LaneValue × List LaneValue)). IsRunOf (IsWatched slot w'.words.items last) (input_with z.0 specs panics (works_of z.1.0) []) (lane_records z.1.1) h) (λ i. (setup_is i, (sym run.seated.lanes_are i, sym back_is i))) (run-watched specs judges)

-- a watched run is legal
pub legal-of-watched : (slot : ℕ) (words : List ℕ) (last : ℕ) (input : Input) (rs : List Record) (h : List Entry) → IsRunOf (IsWatched slot words last) input rs h → IsRunOf IsLegal input rs h
legal-of-watched slot words last input rs h run = record { judges = run.judges; are_judges = run.are_judges; history = run.history.legal; records_are = run.records_are; status_is = run.status_is }
