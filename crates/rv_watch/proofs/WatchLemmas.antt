-- A watcher after so many readings.
use Rattle.std.proofs.Common.{◌≡◌, inl, inr, ℕ, ◌<◌, ◌≤◌, Bool, List, [], ◌∷◌, ◌++◌, length, reverse, arith, refl, sym, ap, ◌∙◌, subst, append_assoc}
use Rattle.std.specs.Prelude.{vec_capacity}
use Rattle.std.proofs.lemmas.List.{length-append, length_push}
use Rattle.std.proofs.lemmas.List.Elements.{All-nil}
use Rattle.rv_model.specs.declared.entry.Entry.{Entry}
use Rattle.rv_model.specs.Histories.{IsSound}
use Rattle.rv_model.specs.Seats.{known_of, entries_of}
use Rattle.rv_model.specs.Judging.{Judge}
use Rattle.rv_model.specs.Setups.{Setup}
use Rattle.rv_model.specs.SharedWords.{word_of}
use Rattle.rv_model.proofs.NumberLemmas.{nat_lt_or}
use Rattle.rv_core.specs.Setup.{judges_of}
use Rattle.rv_board.specs.Seats.{BoardId, SeatValue, SeatGrows}
use Rattle.rv_board.proofs.GrowLemmas.{same_known, grows_none}
use Rattle.rv_board.proofs.Knowing.{none_append}
use Rattle.rv_watch.specs.declared.watcher.Watcher.{Watcher}
use Rattle.rv_watch.specs.Watching.{word_seen, CanWatch, WatchesSlot}
use Rattle.rv_watch.specs.inner.Watching.{CanRead, ReadsSlot}
use Rattle.rv_watch.specs.Words.{AreWords, AreApart, IsSeen, last_word}
use Rattle.rv_watch.proofs.WordLemmas.{words-none, words-later, words-push, last-push, apart-push}

-- a list grows twice by no entry of its seat's own
pub grows-on : (a b c : SeatValue) → SeatGrows a b [] → SeatGrows b c [] → SeatGrows a c []
grows-on a b c g h =
    let p = g.grows in
    let q = h.grows in
    let none : entries_of (known_of a.part) q.rest ≡ [] = subst (λ (t : ℕ → Bool). entries_of t q.rest ≡ []) (same_known a b [] g) q.known in
    record {
      grows = record {
        rest = p.rest ++ q.rest;
        list = q.list ∙ ap (λ (l : List Entry). l ++ q.rest) p.list ∙ append_assoc a.part.seen p.rest q.rest;
        known = none_append (known_of a.part) p.rest q.rest p.known none;
        seats = All-nil (λ (e : Entry). e.seat ≡ a.part.number);
        ends = inl refl;
        sound = subst (λ (z : BoardId). IsSound z.setup (judges_of z.setup) c.part.seen) g.board q.sound;
        number = q.number ∙ p.number;
        end = q.end ∙ p.end;
        joined_in = q.joined_in ∙ p.joined_in;
      };
      board = h.board ∙ g.board;
    }

module _ {G : Type 0} where
  -- what a watcher has come to
  pub record IsUnderWay (old cur : Watcher G) (readings : ℕ) : Type 0 where
    pub grows : SeatGrows old.seat cur.seat []
    pub slot_is : cur.slot ≡ old.slot
    pub words : AreWords old.seat.board.setup (judges_of old.seat.board.setup) cur.seat.part.seen old.slot (length old.seat.part.seen) cur.words.items
    pub few : length cur.words.items ≤ 1024
    pub apart : AreApart cur.words.items
    pub newest : 0 < readings → IsSeen cur.words.items (word_seen cur.seat old.slot)
    pub room : 1024 ≤ vec_capacity cur.words

  -- no reading yet
  pub way-starts : (board : BoardId) (w : Watcher G) → IsSound w.seat.board.setup (judges_of w.seat.board.setup) w.seat.part.seen → CanWatch board w → IsUnderWay w w 0
  way-starts board w sound can = record {
    grows = grows_none w.seat sound;
    slot_is = refl;
    words = subst (AreWords w.seat.board.setup (judges_of w.seat.board.setup) w.seat.part.seen w.slot (length w.seat.part.seen)) (sym can.no_words) (words-none w.seat.board.setup (judges_of w.seat.board.setup) w.slot (length w.seat.part.seen) w.seat.part.seen);
    few = let none = ap length can.no_words in omega arith;
    apart = let none = ap length can.no_words in λ k within. absurd (omega arith);
    newest = λ some. absurd (omega arith);
    room = can.room;
  }

  -- it has passed its gate
  pub way-passes : (old cur : Watcher G) (n : ℕ) (gate : G) → IsUnderWay old cur n → IsUnderWay old (record cur { gate = gate }) n
  way-passes old cur n gate way = record { grows = way.grows; slot_is = way.slot_is; words = way.words; few = way.few; apart = way.apart; newest = way.newest; room = way.room }

  -- it can read
  pub way-reads : (board : BoardId) (old cur : Watcher G) (n : ℕ) → CanWatch board old → IsUnderWay old cur n → CanRead board cur
  way-reads board old cur n can way = record {
    board_is = way.grows.board ∙ can.board_is;
    slot_is = let below = can.slot_is in let same = way.slot_is in omega arith;
    few = way.few;
    room = way.room;
  }

  -- one reading more
  pub way-goes : (old cur new : Watcher G) (n m : ℕ) → IsUnderWay old cur n → ReadsSlot cur new → IsUnderWay old new m
  way-goes old cur new n m way reads = elim reads.keeps [
    | inl put ↦ record {
      grows = grows;
      slot_is = reads.slot_is ∙ way.slot_is;
      words = subst (AreWords s js new.seat.part.seen old.slot least) (sym put.2) (subst (λ (z : ℕ). AreWords s js new.seat.part.seen old.slot least (cur.words.items ++ z ∷ [])) (sym word) (words-push s js old.slot least new.seat.part.seen cur.words.items long later));
      few = let count = ap length put.2 ∙ length_push cur.words.items seen in let below = put.0 in omega arith;
      apart = subst AreApart (sym put.2) (apart-push cur.words.items seen way.apart put.1);
      newest = λ some below. (let count = ap length put.2 ∙ length_push cur.words.items seen in omega arith, ap last_word put.2 ∙ last-push cur.words.items seen ∙ same);
      room = room;
    }
    | inr still ↦ record {
      grows = grows;
      slot_is = reads.slot_is ∙ way.slot_is;
      words = subst (AreWords s js new.seat.part.seen old.slot least) (sym still.1) later;
      few = let count = ap length still.1 in let below = way.few in omega arith;
      apart = subst AreApart (sym still.1) way.apart;
      newest = λ some. subst (λ (z : List ℕ × ℕ). IsSeen z.0 z.1) (λ i. (sym still.1 i, same i)) still.0;
      room = room;
    }
  ]
    where
      s : Setup
      s = old.seat.board.setup

      js : List Judge
      js = judges_of s

      least : ℕ
      least = length old.seat.part.seen

      seen : ℕ
      seen = word_seen new.seat cur.slot

      grows : SeatGrows old.seat new.seat []
      grows = grows-on old.seat cur.seat new.seat way.grows reads.grows

      -- the word is that of the watcher's slot
      same : seen ≡ word_seen new.seat old.slot
      same = ap (word_seen new.seat) way.slot_is

      word : seen ≡ word_of s js (reverse new.seat.part.seen) old.slot
      word = same ∙ ap (λ (b : BoardId). word_of b.setup (judges_of b.setup) (reverse new.seat.part.seen) old.slot) grows.board

      later : AreWords s js new.seat.part.seen old.slot least cur.words.items
      later = subst (λ (h : List Entry). AreWords s js h old.slot least cur.words.items) (sym reads.grows.grows.list) (words-later s js old.slot least cur.seat.part.seen reads.grows.grows.rest cur.words.items way.words)

      long : least ≤ length new.seat.part.seen
      long = let count = ap length grows.grows.list ∙ length-append old.seat.part.seen grows.grows.rest in omega arith

      room : 1024 ≤ vec_capacity new.words
      room = let had = way.room in let has = reads.room in omega arith

  -- it ends after a reading
  pub way-ends : (old cur : Watcher G) (n : ℕ) → 0 < n → IsUnderWay old cur n → WatchesSlot old cur
  way-ends old cur n some way = record {
    grows = way.grows;
    slot_is = way.slot_is;
    words = subst (λ (b : BoardId). AreWords b.setup (judges_of b.setup) cur.seat.part.seen old.slot (length old.seat.part.seen) cur.words.items) (sym way.grows.board) way.words;
    kept = record {
      some = elim (nat_lt_or (length cur.words.items) 1024 way.few) [
        | inl below ↦ (way.newest some below).0
        | inr full ↦ omega arith
      ];
      few = way.few;
      apart = way.apart;
    };
    newest = way.newest some;
  }
