-- Seats of a run: who knows a number after a split, and that what is joined into a seat stays in it.
use Rattle.std.proofs.Common.{◌≡◌, ◌⊎◌, inl, inr, ℕ, Bool, true, false, List, [], ◌∷◌, ◌++◌, refl, sym, ap, ◌∙◌, subst, arith, append_assoc, append-nil}
use Rattle.std.specs.Prelude.{All, nat_lt}
use Rattle.std.proofs.lemmas.Bool.Decides.{nat_tests}
use Rattle.std.proofs.lemmas.List.Elements.{filter-append, All-nil, All-cons, All-head, All-weaker}
use Rattle.rv_model.specs.declared.entry.Entry.{Entry}
use Rattle.rv_model.specs.Seats.{Seat, is_within, is_among, known_of, entries_of}
use Rattle.rv_board.specs.Known.{part}
use Rattle.rv_board.specs.inner.Known.{known_by}
use Rattle.rv_board.specs.RunSeats.{HasTakenIn}
use Rattle.rv_board.specs.Seats.{BoardId, SeatValue, SeatGrows, ExtendsSeen, Joins}
use Rattle.rv_board.proofs.GrowLemmas.{own_within, other_within, same_known}
use Rattle.rv_board.proofs.Knowing.{known_is, none_of, none_append}
use Rattle.rv_board.proofs.ListLemmas.{All-front, All-back, kept-holds}

-- ---- split

-- what is known is on one of the two sides of a cut
cut_known : (number at end : ℕ) (joined_in : List ℕ) (n : ℕ) → known_by number end joined_in n ≡ true → (known_by number at joined_in n ≡ true) ⊎ (known_by at end [] n ≡ true)
unfolding known_by is_within is_among
cut_known number at end joined_in n t = go (is_among joined_in n) (nat_lt n at) refl refl
  where
    go : (a b : Bool) → is_among joined_in n ≡ a → nat_lt n at ≡ b → (known_by number at joined_in n ≡ true) ⊎ (known_by at end [] n ≡ true)
    go true b ga lt = inl (grind (arith, nat_tests))
    go false true ga lt = inl (grind (arith, nat_tests))
    go false false ga lt = inr (grind (arith, nat_tests))

-- of seats
pub split_known : (old left right : SeatValue) (at n : ℕ) → left.part ≡ part old.part.number at old.part.joined_in old.part.seen → right.part ≡ part at old.part.end [] old.part.seen
    → known_of old.part n ≡ true → (known_of left.part n ≡ true) ⊎ (known_of right.part n ≡ true)
split_known old left right at n l r t =
    elim (cut_known old.part.number at old.part.end old.part.joined_in n ((λ i. sym (known_is old.part) i n) ∙ t)) [
      | inl a ↦ inl ((λ i. known_of (l i) n) ∙ (λ i. known_is (part old.part.number at old.part.joined_in old.part.seen) i n) ∙ a)
      | inr b ↦ inr ((λ i. known_of (r i) n) ∙ (λ i. known_is (part at old.part.end [] old.part.seen) i n) ∙ b)
    ]

-- ---- joined

-- a later list follows what the one before follows
pub follows-then : (into seat : SeatValue) (h : List Entry) → HasTakenIn into seat → ExtendsSeen h into.part → ExtendsSeen h seat.part
follows-then into seat h holds later =
    let first = holds.follows in
    record {
      rest = first.rest ++ later.rest;
      list = later.list ∙ ap (λ (z : List Entry). z ++ later.rest) first.list ∙ append_assoc seat.part.seen first.rest later.rest;
      none = none_append (known_of seat.part) first.rest later.rest first.none (none_of (known_of into.part) (known_of seat.part) later.rest holds.within later.none);
    }

-- a seat holds itself
pub holds-itself : (seat : SeatValue) → HasTakenIn seat seat
holds-itself seat = record { follows = record { rest = []; list = sym (append-nil seat.part.seen); none = refl }; within = λ n t. t }

module _ (old from new : SeatValue) (joins : Joins old from new) where
  -- what the seat held
  pub holds-still : (seat : SeatValue) → HasTakenIn old seat → HasTakenIn new seat
  holds-still seat holds = record { follows = follows-then old seat new.part.seen holds joins.own; within = λ n t. own_within old from new joins n (holds.within n t) }

  -- what is joined in
  pub holds-joined : HasTakenIn new from
  holds-joined = record { follows = joins.other; within = other_within old from new joins }

-- ---- joined one after another

module _ {F : Type 0} (seat_of : F → SeatValue) (board : BoardId) where
  -- the seats of these items, the last ones, were joined into one, and the others are of its board
  pub record JoinedSoFar (old cur : SeatValue) (all left joined_in : List F) : Type 0 where
    pub split : all ≡ left ++ joined_in
    pub on : All (λ (f : F). (seat_of f).board ≡ board) left
    pub board_is : cur.board ≡ board
    pub into : HasTakenIn cur old
    pub seats : All (λ (f : F). HasTakenIn cur (seat_of f)) joined_in

  -- none was joined
  pub joined-none : (old : SeatValue) (all : List F) → old.board ≡ board → All (λ (f : F). (seat_of f).board ≡ board) all → JoinedSoFar old old all all []
  joined-none old all board_is on = record { split = sym (append-nil all); on = on; board_is = board_is; into = holds-itself old; seats = All-nil (λ (f : F). HasTakenIn old (seat_of f)) }

  module _ {old cur : SeatValue} {all left joined_in : List F} (front : List F) {f : F} (i : JoinedSoFar old cur all left joined_in) (popped : left ≡ front ++ f ∷ []) where
    -- the last one that is left is of the board
    pub joined-on : (seat_of f).board ≡ board
    joined-on = All-head (λ (f : F). (seat_of f).board ≡ board) f [] (All-back (λ (f : F). (seat_of f).board ≡ board) front (f ∷ []) (subst (All (λ (f : F). (seat_of f).board ≡ board)) popped i.on))

    -- it is joined
    pub joined-more : {new : SeatValue} → Joins cur (seat_of f) new → JoinedSoFar old new all front (f ∷ joined_in)
    joined-more {new} joins = record {
      split = i.split ∙ ap (λ (z : List F). z ++ joined_in) popped ∙ append_assoc front (f ∷ []) joined_in;
      on = All-front (λ (f : F). (seat_of f).board ≡ board) front (f ∷ []) (subst (All (λ (f : F). (seat_of f).board ≡ board)) popped i.on);
      board_is = joins.board ∙ i.board_is;
      into = holds-still cur (seat_of f) new joins old i.into;
      seats = All-cons (λ (g : F). HasTakenIn new (seat_of g)) f joined_in (holds-joined cur (seat_of f) new joins)
          (All-weaker (λ (g : F). HasTakenIn cur (seat_of g)) (λ (g : F). HasTakenIn new (seat_of g)) (λ g holds. holds-still cur (seat_of f) new joins (seat_of g) holds) joined_in i.seats);
    }

-- ---- in a later history

-- of the numbers of a seat that had seen nothing, and made nothing, none has an entry
pub none-of-fresh : (seat : Seat) (h : List Entry) → seat.seen ≡ [] → ExtendsSeen h seat → entries_of (known_of seat) h ≡ []
none-of-fresh seat h fresh later = let all : h ≡ later.rest = later.list ∙ ap (λ (z : List Entry). z ++ later.rest) fresh in ap (entries_of (known_of seat)) all ∙ later.none

-- so whose entry is in it knows no such number
pub not-fresh : (seat : Seat) (h : List Entry) → seat.seen ≡ [] → ExtendsSeen h seat → (before : List Entry) (e : Entry) (after : List Entry) → h ≡ before ++ e ∷ after → known_of seat e.seat ≡ true → ⊥
not-fresh seat h fresh later before e after cut knows =
    kept-holds (λ (x : Entry). ⊥) (λ (x : Entry). known_of seat x.seat) h before e after cut knows (subst (All (λ (x : Entry). ⊥)) (sym (none-of-fresh seat h fresh later)) (All-nil (λ (x : Entry). ⊥)))

-- of the numbers that a seat knew, which had seen nothing, only its own has entries
pub later-own : (old new : SeatValue) (h : List Entry) → old.part.seen ≡ [] → ExtendsSeen h new.part → (own : List Entry) → SeatGrows old new own → (before : List Entry) (e : Entry) (after : List Entry) → h ≡ before ++ e ∷ after → known_of old.part e.seat ≡ true → e.seat ≡ old.part.number
later-own old new h fresh later own g before e after cut knows =
    let p = g.grows in
    let known : ℕ → Bool = known_of old.part in
    let all : h ≡ p.rest ++ later.rest = later.list ∙ ap (λ (l : List Entry). l ++ later.rest) (p.list ∙ ap (λ (l : List Entry). l ++ p.rest) fresh) in
    let none_left : entries_of known later.rest ≡ [] = subst (λ (t : ℕ → Bool). entries_of t later.rest ≡ []) (same_known old new own g) later.none in
    let kept : entries_of known h ≡ own = ap (entries_of known) all ∙ filter-append (λ (x : Entry). known x.seat) p.rest later.rest ∙ (λ i. p.known i ++ none_left i) ∙ append-nil own in
    kept-holds (λ (x : Entry). x.seat ≡ old.part.number) (λ (x : Entry). known x.seat) h before e after cut knows (subst (All (λ (x : Entry). x.seat ≡ old.part.number)) (sym kept) p.seats)
