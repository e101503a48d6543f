-- How a seat's list grows by one call after another, and what is known after a join.
use Rattle.std.proofs.Common.{◌≡◌, inl, inr, ℕ, ◌<◌, ◌==◌, Bool, true, false, true≢false, List, [], ◌∷◌, ◌++◌, refl, ap, sym, ◌∙◌, subst, arith, append_assoc}
use Rattle.std.specs.List.{All}
use Rattle.std.proofs.lemmas.Bool.Decides.{nat_tests}
use Rattle.std.proofs.lemmas.List.{append-nil}
use Rattle.std.proofs.lemmas.List.Elements.{filter-append, All-nil, All-append, All-head, All-tail}
use Rattle.rv_model.specs.declared.entry.Entry.{Entry}
use Rattle.rv_model.specs.Histories.{IsSound}
use Rattle.rv_model.specs.Seats.{known_of, entries_of}
use Rattle.rv_core.specs.Setup.{judges_of}
use Rattle.rv_board.specs.Known.{blank, numbers}
use Rattle.rv_board.specs.inner.Known.{known_by}
use Rattle.rv_board.specs.Rule.{view, no_setup}
use Rattle.rv_board.specs.Seats.{BoardId, SeatValue, SeatGrows, ExtendsSeen, Joins}
use Rattle.rv_board.proofs.Knowing.{knows_own, known_is}
use Rattle.rv_board.proofs.NumberLemmas.{joined_left, joined_right}

-- a call leaves what its seat knows
pub same_known : (a b : SeatValue) (own : List Entry) → SeatGrows a b own → known_of b.part ≡ known_of a.part
same_known a b own g = known_is b.part ∙ ((λ i. known_by (g.grows.number i) (g.grows.end i) (g.grows.joined_in i)) ∙ sym (known_is a.part))

-- no call adds nothing
pub grows_none : (a : SeatValue) → IsSound a.board.setup (judges_of a.board.setup) a.part.seen → SeatGrows a a []
grows_none a sound = record {
  grows = record { rest = []; list = sym (append-nil a.part.seen); known = refl; seats = All-nil (λ (e : Entry). e.seat ≡ a.part.number); ends = inl refl; sound = sound; number = refl; end = refl; joined_in = refl };
  board = refl;
}

-- one call after another, of which the second adds something
pub grows_then : (a b c : SeatValue) (xs ys : List Entry) (y : Entry) → SeatGrows a b xs → SeatGrows b c (y ∷ ys) → SeatGrows a c (xs ++ y ∷ ys)
grows_then a b c xs ys y g h =
    let p = g.grows in
    let q = h.grows in
    let known : entries_of (known_of a.part) q.rest ≡ y ∷ ys = subst (λ (t : ℕ → Bool). entries_of t q.rest ≡ y ∷ ys) (same_known a b xs g) q.known in
    let seats : All (λ (e : Entry). e.seat ≡ a.part.number) (y ∷ ys) = subst (λ (n : ℕ). All (λ (e : Entry). e.seat ≡ n) (y ∷ ys)) p.number q.seats in
    record {
      grows = record {
        rest = p.rest ++ q.rest;
        list = q.list ∙ (ap (λ l. l ++ q.rest) p.list ∙ append_assoc a.part.seen p.rest q.rest);
        known = filter-append (λ (e : Entry). known_of a.part e.seat) p.rest q.rest ∙ (ap (λ l. l ++ entries_of (known_of a.part) q.rest) p.known ∙ ap (λ l. xs ++ l) known);
        seats = All-append (λ (e : Entry). e.seat ≡ a.part.number) xs (y ∷ ys) p.seats seats;
        ends = elim q.ends [ inl none-left ↦ absurd (cc (none-left)) | inr t ↦ inr (t.0, xs ++ t.1, p.rest ++ t.2, ap (λ l. xs ++ l) t.3 ∙ sym (append_assoc xs t.1 (t.0 ∷ [])), ap (λ l. p.rest ++ l) t.4 ∙ sym (append_assoc p.rest t.2 (t.0 ∷ []))) ];
        sound = subst (λ (z : BoardId). IsSound z.setup (judges_of z.setup) c.part.seen) g.board q.sound;
        number = q.number ∙ p.number;
        end = q.end ∙ p.end;
        joined_in = q.joined_in ∙ p.joined_in;
      };
      board = h.board ∙ g.board;
    }

-- of one number, in what is left by all that are known
entries_within : (p q : ℕ → Bool) (xs : List Entry) → ((n : ℕ) → q n ≡ true → p n ≡ true) → entries_of q xs ≡ entries_of q (entries_of p xs)
entries_within p q [] within = refl
entries_within p q (x ∷ xs) within = on (p x.seat) (q x.seat) refl refl (entries_within p q xs within)
  where
    on : (a b : Bool) → p x.seat ≡ a → q x.seat ≡ b → entries_of q xs ≡ entries_of q (entries_of p xs) → entries_of q (x ∷ xs) ≡ entries_of q (entries_of p (x ∷ xs))
    on true true pa qb more = rw (pa, qb) (ap (λ l. x ∷ l) more)
    on true false pa qb more = rw (pa, qb) more
    on false true pa qb more = absurd (true≢false (sym (within x.seat qb) ∙ pa))
    on false false pa qb more = rw (pa, qb) more

-- entries of one number are all of that number
entries_all : (seat : ℕ) (xs : List Entry) → All (λ (e : Entry). e.seat ≡ seat) xs → entries_of (λ n. n == seat) xs ≡ xs
entries_all seat [] all = refl
entries_all seat (x ∷ xs) all =
    let is : x.seat ≡ seat = All-head (λ (e : Entry). e.seat ≡ seat) x xs all in
    let same : (x.seat == seat) ≡ true = grind (arith, nat_tests) in
    rw same (ap (λ l. x ∷ l) (entries_all seat xs (All-tail (λ (e : Entry). e.seat ≡ seat) x xs all)))

-- what a seat has added that had seen nothing is all that a later history has by its number
pub own_entries : (old new : SeatValue) (own h : List Entry) → old.part.seen ≡ [] → old.part.number < old.part.end → SeatGrows old new own → ExtendsSeen h new.part → entries_of (λ n. n == old.part.number) h ≡ own
own_entries old new own h fresh has g f =
    let p = g.grows in
    let mine : known_of old.part old.part.number ≡ true = (λ i. known_is old.part i old.part.number) ∙ knows_own old.part.number old.part.end old.part.joined_in has in
    let all : h ≡ p.rest ++ f.rest = f.list ∙ (ap (λ l. l ++ f.rest) p.list ∙ ap (λ l. (l ++ p.rest) ++ f.rest) fresh) in
    let none-later : entries_of (known_of old.part) f.rest ≡ [] = subst (λ (t : ℕ → Bool). entries_of t f.rest ≡ []) (same_known old new own g) f.none in
    let known : entries_of (known_of old.part) h ≡ own = ap (entries_of (known_of old.part)) all
    ∙ (filter-append (λ (e : Entry). known_of old.part e.seat) p.rest f.rest ∙ (ap (λ l. l ++ entries_of (known_of old.part) f.rest) p.known ∙ (ap (λ l. own ++ l) none-later ∙ append-nil own))) in
    entries_within (known_of old.part) (λ n. n == old.part.number) h (λ n e. let is : n ≡ old.part.number = grind (arith, nat_tests) in subst (λ (z : ℕ). known_of old.part z ≡ true) (sym is) mine)
    ∙ (ap (entries_of (λ n. n == old.part.number)) known ∙ entries_all old.part.number own p.seats)

-- after a join the seat knows the numbers of both
joined-knows : (old from new : SeatValue) → Joins old from new → (n : ℕ) → known_by old.part.number old.part.end (old.part.joined_in ++ numbers from.part) n ≡ true → known_of new.part n ≡ true
joined-knows old from new j n t = (λ i. known_is new.part i n) ∙ ((λ i. known_by (j.number i) (j.end i) (j.joined_in i) n) ∙ t)

-- those of its own
pub own_within : (old from new : SeatValue) → Joins old from new → (n : ℕ) → known_of old.part n ≡ true → known_of new.part n ≡ true
own_within old from new j n t = joined-knows old from new j n (joined_left (view old.part blank blank no_setup) (view from.part blank blank no_setup) n (ap (λ (k : ℕ → Bool). k n) (sym (known_is old.part)) ∙ t))

-- and those of the other
pub other_within : (old from new : SeatValue) → Joins old from new → (n : ℕ) → known_of from.part n ≡ true → known_of new.part n ≡ true
other_within old from new j n t = joined-knows old from new j n (joined_right (view old.part blank blank no_setup) (view from.part blank blank no_setup) n (ap (λ (k : ℕ → Bool). k n) (sym (known_is from.part)) ∙ t))
