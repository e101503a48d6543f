-- What a call has to show so that its step is allowed, and what the step shows of the call.
use Rattle.std.proofs.Common.{◌≡◌, inl, inr, ℕ, ◌<◌, Bool, true, List, [], ◌∷◌, ◌++◌, refl, ap, sym, ◌∙◌, subst, arith, append_assoc}
use Rattle.std.proofs.lemmas.List.{append-nil}
use Rattle.std.proofs.lemmas.List.Elements.{filter-append, All-nil, All-cons}
use Rattle.atomic_table.specs.Seated.{TableId}
use Rattle.rv_model.specs.declared.entry.Act.{Act}
use Rattle.rv_model.specs.declared.entry.Act.TheVariants.{Deliver, Stop, Look, Raise, Lower, Clear, End}
use Rattle.rv_model.specs.declared.entry.Entry.{Entry}
use Rattle.rv_model.specs.Setups.{Setup}
use Rattle.rv_model.specs.Histories.{IsSound, IsJustifiedBy, IsPermittedTo}
use Rattle.rv_model.specs.Seats.{Seat, known_of, entries_of, Grows}
use Rattle.rv_core.specs.Setup.{FitsAct, ActFits, judges_of}
use Rattle.rv_board.specs.declared.view.View.{View}
use Rattle.rv_board.specs.inner.Known.{knows, Begun}
use Rattle.rv_board.specs.Rule.{joined}
use Rattle.rv_board.specs.inner.Rule.{word_at, with_seen, first_view}
use Rattle.rv_board.specs.Seats.{SeatValue, seat_value, IsUsable, SeatGrows, Acts, Looks, ExtendsSeen, Joins, Closes}
use Rattle.rv_board.specs.inner.Seats.{board_id}
use Rattle.rv_board.specs.inner.Steps.{Ours, Saw, Made, IsActStep, made_after}
use Rattle.rv_board.proofs.Knowing.{knows_own, known_is}
use Rattle.rv_board.proofs.KeepLemmas.{CanMake}
use Rattle.rv_board.proofs.SoundLemmas.{sound-empty}

-- only a Stop has to be justified
abbrev pub IsCalm : Act → Type 0
IsCalm (Stop slot) = ⊥
IsCalm _ = Unit {0}

-- what is calm needs no justification
calm : (seat : ℕ) (act : Act) (history : List Entry) → IsCalm act → IsJustifiedBy act seat history
calm seat (Stop slot) history h = absurd h
calm seat (Deliver slot hit) history h = tt
calm seat Look history h = tt
calm seat (Raise bits) history h = tt
calm seat (Lower bits) history h = tt
calm seat (Clear slot) history h = tt
calm seat (End slot) history h = tt

-- what a usable seat may do
pub may : (k : Setup) (number end : ℕ) (me : Ours) (act : Act) → IsUsable number end me → me.0.setup ≡ k → FitsAct k act → ActFits k act → IsPermittedTo act me.0.part.number → IsCalm act → CanMake k me.0 act
may k number end me act u setup fits bits held h = record { setup = setup; has = u.has; small = u.small; fits = fits; bits = bits; permitted = held; justified = calm me.0.part.number act me.0.part.seen h }

-- the view after a step is again that of a usable seat
pub usable : (number end : ℕ) (m m' : Ours) → IsUsable number end m → m'.0 ≡ with_seen m.0 m'.0.part.seen → IsSound m.0.setup (judges_of m.0.setup) m'.0.part.seen → m'.1 ≡ m.1 → IsUsable number end m'
usable number end m m' u same good kept =
    let n : m'.0.part.number ≡ m.0.part.number = ap (λ (v : View). v.part.number) same in
    let e : m'.0.part.end ≡ m.0.part.end = ap (λ (v : View). v.part.end) same in
    let has = u.has in
    let small = u.small in record {
      number_is = u.number_is ∙ sym n;
      end_is = u.end_is ∙ sym e;
      has = omega arith;
      small = omega arith;
      left = ap (λ (v : View). v.left) same;
      right = ap (λ (v : View). v.right) same;
      empty = kept ∙ u.empty;
      sound = subst (λ (k : Setup). IsSound k (judges_of k) m'.0.part.seen) (sym (ap (λ (v : View). v.setup) same)) good;
    }

-- a list of one entry of a known number
made_known : (p : ℕ → Bool) (x : Entry) → p x.seat ≡ true → entries_of p (x ∷ []) ≡ x ∷ []
made_known p x t = rw t refl

-- the entry of a step that made an act
abbrev pub entry_of : (v w : View) (act : Act) (found : ℕ) → Made word_at v w act found → Entry
entry_of v w act found m = made_after v.setup v.part.number act (v.part.seen ++ m.rest)

-- a step that made an act has grown the list by it
pub grown_by : (v w : View) (act : Act) (found : ℕ) → v.part.number < v.part.end → (m : Made word_at v w act found) → Grows v.setup (judges_of v.setup) v.part w.part (entry_of v w act found m ∷ [])
grown_by v w act found has m =
    let x : Entry = entry_of v w act found m in
    let own : knows v.part v.part.number ≡ true = knows_own v.part.number v.part.end v.part.joined_in has in
    let mine : entries_of (knows v.part) (m.rest ++ x ∷ []) ≡ x ∷ [] = filter-append (λ (e : Entry). knows v.part e.seat) m.rest (x ∷ []) ∙ (ap (λ l. l ++ entries_of (knows v.part) (x ∷ [])) m.none ∙ made_known (knows v.part) x own) in record {
      rest = m.rest ++ x ∷ [];
      list = m.list ∙ append_assoc v.part.seen m.rest (x ∷ []);
      known = subst (λ (p : ℕ → Bool). entries_of p (m.rest ++ x ∷ []) ≡ x ∷ []) (sym (known_is v.part)) mine;
      seats = All-cons (λ (e : Entry). e.seat ≡ v.part.number) x [] refl (All-nil (λ (e : Entry). e.seat ≡ v.part.number));
      ends = inr (x, [], m.rest, refl, refl);
      sound = m.sound;
      number = ap (λ (z : View). z.part.number) m.same;
      end = ap (λ (z : View). z.part.end) m.same;
      joined_in = ap (λ (z : View). z.part.joined_in) m.same;
    }

-- of the first seat
pub usable_first : (k : Setup) (me : Ours) → me ≡ (first_view k, []) → IsUsable 0 67 me
usable_first k me same = subst (IsUsable 0 67) (sym same) record { number_is = refl; end_is = refl; has = omega arith; small = omega arith; left = refl; right = refl; empty = refl; sound = sound-empty k (judges_of k) }

-- what a step that made an act tells of the seat
pub acts-by : {number end : ℕ} {table table' : TableId} {m m' : Ours} (act : Act) {found : ℕ} {old : SeatValue} → IsUsable number end m → seat_value m.0.part (board_id table m.0.setup) ≡ old → table' ≡ table → (t : IsActStep act m found m')
    → Acts old (seat_value m'.0.part (board_id table' m'.0.setup)) act (entry_of m.0 m'.0 act found t.0)
acts-by {number} {end} {table} {table'} {m} {m'} act {found} {old} u is same t =
    subst (λ (o : SeatValue). Acts o (seat_value m'.0.part (board_id table' m'.0.setup)) act (entry_of m.0 m'.0 act found t.0)) is
    record { grows = record { grows = grown_by m.0 m'.0 act found u.has t.0; board = λ i. board_id (same i) (ap (λ (v : View). v.setup) t.0.same i) }; act_is = refl }

-- the same where the act is spelled otherwise
pub acts-as : {number end : ℕ} {table table' : TableId} {m m' : Ours} {act act' : Act} {found : ℕ} {old : SeatValue} → act' ≡ act → IsUsable number end m → seat_value m.0.part (board_id table m.0.setup) ≡ old → table' ≡ table → IsActStep act' m found m'
    → (entry : Entry) × Acts old (seat_value m'.0.part (board_id table' m'.0.setup)) act entry
acts-as {number} {end} {table} {table'} {m} {m'} {act} {act'} {found} {old} e u is same t =
    let t' = subst (λ (a : Act). IsActStep a m found m') e t in
    (entry_of m.0 m'.0 act found t'.0, acts-by act u is same t')

-- a call that adds nothing
pub grows_seen : {table table' : TableId} {v w : View} {place found : ℕ} {old : SeatValue} → seat_value v.part (board_id table v.setup) ≡ old → table' ≡ table → Saw word_at v w place found → SeatGrows old (seat_value w.part (board_id table' w.setup)) []
grows_seen {table} {table'} {v} {w} {place} {found} {old} is same s =
    subst (λ (o : SeatValue). SeatGrows o (seat_value w.part (board_id table' w.setup)) []) is
    record {
      grows = record {
        rest = s.rest;
        list = s.list;
        known = subst (λ (p : ℕ → Bool). entries_of p s.rest ≡ []) (sym (known_is v.part)) s.none;
        seats = All-nil (λ (e : Entry). e.seat ≡ v.part.number);
        ends = inl refl;
        sound = s.sound;
        number = ap (λ (z : View). z.part.number) s.same;
        end = ap (λ (z : View). z.part.end) s.same;
        joined_in = ap (λ (z : View). z.part.joined_in) s.same;
      };
      board = λ i. board_id (same i) (ap (λ (z : View). z.setup) s.same i);
    }

-- what the shared definition says of a beginning
pub follows : (h : List Entry) (p : Seat) → Begun h p → ExtendsSeen h p
follows h p b = record { rest = b.rest; list = b.whole; none = subst (λ (q : ℕ → Bool). entries_of q b.rest ≡ []) (sym (known_is p)) b.none }

-- an entry of a known number is not missing
no_such : (e : Entry) (rest : List Entry) (known : ℕ → Bool) → known e.seat ≡ true → entries_of known (e ∷ rest) ≡ [] → ⊥
no_such e rest known yes-known none-left = let f : entries_of known (e ∷ rest) ≡ [] = none-left in cc (rw yes-known at f)

-- a seat that knows all numbers has seen the whole history
pub all_seen : (k : Setup) (seat : Seat) (h : List Entry) → ExtendsSeen h seat → IsSound k (judges_of k) h → ((n : ℕ) → n < 67 → known_of seat n ≡ true) → h ≡ seat.seen
all_seen k seat h f sound all = on f.rest f.list f.none
  where
    on : (rest : List Entry) → h ≡ seat.seen ++ rest → entries_of (known_of seat) rest ≡ [] → h ≡ seat.seen
    on [] whole none-left = whole ∙ append-nil seat.seen
    on (e ∷ rest) whole none-left = absurd (no_such e rest (known_of seat) (all e.seat (sound.permitted seat.seen e rest whole).0) none-left)

-- what the last load tells
pub closes : {table : TableId} {v w : View} {place found : ℕ} {seat : SeatValue} → seat_value v.part (board_id table v.setup) ≡ seat → Saw word_at v w place found → Closes seat w.part.seen
closes {table} {v} {w} {place} {found} {seat} is s =
    let f : ExtendsSeen w.part.seen v.part = follows w.part.seen v.part record { rest = s.rest; whole = s.list; none = s.none } in
    subst (λ (o : SeatValue). Closes o w.part.seen) is
    record { list = f; sound = s.sound; whole = all_seen v.setup v.part w.part.seen f s.sound }

-- what a look tells
pub looks-by : {number end : ℕ} {table table' : TableId} {m m' : Ours} {found : ℕ} {old : SeatValue} → IsUsable number end m → seat_value m.0.part (board_id table m.0.setup) ≡ old → table' ≡ table → IsActStep Look m found m'
    → Looks old (seat_value m'.0.part (board_id table' m'.0.setup)) found
looks-by {number} {end} {table} {table'} {m} {m'} {found} {old} u is same t = record { entry = entry_of m.0 m'.0 Look found t.0; acts = acts-by Look u is same t; found = sym t.0.word }

-- what the two loads of a join tell
joined-view : (table table' other : TableId) (v w x : View) (index found : ℕ) → table' ≡ table → Saw word_at (joined v w) x index found → Joins (seat_value v.part (board_id table v.setup)) (seat_value w.part (board_id other w.setup)) (seat_value x.part (board_id table' x.setup))
joined-view table table' other v w x index found same s = record {
  own = follows x.part.seen v.part s.left;
  other = follows x.part.seen w.part s.right;
  sound = s.sound;
  joined_in = ap (λ (z : View). z.part.joined_in) s.same;
  number = ap (λ (z : View). z.part.number) s.same;
  end = ap (λ (z : View). z.part.end) s.same;
  board = λ i. board_id (same i) ((s.same i).setup);
}

-- and of the seats as contracts see them
pub joins-by : {table table' other : TableId} (v w : View) {m x : View} {index found : ℕ} {old from : SeatValue} → m ≡ joined v w → seat_value v.part (board_id table v.setup) ≡ old → seat_value w.part (board_id other w.setup) ≡ from → table' ≡ table → Saw word_at m x index found
    → Joins old from (seat_value x.part (board_id table' x.setup))
joins-by {table} {table'} {other} v w {m} {x} {index} {found} {old} {from} both is from-is same s =
    subst (λ (o : SeatValue × SeatValue). Joins o.0 o.1 (seat_value x.part (board_id table' x.setup))) (λ i. (is i, from-is i))
    (joined-view table table' other v w x index found same (subst (λ (z : View). Saw word_at z x index found) both s))
