-- What a seat has seen after some lost tries.
use Rattle.std.proofs.Common.{◌≡◌, ◌≢◌, ℕ, suc, ◌+◌, ◌<◌, ◌≤◌, ◌==◌, Bool, true, false, List, [], ◌∷◌, ◌++◌, length, reverse, refl, ap, sym, ◌∙◌, subst, arith, append_assoc}
use Rattle.std.specs.Prelude.{filter, MatchBool}
use Rattle.std.proofs.lemmas.Bool.Decides.{nat_tests}
use Rattle.atomic_table.specs.Seated.{TableId}
use Rattle.rv_model.specs.declared.entry.Act.{Act}
use Rattle.rv_model.specs.declared.entry.Act.TheVariants.{Deliver, Stop}
use Rattle.rv_model.specs.declared.entry.Answer.{Answer}
use Rattle.rv_model.specs.declared.entry.Entry.{Entry}
use Rattle.rv_model.specs.declared.hit.Hit.{Hit}
use Rattle.rv_model.specs.Setups.{Setup}
use Rattle.rv_model.specs.SharedWords.{word_of, answer_at}
use Rattle.rv_model.specs.Histories.{LostThrice, IsSound, changed}
use Rattle.rv_model.specs.Seats.{entries_of}
use Rattle.rv_core.specs.Advance.{acted, advanced}
use Rattle.rv_core.specs.Setup.{word_index, table_at, table_of_act, start_of_act, judges_of}
use Rattle.rv_board.specs.declared.view.View.{View}
use Rattle.rv_board.specs.Deliveries.{IsMade, IsGivenUp}
use Rattle.rv_board.specs.Known.{blank}
use Rattle.rv_board.specs.inner.Known.{knows}
use Rattle.rv_board.specs.Rule.{view}
use Rattle.rv_board.specs.inner.Rule.{word_at, with_seen}
use Rattle.rv_board.specs.Seats.{SeatValue, seat_value, IsUsable, Acts}
use Rattle.rv_board.specs.inner.Seats.{board_id}
use Rattle.rv_board.specs.inner.Steps.{Ours, Saw, Made, made_after}
use Rattle.rv_board.proofs.Knowing.{none_append, none_is, knows_own, known_is}
use Rattle.rv_board.proofs.SoundLemmas.{changes, filter_append}
use Rattle.rv_board.proofs.CallLemmas.{entry_of, grown_by, usable}

-- the seat has seen the word that it expects, and since the view v as many changes of it by others as it has lost tries
pub record Lost (v w : View) (slot lost word : ℕ) : Type 0 where
  pub same : w ≡ with_seen v w.part.seen
  pub rest : List Entry
  pub list : w.part.seen ≡ v.part.seen ++ rest
  pub none : entries_of (knows v.part) rest ≡ []
  pub count : lost ≤ length (filter (changed slot) rest)
  pub sees : word ≡ word_of v.setup (judges_of v.setup) (reverse w.part.seen) slot
  pub sound : IsSound v.setup (judges_of v.setup) w.part.seen

-- at first no try is lost
pub lost_none : (v w : View) (slot place word : ℕ) → place ≡ suc slot → Saw word_at v w place word → Lost v w slot 0 word
lost_none v w slot place word at s = record {
  same = s.same;
  rest = s.rest;
  list = s.list;
  none = s.none;
  count = omega arith;
  sees = s.word ∙ ap (word_at v.setup w.part.seen) at;
  sound = s.sound;
}

-- one more try is lost, since another seat changed the word
pub lost_more : {v w x : View} {slot place lost word found : ℕ} → place ≡ suc slot → Lost v w slot lost word → Saw word_at w x place found → found ≢ word → Lost v x slot (lost + 1) found
lost_more {v} {w} {x} {slot} {place} {lost} {word} {found} at l s ne =
    let setup : w.setup ≡ v.setup = ap (λ (z : View). z.setup) l.same in
    let here : found ≡ word_at v.setup x.part.seen (suc slot) = s.word ∙ ap (word_at w.setup x.part.seen) at ∙ ap (λ (k : Setup). word_at k x.part.seen (suc slot)) setup in
    let sound : IsSound v.setup (judges_of v.setup) x.part.seen = subst (λ (k : Setup). IsSound k (judges_of k) x.part.seen) setup s.sound in
    let moved : word_at v.setup (w.part.seen ++ s.rest) (suc slot) ≢ word_at v.setup w.part.seen (suc slot) = λ same. ne (here ∙ (ap (λ l. word_at v.setup l (suc slot)) s.list ∙ (same ∙ sym l.sees))) in
    let one = changes v.setup (judges_of v.setup) w.part.seen s.rest slot (subst (IsSound v.setup (judges_of v.setup)) s.list sound) moved in
    let before = l.count in
    let both = filter_append slot l.rest s.rest in
    let quiet : entries_of (knows v.part) s.rest ≡ [] = subst (λ (z : View). entries_of (knows z.part) s.rest ≡ []) l.same s.none in record {
      same = s.same ∙ ap (λ (z : View). with_seen z x.part.seen) l.same;
      rest = l.rest ++ s.rest;
      list = s.list ∙ (ap (λ m. m ++ s.rest) l.list ∙ append_assoc v.part.seen l.rest s.rest);
      none = none_append (knows v.part) l.rest s.rest l.none quiet;
      count = omega arith;
      sees = here;
      sound = sound;
    }

-- three lost tries earn a stop
pub raced : {v w : View} {slot lost word : ℕ} → v.part.number < v.part.end → 3 ≤ lost → Lost v w slot lost word → LostThrice slot w.part.number w.part.seen
raced {v} {w} {slot} {lost} {word} has three l =
    let count = l.count in
    let number : w.part.number ≡ v.part.number = ap (λ (z : View). z.part.number) l.same in
    let own : knows v.part v.part.number ≡ true = knows_own v.part.number v.part.end v.part.joined_in has in
    subst (λ (n : ℕ). LostThrice slot n w.part.seen) (sym number) record {
      until = v.part.seen;
      since = l.rest;
      is = l.list;
      none = none_is (knows v.part) v.part.number l.rest own l.none;
      three = omega arith;
    }

-- what a step that made an act tells, by the setup, the number and what stood before
abbrev Tells : View → Act → ℕ → Setup × ℕ × List Entry → Type 0
Tells x act found z =
    (x.part.seen ≡ z.2 ++ made_after z.0 z.1 act z.2 ∷ [])
    × (found ≡ word_at z.0 z.2 (word_index act))
    × IsSound z.0 (judges_of z.0) x.part.seen
    × ((acted (table_of_act z.0 act) (start_of_act z.0 act) (word_at z.0 z.2 (word_index act)) act).0 ≡ answer_at z.0 (judges_of z.0) (reverse z.2) (made_after z.0 z.1 act z.2) act)

-- an act that is made at last, seen from the view before all tries
pub lost_made : (v w x : View) (slot lost word : ℕ) (act : Act) (found : ℕ) → Lost v w slot lost word → Made word_at w x act found → (m : Made word_at v x act found) × (lost ≤ length (filter (changed slot) m.rest))
lost_made v w x slot lost word act found l m =
    let setup : w.setup ≡ v.setup = ap (λ (z : View). z.setup) l.same in
    let number : w.part.number ≡ v.part.number = ap (λ (z : View). z.part.number) l.same in
    let quiet : entries_of (knows v.part) m.rest ≡ [] = subst (λ (z : View). entries_of (knows z.part) m.rest ≡ []) l.same m.none in
    let both = filter_append slot l.rest m.rest in
    let before = l.count in
    let all : w.part.seen ++ m.rest ≡ v.part.seen ++ (l.rest ++ m.rest) = ap (λ z. z ++ m.rest) l.list ∙ append_assoc v.part.seen l.rest m.rest in
    let t : Tells x act found (v.setup, v.part.number, v.part.seen ++ (l.rest ++ m.rest)) = subst (Tells x act found) (λ i. (setup i, number i, all i)) (m.list, m.word, m.sound, m.answer) in (
      record {
        same = m.same ∙ ap (λ (z : View). with_seen z x.part.seen) l.same;
        rest = l.rest ++ m.rest;
        list = t.0;
        none = none_append (knows v.part) l.rest m.rest l.none quiet;
        word = t.1;
        sound = t.2;
        answer = t.3;
      },
      omega arith,
    )

-- the view of a seat between two calls
abbrev pub opened : SeatValue → View
opened f = view f.part blank blank f.board.setup

-- is read from what contracts see of it
pub opened_is : {number end : ℕ} {table : TableId} {me : Ours} {old : SeatValue} → IsUsable number end me → seat_value me.0.part (board_id table me.0.setup) ≡ old → me.0 ≡ opened old
opened_is {number} {end} {table} {me} {old} u same = λ i. view ((same i).part) (u.left i) (u.right i) ((same i).board.setup)

-- a seat that has lost tries is usable
pub usable_lost : {number end : ℕ} {table : TableId} {m : Ours} (m' : Ours) {old : SeatValue} {slot lost word : ℕ} → IsUsable number end m → seat_value m.0.part (board_id table m.0.setup) ≡ old → Lost (opened old) m'.0 slot lost word → m'.1 ≡ [] → IsUsable number end m'
usable_lost {number} {end} {table} {m} m' {old} {slot} {lost} {word} u is l none-held =
    let back = opened_is u is in
    usable number end m m' u (l.same ∙ ap (λ (z : View). with_seen z m'.0.part.seen) (sym back)) (subst (λ (v : View). IsSound v.setup (judges_of v.setup) m'.0.part.seen) (sym back) l.sound) (none-held ∙ sym u.empty)

-- and of the setup that it was of
pub setup_lost : {number end : ℕ} {table : TableId} {m : Ours} {w : View} {old : SeatValue} {slot lost word : ℕ} → IsUsable number end m → seat_value m.0.part (board_id table m.0.setup) ≡ old → Lost (opened old) w slot lost word → w.setup ≡ m.0.setup
setup_lost u is l = ap (λ (v : View). v.setup) l.same ∙ ap (λ (f : SeatValue). f.board.setup) (sym is)

-- the act of a seat, from what contracts saw of it before the call
acts_opened : (old : SeatValue) (x : View) (table : TableId) (act : Act) (found : ℕ) → old.part.number < old.part.end → table ≡ old.board.table → (m : Made word_at (opened old) x act found) → Acts old (seat_value x.part (board_id table x.setup)) act (entry_of (opened old) x act found m)
acts_opened old x table act found has same m = record { grows = record { grows = grown_by (opened old) x act found has m; board = λ i. board_id (same i) (ap (λ (v : View). v.setup) m.same i) }; act_is = refl }

-- what a compare-exchange tells where it won
pub at_same : {found old : ℕ} {P : Type 0} (Q : Type 0) → found ≡ old → MatchBool (found == old) P Q → P
at_same {found} {old} {P} Q is h = let e : (found == old) ≡ true = grind (arith, nat_tests) in subst (λ (b : Bool). MatchBool b P Q) e h

-- and where it lost
pub at_other : {found old : ℕ} (P : Type 0) {Q : Type 0} → found ≢ old → MatchBool (found == old) P Q → Q
at_other {found} {old} P {Q} is h = let e : (found == old) ≡ false = grind (arith, nat_tests) in subst (λ (b : Bool). MatchBool b P Q) e h

-- the delivery is made
pub is-made : (old : SeatValue) {w x : View} {table : TableId} (slot : ℕ) {lost : ℕ} (word : ℕ) {found : ℕ} (hit : Hit) {answer : Answer} → old.part.number < old.part.end → table ≡ old.board.table → Lost (opened old) w slot lost word → found ≡ word
    → answer ≡ (advanced (table_at old.board.setup slot) word hit).0 → Made word_at w x (Deliver slot hit) found → IsMade old (seat_value x.part (board_id table x.setup)) slot hit answer
is-made old {w} {x} {table} slot {lost} word {found} hit {answer} has same l hits is m =
    let t = (lost_made (opened old) w x slot lost word (Deliver slot hit) found l m).0 in record {
      entry = entry_of (opened old) x (Deliver slot hit) found t;
      acts = acts_opened old x table (Deliver slot hit) found has same t;
      before = old.part.seen ++ t.rest;
      list = t.list;
      answer_is = is ∙ (ap (λ (n : ℕ). (advanced (table_at old.board.setup slot) n hit).0) (sym hits ∙ t.word) ∙ t.answer);
    }

-- the seat gives up
pub given_up : (old : SeatValue) {w x : View} {table : TableId} (slot : ℕ) {act-slot lost word found : ℕ} → old.part.number < old.part.end → 3 ≤ lost → act-slot ≡ slot → table ≡ old.board.table → Lost (opened old) w slot lost word → Made word_at w x (Stop act-slot) found
    → IsGivenUp old (seat_value x.part (board_id table x.setup)) slot
given_up old {w} {x} {table} slot {act-slot} {lost} {word} {found} has three is same l m =
    let t = lost_made (opened old) w x slot lost word (Stop slot) found l (subst (λ (z : ℕ). Made word_at w x (Stop z) found) is m) in
    let many = t.1 in record {
      entry = entry_of (opened old) x (Stop slot) found t.0;
      acts = acts_opened old x table (Stop slot) found has same t.0;
      added = t.0.rest;
      list = t.0.list;
      others = subst (λ (p : ℕ → Bool). entries_of p t.0.rest ≡ []) (sym (known_is old.part)) t.0.none;
      three = omega arith;
    }
