-- What one call of the board adds to its seat's list, with its answer, and one call after another.
use Rattle.std.proofs.Common.{◌≡◌, ℕ, ◌^◌, ◌==◌, Bool, true, false, true≢false, List, [], ◌∷◌, ◌++◌, inl, inr, reverse, arith, refl, sym, ap, ◌∙◌, subst, append_assoc, append-nil}
use Rattle.std.specs.Prelude.{filter, All}
use Rattle.std.proofs.lemmas.Bool.Decides.{nat_tests}
use Rattle.std.proofs.lemmas.List.{reverse-append, same_from_push}
use Rattle.std.proofs.lemmas.List.Elements.{filter-append, filter_passes, All-head}
use Rattle.rv_model.specs.declared.entry.Act.{Act}
use Rattle.rv_model.specs.declared.entry.Act.TheVariants.{Deliver, Stop, Look, Raise, End}
use Rattle.rv_model.specs.declared.entry.Answer.{Answer}
use Rattle.rv_model.specs.declared.entry.Answer.TheVariants.{Ended, Looked, Stopped, Switched}
use Rattle.rv_model.specs.declared.entry.Entry.{Entry}
use Rattle.rv_model.specs.declared.record.Delivered.{Delivered}
use Rattle.rv_model.specs.declared.record.Delivered.TheVariants.{Done, Racing}
use Rattle.rv_model.specs.declared.work.Delivery.{Delivery}
use Rattle.rv_model.specs.Histories.{NoneOf, IsSound}
use Rattle.rv_model.specs.Judging.{Judge}
use Rattle.rv_model.specs.Seats.{known_of, entries_of as entries_by, EndsWith}
use Rattle.rv_model.specs.Scripts.{Played, played, is_end}
use Rattle.rv_model.specs.Setups.{Setup, slot_of}
use Rattle.rv_model.specs.SharedWords.{answer_at}
use Rattle.rv_model.proofs.ScriptLemmas.{played-own}
use Rattle.rv_model.proofs.SeatLemmas.{played-none}
use Rattle.rv_core.specs.Setup.{judges_of}
use Rattle.rv_board.specs.Deliveries.{DeliversOrStops}
use Rattle.rv_board.specs.Seats.{BoardId, SeatValue, Acts, Looks, Does}
use Rattle.rv_board.proofs.GrowLemmas.{grows_none}
use Rattle.rv_feed.specs.Feeding.{played_by, Adds}
use Rattle.rv_feed.specs.inner.Composing.{adds-composes}
use Rattle.rv_feed.specs.Players.{LooksAt, Halts, Serves}
use Rattle.rv_feed.specs.inner.Turns.{IsOneTurn}

-- ---- one call

-- what is left by a test passes it
left_passes : (p : Entry → Bool) (xs : List Entry) (e : Entry) (ys : List Entry) → filter p xs ≡ e ∷ ys → p e ≡ true
left_passes p xs e ys eq = All-head (λ x. p x ≡ true) e ys (subst (All (λ x. p x ≡ true)) eq (filter_passes p xs))

-- a list that ends with its only entry that passes has no other before it
others_before : (p : Entry → Bool) (b : List Entry) (e : Entry) → p e ≡ true → filter p (b ++ e ∷ []) ≡ e ∷ [] → filter p b ≡ []
others_before p b e passes eq =
    let last : filter p (e ∷ []) ≡ e ∷ [] = rw passes refl in
    (same_from_push (filter p b) [] e e (ap (λ (z : List Entry). filter p b ++ z) (sym last) ∙ sym (filter-append p b (e ∷ [])) ∙ eq)).0

-- a seat that is known has no entry there
pub none_known : (known : ℕ → Bool) (seat : ℕ) (b : List Entry) → known seat ≡ true → entries_by known b ≡ [] → NoneOf seat b
none_known known seat [] has none = tt
none_known known seat (x ∷ b) has none = go (known x.seat) refl (none_known known seat b has)
  where
    go : (k : Bool) → known x.seat ≡ k → (entries_by known b ≡ [] → NoneOf seat b) → NoneOf seat (x ∷ b)
    go true y rest = absurd (let list : entries_by known (x ∷ b) ≡ x ∷ entries_by known b = rw y refl in let no : x ∷ entries_by known b ≡ [] = sym list ∙ none in cc (no))
    go false n rest =
        let other : (x.seat ≡ seat → ⊥) = λ same. true≢false (sym (subst (λ (m : ℕ). known m ≡ true) (sym same) has) ∙ n) in
        let no : (x.seat == seat) ≡ false = grind (arith, nat_tests) in
        let list : entries_by known (x ∷ b) ≡ entries_by known b = rw n refl in
        (no, rest (sym list ∙ none))

-- where a list ends with an entry
before_last : (own h : List Entry) (e : Entry) → own ≡ e ∷ [] → EndsWith own h → (b : List Entry) × (h ≡ b ++ e ∷ [])
before_last own h e is (inl none) = absurd (let no : [] ≡ e ∷ [] = sym none ∙ is in cc (no))
before_last own h e is (inr (f, a, b, own_is, list)) =
    let same = same_from_push a [] f e (sym own_is ∙ is) in
    (b, list ∙ ap (λ (x : Entry). b ++ x ∷ []) same.1)

-- the entries before the one that a call added
pub record Added (old new : SeatValue) (entry : Entry) : Type 0 where
  pub before : List Entry
  pub list : new.part.seen ≡ before ++ entry ∷ []
  pub adds : Adds old new ((entry, answer_at old.board.setup (judges_of old.board.setup) (reverse before) entry entry.act) ∷ [])

-- one entry, and the answer that the entries before it give
pub added : (old new : SeatValue) (act : Act) (entry : Entry) → Acts old new act entry → Added old new entry
added old new act entry acts =
    let s : Setup = old.board.setup in
    let js : List Judge = judges_of s in
    let seat : ℕ = old.part.number in
    let g = acts.grows.grows in
    let known : ℕ → Bool = known_of old.part in
    let last = before_last (entry ∷ []) g.rest entry refl g.ends in
    let b : List Entry = last.0 in
    let mine : entry.seat ≡ seat = All-head (λ (e : Entry). e.seat ≡ seat) entry [] g.seats in
    let passes : known entry.seat ≡ true = left_passes (λ e. known e.seat) g.rest entry [] g.known in
    let others : entries_by known b ≡ [] = others_before (λ e. known e.seat) b entry passes (sym (ap (entries_by known) last.1) ∙ g.known) in
    let none : NoneOf seat b = none_known known seat b (subst (λ (n : ℕ). known n ≡ true) mine passes) others in
    let before : List Entry = old.part.seen ++ b in
    let list : new.part.seen ≡ before ++ entry ∷ [] = g.list ∙ ap (λ (z : List Entry). old.part.seen ++ z) last.1 ∙ sym (append_assoc old.part.seen b (entry ∷ [])) in
    let answer : Answer = answer_at s js (reverse before) entry entry.act in
    let now : played s js seat (reverse new.part.seen) ≡ played_by old ++ (entry, answer) ∷ [] =
    ap (λ (h : List Entry). played s js seat (reverse h)) list ∙ ap (played s js seat) (reverse-append before (entry ∷ [])) ∙ played-own s js seat entry (reverse before) mine
    ∙ ap (λ (ps : List Played). ps ++ (entry, answer) ∷ []) (played-none s js seat b old.part.seen none) in
    record {
      before = before;
      list = list;
      adds = record {
        grows = acts.grows;
        played_is = subst (λ (z : BoardId). played z.setup (judges_of z.setup) new.part.number (reverse new.part.seen) ≡ played_by old ++ (entry, answer) ∷ []) (sym acts.grows.board)
            (subst (λ (n : ℕ). played s js n (reverse new.part.seen) ≡ played_by old ++ (entry, answer) ∷ []) (sym g.number) now);
      };
    }

-- with this answer
answered : (old new : SeatValue) (entry : Entry) (answer : Answer) → (a : Added old new entry) → answer_at old.board.setup (judges_of old.board.setup) (reverse a.before) entry entry.act ≡ answer → Adds old new ((entry, answer) ∷ [])
answered old new entry answer a is = subst (λ (x : Answer). Adds old new ((entry, x) ∷ [])) is a.adds

-- a look that saw this word
pub looks : (old new : SeatValue) (word : ℕ) → Looks old new word → LooksAt Adds old new word
looks old new word l =
    let a = added old new Look l.entry l.acts in
    let s : Setup = old.board.setup in
    record {
      entry = l.entry;
      act_is = l.acts.act_is;
      did = answered old new l.entry (Looked word) a (ap (answer_at s (judges_of s) (reverse a.before) l.entry) l.acts.act_is ∙ ap Looked l.found);
    }

-- the halted switch that went on
pub halts : (old new : SeatValue) → Does old new (Raise (2 ^ 34)) → Halts Adds old new
halts old new does =
    let a = added old new (Raise (2 ^ 34)) does.0 does.1 in
    let s : Setup = old.board.setup in
    record {
      entry = does.0;
      answer = Switched;
      act_is = does.1.act_is;
      did = answered old new does.0 Switched a (ap (answer_at s (judges_of s) (reverse a.before) does.0) does.1.act_is);
    }

-- a delivery, with its outcome
pub serves : (old new : SeatValue) (d : Delivery) (slot : ℕ) (outcome : Delivered) → slot ≡ slot_of old.board.setup.shape d.monitor d.instance → is_end d.hit.mode ≡ false → DeliversOrStops old new slot d.hit outcome → Serves Adds old.board.setup old new d outcome
serves old new d slot (Done answer) at goes v =
    let s : Setup = old.board.setup in
    let a = added old new (Deliver slot d.hit) v.entry v.acts in
    let same : a.before ≡ v.before = (same_from_push a.before v.before v.entry v.entry (sym a.list ∙ v.list)).0 in
    let act : v.entry.act ≡ Deliver (slot_of s.shape d.monitor d.instance) d.hit = v.acts.act_is ∙ ap (λ (n : ℕ). Deliver n d.hit) at in
    record {
      entry = v.entry;
      answer = answer;
      makes = inl (act ∙ sym (rw goes refl));
      did = answered old new v.entry answer a (ap (λ (b : List Entry). answer_at s (judges_of s) (reverse b) v.entry v.entry.act) same ∙ sym v.answer_is);
      outcome_is = rw act refl;
      fails_is = refl;
    }
serves old new d slot Racing at goes v =
    let s : Setup = old.board.setup in
    let a = added old new (Stop slot) v.entry v.acts in
    let act : v.entry.act ≡ Stop (slot_of s.shape d.monitor d.instance) = v.acts.act_is ∙ ap Stop at in
    record {
      entry = v.entry;
      answer = Stopped;
      makes = inr (goes, act);
      did = answered old new v.entry Stopped a (ap (answer_at s (judges_of s) (reverse a.before) v.entry) v.acts.act_is);
      outcome_is = rw act refl;
      fails_is = refl;
    }

-- an end
pub serves-end : (old new : SeatValue) (d : Delivery) (slot : ℕ) → slot ≡ slot_of old.board.setup.shape d.monitor d.instance → is_end d.hit.mode ≡ true → (does : Does old new (End slot)) → Serves Adds old.board.setup old new d (Done Ended)
serves-end old new d slot at ends does =
    let s : Setup = old.board.setup in
    let a = added old new (End slot) does.0 does.1 in
    let act : does.0.act ≡ End (slot_of s.shape d.monitor d.instance) = does.1.act_is ∙ ap End at in
    record {
      entry = does.0;
      answer = Ended;
      makes = inl (act ∙ sym (rw ends refl));
      did = answered old new does.0 Ended a (ap (answer_at s (judges_of s) (reverse a.before) does.0) does.1.act_is);
      outcome_is = rw act refl;
      fails_is = refl;
    }

-- ---- calls after calls

-- no call
pub adds-none : (a : SeatValue) → IsSound a.board.setup (judges_of a.board.setup) a.part.seen → Adds a a []
adds-none a sound = record { grows = grows_none a sound; played_is = sym (append-nil (played_by a)) }

-- calls, and then a turn
pub adds-turn : (a b c : SeatValue) (ps qs : List Played) → Adds a b ps → Adds b c qs → IsOneTurn qs → Adds a c (ps ++ qs)
adds-turn a b c ps [] one two turn = absurd turn
adds-turn a b c ps (q ∷ qs) one two turn = adds-composes a b c ps q qs one two
