-- A step keeps the rule, whichever word stands for a history and whatever else is to hold.
use Rattle.std.proofs.Common.{◌≡◌, ◌≢◌, ℕ, suc, ◌<◌, ◌≤◌, Bool, true, false, List, [], ◌∷◌, ◌++◌, length, sum, set, get_or, reverse, refl, ap, sym, ◌∙◌, subst, arith, append_assoc, true≢false, length-set, get_or-set_same, get_or-set_other}
use Rattle.std.specs.Prelude.{slice_index}
use mathlib.Core.Logic.{dite}
use mathlib.Core.Option.{some}
use native.Mathlib.Decide.{ℕ_discrete}
use lib.ListN.{get_elem?}
use Rattle.std.proofs.lemmas.List.{append-nil}
use Rattle.atomic_table.specs.Table.{keeps, stepped}
use Rattle.rv_model.specs.declared.entry.Act.{Act}
use Rattle.rv_model.specs.declared.entry.Act.TheVariants.{Deliver, Stop, Look, Raise, Lower, Clear, End}
use Rattle.rv_model.specs.declared.entry.Entry.{Entry}
use Rattle.rv_model.specs.Setups.{Setup}
use Rattle.rv_model.specs.SharedWords.{answer_at}
use Rattle.rv_model.specs.Histories.{LostThrice, IsJustifiedBy, IsPermittedTo, IsSound}
use Rattle.rv_model.specs.Seats.{Seat, is_within, entries_of}
use Rattle.rv_core.specs.Advance.{acted}
use Rattle.rv_core.specs.Setup.{FitsAct, ActFits, word_index, table_of_act, start_of_act, judges_of}
use Rattle.rv_board.specs.declared.view.View.{View}
use Rattle.rv_board.specs.inner.Known.{knows, Begun}
use Rattle.rv_board.specs.inner.Rule.{word_at, place_in, IsMachine, Fits, Kept, with_seen, width}
use Rattle.rv_board.specs.inner.Steps.{Ours, Saw, Made, made_after}
use Rattle.rv_board.proofs.Knowing.{not_true, none_append, none_is, none_append_is, begun_blank, knows_own}
use Rattle.rv_board.proofs.SoundLemmas.{sound-snoc, filter_append}
use Rattle.rv_board.proofs.SpacingLemmas.{place-below, place-own}
use Rattle.rv_board.proofs.WordSteps.{place-within, Acted}
use Rattle.rv_board.proofs.ViewLemmas.{St, each_set, apart_set, begun_longer, begun_all, blank_within, range_within, range_not_own}

-- three entries of others that came before stay, whatever others added since
raced_longer : (p : ℕ → Bool) (seat slot : ℕ) (history rest : List Entry) → p seat ≡ true → entries_of p rest ≡ [] → LostThrice slot seat history → LostThrice slot seat (history ++ rest)
raced_longer p seat slot history rest own quiet t = record {
  until = t.until;
  since = t.since ++ rest;
  is = ap (λ l. l ++ rest) t.is ∙ append_assoc t.until t.since rest;
  none = none_append_is seat t.since rest t.none (none_is p seat rest own quiet);
  three = let three = t.three in let both = filter_append slot t.since rest in omega arith;
}

-- what justifies an act goes on to justify it, whatever others added since
earned_longer : (p : ℕ → Bool) (seat : ℕ) (act : Act) (history rest : List Entry) → p seat ≡ true → entries_of p rest ≡ [] → IsJustifiedBy act seat history → IsJustifiedBy act seat (history ++ rest)
earned_longer p seat (Stop slot) history rest own quiet t = raced_longer p seat slot history rest own quiet t
earned_longer p seat (Deliver slot hit) history rest own quiet t = tt
earned_longer p seat Look history rest own quiet t = tt
earned_longer p seat (Raise bits) history rest own quiet t = tt
earned_longer p seat (Lower bits) history rest own quiet t = tt
earned_longer p seat (Clear slot) history rest own quiet t = tt
earned_longer p seat (End slot) history rest own quiet t = tt

-- what a seat owes for an act
pub record CanMake (s : Setup) (v : View) (act : Act) : Type 0 where
  pub setup : v.setup ≡ s
  pub has : v.part.number < v.part.end
  pub small : v.part.end ≤ 67
  pub fits : FitsAct s act
  pub bits : ActFits s act
  pub permitted : IsPermittedTo act v.part.number
  pub justified : IsJustifiedBy act v.part.number v.part.seen

module _ (code : Setup → List Entry → ℕ → ℕ) (also : List Entry → List View → Type 0) where
  -- the words and the history after a step, and the view that has seen it all
  pub moved : (k : Setup) (s : St) (r : Kept code also k s) (id : ℕ) (c : List (ℕ × Act)) (v : View) → get_elem? s.views id ≡ some v → (place n : ℕ) (new history : List Entry) → history ≡ r.history ++ new
      → IsMachine k history → IsSound k (judges_of k) history
      → ((j : ℕ) → j < width k → get_or (set s.words place n) (place_in k j) 0 ≡ code k history j)
      → ((p : ℕ → Bool) → p v.part.number ≡ false → entries_of p new ≡ [])
      → v.part.number < v.part.end
      → also history (set s.views id (with_seen v history))
      → Kept code also k (stepped s place n id c (with_seen v history) keeps)
  moved k s r id c v at place n new history is machine sound gives theirs has further = record {
    history = history;
    wide = length-set s.words place n ∙ r.wide;
    words = gives;
    machine = machine;
    sound = sound;
    fits = each_set (λ j u. Fits history u) s.views id w mine others;
    apart = apart_set s.views id w r.apart (λ j u ne e. r.apart id j v u at e (λ h. ne (sym h)));
    further = further;
  }
    where
      w : View
      w = with_seen v history

      own : knows v.part v.part.number ≡ true
      own = knows_own v.part.number v.part.end v.part.joined_in has

      mine : Fits history w
      mine = record {
        begun = begun_all history v.part;
        left = begun_blank history;
        right = begun_blank history;
        left_within = blank_within v.part;
        right_within = blank_within v.part;
        distinct = (r.fits id v at).distinct;
        unused = subst (λ l. entries_of (is_within (suc v.part.number) v.part.end) l ≡ []) (sym is) (none_append (is_within (suc v.part.number) v.part.end) r.history new (r.fits id v at).unused (theirs (is_within (suc v.part.number) v.part.end) (range_not_own v.part.number v.part.end)));
      }

      others : (j : ℕ) (u : View) → j ≢ id → get_elem? s.views j ≡ some u → Fits history u
      others j u ne e =
          let f = r.fits j u e in
          let alone : knows u.part v.part.number ≡ false = not_true (knows u.part v.part.number) (λ t. r.apart j id u v e at ne v.part.number t own) in
          let quiet : (p : ℕ → Bool) → ((m : ℕ) → p m ≡ true → knows u.part m ≡ true) → entries_of p new ≡ [] = λ p within. theirs p (not_true (p v.part.number) (λ t. true≢false (sym (within v.part.number t) ∙ alone))) in
          let more : (p : Seat) → Begun r.history p → ((m : ℕ) → knows p m ≡ true → knows u.part m ≡ true) → Begun history p = λ p b within. subst (λ l. Begun l p) (sym is) (begun_longer r.history new p b (quiet (knows p) within)) in
          let free : ℕ → Bool = is_within (suc u.part.number) u.part.end in
          record {
            begun = more u.part f.begun (λ m t. t);
            left = more u.left f.left f.left_within;
            right = more u.right f.right f.right_within;
            left_within = f.left_within;
            right_within = f.right_within;
            distinct = f.distinct;
            unused = subst (λ l. entries_of free l ≡ []) (sym is) (none_append free r.history new f.unused (quiet free (λ m t. range_within u.part.number u.part.end u.part.joined_in m t)));
          }

  -- an index has its place among the words
  inside-words : (k : Setup) (s : St) (r : Kept code also k s) (i : ℕ) → i < width k → place_in k i < length s.words
  inside-words k s r i inside = subst (λ (z : ℕ). place_in k i < z) (sym r.wide) (place-below (sum k.shape) i inside)

  -- a word that is written with its own value
  same_words : (k : Setup) (s : St) (r : Kept code also k s) (i n : ℕ) → i < width k → n ≡ slice_index s.words (place_in k i) → (j : ℕ) → j < width k → get_or (set s.words (place_in k i) n) (place_in k j) 0 ≡ code k r.history j
  same_words k s r i n inside is j low = dite (ℕ_discrete j i)
      (λ e. subst (λ (z : ℕ). get_or (set s.words (place_in k i) n) (place_in k z) 0 ≡ code k r.history z) (sym e) (get_or-set_same s.words (place_in k i) n 0 (inside-words k s r i inside) ∙ (is ∙ r.words i inside)))
      (λ ne. get_or-set_other s.words (place_in k i) (place_in k j) n 0 (λ same. ne (place-own (sum k.shape) j i same)) ∙ r.words j low)

  -- a step that makes no entry
  pub sees_with : (k : Setup) (id : ℕ) (me : Ours) (i : ℕ) → i < width k → me.0.setup ≡ k → me.0.part.number < me.0.part.end → (s : St) (r : Kept code also k s) → get_elem? s.views id ≡ some me.0
      → also r.history (set s.views id (with_seen me.0 r.history))
      → Kept code also k (stepped s (place_in k i) (slice_index s.words (place_in k i)) id me.1 (with_seen me.0 r.history) keeps) × Saw code me.0 (with_seen me.0 r.history) i (slice_index s.words (place_in k i))
  sees_with k id me i inside setup has s r at further =
      let f = r.fits id me.0 at in (
        moved k s r id me.1 me.0 at (place_in k i) (slice_index s.words (place_in k i)) [] r.history (sym (append-nil r.history)) r.machine r.sound (same_words k s r i (slice_index s.words (place_in k i)) inside refl) (λ p _. refl) has further,
        record {
          same = refl;
          rest = f.begun.rest;
          list = f.begun.whole;
          none = f.begun.none;
          word = r.words i inside ∙ ap (λ (z : Setup). code z r.history i) (sym setup);
          sound = subst (λ (z : Setup). IsSound z (judges_of z) r.history) (sym setup) r.sound;
          left = f.left;
          right = f.right;
        },
      )

  -- the words after an act
  acted_words : (k : Setup) (s : St) (r : Kept code also k s) (act : Act) (x : Entry) (n : ℕ) → word_index act < width k → n ≡ code k (r.history ++ x ∷ []) (word_index act)
      → ((j : ℕ) → j < width k → j ≢ word_index act → code k (r.history ++ x ∷ []) j ≡ code k r.history j)
      → (j : ℕ) → j < width k → get_or (set s.words (place_in k (word_index act)) n) (place_in k j) 0 ≡ code k (r.history ++ x ∷ []) j
  acted_words k s r act x n inside is others j low = dite (ℕ_discrete j (word_index act))
      (λ e. subst (λ (z : ℕ). get_or (set s.words (place_in k (word_index act)) n) (place_in k z) 0 ≡ code k (r.history ++ x ∷ []) z) (sym e) (get_or-set_same s.words (place_in k (word_index act)) n 0 (inside-words k s r (word_index act) inside) ∙ is))
      (λ ne. get_or-set_other s.words (place_in k (word_index act)) (place_in k j) n 0 (λ same. ne (place-own (sum k.shape) j (word_index act) same)) ∙ (r.words j low ∙ sym (others j low ne)))

  -- a step that makes an entry
  pub makes_with : (k : Setup) (id : ℕ) (me : Ours) (act : Act) (n : ℕ) → CanMake k me.0 act → (s : St) (r : Kept code also k s) → get_elem? s.views id ≡ some me.0
      → Acted k r.history me.0.part.number act
      → n ≡ code k (r.history ++ made_after k me.0.part.number act r.history ∷ []) (word_index act)
      → ((j : ℕ) → j < width k → j ≢ word_index act → code k (r.history ++ made_after k me.0.part.number act r.history ∷ []) j ≡ code k r.history j)
      → also (r.history ++ made_after k me.0.part.number act r.history ∷ []) (set s.views id (with_seen me.0 (r.history ++ made_after k me.0.part.number act r.history ∷ [])))
      → Kept code also k (stepped s (place_in k (word_index act)) n id me.1 (with_seen me.0 (r.history ++ made_after k me.0.part.number act r.history ∷ [])) keeps)
      × Made code me.0 (with_seen me.0 (r.history ++ made_after k me.0.part.number act r.history ∷ [])) act (slice_index s.words (place_in k (word_index act)))
  makes_with k id me act n can s r at does is others further =
      let v : View = me.0 in
      let x : Entry = made_after k v.part.number act r.history in
      let f = r.fits id v at in
      let own : knows v.part v.part.number ≡ true = knows_own v.part.number v.part.end v.part.joined_in can.has in
      let has = can.has in
      let small = can.small in
      let justified : IsJustifiedBy act v.part.number r.history = subst (IsJustifiedBy act v.part.number) (sym f.begun.whole) (earned_longer (knows v.part) v.part.number act v.part.seen f.begun.rest own f.begun.none can.justified) in
      let sound : IsSound k (judges_of k) (r.history ++ x ∷ []) = sound-snoc k (judges_of k) r.history x r.sound does.fits justified (omega arith) can.permitted in
      let all : r.history ≡ v.part.seen ++ f.begun.rest = f.begun.whole in
      let inside : word_index act < width k = place-within k act can.fits in (
        moved k s r id me.1 v at (place_in k (word_index act)) n (x ∷ []) (r.history ++ x ∷ []) refl does.machine sound (acted_words k s r act x n inside is others) (λ p not. rw not refl) has further,
        record {
          same = refl;
          rest = f.begun.rest;
          list = λ i. all i ++ made_after (sym can.setup i) v.part.number act (all i) ∷ [];
          none = f.begun.none;
          word = subst (λ (z : Setup × List Entry). slice_index s.words (place_in k (word_index act)) ≡ code z.0 z.1 (word_index act)) (λ i. (sym can.setup i, all i)) (r.words (word_index act) inside);
          sound = subst (λ (z : Setup). IsSound z (judges_of z) (r.history ++ x ∷ [])) (sym can.setup) sound;
          answer = subst (λ (z : Setup × List Entry). (acted (table_of_act z.0 act) (start_of_act z.0 act) (word_at z.0 z.1 (word_index act)) act).0 ≡ answer_at z.0 (judges_of z.0) (reverse z.1) (made_after z.0 v.part.number act z.1) act) (λ i. (sym can.setup i, all i)) does.answer;
        },
      )
