-- Each kind of step of a counted board is allowed.
use Rattle.std.proofs.Common.{◌≡◌, ℕ, ◌+◌, ◌-◌, ◌<◌, ◌==◌, Bool, true, false, List, [], ◌∷◌, ◌++◌, sum, refl, ap, sym, ◌∙◌, subst, arith}
use Rattle.std.specs.Prelude.{slice_index, bit_and}
use mathlib.Core.Option.{some, none}
use lib.ListN.{get_elem?}
use prog.Atomic.{either}
use Rattle.std.proofs.lemmas.Bool.Decides.{nat_tests}
use Rattle.std.proofs.lemmas.Nat.{and_mask}
use Rattle.atomic_table.specs.Table as table
use Rattle.atomic_table.specs.Table.{State, keeps, step, stepped, Allows, carried_after, Valid}
use Rattle.rv_model.specs.declared.entry.Act.{Act}
use Rattle.rv_model.specs.declared.entry.Act.TheVariants.{Deliver, Stop}
use Rattle.rv_model.specs.declared.entry.Entry.{Entry}
use Rattle.rv_model.specs.declared.hit.Hit.{Hit}
use Rattle.rv_model.specs.Setups.{Setup}
use Rattle.rv_core.specs.Setup.{word_index, table_at}
use Rattle.rv_board.specs.declared.view.View.{View}
use Rattle.rv_board.specs.inner.Known.{knows}
use Rattle.rv_board.specs.inner.Rule.{place_in, with_seen, width, index_at}
use Rattle.rv_board.specs.inner.Steps.{Ours, made_after}
use Rattle.rv_board.proofs.Knowing.{knows_own}
use Rattle.rv_board.proofs.WordSteps.{place-within, Acted, acts}
use Rattle.rv_board.proofs.ViewLemmas.{St}
use Rattle.rv_board.proofs.KeepLemmas.{CanMake, sees_with, makes_with}
use Rattle.rv_board.proofs.SpacingLemmas.{slot-at}
use Rattle.rv_board.proofs.StepLemmas.{found-at}
use Rattle.rv_journal.specs.CountedWords.{FitsCountedWord, IsBelow, rows_at, entries_by, most_entries, FitsCounts}
use Rattle.rv_journal.specs.inner.CountedWords.{counted_at, also_counted, KeptCounted}
use Rattle.rv_journal.specs.inner.CountedSteps.{SawCounted, MadeCounted, IsCountedLoad, IsCountedExchange, IsCountedStop, next_counted}
use Rattle.rv_journal.proofs.CountLemmas.{by-append, by-none}
use Rattle.rv_journal.proofs.WidthLemmas.{rows-few}
use Rattle.rv_journal.proofs.CountedWordLemmas.{counted-elsewhere, narrow-small, zero-narrow, hit-narrow, hit-leaves, stop-leaves, counted-made}

-- a load
sees-at : (k : Setup) (id : ℕ) (me : Ours) (i : ℕ) → i < width k → me.0.setup ≡ k → me.0.part.number < me.0.part.end → (s : St) (r : KeptCounted k s) → get_elem? s.views id ≡ some me.0
    → KeptCounted k (stepped s (place_in k i) (slice_index s.words (place_in k i)) id me.1 (with_seen me.0 r.history) keeps) × SawCounted me.0 (with_seen me.0 r.history) (index_at (sum me.0.setup.shape) (place_in k i)) (slice_index s.words (place_in k i))
sees-at k id me i inside setup has s r at =
    let t = sees_with counted_at (also_counted k) k id me i inside setup has s r at r.further in
    (t.0, (found-at counted_at i setup t.1, subst (λ (z : Setup). FitsCounts z r.history) (sym setup) r.further))

-- the same, as it is asked for
pub sees : (k : Setup) (slots id : ℕ) (me : Ours) (i : ℕ) {place : ℕ} → place ≡ place_in k i → i < width k → me.0.setup ≡ k → me.0.part.number < me.0.part.end → Allows (KeptCounted k) slots id me place (λ n. n) (IsCountedLoad (step slots place 0 0 none) me)
sees k slots id me i stands inside setup has =
    subst (λ (z : ℕ). Allows (KeptCounted k) slots id me z (λ n. n) (IsCountedLoad (step slots z 0 0 none) me)) (sym stands)
    (λ s r _ at _. let t = sees-at k id me i inside setup has s r at in (with_seen me.0 r.history, keeps, tt, t.0, (t.1, refl)))

-- what ends with an entry has one
no-end : (b : List Entry) (y : Entry) → [] ≡ b ++ y ∷ [] → ⊥
no-end [] y e = cc
no-end (x ∷ b) y e = cc

-- what stands before the last entry
pub snoc-front : (a b : List Entry) (x y : Entry) → a ++ x ∷ [] ≡ b ++ y ∷ [] → a ≡ b
snoc-front [] [] x y e = refl
snoc-front [] (b ∷ bs) x y e = absurd (let f : [] ≡ bs ++ y ∷ [] = cc in no-end bs y f)
snoc-front (a ∷ as_more) [] x y e = absurd (let f : as_more ++ x ∷ [] ≡ [] = cc in no-end as_more x (sym f))
snoc-front (a ∷ as_more) (b ∷ bs) x y e =
    let head : a ≡ b = cc in
    let tail : as_more ++ x ∷ [] ≡ bs ++ y ∷ [] = cc in
    (λ i. head i ∷ snoc-front as_more bs x y tail i)

-- and the last entry
pub snoc-last : (a b : List Entry) (x y : Entry) → a ++ x ∷ [] ≡ b ++ y ∷ [] → x ≡ y
snoc-last [] [] x y e = cc
snoc-last [] (b ∷ bs) x y e = absurd (let f : [] ≡ bs ++ y ∷ [] = cc in no-end bs y f)
snoc-last (a ∷ as_more) [] x y e = absurd (let f : as_more ++ x ∷ [] ≡ [] = cc in no-end as_more x (sym f))
snoc-last (a ∷ as_more) (b ∷ bs) x y e = let tail : as_more ++ x ∷ [] ≡ bs ++ y ∷ [] = cc in snoc-last as_more bs x y tail

-- a number that has room in what its seat has seen has room in the history
has-room : (k : Setup) (id : ℕ) (v : View) (s : St) (r : KeptCounted k s) → get_elem? s.views id ≡ some v → v.part.number < v.part.end → entries_by v.part.number v.part.seen < most_entries → entries_by v.part.number r.history < most_entries
has-room k id v s r at has room =
    let b = (r.fits id v at).begun in
    let own = knows_own v.part.number v.part.end v.part.joined_in has in
    let rest : entries_by v.part.number b.rest ≡ 0 = by-none (knows v.part) v.part.number b.rest own b.none in
    let all : entries_by v.part.number r.history ≡ entries_by v.part.number v.part.seen + entries_by v.part.number b.rest = ap (entries_by v.part.number) b.whole ∙ by-append v.part.number v.part.seen b.rest in
    omega arith

-- a step that makes an act on a slot, whose word takes 32 bits
makes-at : (k : Setup) (id : ℕ) (me : Ours) (slot : ℕ) (act : Act) (n : ℕ) → word_index act ≡ slot + 1 → slot < sum k.shape → CanMake k me.0 act → entries_by me.0.part.number me.0.part.seen < most_entries
    → (s : St) (r : KeptCounted k s) → get_elem? s.views id ≡ some me.0
    → FitsCountedWord (rows_at k slot) (made_after k me.0.part.number act r.history).after
    → (Acted k r.history me.0.part.number act → n ≡ counted_at k (r.history ++ made_after k me.0.part.number act r.history ∷ []) (slot + 1))
    → KeptCounted k (stepped s (place_in k (word_index act)) n id me.1 (with_seen me.0 (r.history ++ made_after k me.0.part.number act r.history ∷ [])) keeps)
    × MadeCounted me.0 (with_seen me.0 (r.history ++ made_after k me.0.part.number act r.history ∷ [])) act (slice_index s.words (place_in k (word_index act)))
makes-at k id me slot act n at low can room s r there is leaves =
    let x : Entry = made_after k me.0.part.number act r.history in
    let small = narrow-small (rows_at k slot) x.after (rows-few (table_at k slot) (r.further.rows slot low)) is in
    let does : Acted k r.history me.0.part.number act = acts k r.history me.0.part.number act r.machine r.sound.replays can.fits can.bits small in
    let gives : n ≡ counted_at k (r.history ++ x ∷ []) (word_index act) = leaves does ∙ ap (counted_at k (r.history ++ x ∷ [])) (sym at) in
    let more : FitsCounts k (r.history ++ x ∷ []) = counted-made k r.history me.0.part.number slot act at r.further does (has-room k id me.0 s r there can.has room) is in
    let t = makes_with counted_at (also_counted k) k id me act n can s r there does gives (λ j inside ne. counted-elsewhere k r.history x j (λ e. ne (sym e)) (does.others j inside ne)) more in
    let same : r.history ≡ me.0.part.seen ++ t.1.rest = snoc-front r.history (me.0.part.seen ++ t.1.rest) x (made_after me.0.setup me.0.part.number act (me.0.part.seen ++ t.1.rest)) t.1.list in (
      t.0,
      record {
        made = t.1;
        before = subst (λ (z : Setup × List Entry). FitsCounts z.0 z.1) (λ i. (sym can.setup i, same i)) r.further;
        after = subst (λ (z : Setup). FitsCounts z (r.history ++ x ∷ [])) (sym can.setup) more;
      },
    )

-- a compare-exchange that delivers where it finds what the next word was computed from
tries-at : (k : Setup) (slots id : ℕ) (me : Ours) (slot old new : ℕ) (hit : Hit) → slot < sum k.shape → CanMake k me.0 (Deliver slot hit) → entries_by me.0.part.number me.0.part.seen < most_entries → IsBelow (32 - rows_at k slot) hit.what
    → new ≡ next_counted (table_at k slot) (rows_at k slot) old hit → Allows (KeptCounted k) slots id me (place_in k (slot + 1)) (λ n. either (n == old) new n) (IsCountedExchange (step slots (place_in k (slot + 1)) old new (some (Deliver slot hit))) me)
tries-at k slots id me slot old new hit low can room below is s r _ at _ = on (found == old) refl
  where
    found : ℕ
    found = slice_index s.words (place_in k (slot + 1))

    inside : slot + 1 < width k
    inside = place-within k (Deliver slot hit) can.fits

    on : (b : Bool) → (found == old) ≡ b → (w : View) × (a : table.Act Act) × Valid s.homes me.1 a × KeptCounted k (stepped s (place_in k (slot + 1)) (either (found == old) new found) id me.1 w a) × IsCountedExchange (step slots (place_in k (slot + 1)) old new (some (Deliver slot hit))) me found (w, carried_after me.1 a)
    on true same =
        let is_old : found ≡ old = grind (arith, nat_tests) in
        let raw : old ≡ counted_at k r.history (slot + 1) = sym is_old ∙ r.words (slot + 1) inside in
        let t = makes-at k id me slot (Deliver slot hit) new refl low can room s r at (hit-narrow k r.history me.0.part.number slot r.further low hit below)
        (λ does. is ∙ hit-leaves k r.history me.0.part.number slot r.further low hit old r.sound raw does) in
        (with_seen me.0 (r.history ++ made_after k me.0.part.number (Deliver slot hit) r.history ∷ []), keeps, tt, rw same t.0, (rw same t.1, refl))
    on false other =
        let t = sees-at k id me (slot + 1) inside can.setup can.has s r at in
        (with_seen me.0 r.history, keeps, tt, rw other t.0, (rw other t.1, refl))

-- the same, as it is asked for
pub tries : (k : Setup) (slots id : ℕ) (me : Ours) (slot old new : ℕ) (hit : Hit) {place : ℕ} → place ≡ place_in k (slot + 1) → slot < sum k.shape → CanMake k me.0 (Deliver slot hit) → entries_by me.0.part.number me.0.part.seen < most_entries → IsBelow (32 - rows_at k slot) hit.what
    → new ≡ next_counted (table_at k slot) (rows_at k slot) old hit → Allows (KeptCounted k) slots id me place (λ n. either (n == old) new n) (IsCountedExchange (step slots place old new (some (Deliver slot hit))) me)
tries k slots id me slot old new hit stands low can room below is =
    subst (λ (z : ℕ). Allows (KeptCounted k) slots id me z (λ n. either (n == old) new n) (IsCountedExchange (step slots z old new (some (Deliver slot hit))) me)) (sym stands)
    (tries-at k slots id me slot old new hit low can room below is)

-- a stop, which keeps the count alone
stops-at : (k : Setup) (slots id : ℕ) (me : Ours) (slot : ℕ) → slot < sum k.shape → CanMake k me.0 (Stop slot) → entries_by me.0.part.number me.0.part.seen < most_entries
    → Allows (KeptCounted k) slots id me (place_in k (slot + 1)) (λ n. bit_and n 4294967295) (λ found m'. MadeCounted me.0 m'.0 (Stop slot) found × (m'.1 ≡ me.1))
stops-at k slots id me slot low can room s r _ at _ =
    let found : ℕ = slice_index s.words (place_in k (slot + 1)) in
    let raw : found ≡ counted_at k r.history (slot + 1) = r.words (slot + 1) (place-within k (Stop slot) can.fits) in
    let t = makes-at k id me slot (Stop slot) (bit_and found 4294967295) refl low can room s r at (zero-narrow (rows_at k slot))
    (λ does. and_mask found 32 ∙ stop-leaves k r.history me.0.part.number slot r.further low found r.sound raw does) in
    (with_seen me.0 (r.history ++ made_after k me.0.part.number (Stop slot) r.history ∷ []), keeps, tt, t.0, (t.1, refl))

-- the same, as it is asked for
pub stops : (k : Setup) (slots id : ℕ) (me : Ours) (slot : ℕ) {place : ℕ} → place ≡ place_in k (slot + 1) → slot < sum k.shape → CanMake k me.0 (Stop slot) → entries_by me.0.part.number me.0.part.seen < most_entries → Allows (KeptCounted k) slots id me place (λ n. bit_and n 4294967295) (IsCountedStop (step slots place 4294967295 0 none) me)
stops k slots id me slot stands low can room =
    subst (λ (z : ℕ × ℕ). Allows (KeptCounted k) slots id me z.0 (λ n. bit_and n 4294967295) (λ found m'. MadeCounted me.0 m'.0 (Stop z.1) found × (m'.1 ≡ me.1))) (λ j. (sym stands j, sym (slot-at slot can.setup stands) j)) (stops-at k slots id me slot low can room)
