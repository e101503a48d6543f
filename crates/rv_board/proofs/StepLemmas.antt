-- The steps of a board, each of whose words is the one that the history gives.
use Rattle.std.proofs.Common.{◌≡◌, ℕ, ◌^◌, ◌<◌, ◌==◌, Bool, true, false, List, [], sum, ◌∷◌, ◌++◌, refl, ap, sym, ◌∙◌, subst, arith}
use Rattle.std.specs.Prelude.{slice_index}
use mathlib.Core.Option.{some, none}
use lib.ListN.{get_elem?}
use prog.Atomic.{either}
use Rattle.std.proofs.lemmas.Bool.Decides.{nat_tests}
use Rattle.atomic_table.specs.Table.{State, keeps, step, stepped, Allows}
use Rattle.rv_model.specs.declared.entry.Act.{Act}
use Rattle.rv_model.specs.declared.entry.Entry.{Entry}
use Rattle.rv_model.specs.Setups.{Setup}
use Rattle.rv_core.specs.Advance.{acted}
use Rattle.rv_core.specs.Setup.{word_index, table_of_act, start_of_act}
use Rattle.rv_board.specs.declared.view.View.{View}
use Rattle.rv_board.specs.inner.Rule.{word_at, place_in, nothing_else, KeptPlainly, with_seen, width, index_at}
use Rattle.rv_board.specs.inner.Steps.{Ours, Saw, Made, IsActStep, IsLoadStep, IsExchangeStep, made_after}
use Rattle.rv_board.proofs.SpacingLemmas.{index-at}
use Rattle.rv_board.proofs.WordSteps.{place-within, Acted, acts}
use Rattle.rv_board.proofs.ViewLemmas.{St}
use Rattle.rv_board.proofs.KeepLemmas.{CanMake, sees_with, makes_with}

-- what a step finds at a place, by its index there
pub found-at : (code : Setup → List Entry → ℕ → ℕ) {k : Setup} {v w : View} (i : ℕ) {found : ℕ} → v.setup ≡ k → Saw code v w i found → Saw code v w (index_at (sum v.setup.shape) (place_in k i)) found
found-at code {k} {v} {w} i {found} setup saw = subst (λ (z : ℕ). Saw code v w z found) (sym (index-at i setup refl)) saw

-- a load
pub sees : (k : Setup) (slots id : ℕ) (me : Ours) (i : ℕ) {place : ℕ} → place ≡ place_in k i → i < width k → me.0.setup ≡ k → me.0.part.number < me.0.part.end → Allows (KeptPlainly k) slots id me place (λ n. n) (IsLoadStep (step slots place 0 0 none) me)
sees k slots id me i stands inside setup has =
    subst (λ (z : ℕ). Allows (KeptPlainly k) slots id me z (λ n. n) (IsLoadStep (step slots z 0 0 none) me)) (sym stands)
    (λ s r _ at _. let t = sees_with word_at nothing_else k id me i inside setup has s r at tt in (with_seen me.0 r.history, keeps, tt, t.0, (found-at word_at i setup t.1, refl)))

-- the word after an act, from the one that it finds
abbrev pub left_by : Setup → Act → ℕ → ℕ
left_by k act word = (acted (table_of_act k act) (start_of_act k act) word act).1

-- where the step writes what the act leaves
makes_at : (k : Setup) (id : ℕ) (me : Ours) (act : Act) (n : ℕ) → CanMake k me.0 act → (s : St) (r : KeptPlainly k s) → get_elem? s.views id ≡ some me.0 → n ≡ left_by k act (slice_index s.words (place_in k (word_index act))) → n < 2 ^ 64
    → KeptPlainly k (stepped s (place_in k (word_index act)) n id me.1 (with_seen me.0 (r.history ++ made_after k me.0.part.number act r.history ∷ [])) keeps)
    × Made word_at me.0 (with_seen me.0 (r.history ++ made_after k me.0.part.number act r.history ∷ [])) act (slice_index s.words (place_in k (word_index act)))
makes_at k id me act n can s r at is small =
    let found : slice_index s.words (place_in k (word_index act)) ≡ word_at k r.history (word_index act) = r.words (word_index act) (place-within k act can.fits) in
    let left : n ≡ left_by k act (word_at k r.history (word_index act)) = is ∙ ap (left_by k act) found in
    let does : Acted k r.history me.0.part.number act = acts k r.history me.0.part.number act r.machine r.sound.replays can.fits can.bits (subst (λ (z : ℕ). z < 2 ^ 64) left small) in
    makes_with word_at nothing_else k id me act n can s r at does (left ∙ sym does.here) does.others tt

-- a step that is one act, whatever it finds
pub makes : (k : Setup) (slots id : ℕ) (me : Ours) (act : Act) (f : ℕ → ℕ) → CanMake k me.0 act → ((n : ℕ) → n < 18446744073709551616 → (f n ≡ left_by k act n) × (f n < 2 ^ 64)) → Allows (KeptPlainly k) slots id me (place_in k (word_index act)) f (IsActStep act me)
makes k slots id me act f can does s r _ at small =
    let d = does (slice_index s.words (place_in k (word_index act))) small in
    let t = makes_at k id me act (f (slice_index s.words (place_in k (word_index act)))) can s r at d.0 d.1 in
    (with_seen me.0 (r.history ++ made_after k me.0.part.number act r.history ∷ []), keeps, tt, t.0, (t.1, refl))

-- a compare-exchange that makes the act where it finds what the act was computed from
pub tries : (k : Setup) (slots id : ℕ) (me : Ours) (act : Act) (old new : ℕ) → CanMake k me.0 act → new ≡ left_by k act old → new < 2 ^ 64 → Allows (KeptPlainly k) slots id me (place_in k (word_index act)) (λ n. either (n == old) new n) (IsExchangeStep (step slots (place_in k (word_index act)) old new (some act)) me)
tries k slots id me act old new can does fit s r _ at small = on (found == old) refl
  where
    found : ℕ
    found = slice_index s.words (place_in k (word_index act))

    on : (b : Bool) → (found == old) ≡ b → (w : View) × (a : Rattle.atomic_table.specs.Table.Act Act) × Rattle.atomic_table.specs.Table.Valid s.homes me.1 a × KeptPlainly k (stepped s (place_in k (word_index act)) (either (found == old) new found) id me.1 w a) × IsExchangeStep (step slots (place_in k (word_index act)) old new (some act)) me found (w, Rattle.atomic_table.specs.Table.carried_after me.1 a)
    on true hit =
        let same : found ≡ old = grind (arith, nat_tests) in
        let t = makes_at k id me act new can s r at (does ∙ ap (left_by k act) (sym same)) fit in
        (with_seen me.0 (r.history ++ made_after k me.0.part.number act r.history ∷ []), keeps, tt, rw hit t.0, (rw hit t.1, refl))
    on false miss =
        let t = sees_with word_at nothing_else k id me (word_index act) (place-within k act can.fits) can.setup can.has s r at tt in
        (with_seen me.0 r.history, keeps, tt, rw miss t.0, (rw miss (found-at word_at (word_index act) can.setup t.1), refl))
