-- The opening words are those of an empty history.
use Rattle.std.proofs.Common.{◌≡◌, ◌<◌, ◌∷◌, ◌++◌, [], ℕ, below_more, arith, sum, ap, ◌∙◌, rules, subst, sym}
use Rattle.rv_model.specs.Table.{Table}
use Rattle.rv_table.specs.Rows.{IsRows}
use Rattle.rv_core.specs.Setup.{table_at}
use Rattle.rv_journal.specs.CountedWords.{FitsCountedWord}
use Rattle.rv_journal.specs.inner.CountedWords.{counted_word}
use Rattle.rv_journal.specs.inner.Openings.{OpensCounted}
use Rattle.rv_journal.proofs.CountedOpeningLemmas.{counted_opening, counted_openings, counted-opens-none, counted-opens-more, opening-narrow, opens-counted}
use Rattle.rv_journal.proofs.board.opening_words.Goals as goal

pub loop-slot-init : goal.loop-slot-init
loop-slot-init c =
    let one : c.push.new.self.items ≡ c.args.setup.now.switches ∷ [] = search rules in
    record { words = one ∙ counted-opens-none c.args.setup.now; rows = λ i low. absurd (omega arith) }

pub returns : goal.returns
returns c =
    let n : c.slots-slots.result ≡ sum c.args.setup.now.shape = rw (← c.setup.view_is) c.slots-slots.ensures.sum in
    let all : c.loop-slot.slot ≡ sum c.args.setup.now.shape = omega arith in
    let whole = c.loop-slot.invariant.words ∙ ap (counted_openings c.args.setup.now) all in
    let rows : (i : ℕ) → i < sum c.args.setup.now.shape → IsRows (table_at c.args.setup.now i) = λ i low. c.loop-slot.invariant.rows i (omega arith) in
    subst (OpensCounted c.args.setup.now) (sym whole) (opens-counted c.args.setup.now c.args._widths.now c.assert_invariant.ensures c.requires rows)

pub counted_word-requires-clause-narrow : goal.counted_word-requires-clause-narrow
counted_word-requires-clause-narrow c =
    let n : c.slots-slots.result ≡ sum c.args.setup.now.shape = rw (← c.setup.view_is) c.slots-slots.ensures.sum in
    let low : c.loop-slot.slot < sum c.args.setup.now.shape = omega arith in
    subst (λ (z : ℕ × ℕ). FitsCountedWord z.0 z.1) (λ i. (sym c.rows_of-rows.ensures i, sym c.opening.ensures.word i))
    (opening-narrow c.args.setup.now c.args._widths.now c.assert_invariant.ensures.fits c.requires c.loop-slot.slot low)

pub loop-slot-preserved : goal.loop-slot-preserved
loop-slot-preserved c =
    let more : c.push-in-loop-slot.new.self.items ≡ c.loop-slot.words.items ++ c.counted_word.result ∷ [] = search rules in
    let word : c.counted_word.result ≡ counted_opening c.args.setup.now c.loop-slot.slot = c.counted_word.ensures ∙ (λ i. counted_word (c.rows_of-rows.ensures i) (c.opening.ensures.word i) 0) in
    record {
      words = more ∙ ap (λ (n : ℕ). c.loop-slot.words.items ++ n ∷ []) word ∙ counted-opens-more c.args.setup.now c.loop-slot.slot c.loop-slot.words.items c.loop-slot.invariant.words;
      rows = below_more _ _ c.loop-slot.invariant.rows (subst (λ (t : Table). IsRows t) c.table-table.ensures c.assert_invariant-in-loop-slot.ensures.rows);
    }
