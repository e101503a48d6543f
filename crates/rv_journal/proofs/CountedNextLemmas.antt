-- What a try of a counted delivery computes from the word that it found.
use Rattle.std.proofs.Common.{◌≡◌, ℕ, ◌+◌, ◌==◌, ap, sym, ◌∙◌, subst, if◌then◌else◌}
use Rattle.rv_model.specs.declared.entry.Answer.{Answer}
use Rattle.rv_model.specs.declared.hit.Hit.{Hit}
use Rattle.rv_model.specs.Setups.{Setup}
use Rattle.rv_model.specs.Table.{Table}
use Rattle.rv_core.specs.Setup.{table_at}
use Rattle.rv_core.specs.Advance.{advanced}
use Rattle.rv_journal.specs.CountedWords.{FitsCountedWord, rows_at}
use Rattle.rv_journal.specs.inner.CountedWords.{word_in, count_in, counted_word}
use Rattle.rv_journal.specs.inner.CountedSteps.{next_word, next_counted}

-- by this setup: the slot's rows, the word before, the word behind it, and the answer
pub record Computed (s : Setup) (slot raw : ℕ) (hit : Hit) (rows before word : ℕ) (answer : Answer) : Type 0 where
  pub rows_is : rows ≡ rows_at s slot
  pub before_is : before ≡ word_in (rows_at s slot) raw
  pub word_is : word ≡ next_word (table_at s slot) (rows_at s slot) raw hit
  pub answer_is : answer ≡ (advanced (table_at s slot) (word_in (rows_at s slot) raw) hit).0

-- the calls of a try compute it
pub computed : {k s : Setup} (slot : ℕ) {raw rows before word : ℕ} {table : Table} (hit : Hit) {answer : Answer} → k ≡ s → rows ≡ rows_at k slot → table ≡ table_at k slot → before ≡ word_in rows raw → word ≡ (advanced table before hit).1 → answer ≡ (advanced table before hit).0
    → Computed s slot raw hit rows before word answer
computed {k} {s} slot {raw} {rows} {before} {word} {table} hit {answer} same rows_k table_k before_k word_k answer_k =
    let rows_s : rows ≡ rows_at s slot = rows_k ∙ ap (λ (z : Setup). rows_at z slot) same in
    let table_s : table ≡ table_at s slot = table_k ∙ ap (λ (z : Setup). table_at z slot) same in
    let before_s : before ≡ word_in (rows_at s slot) raw = before_k ∙ ap (λ (n : ℕ). word_in n raw) rows_s in
    record {
      rows_is = rows_s;
      before_is = before_s;
      word_is = word_k ∙ (λ j. (advanced (table_s j) (before_s j) hit).1);
      answer_is = answer_k ∙ (λ j. (advanced (table_s j) (before_s j) hit).0);
    }

module _ {s : Setup} {slot raw : ℕ} {hit : Hit} {rows before word : ℕ} {answer : Answer} (n : Computed s slot raw hit rows before word answer) where
  -- the next word takes 32 bits
  pub narrow-computed : FitsCountedWord (rows_at s slot) (next_word (table_at s slot) (rows_at s slot) raw hit) → FitsCountedWord rows word
  narrow-computed fits = subst (λ (z : ℕ × ℕ). FitsCountedWord z.0 z.1) (λ j. (sym n.rows_is j, sym n.word_is j)) fits

  -- the next counted word
  pub counted-computed : {next count after : ℕ} → next ≡ counted_word rows word after → after ≡ count + (if before == word then 0 else 1) → count ≡ count_in raw → next ≡ next_counted (table_at s slot) (rows_at s slot) raw hit
  counted-computed next_is after_is count_is = next_is ∙ ap (counted_word rows word) after_is ∙ (λ j. counted_word (n.rows_is j) (n.word_is j) (count_is j + (if n.before_is j == n.word_is j then 0 else 1)))
