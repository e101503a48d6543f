use Rattle.std.proofs.Common.{ℕ, ◌-◌, ◌/◌, ◌^◌, ◌<◌, ap, ◌∙◌, arith}
use Rattle.std.specs.Prelude.{bit_and}
use Rattle.std.proofs.lemmas.Nat.{one_shl, and_mask}
use Rattle.rv_word.specs.Words.{packed}
use Rattle.rv_journal.proofs.words.word_in.Goals as goal

pub returns : goal.returns
returns c =
    let low : c.args.rows < 64 = omega arith in
    c.pack.ensures.word
    ∙ ap (λ (n : ℕ). packed n (c.args.counted / 4294967296 / 2 ^ c.args.rows)) (ap (λ (m : ℕ). bit_and (c.args.counted / 4294967296) (m - 1)) (one_shl c.args.rows 64 low) ∙ and_mask (c.args.counted / 4294967296) c.args.rows)
