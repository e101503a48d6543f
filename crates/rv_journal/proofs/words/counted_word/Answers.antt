-- The word takes 32 bits, so none is lost.
use Rattle.std.proofs.Common.{◌≡◌, ◌+◌, ◌*◌, ◌^◌, refl}
use Rattle.rv_journal.specs.inner.CountedWords.{word_in_32}
use Rattle.rv_journal.proofs.CountsFitLemmas.{word_in_32-lt, packs}
use Rattle.rv_journal.proofs.words.counted_word.Goals as goal

pub overflow_add-narrow : goal.overflow_add-narrow
overflow_add-narrow c =
    let all : c.atoms_of.result * 2 ^ c.args.rows + c.set_of.result ≡ word_in_32 c.args.rows c.args.word = rw (c.atoms_of.ensures.atoms, c.set_of.ensures.set) refl in
    record { fits = (packs (c.atoms_of.result * 2 ^ c.args.rows) c.set_of.result c.args.count (word_in_32 c.args.rows c.args.word) all (word_in_32-lt c.args.rows c.args.word c.requires.rows c.requires.narrow) c.ranges.count.fits).0 }

pub returns : goal.returns
returns c =
    let all : c.atoms_of.result * 2 ^ c.args.rows + c.set_of.result ≡ word_in_32 c.args.rows c.args.word = rw (c.atoms_of.ensures.atoms, c.set_of.ensures.set) refl in
    (packs (c.atoms_of.result * 2 ^ c.args.rows) c.set_of.result c.args.count (word_in_32 c.args.rows c.args.word) all (word_in_32-lt c.args.rows c.args.word c.requires.rows c.requires.narrow) c.ranges.count.fits).1
