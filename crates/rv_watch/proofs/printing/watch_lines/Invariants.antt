-- The lines of the words so far.
use Rattle.std.proofs.Common.{◌≡◌, take}
use Rattle.rv_watch.specs.Texts.{words_text}
use Rattle.rv_watch.proofs.printing.watch_lines.Given as goal

abbrev pub invariant-loop-word : goal.invariant-loop-word
invariant-loop-word l = l.text ≡ words_text (take l.word-index l.kept)
