use Rattle.rv_journal.proofs.board.CountedBoard.split.Given as goal

-- the view is cut at the number that was asked for
abbrev pub ghosts-cut : goal.ghosts-cut
ghosts-cut a = record { at = a.number }
