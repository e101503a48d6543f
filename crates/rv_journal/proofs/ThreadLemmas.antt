-- A board of counted words may be read by several threads at once.
use denote.Param.Send.{IsSync, view_sync}
use denote.Param.SendFields.{FieldsHave, as_row_sync, declared_sync}
use Rattle.rv_core.specs.contracts.setup.Setup as Setup
use Rattle.rv_core.proofs.ThreadLemmas.{setup-sync}
use Rattle.rv_board.proofs.ThreadLemmas.{words-sync, spacing-sync}
use Rattle.rv_board.specs.contracts.spacing.Spacing as Spacing
use Rattle.rv_journal.specs.contracts.board.CountedBoard as CountedBoard
use Rattle.rv_journal.specs.contracts.board.CountedBoard.TheInside as Inside
use Rattle.rv_journal.specs.contracts.rule.CountedLaw as CountedLaw
use Rattle.rv_journal.specs.contracts.rule.CountedLawTableRuleActViewSetup.TheImpl as CountedLawTableRule

-- the fields of a board may be
fields-sync : FieldsHave IsSync Inside.the_type.parts
fields-sync = (words-sync CountedLaw.the_row CountedLawTableRule.ghosts, (as_row_sync Setup.the_field setup-sync, (as_row_sync Spacing.the_field spacing-sync, tt)))

-- a board of counted words may be read by several threads at once
pub counted_board-sync : IsSync CountedBoard.the_row
counted_board-sync = view_sync _ _ _ _ _ (declared_sync Inside.the_type fields-sync)
