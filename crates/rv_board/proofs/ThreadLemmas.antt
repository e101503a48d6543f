-- A board may be read by several threads at once.
use denote.RattleType.{RattleType}
use denote.Param.Send.{IsSync, view_sync, sendable}
use denote.Param.SendFields.{FieldsHave, as_row_sync, declared_sync}
use Rattle.std.specs.contracts.alloc.Global as Global
use Rattle.std.specs.contracts.impls.GlobalAllocator.TheImpl as GlobalAllocator
use Rattle.std.proofs.Crossing.{send, sync, frees, crosses}
use Rattle.atomic_table.specs.declared.shared.TableRule.{Ghosts}
use Rattle.atomic_table.specs.contracts.owned.Table as Table
use Rattle.atomic_table.proofs.owned.Table.TheSendSync.{the_sync as table-sync}
use Rattle.rv_model.specs.contracts.entry.Act as Act
use Rattle.rv_model.proofs.entry.Act.TheSendSync.{the_send as act-send}
use Rattle.rv_core.specs.contracts.setup.Setup as Setup
use Rattle.rv_core.proofs.ThreadLemmas.{setup-sync}
use Rattle.rv_board.specs.contracts.board.Board as Board
use Rattle.rv_board.specs.contracts.board.Board.TheInside as Inside
use Rattle.rv_board.specs.contracts.rule.Law as Law
use Rattle.rv_board.specs.contracts.rule.LawTableRuleActViewSetup.TheImpl as LawTableRule
use Rattle.rv_board.specs.contracts.spacing.Spacing as Spacing
use Rattle.rv_board.specs.contracts.view.View as View

-- words under any rule may be, with their setup
pub words-sync : (Rule : RattleType) (rule : Ghosts Rule.Denot (Act.the_row).Denot (View.the_row).Denot (Setup.the_row).Denot) → IsSync (Table.the_row Act.the_row View.the_row Setup.the_row Rule Global.the_row rule GlobalAllocator.ghosts)
words-sync Rule rule = table-sync Act.the_row View.the_row Setup.the_row Rule Global.the_row rule GlobalAllocator.ghosts act-send send sync frees

-- so may be their spacing
pub spacing-sync : IsSync Spacing.the_row
spacing-sync = search (sendable, crosses) depth 20

-- the fields of a board may be
fields-sync : FieldsHave IsSync Inside.the_type.parts
fields-sync = (words-sync Law.the_row LawTableRule.ghosts, (as_row_sync Setup.the_field setup-sync, (as_row_sync Spacing.the_field spacing-sync, tt)))

-- a board may be read by several threads at once
pub board-sync : IsSync Board.the_row
board-sync = view_sync _ _ _ _ _ (declared_sync Inside.the_type fields-sync)
