-- A board's value from its table and its setup.
use Rattle.atomic_table.specs.Seated.{TableId}
use Rattle.rv_model.specs.Setups.{Setup}
use Rattle.rv_board.specs.Seats.{BoardId}

-- the value of the board that has this table and this setup
abbrev pub board_id : TableId → Setup → BoardId
board_id table setup = record { table = table; setup = setup }
