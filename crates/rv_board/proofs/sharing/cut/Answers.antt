use Rattle.std.proofs.Common.{ℕ, subst}
use Rattle.atomic_table.specs.Table.{Splits}
use Rattle.rv_board.specs.Rule.{cut_left, cut_right}
use Rattle.rv_board.proofs.sharing.cut.Goals as goal

pub split_seat-requires : goal.split_seat-requires
split_seat-requires g c =
    let v = c.args.token.now.me.0 in (
      c.requires.board.0,
      c.requires.board.1,
      subst (λ (z : ℕ). Splits (g.L.TableRule.holds c.args.shared.now.key) c.args.token.now.id v (cut_left z v) (cut_right z v)) c.requires.pick c.requires.allowed,
    )
