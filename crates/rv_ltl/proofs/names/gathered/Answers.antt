use Rattle.std.proofs.Common.{ap, sym}
use Rattle.rv_ltl.specs.inner.Texts.{texts}
use Rattle.rv_ltl.specs.Names.{names_of}
use Rattle.rv_ltl.proofs.NameSets.{gathers_name, gathers_none}
use Rattle.rv_ltl.proofs.names.gathered.Goals as goal
use Rattle.rv_ltl.proofs.names.gathered.Goals.{then-is_atom_name+in_ok-insert, else-is_atom_name}

pub pieces-init : goal.pieces-init
unfolding names_of
pieces-init c = ap texts c.new-set.ensures.empty

pub pieces-preserved : goal.pieces-preserved
pieces-preserved c =
    elim c.if-is_atom_name.branch [
      | then-is_atom_name+in_ok-insert w ↦ rw w.set-is (gathers_name c.args.pieces.now c.pieces.piece-index _ c.pieces.set.keys w.insert.new.self.keys c.pieces-test.true (sym w.if-is_atom_name.ensures) c.pieces.invariant w.in_ok-insert.ensures.keys)
      | else-is_atom_name w ↦ rw w.set-is (gathers_none c.args.pieces.now c.pieces.piece-index _ c.pieces.set.keys c.pieces-test.true (sym w.if-is_atom_name.ensures) c.pieces.invariant)
    ]
