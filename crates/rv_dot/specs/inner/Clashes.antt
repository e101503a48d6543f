-- When two moves clash.
use Rattle.std.specs.Prelude.{◌&&◌, ◌||◌, ◌==◌, Bool, false, List, [], ◌∷◌}
use Rattle.rv_dot.specs.declared.moves.Move.{Move}

-- from one state by one event
abbrev pub same_key : Move → Move → Bool
same_key a b = a.from == b.from && a.event == b.event

-- two neighbours have one state and one event
abbrev pub has_clash : List Move → Bool
has_clash [] = false
has_clash (a ∷ []) = false
has_clash (a ∷ b ∷ moves) = same_key a b || has_clash (b ∷ moves)
