-- What a seat has played, one entry on.
use Rattle.std.proofs.Common.{◌≡◌, ℕ, true, false, ◌==◌, List, [], ◌∷◌, ◌++◌, arith, refl}
use Rattle.rv_model.specs.declared.entry.Entry.{Entry}
use Rattle.rv_model.specs.Judging.{Judge}
use Rattle.rv_model.specs.Setups.{Setup}
use Rattle.rv_model.specs.Scripts.{played}
use Rattle.rv_model.specs.SharedWords.{answer_at}

-- the next entry of a seat, and of another
pub played-own : (s : Setup) (js : List Judge) (seat : ℕ) (e : Entry) (past : List Entry) → e.seat ≡ seat → played s js seat (e ∷ past) ≡ played s js seat past ++ (e, answer_at s js past e e.act) ∷ []
played-own s js seat e past same = let y : (e.seat == seat) ≡ true = grind arith in rw y refl

-- an entry of another seat adds nothing
pub played-other : (s : Setup) (js : List Judge) (seat : ℕ) (e : Entry) (past : List Entry) → (e.seat ≡ seat → ⊥) → played s js seat (e ∷ past) ≡ played s js seat past
played-other s js seat e past other = let n : (e.seat == seat) ≡ false = grind arith in rw n refl
