-- What the status is by the entries of a history alone.
use Rattle.std.specs.Prelude.{◌≡◌, ℕ, Bool, true, false, ◌||◌, List, [], ◌∷◌, reverse, if◌then◌else◌}
use Rattle.std.specs.List.{list_any}
use Rattle.rv_model.specs.declared.entry.Act.{Act}
use Rattle.rv_model.specs.declared.entry.Act.TheVariants.{Stop}
use Rattle.rv_model.specs.declared.entry.Entry.{Entry}
use Rattle.rv_model.specs.Histories.{Input, IsLegal}
use Rattle.rv_model.specs.Judging.{Judge}
use Rattle.rv_model.specs.Records.{records_of, status_of}
use Rattle.rv_model.specs.Scripts.{fails}
use Rattle.rv_model.specs.Setups.{Setup}
use Rattle.rv_model.specs.SharedWords.{answer_at}

-- some entry of the past, which has the newest first, has an answer that is a failure
abbrev pub has_failed : Setup → List Judge → List Entry → Bool
has_failed s js [] = false
has_failed s js (e ∷ past) = fails (answer_at s js past e e.act) || has_failed s js past

-- the act is a Stop
abbrev pub is_stop : Act → Bool
is_stop (Stop _) = true
is_stop _ = false

-- some entry is a Stop
abbrev pub has_stop : List Entry → Bool
has_stop h = list_any (λ e. is_stop e.act) h

-- 1 where an answer is a failure, else 6 where an entry is a Stop, else 0
abbrev pub exit_of : Setup → List Judge → List Entry → ℕ
exit_of s js h = if has_failed s js (reverse h) then 1 else if has_stop h then 6 else 0

-- a law: the status can be seen in the history
abbrev pub StatusIsSeen : Type 0
StatusIsSeen = (input : Input) (js : List Judge) (h : List Entry) → IsLegal input js h → status_of (records_of input js h) ≡ exit_of input.setup js h
