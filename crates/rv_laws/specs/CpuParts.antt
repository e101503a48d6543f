-- The parts by CPU: where all monitors are by CPU, the work of each CPU is one.
use Rattle.std.specs.Prelude.{◌≢◌, ℕ, ◌<◌, ◌≤◌, Bool, ◌==◌, List, map, filter, slice_index, All, AllPairs}
use Rattle.rv_model.specs.declared.entry.Entry.{Entry}
use Rattle.rv_model.specs.declared.record.Task.{Task}
use Rattle.rv_model.specs.Histories.{Input, IsOneHistory, AreJudges}
use Rattle.rv_model.specs.Judging.{Judge}
use Rattle.rv_model.specs.Numbers.{list_of}
use Rattle.rv_laws.specs.Joins.{PlayedPart, ArePartsOf, KeepsAll, LinesOfOnePart}
use Rattle.rv_laws.specs.SingleWriter.{IsByCpu}
use Rattle.rv_laws.specs.Parts.{Numbering, placed_in, IsPlain, ArePlayed}

-- the numbers of the whole
abbrev pub same_numbers : Numbering
same_numbers = record { line = λ line. line; order = λ order. order; instance_of = λ monitor instance. instance }

-- the input with the work of one CPU alone
abbrev pub of_cpu : ℕ → Input → Input
of_cpu cpu input = record input { works = filter (λ w. w.cpu == cpu) input.works }

-- the instance has the CPU's number
abbrev pub is_of_cpu : ℕ → ℕ → ℕ → Bool
is_of_cpu cpu monitor instance = instance == cpu

-- a law: where all monitors are by CPU, the work of a CPU is a part for the instances with its number
abbrev pub CpuWorkIsPart : Type 0
CpuWorkIsPart = (input : Input) (js : List Judge) (h k : List Entry) (cpu : ℕ) → IsPlain input → ((monitor : ℕ) → IsByCpu input.works monitor) → AreJudges input.specs input.setup.tables js
    → IsOneHistory input js h → IsOneHistory (of_cpu cpu input) js k → ArePlayed same_numbers (is_of_cpu cpu) input (of_cpu cpu input) js js h k

-- the part of a CPU, with the tasks that its report names
abbrev pub cpu_part : Input → List Judge → List Task → (ℕ → List Entry) → ℕ → PlayedPart
cpu_part input js tasks histories cpu = record { numbers = same_numbers; keep = is_of_cpu cpu; input = of_cpu cpu input; judges = js; history = histories cpu; tasks = tasks }

-- the parts of the first n CPUs
abbrev pub cpu_parts : Input → List Judge → List Task → (ℕ → List Entry) → ℕ → List PlayedPart
cpu_parts input js tasks histories n = map (cpu_part input js tasks histories) (list_of (λ cpu. cpu) n)

-- they are parts of the whole, none has other deliveries, and each line is one part's
pub record AreCpuParts (input : Input) (js : List Judge) (h : List Entry) (parts : List PlayedPart) : Type 0 where
  pub are_parts : ArePartsOf input js h parts
  pub all_kept : All KeepsAll parts
  pub lines : LinesOfOnePart parts input.works

-- a law: where all monitors are by CPU and no more than the first n CPUs have instances, the works of these are all parts
abbrev pub CpuWorksAreParts : Type 0
CpuWorksAreParts = (input : Input) (js : List Judge) (h : List Entry) (tasks : List Task) (histories : ℕ → List Entry) (n : ℕ) → IsPlain input → ((monitor : ℕ) → IsByCpu input.works monitor) → AreJudges input.specs input.setup.tables js
    → IsOneHistory input js h → ((cpu : ℕ) → cpu < n → IsOneHistory (of_cpu cpu input) js (histories cpu)) → ((monitor : ℕ) → slice_index input.setup.shape monitor ≤ n) → AllPairs (λ p q. p.delivery.order ≢ q.delivery.order) (placed_in input.works)
    → AreCpuParts input js h (cpu_parts input js tasks histories n)
