-- How long a line of the trace is at most, and so how long the whole trace is.
use Rattle.std.proofs.Common.{◌<◌, ◌≤◌, ℕ, zero, suc, ◌+◌, ◌*◌, ◌/◌, ◌%◌, List, [], ◌∷◌, ◌++◌, length, flat_map, ap, arith}
use Rattle.std.specs.Prelude.{codes, decimal, slice_index_or}
use Rattle.std.proofs.lemmas.Fmt.{length-decimal-le}
use Rattle.std.proofs.lemmas.List.{length-append, flat_map_more}
use Rattle.rv_model.specs.Numbers.{list_of}
use Rattle.rv_gen.specs.declared.trace.GenTask.{GenTask}
use Rattle.rv_gen.specs.Generated.{cpu_text, first_pid, first_run, second_run, field_text, woken_text, prev_text, next_text, switch_text, block_events, six_digits, generated_line, trace_text}

-- two texts, one behind the other, are at most as long as both bounds
joined : (xs ys : List ℕ) (m n : ℕ) → length xs ≤ m → length ys ≤ n → length (xs ++ ys) ≤ m + n
joined xs ys m n first later = omega (arith, first, later, length-append xs ys)

-- a field is two bytes longer than its name and its value
field-short : (name value : List ℕ) (m n : ℕ) → length name ≤ m → length value ≤ n → length (field_text name value) ≤ 1 + m + 1 + n
field-short name value m n first later =
    let named = joined (codes " ") name 1 m (omega arith) first in
    let signed = joined (codes " " ++ name) (codes "=") (1 + m) 1 named (omega arith) in
    joined (codes " " ++ name ++ codes "=") value (1 + m + 1) n signed later

-- the pid of a CPU's task has three digits
pid-short : (pid : ℕ) → pid < 116 → length (decimal pid) ≤ 3
pid-short pid low = length-decimal-le 3 pid (omega arith) (omega (arith, low)) (omega (arith, low))

-- a CPU below 8 is written in three bytes
cpu_text-short : (cpu : ℕ) → cpu < 8 → length (cpu_text cpu) ≤ 3
unfolding cpu_text
cpu_text-short cpu low = joined (codes "00") (decimal cpu) 2 1 (omega arith) (length-decimal-le 1 cpu (omega arith) (omega (arith, low)) (omega (arith, low)))

-- a waking is at most 52 bytes long
woken-short : (event : List ℕ) (cpu : ℕ) → length event ≤ 12 → cpu < 8 → length (woken_text event cpu) ≤ 52
woken-short event cpu short low =
    let pid = field-short (codes "pid") (decimal (first_pid cpu)) 3 3 (omega arith) (pid-short (first_pid cpu) (omega (arith, low))) in
    let target = field-short (codes "target_cpu") (cpu_text cpu) 10 3 (omega arith) (cpu_text-short cpu low) in
    let task = joined (event) (codes ": comm=t") 12 8 short (omega arith) in
    let numbered = joined (event ++ codes ": comm=t") (field_text (codes "pid") (decimal (first_pid cpu))) 20 8 task pid in
    let ranked = joined (event ++ codes ": comm=t" ++ field_text (codes "pid") (decimal (first_pid cpu))) (field_text (codes "prio") (codes "120")) 28 9 numbered (omega arith) in
    joined (event ++ codes ": comm=t" ++ field_text (codes "pid") (decimal (first_pid cpu)) ++ field_text (codes "prio") (codes "120")) (field_text (codes "target_cpu") (cpu_text cpu)) 37 15 ranked target

-- the task that goes takes at most 52 bytes
prev-short : (run : GenTask) (state : List ℕ) → run.pid < 116 → length state ≤ 1 → length (prev_text run state) ≤ 52
prev-short run state low short =
    let pid = field-short (codes "prev_pid") (decimal run.pid) 8 3 (omega arith) (pid-short run.pid low) in
    let last = field-short (codes "prev_state") state 10 1 (omega arith) short in
    let numbered = joined (field_text (codes "prev_comm") (run.comm ∷ [])) (field_text (codes "prev_pid") (decimal run.pid)) 12 13 (omega arith) pid in
    let ranked = joined (field_text (codes "prev_comm") (run.comm ∷ []) ++ field_text (codes "prev_pid") (decimal run.pid)) (field_text (codes "prev_prio") (codes "120")) 25 14 numbered (omega arith) in
    joined (field_text (codes "prev_comm") (run.comm ∷ []) ++ field_text (codes "prev_pid") (decimal run.pid) ++ field_text (codes "prev_prio") (codes "120")) (field_text (codes "prev_state") state) 39 13 ranked last

-- the task that comes takes at most 39
next-short : (run : GenTask) → run.pid < 116 → length (next_text run) ≤ 39
next-short run low =
    let pid = field-short (codes "next_pid") (decimal run.pid) 8 3 (omega arith) (pid-short run.pid low) in
    let numbered = joined (field_text (codes "next_comm") (run.comm ∷ [])) (field_text (codes "next_pid") (decimal run.pid)) 12 13 (omega arith) pid in
    joined (field_text (codes "next_comm") (run.comm ∷ []) ++ field_text (codes "next_pid") (decimal run.pid)) (field_text (codes "next_prio") (codes "120")) 25 14 numbered (omega arith)

-- a switch is at most 108 bytes long
switch-short : (prev : GenTask) (state : List ℕ) (next : GenTask) → prev.pid < 116 → length state ≤ 1 → next.pid < 116 → length (switch_text prev state next) ≤ 108
switch-short prev state next first short second =
    let gone = joined (codes "sched_switch:") (prev_text prev state) 13 52 (omega arith) (prev-short prev state first short) in
    let parted = joined (codes "sched_switch:" ++ prev_text prev state) (codes " ==>") 65 4 gone (omega arith) in
    joined (codes "sched_switch:" ++ prev_text prev state ++ codes " ==>") (next_text next) 69 39 parted (next-short next second)

-- so no event is longer
event-short : (cpu k : ℕ) → cpu < 8 → length (slice_index_or (block_events cpu) k []) ≤ 108
event-short cpu zero low = omega arith
event-short cpu (suc zero) low = omega arith
event-short cpu (suc (suc zero)) low = omega (arith, woken-short (codes "sched_waking") cpu (omega arith) low)
event-short cpu (suc (suc (suc zero))) low = omega arith
event-short cpu (suc (suc (suc (suc zero)))) low = omega (arith, woken-short (codes "sched_waking") cpu (omega arith) low)
event-short cpu (suc (suc (suc (suc (suc zero))))) low = switch-short (first_run cpu) (codes "S") (second_run cpu) (omega (arith, low)) (omega arith) (omega (arith, low))
event-short cpu (suc (suc (suc (suc (suc (suc zero)))))) low = omega (arith, woken-short (codes "sched_wakeup") cpu (omega arith) low)
event-short cpu (suc (suc (suc (suc (suc (suc (suc zero))))))) low = switch-short (second_run cpu) (codes "R") (first_run cpu) (omega (arith, low)) (omega arith) (omega (arith, low))
event-short cpu (suc (suc (suc (suc (suc (suc (suc (suc k)))))))) low = omega arith

-- and no line is longer than 133 bytes
line-short : (i : ℕ) → length (generated_line i) ≤ 133
line-short i =
    let low : i % 8 < 8 = omega arith in
    let pid = joined (codes "t-") (decimal (first_pid (i % 8))) 2 3 (omega arith) (pid-short (first_pid (i % 8)) (omega (arith, low))) in
    let bracket = joined (codes "t-" ++ decimal (first_pid (i % 8))) (codes " [") 5 2 pid (omega arith) in
    let cpu = joined (codes "t-" ++ decimal (first_pid (i % 8)) ++ codes " [") (cpu_text (i % 8)) 7 3 bracket (cpu_text-short (i % 8) low) in
    let second = joined (codes "t-" ++ decimal (first_pid (i % 8)) ++ codes " [" ++ cpu_text (i % 8)) (codes "] 100.") 10 6 cpu (omega arith) in
    let stamp = joined (codes "t-" ++ decimal (first_pid (i % 8)) ++ codes " [" ++ cpu_text (i % 8) ++ codes "] 100.") (six_digits i) 16 6 second (omega arith) in
    let head = joined (codes "t-" ++ decimal (first_pid (i % 8)) ++ codes " [" ++ cpu_text (i % 8) ++ codes "] 100." ++ six_digits i) (codes ": ") 22 2 stamp (omega arith) in
    let line = joined (codes "t-" ++ decimal (first_pid (i % 8)) ++ codes " [" ++ cpu_text (i % 8) ++ codes "] 100." ++ six_digits i ++ codes ": ") (slice_index_or (block_events (i % 8)) (i / 8 % 8) []) 24 108 head (event-short (i % 8) (i / 8 % 8) low) in
    joined (codes "t-" ++ decimal (first_pid (i % 8)) ++ codes " [" ++ cpu_text (i % 8) ++ codes "] 100." ++ six_digits i ++ codes ": " ++ slice_index_or (block_events (i % 8)) (i / 8 % 8) []) (codes "\n") 132 1 line (omega arith)

-- so many lines have at most 133 bytes each
pub lines-short : (k : ℕ) → length (flat_map generated_line (list_of (λ i. i) k)) ≤ 133 * k
unfolding list_of
lines-short zero = omega arith
lines-short (suc k) =
    let more = joined (flat_map generated_line (list_of (λ i. i) k)) (generated_line k) (133 * k) 133 (lines-short k) (line-short k) in
    omega (arith, more, ap length (flat_map_more generated_line [] (list_of (λ i. i) k) k))

-- and a block at most 8512
pub blocks-short : (blocks : ℕ) → length (trace_text blocks) ≤ 8512 * blocks
blocks-short blocks = omega (arith, lines-short (64 * blocks))
