-- The generated input (this project's choice): two monitors, and a trace in blocks of 64 lines, in which each of eight CPUs fails the first monitor once a block.
use Rattle.std.specs.Prelude.{ℕ, ◌+◌, ◌*◌, ◌/◌, ◌%◌, List, [], ◌∷◌, ◌++◌, flat_map, slice_index_or, codes, decimal}
use Rattle.rv_model.specs.declared.automaton.Edge.{Edge}
use Rattle.rv_model.specs.Machine.{Machine}
use Rattle.rv_model.specs.Numbers.{list_of}
use Rattle.rv_gen.specs.declared.trace.GenTask.{GenTask}

-- ---- the automata (Linux, Documentation/trace/rv, monitor_wip.rst and monitor_wwnr.rst)

-- the edge that leads from a state to another by an event
abbrev pub edge : ℕ → ℕ → ℕ → Edge
edge from event to = record { from = from; event = event; to = to }

-- an automaton of these states, events and edges, whose first state is marked
abbrev pub marked_first : List (List ℕ) → List (List ℕ) → List Edge → Machine
marked_first states events edges = record { states = states; events = events; edges = edges; marked = 1 }

-- preemption is off wherever a task is woken
abbrev pub wip : Machine
wip =
    marked_first (codes "preemptive" ∷ codes "non_preemptive" ∷ []) (codes "preempt_disable" ∷ codes "preempt_enable" ∷ codes "sched_waking" ∷ [])
    (edge 0 0 1 ∷ edge 1 1 0 ∷ edge 1 2 1 ∷ [])

-- a task is woken only while it does not run
abbrev pub wwnr : Machine
wwnr = marked_first (codes "not_running" ∷ codes "running" ∷ []) (codes "switch_in" ∷ codes "switch_out" ∷ codes "wakeup" ∷ []) (edge 0 0 1 ∷ edge 0 2 0 ∷ edge 1 1 0 ∷ [])

-- ---- the bindings

-- each CPU's preemption, and then each task's running
abbrev pub bindings_text : List ℕ
bindings_text =
    codes "monitor wip cpu da wip.dot\n"
    ++ codes "on wip preempt_disable : event preempt_disable\n"
    ++ codes "on wip preempt_enable : start preempt_enable\n"
    ++ codes "on wip sched_waking : event sched_waking\n"
    ++ codes "monitor wwnr task da wwnr.dot\n"
    ++ codes "on wwnr sched_switch by prev_pid if prev_state=S : start switch_out\n"
    ++ codes "on wwnr sched_switch by prev_pid if prev_state!=S : event switch_out\n"
    ++ codes "on wwnr sched_switch by next_pid : event switch_in\n"
    ++ codes "on wwnr sched_wakeup by pid : event wakeup\n"

-- ---- the trace

-- a CPU in three digits
unfoldable pub cpu_text : ℕ → List ℕ
cpu_text cpu = codes "00" ++ decimal cpu

-- the pid of a CPU's first task
abbrev pub first_pid : ℕ → ℕ
first_pid cpu = 100 + 2 * cpu

-- the pid of its second one
abbrev pub second_pid : ℕ → ℕ
second_pid cpu = first_pid cpu + 1

-- the first task is t, and the second one u
abbrev pub first_run : ℕ → GenTask
first_run cpu = record { comm = 116; pid = first_pid cpu }

-- the second task of a CPU, with its name and pid
abbrev pub second_run : ℕ → GenTask
second_run cpu = record { comm = 117; pid = second_pid cpu }

-- a field, behind a blank
abbrev pub field_text : List ℕ → List ℕ → List ℕ
field_text name value = codes " " ++ name ++ codes "=" ++ value

-- the first task is woken
abbrev pub woken_text : List ℕ → ℕ → List ℕ
woken_text event cpu =
    event ++ codes ": comm=t" ++ field_text (codes "pid") (decimal (first_pid cpu)) ++ field_text (codes "prio") (codes "120") ++ field_text (codes "target_cpu") (cpu_text cpu)

-- the task that goes, and its state
abbrev pub prev_text : GenTask → List ℕ → List ℕ
prev_text run state =
    field_text (codes "prev_comm") (run.comm ∷ []) ++ field_text (codes "prev_pid") (decimal run.pid) ++ field_text (codes "prev_prio") (codes "120") ++ field_text (codes "prev_state") state

-- the task that comes
abbrev pub next_text : GenTask → List ℕ
next_text run = field_text (codes "next_comm") (run.comm ∷ []) ++ field_text (codes "next_pid") (decimal run.pid) ++ field_text (codes "next_prio") (codes "120")

-- one task goes, in this state, and another comes
abbrev pub switch_text : GenTask → List ℕ → GenTask → List ℕ
switch_text prev state next = codes "sched_switch:" ++ prev_text prev state ++ codes " ==>" ++ next_text next

-- the events of a CPU in a block, in order
abbrev pub block_events : ℕ → List (List ℕ)
block_events cpu =
    codes "preempt_enable: caller=a parent=b"
    ∷ codes "preempt_disable: caller=a parent=b"
    ∷ woken_text (codes "sched_waking") cpu
    ∷ codes "preempt_enable: caller=a parent=b"
    ∷ woken_text (codes "sched_waking") cpu
    ∷ switch_text (first_run cpu) (codes "S") (second_run cpu)
    ∷ woken_text (codes "sched_wakeup") cpu
    ∷ switch_text (second_run cpu) (codes "R") (first_run cpu)
    ∷ []

-- the decimal digit of this weight
abbrev pub digit : ℕ → ℕ → ℕ
digit number weight = 48 + (number / weight) % 10

-- a number in six digits
abbrev pub six_digits : ℕ → List ℕ
six_digits n = digit n 100000 ∷ digit n 10000 ∷ digit n 1000 ∷ digit n 100 ∷ digit n 10 ∷ digit n 1 ∷ []

-- line i, from 0: the CPUs take turns, and so do each one's events
abbrev pub generated_line : ℕ → List ℕ
generated_line i =
    codes "t-" ++ decimal (first_pid (i % 8)) ++ codes " [" ++ cpu_text (i % 8) ++ codes "] 100." ++ six_digits i ++ codes ": "
    ++ slice_index_or (block_events (i % 8)) (i / 8 % 8) [] ++ codes "\n"

-- so many blocks
abbrev pub trace_text : ℕ → List ℕ
trace_text blocks = flat_map generated_line (list_of (λ i. i) (64 * blocks))
