-- The numbers that a user sees, by numerals.
use Rattle.std.specs.Prelude.{◌≡◌}
use Rattle.rv_text.specs.declared.numbers.TheConstants.{USAGE, DOT_SYNTAX, NO_INITIAL, TWO_INITIALS, UNDECLARED_STATE, NOT_DETERMINISTIC, TOO_MANY_STATES, TOO_MANY_EVENTS, LTL_SYNTAX, NO_RULE, DEFINED_TWICE, CYCLE, TOO_MANY_ATOMS, TOO_BIG, TOO_MANY_PARTS, TOO_WIDE, TOO_MANY_NODES, BIND_SYNTAX, NAME_TWICE, UNKNOWN_EVENT, UNKNOWN_ATOM, TOO_MANY_MONITORS, TOO_MANY_RULES, TRACE_SYNTAX, LOST_EVENTS, TOO_MANY_CPUS, TOO_LONG, TOO_MANY_TASKS, NO_PID, TOO_MANY_DELIVERIES, CONTROL_SYNTAX, NO_SUCH_FILE, INVALID, NOT_NUMBERED, NO_HEADER, HEADER_SYNTAX, NO_INSTANCE}
use Rattle.rv_text.specs.declared.statuses.TheConstants.{CLEAN, FAILURE, REFUSED, UNREAD, UNWRITTEN, NO_MEMORY, STOPPED_SOME}

-- each refusal has this number
pub record RefusalNumbers : Type 0 where
  pub usage : USAGE ≡ 1
  pub dot_syntax : DOT_SYNTAX ≡ 2
  pub no_initial : NO_INITIAL ≡ 3
  pub two_initials : TWO_INITIALS ≡ 4
  pub undeclared_state : UNDECLARED_STATE ≡ 5
  pub not_deterministic : NOT_DETERMINISTIC ≡ 6
  pub too_many_states : TOO_MANY_STATES ≡ 7
  pub too_many_events : TOO_MANY_EVENTS ≡ 8
  pub ltl_syntax : LTL_SYNTAX ≡ 9
  pub no_rule : NO_RULE ≡ 10
  pub defined_twice : DEFINED_TWICE ≡ 11
  pub cycle : CYCLE ≡ 12
  pub too_many_atoms : TOO_MANY_ATOMS ≡ 13
  pub too_big : TOO_BIG ≡ 14
  pub too_many_parts : TOO_MANY_PARTS ≡ 15
  pub too_wide : TOO_WIDE ≡ 16
  pub too_many_nodes : TOO_MANY_NODES ≡ 17
  pub bind_syntax : BIND_SYNTAX ≡ 18
  pub name_twice : NAME_TWICE ≡ 19
  pub unknown_event : UNKNOWN_EVENT ≡ 20
  pub unknown_atom : UNKNOWN_ATOM ≡ 21
  pub too_many_monitors : TOO_MANY_MONITORS ≡ 22
  pub too_many_rules : TOO_MANY_RULES ≡ 23
  pub trace_syntax : TRACE_SYNTAX ≡ 24
  pub lost_events : LOST_EVENTS ≡ 25
  pub too_many_cpus : TOO_MANY_CPUS ≡ 26
  pub too_long : TOO_LONG ≡ 27
  pub too_many_tasks : TOO_MANY_TASKS ≡ 28
  pub no_pid : NO_PID ≡ 29
  pub too_many_deliveries : TOO_MANY_DELIVERIES ≡ 30
  pub control_syntax : CONTROL_SYNTAX ≡ 31
  pub no_such_file : NO_SUCH_FILE ≡ 32
  pub invalid : INVALID ≡ 33
  pub not_numbered : NOT_NUMBERED ≡ 34
  pub no_header : NO_HEADER ≡ 35
  pub header_syntax : HEADER_SYNTAX ≡ 36
  pub no_instance : NO_INSTANCE ≡ 37

-- each exit status is this one
pub record StatusNumbers : Type 0 where
  pub clean : CLEAN ≡ 0
  pub failure : FAILURE ≡ 1
  pub refused : REFUSED ≡ 2
  pub unread : UNREAD ≡ 3
  pub unwritten : UNWRITTEN ≡ 4
  pub no_memory : NO_MEMORY ≡ 5
  pub stopped_some : STOPPED_SOME ≡ 6
