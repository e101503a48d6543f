-- What the words of the command line ask for.
use Rattle.std.specs.Prelude.{ℕ, nat_lt, ◌&&◌, not, List, [], ◌∷◌, map, codes, bytes_eq, string_bytes, Option, Some, None, option_map, if◌then◌else◌, String}
use Rattle.std.specs.declared.alloc.Global.{Global}
use Rattle.rv_text.specs.Decimal.{decimal_of}
use Rattle.rv_model.specs.declared.kind.SpecKind.{SpecKind}
use Rattle.rv_model.specs.Words.{kind_named}
use Rattle.rv_gen.specs.declared.files.TheConstants.{MAX_BLOCKS}
use Rattle.rv_header.specs.Naming.{is_header_name}

-- the words as texts
abbrev pub texts_of : List (String Global) → List (List ℕ)
texts_of words = map string_bytes words

-- a command, with the texts that it is given
pub data CommandValue : Type 0 where
  -- the bindings and the trace, for one thread or several
  replay : List ℕ → List ℕ → CommandValue
  feed : List ℕ → List ℕ → CommandValue
  -- the bindings, the trace, and the script beside the CPUs
  feed_beside : List ℕ → List ℕ → List ℕ → CommandValue
  -- the bindings and the trace, for a run whose entries are recorded
  journal : List ℕ → List ℕ → CommandValue
  -- the bindings, the trace, and the journal that is judged
  check : List ℕ → List ℕ → List ℕ → CommandValue
  -- the bindings, the trace, and the monitor and the instance that are watched
  watch : List ℕ → List ℕ → List ℕ → List ℕ → CommandValue
  -- the bindings and the script
  control : List ℕ → List ℕ → CommandValue
  -- how many blocks of the generated input
  load : ℕ → CommandValue
  -- the kind of specification, and its file
  table : SpecKind → List ℕ → CommandValue
  -- the name of the C tables, and the automaton's file
  header : List ℕ → List ℕ → CommandValue

-- `table da FILE` or `table ltl FILE`
abbrev pub table_command : List ℕ → List ℕ → Option CommandValue
table_command word file = option_map (λ kind. table kind file) (kind_named word)

-- `header NAME FILE`, where C tables may have the name
abbrev pub header_command : List ℕ → List ℕ → Option CommandValue
header_command name file = if is_header_name name then Some (header name file) else None

-- from 1 to as many blocks as make a whole trace
abbrev pub load_of : Option ℕ → Option CommandValue
load_of None = None
load_of (Some blocks) = if nat_lt 0 blocks && not (nat_lt MAX_BLOCKS blocks) then Some (load blocks) else None

-- `load N`; `replay`, `feed` or `journal BINDINGS TRACE`; `control BINDINGS SCRIPT`; `table da FILE` or `table ltl FILE`; `header NAME FILE`; `feed BINDINGS TRACE SCRIPT`; `check BINDINGS TRACE JOURNAL`; `watch BINDINGS TRACE MONITOR INSTANCE`
abbrev pub command_of : List (List ℕ) → Option CommandValue
command_of (word ∷ number ∷ []) = if bytes_eq word (codes "load") then load_of (decimal_of number) else None
command_of (word ∷ first ∷ second ∷ []) =
    if bytes_eq word (codes "replay") then Some (replay first second)
    else if bytes_eq word (codes "feed") then Some (feed first second)
    else if bytes_eq word (codes "journal") then Some (journal first second)
    else if bytes_eq word (codes "control") then Some (control first second)
    else if bytes_eq word (codes "table") then table_command first second
    else if bytes_eq word (codes "header") then header_command first second
    else None
command_of (word ∷ bindings ∷ trace ∷ third ∷ []) =
    if bytes_eq word (codes "feed") then Some (feed_beside bindings trace third)
    else if bytes_eq word (codes "check") then Some (check bindings trace third)
    else None
command_of (word ∷ bindings ∷ trace ∷ monitor ∷ instance ∷ []) = if bytes_eq word (codes "watch") then Some (watch bindings trace monitor instance) else None
command_of _ = None
