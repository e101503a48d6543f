-- What a part of a reader answers, against what the definition reads. Want of memory may take the place of any answer.
use Rattle.std.specs.Prelude.{◌≡◌, Option, Some, None, Result, Ok, Err}
use Rattle.rv_text.specs.declared.unread.Unread.{Unread}
use Rattle.rv_text.specs.declared.unread.Unread.TheVariants.{Memory, Syntax}

-- it fails where the definition reads nothing
abbrev pub Fails : {Y : Type 0} → Unread → Option Y → Type 0
Fails Memory read = Unit {0}
Fails Syntax read = read ≡ None

-- what was returned, seen by view, is what the definition reads
abbrev pub IsReadAs : {X Y : Type 0} → (X → Y) → Result X Unread → Option Y → Type 0
IsReadAs view (Ok x) read = read ≡ Some (view x)
IsReadAs view (Err unread) read = Fails unread read
