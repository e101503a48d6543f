-- What a script came to, as a plain value.
use Rattle.rv_tool.specs.declared.control.Session.{Session}
use Rattle.rv_tool.specs.Sessions.{Printed}

-- the text and the status, without the memory that the text takes
abbrev pub session_value : Session → Printed
session_value s = record { text = s.text.items; status = s.status }
