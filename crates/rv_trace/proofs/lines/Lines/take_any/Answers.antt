use Rattle.std.proofs.Common.{◌≡◌, refl, rules}
use Rattle.rv_trace.specs.AnyLines.{is_none_taken}
use Rattle.rv_trace.proofs.lines.Lines.take_any.Goals as goal
use Rattle.rv_trace.proofs.lines.Lines.take_any.Goals.{in-Ok-None, in_default, in_default-2}

pub invariant_of-self : goal.invariant_of-self
invariant_of-self c =
    let old = c.self.invariant in
    let sought = rw c.as_slice.ensures.value at c.seek_line-told.ensures in
    record { piece = old.piece; looks = sought.looks; fits = sought.fits; order = sought.order; within = sought.within; stands = (sought.tells c.self.inside.stream old.piece old.stands).behind }

pub returns-clause-takes : goal.returns-clause-takes
returns-clause-takes c =
    let old = c.self.invariant in
    let sought = rw c.as_slice.ensures.value at c.seek_line-told.ensures in
    let idle : c.match-matches.self ≡ is_none_taken c.seek_line-told.result.read =
    elim c.match-matches.branch [
      | in-Ok-None w ↦ search rules
      | in_default w ↦ search rules
      | in_default-2 w ↦ search rules
    ] in
    rw (← c.self.view_is) (record { fed = refl; ended = refl; idle = idle; answers = (sought.tells c.self.inside.stream old.piece old.stands).answers })

pub returns-clause-read : goal.returns-clause-read
returns-clause-read c = (rw c.as_slice.ensures.value at c.seek_line-told.ensures).read_on

pub returns-clause-none : goal.returns-clause-none
returns-clause-none c = (rw c.as_slice.ensures.value at c.seek_line-told.ensures).none

pub returns-clause-refused : goal.returns-clause-refused
returns-clause-refused c = (rw c.as_slice.ensures.value at c.seek_line-told.ensures).refused
