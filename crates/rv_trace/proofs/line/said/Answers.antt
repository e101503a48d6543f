use Rattle.std.proofs.Common.{◌+◌, arith}
use Rattle.rv_text.specs.Places.{between}
use Rattle.rv_trace.specs.declared.line.TheConstants.{LAST_PID, LAST_CPU}
use Rattle.rv_trace.proofs.LineLemmas.{up_to-within, up_to-above, read-no_pid, read-no_cpu, read-line}
use Rattle.rv_trace.proofs.line.said.Goals as goal

pub returns-then-found : goal.returns-then-found
returns-then-found c =
    let text = c.args.text.now in
    let parts = c.args.found.parts in
    read-no_pid c.args.text.now c.args.from c.args.number c.args.found.parts c.at.result c.at.ensures
    (up_to-above (between text (parts.head.dash + 1) parts.head.digits) c.args.found.pid LAST_PID c.requires.numbers.tells_pid (omega arith) c.if-found.true)

pub returns-then-found-2 : goal.returns-then-found-2
returns-then-found-2 c =
    let text = c.args.text.now in
    let parts = c.args.found.parts in
    read-no_cpu c.args.text.now c.args.from c.args.number c.args.found.parts c.at-then-found-2.result c.args.found.pid c.at-then-found-2.ensures
    (up_to-within (between text (parts.head.dash + 1) parts.head.digits) c.args.found.pid LAST_PID c.requires.numbers.tells_pid (omega arith) c.if-found.false)
    (up_to-above (between text (parts.head.bracket + 1) parts.head.close) c.args.found.cpu LAST_CPU c.requires.numbers.tells_cpu (omega arith) c.if-found-2.true)

pub returns : goal.returns
returns c =
    let text = c.args.text.now in
    let parts = c.args.found.parts in
    read-line c.args.text.now c.args.from c.args.number c.args.found.parts c.args.found.pid c.args.found.cpu
    (up_to-within (between text (parts.head.dash + 1) parts.head.digits) c.args.found.pid LAST_PID c.requires.numbers.tells_pid (omega arith) c.if-found.false)
    (up_to-within (between text (parts.head.bracket + 1) parts.head.close) c.args.found.cpu LAST_CPU c.requires.numbers.tells_cpu (omega arith) c.if-found-2.false)
