-- A command with its words as plain texts.
use Rattle.rv_coverage.specs.declared.words.CoverageCommand.{CoverageCommand}
use Rattle.rv_coverage.specs.Words.{CoverageCommandValue}

-- the command, with the bytes of its words as texts
abbrev pub coverage_command_value : CoverageCommand → CoverageCommandValue
coverage_command_value c = record { bindings = c.bindings.now; trace = c.trace.now; edges = c.edges }
