use Rattle.std.proofs.Common.{◌≡◌, take}
use Rattle.std.specs.Prelude.{map}
use Rattle.std.specs.Option.{option_map}
use Rattle.rv_dot.specs.inner.Held.{lexeme, lexemes, claims}
use Rattle.rv_dot.specs.Statements.{declares, value_held}
use Rattle.rv_dot.specs.Names.{name_of}
use Rattle.rv_dot.proofs.statement.declared_names.Given as goal

abbrev pub invariant-loop-name : goal.invariant-loop-name
invariant-loop-name l = claims l.facts.items ≡ map (λ name. declares (name_of name) (value_held (option_map lexeme l.shape))) (lexemes (take l.name-index l.names))
