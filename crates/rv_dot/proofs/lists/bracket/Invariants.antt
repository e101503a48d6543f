use Rattle.std.proofs.Common.{◌≡◌, List, length}
use Rattle.std.specs.Option.{option_map}
use Rattle.rv_dot.specs.declared.token.Mark.TheVariants.{CloseBracket}
use Rattle.rv_dot.specs.inner.Held.{lexeme}
use Rattle.rv_dot.specs.Lists.{Attribute, attribute_item, separated, last_value}
use Rattle.rv_dot.proofs.ListLoops.{IsUnderWay}
use Rattle.rv_dot.proofs.lists.bracket.Given as goal

abbrev pub invariant-attributes : goal.invariant-attributes
invariant-attributes l = (found : List Attribute) × IsUnderWay CloseBracket attribute_item separated found l.rest l.tokens × (last_value l.key found ≡ option_map lexeme l.value)

abbrev pub decreases-attributes : goal.decreases-attributes
decreases-attributes l = length l.rest
