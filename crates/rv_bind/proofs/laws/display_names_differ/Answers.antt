use Rattle.rv_bind.proofs.DisplayLemmas.{display_apart, display_is_its, name_is_its}
use Rattle.rv_bind.proofs.laws.display_names_differ.Goals as goal

pub returns-clause-displayed : goal.returns-clause-displayed
returns-clause-displayed c = display_apart

pub returns-clause-first : goal.returns-clause-first
returns-clause-first c = name_is_its

pub returns-clause-first_displayed : goal.returns-clause-first_displayed
returns-clause-first_displayed c = display_is_its
