use Rattle.std.proofs.lemmas.Map.Keys.{apart_from_distinct}
use Rattle.rv_slots.specs.Tasks.{same_task}
use Rattle.rv_slots.proofs.tasks.Tasks.len.Goals as goal

pub returns-clause-distinct : goal.returns-clause-distinct
returns-clause-distinct c = rw (← c.self.view_is) (λ i j d before within. apart_from_distinct same_task c.self.inside.set.keys i j d c.len.ensures.unique before within)
