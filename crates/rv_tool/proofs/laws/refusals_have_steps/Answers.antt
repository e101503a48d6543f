use Rattle.rv_tool.proofs.StepLemmas.{refused_by_step, no_instance}
use Rattle.rv_tool.proofs.laws.refusals_have_steps.Goals as goal

pub returns-clause-steps : goal.returns-clause-steps
returns-clause-steps c = refused_by_step

pub returns-clause-no_instance : goal.returns-clause-no_instance
returns-clause-no_instance c = no_instance
