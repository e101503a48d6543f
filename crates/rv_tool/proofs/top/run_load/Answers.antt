use Rattle.std.proofs.Common.{refl, subst}
use Rattle.std.specs.Prelude.{Some, codes}
use Rattle.rv_io.specs.Files.{Files}
use Rattle.rv_bind.specs.Outcomes.{Outcome}
use Rattle.rv_tool.specs.inner.Commands.{ComesTo, IsVerdictReport}
use Rattle.rv_tool.specs.Inputs.{InputValue, run_input}
use Rattle.rv_tool.specs.Loaded.{named_files}
use Rattle.rv_tool.specs.inner.Prepared.{prepared_value}
use Rattle.rv_tool.specs.Possible.{MayInput}
use Rattle.rv_tool.proofs.CommandLemmas.{run_comes}
use Rattle.rv_tool.proofs.VerdictLemmas.{runs_verdicts}
use Rattle.rv_tool.proofs.top.run_load.Goals as goal

pub returns : goal.returns
returns g c =
    let s = c.in-Ok.store.files in
    let told : Files = named_files s.bindings.items s.wip.items s.wwnr.items s.trace.items in
    let outcome : Files → Outcome InputValue = λ files. run_input files (codes "gen.rv") (codes "gen.txt") in
    let ready = c.in_ok-ready.ready in (
      refl,
      subst (λ (files : Files). ComesTo (MayInput (codes "gen.rv") (codes "gen.txt")) IsVerdictReport outcome (Some files) 0 0 c.ended.result) c.in-Ok.ensures
          (run_comes prepared_value (MayInput (codes "gen.rv") (codes "gen.txt")) IsVerdictReport outcome (Some told) 0 0 ready c.fed.result c.ended.result c.in_ok-ready.ensures.reads.value c.in_ok-ready.ensures.some
          (runs_verdicts ready c.fed.result c.in_ok-ready.ensures.ready c.in_ok-ready.ensures.unchanged c.in_ok-ready.ensures.one c.fed.ensures) c.ended.ensures),
    )
