use Rattle.std.proofs.Common.{ℕ, List, [], ◌++◌, codes, ap, ◌∙◌, append_assoc}
use Rattle.std.proofs.lemmas.Result.{on_ok_weaker}
use Rattle.rv_gen.specs.Generated.{cpu_text, field_text}
use Rattle.rv_gen.proofs.trace.put_target.Goals as goal

pub returns : goal.returns
returns c =
    on_ok_weaker c.put_cpu.result
    (λ added. added ∙ ap (λ (text : List ℕ). text ++ cpu_text c.args.cpu) c.in_ok-put_name.ensures ∙ append_assoc c.args.out.now (field_text (codes "target_cpu") []) (cpu_text c.args.cpu))
    c.put_cpu.ensures
