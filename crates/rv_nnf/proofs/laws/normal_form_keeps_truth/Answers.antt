use Rattle.std.proofs.Common.{true, false}
use Rattle.rv_nnf.proofs.TruthKept.{keeps_at}
use Rattle.rv_nnf.proofs.laws.normal_form_keeps_truth.Goals as goal

pub returns : goal.returns
returns c = record { positive = λ f view letters. keeps_at f true view letters; negative = λ f view letters. keeps_at f false view letters }
