use Rattle.std.proofs.Common.{ap, ◌∙◌, sym, take, arith}
use Rattle.std.proofs.Math.Dec.{leb}
use Rattle.std.specs.Prelude.{min, nat_eq}
use Rattle.std.specs.List.{starts_with}
use Rattle.rv_trace.proofs.HeldWordLemmas.{held-begins}
use Rattle.rv_trace.proofs.held_word.HeldWord.begins.Goals as goal

pub returns : goal.returns
returns c =
    let held = c.self.inside.word in
    let text = c.args.text.now in
    let invariant = c.self.invariant in
    ap (λ n. leb n c.same_in.result) invariant.0
    ∙ held-begins c.self.inside.near held text c.same_in.result (omega (arith, invariant.0, c.if-self-gt-WIDTH.false)) c.if-text-lt-WIDTH.false
    (ap (λ n. take (min n 16) c.self.inside.near) (sym invariant.0) ∙ invariant.1) c.same_in.ensures
    ∙ ap (starts_with nat_eq text) c.self.view_is
