use Rattle.std.proofs.Common.{ap, ◌∙◌, take, sym}
use Rattle.std.specs.Prelude.{bytes_eq, min}
use Rattle.rv_trace.proofs.HeldWordLemmas.{held-same, held-apart}
use Rattle.rv_trace.proofs.held_word.HeldWord.is.Goals as goal

pub returns-then-same-end : goal.returns-then-same-end
returns-then-same-end c =
    let held = c.self.inside.word in
    let invariant = c.self.invariant in
    held-same c.self.inside.near held c.args.word.now c.args.text.now c.same_in-same.result (c.if-end-self.false ∙ invariant.0)
    (ap (λ n. take (min n 16) c.self.inside.near) (sym invariant.0) ∙ invariant.1) c.requires c.same_in-same.ensures c.if-same-end.true
    ∙ ap (bytes_eq c.args.word.now) c.self.view_is

pub returns-then-same-lt-WIDTH : goal.returns-then-same-lt-WIDTH
returns-then-same-lt-WIDTH c =
    let held = c.self.inside.word in
    let invariant = c.self.invariant in
    held-apart c.self.inside.near held c.args.word.now c.args.text.now c.same_in-same.result (c.if-end-self.false ∙ invariant.0)
    (ap (λ n. take (min n 16) c.self.inside.near) (sym invariant.0) ∙ invariant.1) c.requires c.same_in-same.ensures c.if-same-end.false c.if-same-lt-WIDTH.true
    ∙ ap (bytes_eq c.args.word.now) c.self.view_is
