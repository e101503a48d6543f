use Rattle.std.proofs.Common.{◌≡◌, ℕ, Some, sym, ap, ◌∙◌, below_more, arith}
use Rattle.rv_ltl.specs.declared.definitions.Definition.{Definition}
use Rattle.rv_ltl.specs.File.{Def}
use Rattle.rv_ltl.specs.inner.Machine.{defs}
use Rattle.rv_ltl.specs.inner.Weights.{index_of}
use Rattle.rv_ltl.proofs.Elements.{read_def, length-defs}
use Rattle.rv_ltl.proofs.Ruling.{distinct_once, not_once}
use Rattle.rv_ltl.proofs.replacing.once.Goals as goal

pub returns-in_default : goal.returns-in_default
returns-in_default c =
    let ds = c.args.definitions.now in
    let i = c.loop-i.i in
    let name = ap (λ (d : Def). d.name) (read_def ds i c.index-definitions-i.result c.loop-i-test.true c.index-definitions-i.is) ∙ ap (λ (d : Definition). d.name) c.index-definitions-i.is in
    sym (not_once (defs ds) i (omega (arith, length-defs ds, c.loop-i-test.true)) (λ e.
    let here = c.in-Some.ensures ∙ ap (λ (x : ℕ). index_of (defs ds) x) (sym name) ∙ e in
    let same : c.in-Some.first ≡ i = cc in
    c.if-first-i.false same))

pub returns-in_default-2 : goal.returns-in_default-2
returns-in_default-2 c =
    let ds = c.args.definitions.now in
    let i = c.loop-i.i in
    let name = ap (λ (d : Def). d.name) (read_def ds i c.index-definitions-i.result c.loop-i-test.true c.index-definitions-i.is) ∙ ap (λ (d : Definition). d.name) c.index-definitions-i.is in
    sym (not_once (defs ds) i (omega (arith, length-defs ds, c.loop-i-test.true)) (λ e.
    let here = c.in_default.ensures ∙ ap (λ (x : ℕ). index_of (defs ds) x) (sym name) ∙ e in
    absurd cc))

pub loop-i-preserved : goal.loop-i-preserved
loop-i-preserved c =
    let ds = c.args.definitions.now in
    let i = c.loop-i.i in
    let name = ap (λ (d : Def). d.name) (read_def ds i c.index-definitions-i.result c.loop-i-test.true c.index-definitions-i.is) ∙ ap (λ (d : Definition). d.name) c.index-definitions-i.is in
    below_more _ _ c.loop-i.invariant (ap (λ (x : ℕ). index_of (defs ds) x) name ∙ sym c.in-Some.ensures ∙ ap (λ (k : ℕ). Some k) c.if-first-i.true)

pub returns : goal.returns
returns c =
    let ds = c.args.definitions.now in
    sym (distinct_once (defs ds) (λ j lt. c.loop-i.invariant j (omega (arith, length-defs ds, lt, c.loop-i-test.false))))
