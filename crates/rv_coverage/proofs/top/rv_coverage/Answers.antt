use Rattle.std.proofs.Common.{refl, subst}
use Rattle.std.specs.Prelude.{Option}
use Rattle.rv_tool.specs.Calls.{Call, call}
use Rattle.rv_tool.proofs.AnswerLemmas.{report_told, report_untold}
use Rattle.rv_coverage.specs.Headline.{AnswersCoverage, AnswersCoverageOpaque, IsCoverage}
use Rattle.rv_coverage.specs.Texts.{MayTexts, texts_in}
use Rattle.rv_coverage.specs.Words.{CoverageCommandValue}
use Rattle.rv_coverage.specs.inner.Words.{coverage_command_value}
use Rattle.rv_coverage.proofs.top.rv_coverage.Goals as goal

pub returns-in-Some-clause-answers : goal.returns-in-Some-clause-answers
returns-in-Some-clause-answers g c = λ files known.
    let seen : Call = call g.S.Store g.K.Sink c.args.store.now c.watched.new.store c.args.out.now c.put_done.new.out c.put_done.result in
    let command : CoverageCommandValue = coverage_command_value c.in-Some.command in
    subst (λ (asked : Option CoverageCommandValue). AnswersCoverage asked files seen) c.in-Some.ensures
    (report_told seen (g.S.Store.files c.args.store.now) c.watched.result c.watched.ensures.counts c.put_done.ensures (MayTexts command.bindings command.trace) (IsCoverage command) (λ files. texts_in files command.bindings command.trace) c.watched.ensures.comes (IsCoverage command) (λ y h text said goes. goes) files known)

pub returns-in-Some-clause-opaque : goal.returns-in-Some-clause-opaque
returns-in-Some-clause-opaque g c = λ none.
    let seen : Call = call g.S.Store g.K.Sink c.args.store.now c.watched.new.store c.args.out.now c.put_done.new.out c.put_done.result in
    let command : CoverageCommandValue = coverage_command_value c.in-Some.command in
    subst (λ (asked : Option CoverageCommandValue). AnswersCoverageOpaque asked seen) c.in-Some.ensures
    (report_untold seen (g.S.Store.files c.args.store.now) c.watched.result c.watched.ensures.counts c.put_done.ensures (MayTexts command.bindings command.trace) (IsCoverage command) (λ files. texts_in files command.bindings command.trace) c.watched.ensures.comes none)

pub returns-in-None-clause-answers : goal.returns-in-None-clause-answers
returns-in-None-clause-answers g c = λ files known.
    let seen : Call = call g.S.Store g.K.Sink c.args.store.now c.args.store.now c.args.out.now c.put_usage.new.out c.put_usage.result in
    subst (λ (asked : Option CoverageCommandValue). AnswersCoverage asked files seen) c.in-None.ensures (refl, c.put_usage.ensures)

pub returns-in-None-clause-opaque : goal.returns-in-None-clause-opaque
returns-in-None-clause-opaque g c = λ none.
    let seen : Call = call g.S.Store g.K.Sink c.args.store.now c.args.store.now c.args.out.now c.put_usage.new.out c.put_usage.result in
    subst (λ (asked : Option CoverageCommandValue). AnswersCoverageOpaque asked seen) c.in-None.ensures (refl, c.put_usage.ensures)
