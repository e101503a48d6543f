use Rattle.std.proofs.Common.{refl}
use Rattle.rv_tool.specs.Calls.{Call, call}
use Rattle.rv_tool.specs.inner.Words.{command_value}
use Rattle.rv_tool.specs.Words.{texts_of}
use Rattle.rv_tool.proofs.AnswerLemmas.{usage_answered, command_answered, words_answered}
use Rattle.rv_tool.proofs.LoadedLemmas.{words_within}
use Rattle.rv_tool.proofs.top.rv.Goals as goal

pub returns-in-Some-clause-answers : goal.returns-in-Some-clause-answers
returns-in-Some-clause-answers g c =
    let told = g.S.Store.files c.args.store.now in
    let seen : Call = call g.S.Store g.K.Sink c.args.store.now c.run.new.store c.args.out.now c.put_done.new.out c.put_done.result in
    (words_answered _ _ told seen c.in-Some.ensures.value (command_answered seen told c.run.result c.run.ensures.counts c.put_done.ensures (command_value c.in-Some.command) (words_within _ (texts_of c.args.words.now) c.in-Some.ensures.value) c.run.ensures.comes)).answers

pub returns-in-Some-clause-verdicts : goal.returns-in-Some-clause-verdicts
returns-in-Some-clause-verdicts g c =
    let told = g.S.Store.files c.args.store.now in
    let seen : Call = call g.S.Store g.K.Sink c.args.store.now c.run.new.store c.args.out.now c.put_done.new.out c.put_done.result in
    (words_answered _ _ told seen c.in-Some.ensures.value (command_answered seen told c.run.result c.run.ensures.counts c.put_done.ensures (command_value c.in-Some.command) (words_within _ (texts_of c.args.words.now) c.in-Some.ensures.value) c.run.ensures.comes)).verdicts

pub returns-in-Some-clause-opaque : goal.returns-in-Some-clause-opaque
returns-in-Some-clause-opaque g c =
    let told = g.S.Store.files c.args.store.now in
    let seen : Call = call g.S.Store g.K.Sink c.args.store.now c.run.new.store c.args.out.now c.put_done.new.out c.put_done.result in
    (words_answered _ _ told seen c.in-Some.ensures.value (command_answered seen told c.run.result c.run.ensures.counts c.put_done.ensures (command_value c.in-Some.command) (words_within _ (texts_of c.args.words.now) c.in-Some.ensures.value) c.run.ensures.comes)).opaque

pub returns-in-None-clause-answers : goal.returns-in-None-clause-answers
returns-in-None-clause-answers g c =
    let told = g.S.Store.files c.args.store.now in
    let seen : Call = call g.S.Store g.K.Sink c.args.store.now c.args.store.now c.args.out.now c.put_usage.new.out c.put_usage.result in
    (words_answered _ _ told seen c.in-None.ensures.value (usage_answered told seen refl c.put_usage.ensures)).answers

pub returns-in-None-clause-verdicts : goal.returns-in-None-clause-verdicts
returns-in-None-clause-verdicts g c =
    let told = g.S.Store.files c.args.store.now in
    let seen : Call = call g.S.Store g.K.Sink c.args.store.now c.args.store.now c.args.out.now c.put_usage.new.out c.put_usage.result in
    (words_answered _ _ told seen c.in-None.ensures.value (usage_answered told seen refl c.put_usage.ensures)).verdicts

pub returns-in-None-clause-opaque : goal.returns-in-None-clause-opaque
returns-in-None-clause-opaque g c =
    let told = g.S.Store.files c.args.store.now in
    let seen : Call = call g.S.Store g.K.Sink c.args.store.now c.args.store.now c.args.out.now c.put_usage.new.out c.put_usage.result in
    (words_answered _ _ told seen c.in-None.ensures.value (usage_answered told seen refl c.put_usage.ensures)).opaque
