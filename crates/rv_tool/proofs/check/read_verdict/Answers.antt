use Rattle.std.proofs.Common.{List, ℕ, ap, ◌∙◌, subst}
use Rattle.std.specs.Prelude.{Option, Err}
use Rattle.std.proofs.lemmas.Result.{err_from_is_err_and}
use Rattle.rv_bind.specs.FilePieces.{FaultBlamesReached}
use Rattle.rv_bind.specs.Outcomes.{of_text, accepted, reading}
use Rattle.rv_bind.specs.Possible.{MayRead}
use Rattle.rv_tool.specs.Possible.{MayInput}
use Rattle.rv_bind.proofs.OutcomeLemmas.{Refines-later}
use Rattle.rv_io.specs.Files.{Files}
use Rattle.rv_check.specs.declared.reading.Verdict.{Verdict}
use Rattle.rv_check.specs.Readings.{ReaderValue}
use Rattle.rv_check.specs.Verdicts.{Journal}
use Rattle.rv_tool.specs.Inputs.{InputValue}
use Rattle.rv_tool.specs.inner.Prepared.{prepared_value}
use Rattle.rv_tool.specs.inner.JournalPieces.{IsSameRun}
use Rattle.rv_tool.proofs.CheckLemmas.{checked_comes, checked_named}
use Rattle.rv_tool.proofs.JudgedLemmas.{verdict_judged, verdict_some}
use Rattle.rv_tool.proofs.PossibleLemmas.{first_fails, journal_unread}
use Rattle.rv_tool.proofs.check.read_verdict.Goals as goal

pub returns-in_err-take_journal-clause-value : goal.returns-in_err-take_journal-clause-value
returns-in_err-take_journal-clause-value g c =
    let journal = c.args.journal.now in
    let fault = c.in_err-take_journal.field-0.0 in
    let given = err_from_is_err_and c.from_residual-in_err-take_journal.result c.from_residual-in_err-take_journal.ensures.1 in
    rw (given.1, given.2)
    (checked_comes (g.S.Store.files c.args.store.now) c.args.bindings.now c.args.trace.now journal (prepared_value c.in_ok-ready.ready) c.in_ok-ready.ensures.reads.value (g.S.Store.faults c.args.store.now) (g.S.Store.faults c.take_journal.new.store) fault
    (Refines-later (λ (text : List ℕ). text) (g.S.Store.files c.args.store.now) (g.S.Store.files c.read_input.new.store) (g.S.Store.faults c.args.store.now) (g.S.Store.faults c.read_input.new.store) (g.S.Store.faults c.take_journal.new.store) (Err fault) (λ files. of_text journal (files journal) accepted) c.in_ok-ready.ensures.reads.kept c.in_ok-ready.ensures.reads.counts c.in_err-take_journal.ensures.fails.fault))

pub returns-in_err-take_journal-clause-named : goal.returns-in_err-take_journal-clause-named
returns-in_err-take_journal-clause-named g c =
    let journal = c.args.journal.now in
    let fault = c.in_err-take_journal.field-0.0 in
    let given = err_from_is_err_and c.from_residual-in_err-take_journal.result c.from_residual-in_err-take_journal.ensures.1 in
    rw (given.1, given.2)
    (checked_named (g.S.Store.files c.args.store.now) c.args.bindings.now c.args.trace.now journal (prepared_value c.in_ok-ready.ready) c.in_ok-ready.ensures.reads.value (List ℕ) Verdict fault
    (subst (λ (told : Option Files). FaultBlamesReached told fault (λ files. of_text journal (files journal) accepted)) c.in_ok-ready.ensures.reads.kept c.in_err-take_journal.ensures.fails.named))

pub returns-clause-value : goal.returns-clause-value
returns-clause-value g c = λ files known.
    let journal = c.args.journal.now in
    let ready = c.in_ok-ready.ready in
    let i : InputValue = prepared_value ready in
    let new = c.take_journal.new.reader in
    let run = subst (λ (j : Journal). IsSameRun j new.journal) (ap (λ (x : ReaderValue). x.journal) c.in-Ok.ensures.begins) c.in_ok-take_journal.ensures.same in
    let found = verdict_judged ready c.in_ok-ready.ensures.ready c.in_ok-ready.ensures.unchanged c.in-Ok.ensures.judges new c.verdict.result run c.verdict.ensures.holds c.verdict.ensures.stays (files journal) (c.in_ok-take_journal.ensures.all files (c.in_ok-ready.ensures.reads.kept ∙ known)) in (
      record { input = i; journal = found.0 },
      ap (λ o. reading o (λ input. of_text journal (files journal) (λ text. accepted (record { input = input; journal = text })))) (c.in_ok-ready.ensures.reads.value files known) ∙ ap (λ (held : Option (List ℕ)). of_text journal held (λ text. accepted (record { input = i; journal = text }))) found.1,
      found.2,
    )

pub returns-clause-some : goal.returns-clause-some
returns-clause-some g c =
    let ready = c.in_ok-ready.ready in
    let new = c.take_journal.new.reader in
    let run = subst (λ (j : Journal). IsSameRun j new.journal) (ap (λ (x : ReaderValue). x.journal) c.in-Ok.ensures.begins) c.in_ok-take_journal.ensures.same in
    verdict_some ready c.in_ok-ready.ensures.ready c.in_ok-ready.ensures.unchanged c.in-Ok.ensures.judges new c.verdict.result run c.verdict.ensures.holds c.verdict.ensures.stays c.args.bindings.now c.args.trace.now c.args.journal.now c.in_ok-ready.ensures.some

pub returns-in_err-take_journal-clause-some : goal.returns-in_err-take_journal-clause-some
returns-in_err-take_journal-clause-some g c =
    let given = err_from_is_err_and c.from_residual-in_err-take_journal.result c.from_residual-in_err-take_journal.ensures.1 in
    rw (given.1, given.2)
    (journal_unread c.args.bindings.now c.args.trace.now c.args.journal.now (prepared_value c.in_ok-ready.ready) c.in_ok-ready.ensures.some c.in_err-take_journal.field-0.0 c.in_err-take_journal.ensures.unread)

pub returns-in_err-ready-clause-some : goal.returns-in_err-ready-clause-some
returns-in_err-ready-clause-some g c =
    let journal = c.args.journal.now in
    let given = err_from_is_err_and c.from_residual.result c.from_residual.ensures.1 in
    rw (given.1, given.2) (first_fails (MayInput c.args.bindings.now c.args.trace.now) (λ input. MayRead journal (λ text. accepted (record { input = input; journal = text }))) c.in_err-ready.field-0.0 c.in_err-ready.ensures.some)
