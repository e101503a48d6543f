use Rattle.std.proofs.Common.{◌≡◌, ℕ, Bool, true, false, List, sym, ◌∙◌}
use Rattle.std.specs.Prelude.{if◌then◌else◌}
use Rattle.std.specs.List.{list_any}
use Rattle.rv_model.specs.declared.entry.Entry.{Entry}
use Rattle.rv_laws.specs.Exits.{has_stop}
use Rattle.rv_journal.specs.inner.Whole.{is_failed_entry}
use Rattle.rv_journal.proofs.ExitLemmas.{exit-shown}
use Rattle.rv_journal.proofs.exit.exit_status.Goals as goal

-- some entry shows a failure
abbrev some_failed : List Entry → Bool
some_failed h = list_any (λ e. is_failed_entry e e.act) h

-- the status by the two tests
abbrev status_by : Bool → Bool → ℕ
status_by failed stopped = if failed then 1 else if stopped then 6 else 0

-- the status where both are known
by_tests : (failed stopped f s : Bool) → failed ≡ f → stopped ≡ s → status_by f s ≡ status_by failed stopped
by_tests failed stopped f s is_failed is_stopped = λ i. status_by (sym is_failed i) (sym is_stopped i)

pub returns-then-has_failed : goal.returns-then-has_failed
returns-then-has_failed c = λ s works run.
    let h : List Entry = c.args.entries.now in
    by_tests (some_failed h) (has_stop h) true (has_stop h) (sym c.has_failed.ensures ∙ c.if-has_failed.true) (λ _. has_stop h) ∙ sym (exit-shown s works h run)

pub returns-then-has_stop : goal.returns-then-has_stop
returns-then-has_stop c = λ s works run.
    let h : List Entry = c.args.entries.now in
    by_tests (some_failed h) (has_stop h) false true (sym c.has_failed.ensures ∙ c.if-has_failed.false) (sym c.has_stop.ensures ∙ c.if-has_stop.true) ∙ sym (exit-shown s works h run)

pub returns-else-has_stop : goal.returns-else-has_stop
returns-else-has_stop c = λ s works run.
    let h : List Entry = c.args.entries.now in
    by_tests (some_failed h) (has_stop h) false false (sym c.has_failed.ensures ∙ c.if-has_failed.false) (sym c.has_stop.ensures ∙ c.if-has_stop.false) ∙ sym (exit-shown s works h run)
