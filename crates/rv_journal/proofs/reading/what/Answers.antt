use Rattle.std.proofs.Common.{◌≡◌, Some, None, rules, ap, ◌∙◌}
use Rattle.rv_journal.specs.declared.names.LetterKind.{LetterKind}
use Rattle.rv_journal.specs.declared.names.LetterKind.TheVariants as kinds
use Rattle.rv_journal.specs.inner.PieceReadings.{first_by, kind_in}
use Rattle.rv_journal.specs.inner.EntryReadings.{what_from, what_of}
use Rattle.rv_journal.proofs.ThenLemmas.{then-none, gives-none, reads-then}
use Rattle.rv_journal.proofs.reading.what.Goals as goal

pub returns-in_err-kind : goal.returns-in_err-kind
returns-in_err-kind c = let none : c.from_residual.result ≡ None = search rules in gives-none what_from _ _ _ none (then-none what_of c.in_err-kind.ensures)

pub returns-in-Da : goal.returns-in-Da
returns-in-Da c = reads-then (first_by kind_in) what_of _ c.next_kind.new.words _ kinds.Da _ (c.in_ok-kind.ensures ∙ ap (λ (k : LetterKind). Some (k, c.next_kind.new.words)) c.in-Da.is) c.event.ensures

pub returns-in-Ltl : goal.returns-in-Ltl
returns-in-Ltl c = reads-then (first_by kind_in) what_of _ c.next_kind.new.words _ kinds.Ltl _ (c.in_ok-kind.ensures ∙ ap (λ (k : LetterKind). Some (k, c.next_kind.new.words)) c.in-Ltl.is) c.sets.ensures
