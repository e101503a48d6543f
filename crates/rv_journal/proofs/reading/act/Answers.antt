use Rattle.std.proofs.Common.{◌≡◌, Some, None, rules, ap, ◌∙◌}
use Rattle.rv_model.specs.declared.entry.Act.TheVariants.{Stop, Raise, Lower, Clear, End}
use Rattle.rv_journal.specs.declared.names.ActVerb.{ActVerb}
use Rattle.rv_journal.specs.declared.names.ActVerb.TheVariants as verbs
use Rattle.rv_journal.specs.inner.PieceReadings.{first_by, verb_in}
use Rattle.rv_journal.specs.inner.EntryReadings.{act_from, act_of}
use Rattle.rv_journal.proofs.ThenLemmas.{then-some, then-none, gives-none, reads-then}
use Rattle.rv_journal.proofs.reading.act.Goals as goal

pub returns-in_err-verb : goal.returns-in_err-verb
returns-in_err-verb c = let none : c.from_residual.result ≡ None = search rules in gives-none act_from _ _ _ none (then-none act_of c.in_err-verb.ensures)

pub returns-in-Deliver : goal.returns-in-Deliver
returns-in-Deliver c = reads-then (first_by verb_in) act_of _ c.next_verb.new.words _ verbs.Deliver _ (c.in_ok-verb.ensures ∙ ap (λ (v : ActVerb). Some (v, c.next_verb.new.words)) c.in-Deliver.is) c.deliver.ensures

pub returns-in-Look : goal.returns-in-Look
returns-in-Look c = then-some act_of (c.in_ok-verb.ensures ∙ ap (λ (v : ActVerb). Some (v, c.next_verb.new.words)) c.in-Look.is)

pub returns-in_err-stopped-in-Stop : goal.returns-in_err-stopped-in-Stop
returns-in_err-stopped-in-Stop c =
    let none : c.from_residual-in_err-stopped-in-Stop.result ≡ None = search rules in
    gives-none act_from _ _ _ none (then-some act_of (c.in_ok-verb.ensures ∙ ap (λ (v : ActVerb). Some (v, c.next_verb.new.words)) c.in-Stop.is) ∙ then-none (λ n rest. Some (Stop n, rest)) c.in_err-stopped-in-Stop.ensures)

pub returns-in_ok-stopped-in-Stop : goal.returns-in_ok-stopped-in-Stop
returns-in_ok-stopped-in-Stop c = then-some act_of (c.in_ok-verb.ensures ∙ ap (λ (v : ActVerb). Some (v, c.next_verb.new.words)) c.in-Stop.is) ∙ then-some (λ n rest. Some (Stop n, rest)) c.in_ok-stopped-in-Stop.ensures

pub returns-in_err-raised-in-Raise : goal.returns-in_err-raised-in-Raise
returns-in_err-raised-in-Raise c =
    let none : c.from_residual-in_err-raised-in-Raise.result ≡ None = search rules in
    gives-none act_from _ _ _ none (then-some act_of (c.in_ok-verb.ensures ∙ ap (λ (v : ActVerb). Some (v, c.next_verb.new.words)) c.in-Raise.is) ∙ then-none (λ n rest. Some (Raise n, rest)) c.in_err-raised-in-Raise.ensures.number)

pub returns-in_ok-raised-in-Raise : goal.returns-in_ok-raised-in-Raise
returns-in_ok-raised-in-Raise c = then-some act_of (c.in_ok-verb.ensures ∙ ap (λ (v : ActVerb). Some (v, c.next_verb.new.words)) c.in-Raise.is) ∙ then-some (λ n rest. Some (Raise n, rest)) c.in_ok-raised-in-Raise.ensures.number

pub returns-in_err-lowered-in-Lower : goal.returns-in_err-lowered-in-Lower
returns-in_err-lowered-in-Lower c =
    let none : c.from_residual-in_err-lowered-in-Lower.result ≡ None = search rules in
    gives-none act_from _ _ _ none (then-some act_of (c.in_ok-verb.ensures ∙ ap (λ (v : ActVerb). Some (v, c.next_verb.new.words)) c.in-Lower.is) ∙ then-none (λ n rest. Some (Lower n, rest)) c.in_err-lowered-in-Lower.ensures.number)

pub returns-in_ok-lowered-in-Lower : goal.returns-in_ok-lowered-in-Lower
returns-in_ok-lowered-in-Lower c = then-some act_of (c.in_ok-verb.ensures ∙ ap (λ (v : ActVerb). Some (v, c.next_verb.new.words)) c.in-Lower.is) ∙ then-some (λ n rest. Some (Lower n, rest)) c.in_ok-lowered-in-Lower.ensures.number

pub returns-in_err-cleared-in-Clear : goal.returns-in_err-cleared-in-Clear
returns-in_err-cleared-in-Clear c =
    let none : c.from_residual-in_err-cleared-in-Clear.result ≡ None = search rules in
    gives-none act_from _ _ _ none (then-some act_of (c.in_ok-verb.ensures ∙ ap (λ (v : ActVerb). Some (v, c.next_verb.new.words)) c.in-Clear.is) ∙ then-none (λ n rest. Some (Clear n, rest)) c.in_err-cleared-in-Clear.ensures)

pub returns-in_ok-cleared-in-Clear : goal.returns-in_ok-cleared-in-Clear
returns-in_ok-cleared-in-Clear c = then-some act_of (c.in_ok-verb.ensures ∙ ap (λ (v : ActVerb). Some (v, c.next_verb.new.words)) c.in-Clear.is) ∙ then-some (λ n rest. Some (Clear n, rest)) c.in_ok-cleared-in-Clear.ensures

pub returns-in_err-ended-in-End : goal.returns-in_err-ended-in-End
returns-in_err-ended-in-End c =
    let none : c.from_residual-in_err-ended-in-End.result ≡ None = search rules in
    gives-none act_from _ _ _ none (then-some act_of (c.in_ok-verb.ensures ∙ ap (λ (v : ActVerb). Some (v, c.next_verb.new.words)) c.in-End.is) ∙ then-none (λ n rest. Some (End n, rest)) c.in_err-ended-in-End.ensures)

pub returns-in_ok-ended-in-End : goal.returns-in_ok-ended-in-End
returns-in_ok-ended-in-End c = then-some act_of (c.in_ok-verb.ensures ∙ ap (λ (v : ActVerb). Some (v, c.next_verb.new.words)) c.in-End.is) ∙ then-some (λ n rest. Some (End n, rest)) c.in_ok-ended-in-End.ensures
