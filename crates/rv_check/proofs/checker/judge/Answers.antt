-- One more line.
use Rattle.std.proofs.Common.{◌≡◌, ℕ, Bool, true, false, List, [], ◌∷◌, ◌++◌, None, Some, refl, sym, subst}
use Rattle.rv_model.specs.declared.entry.Entry.{Entry}
use Rattle.rv_journal.specs.EntryTexts.{entry_text, IsEntry}
use Rattle.rv_check.specs.Checker.{IsGoodJournal, IsBad, IsChecker}
use Rattle.rv_check.specs.Run.{RunValue, BeginsRun}
use Rattle.rv_check.proofs.JournalLemmas.{bad-stays, bad-line, bad-entry, good-entry}
use Rattle.rv_check.proofs.checker.judge.Goals as goal

-- one way or the other
either : (b : Bool) (G : Type 0) → (b ≡ true → G) → (b ≡ false → G) → G
either true G when_so when_not = when_so refl
either false G when_so when_not = when_not refl

pub returns-then-not-good-clause-judged : goal.returns-then-not-good-clause-judged
returns-then-not-good-clause-judged c = λ lines k. bad-stays c.args.run.now lines c.args.line.now (subst (λ (b : Bool). IsChecker c.args.run.now b lines) c.if-not-good.true k)

pub returns-in-None-clause-judged : goal.returns-in-None-clause-judged
returns-in-None-clause-judged c = λ lines k. bad-line c.args.run.now lines c.args.line.now (λ e fits text. let some : None ≡ Some e = c.in-None.ensures.every e fits text in cc)

pub returns-in-Some-clause-judged : goal.returns-in-Some-clause-judged
returns-in-Some-clause-judged c = λ lines k.
    let r : RunValue = c.args.run.now in
    let line : List ℕ = c.args.line.now in
    let e : Entry = c.in-Some.entry in
    let good : IsGoodJournal r lines = subst (λ (b : Bool). IsChecker r b lines) c.if-not-good.false k in
    let every : (f : Entry) → IsEntry f → entry_text f ≡ line → f ≡ e = λ f fits text. (let same : Some e ≡ Some f = c.in-Some.ensures.every f fits text in cc) in
    let new : RunValue = c.take-taken.new.self in
    let taken = c.take-taken.ensures.taken in
    let kept = c.take-taken.ensures.kept in
    let refused = c.take-taken.ensures.no in
    let begins : BeginsRun new new.history = c.assert_invariant.ensures in
    let grown : RunValue = record r { history = r.history ++ e ∷ [] } in
    let when_taken : c.take-taken.result ≡ true → IsChecker new c.take-taken.result (lines ++ line ∷ []) = λ so.
    let same : new ≡ grown = taken so in
    let entry = good-entry r lines line good e every c.in-Some.ensures.fits c.in-Some.ensures.some (subst (λ (v : RunValue). BeginsRun v v.history) same begins) in
    subst (λ (b : Bool). IsChecker new b (lines ++ line ∷ [])) (sym so) (subst (λ (v : RunValue). IsGoodJournal v (lines ++ line ∷ [])) (sym same) entry) in
    let when_not : c.take-taken.result ≡ false → IsChecker new c.take-taken.result (lines ++ line ∷ []) = λ not_so.
    let same : new ≡ r = kept not_so in
    let bad = bad-entry r lines line good e every (refused not_so) in
    subst (λ (b : Bool). IsChecker new b (lines ++ line ∷ [])) (sym not_so) (subst (λ (v : RunValue). IsBad v (lines ++ line ∷ [])) (sym same) bad) in
    either c.take-taken.result (IsChecker new c.take-taken.result (lines ++ line ∷ [])) when_taken when_not
