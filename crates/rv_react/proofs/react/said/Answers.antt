use Rattle.std.proofs.Common.{◌≡◌, List, ℕ, ◌++◌, [], ◌∷◌, subst, codes, decimal, Result, Err}
use Rattle.std.proofs.lemmas.Result.{err_from_is_err_and}
use Rattle.rv_model.specs.Reports.{said_text}
use Rattle.rv_react.specs.Appending.{Appends}
use Rattle.rv_react.specs.Reactions.{shown_fault}
use Rattle.rv_react.specs.inner.Parts.{begun_text, ended_text}
use Rattle.rv_react.proofs.AppendLemmas.{Appends-front, Appends-later, line-parts}
use Rattle.rv_react.proofs.react.said.Goals as goal

-- the two parts are the line
whole : (front instance fault : List ℕ) (line : ℕ) → begun_text front instance fault ++ ended_text line ≡ front ++ said_text instance fault line
whole front instance fault line = line-parts front (codes "monitor ") instance fault (codes " (line ") (decimal line) (codes ")") (10 ∷ [])

-- what was appended in its parts was appended as the line
as_line : {E : Type 0} (old new front instance fault : List ℕ) (line : ℕ) (result : Result Unit E)
    → Appends old new (begun_text front instance fault ++ ended_text line) result → Appends old new (front ++ said_text instance fault line) result
as_line old new front instance fault line result appended = let Appended : List ℕ → Type 0 = λ text. Appends old new text result in subst Appended (whole front instance fault line) appended

pub returns-in_err-begun : goal.returns-in_err-begun
returns-in_err-begun c =
    let failed = err_from_is_err_and c.from_residual.result c.from_residual.ensures.1 in
    let fault = shown_fault c.args.fault.now in
    let first = begun_text c.args.front.now c.args.instance.now fault in
    rw failed.1 (as_line c.args.out.now c.begun.new.out c.args.front.now c.args.instance.now fault c.args.line (Err failed.0)
    (Appends-front c.args.out.now c.begun.new.out first (ended_text c.args.line) failed.0 c.in_err-begun.ensures))

pub returns : goal.returns
returns c =
    let fault = shown_fault c.args.fault.now in
    let first = begun_text c.args.front.now c.args.instance.now fault in
    as_line c.args.out.now c.ended.new.out c.args.front.now c.args.instance.now fault c.args.line c.ended.result
    (Appends-later c.args.out.now c.begun.new.out c.ended.new.out first (ended_text c.args.line) c.ended.result c.in_ok-begun.ensures c.ended.ensures)
