use Rattle.std.proofs.Common.{◌≡◌, ◌∷◌, List, ap, ◌∙◌, subst, rules}
use Rattle.std.specs.Prelude.{Some}
use Rattle.std.proofs.lemmas.Result.{err_from_is_err_and}
use Rattle.rv_text.specs.TextLines.{LineText, line_text, lines_of}
use Rattle.rv_io.specs.Files.{Files}
use Rattle.rv_bind.specs.Outcomes.{Outcome, accepted, reading}
use Rattle.rv_bind.specs.Values.{BoundValue}
use Rattle.rv_bind.specs.Bound.{line_bound, lines_bound}
use Rattle.rv_bind.specs.BoundViews.{bound_value}
use Rattle.rv_bind.proofs.PossibleLemmas.{MayRest, next_may, all_may, rest_fails}
use Rattle.rv_bind.proofs.ReachedLemmas.{Leads, lines_lead}
use Rattle.rv_bind.proofs.reader.bind_lines.Goals as goal

pub loop-line-preserved : goal.loop-line-preserved
loop-line-preserved g c =
    let told = g.S.Store.files c.args.store.now in
    let here = c.args.here.now in
    let all = lines_of c.args.text.now in
    let before = bound_value c.loop-line.bound in
    let line = line_text c.in-Some.line in
    let later = c.next_line.new.self in
    let split : c.loop-line.lines ≡ line ∷ later = c.in-Some.ensures.some in
    let read : (files : Files) → told ≡ Some files → line_bound files here before line ≡ accepted (bound_value c.bind_line.new.bound) = λ files known. c.in_ok-bind_line.ensures.reads.value files (c.loop-line.invariant.0 ∙ known) in (
      c.bind_line.ensures.reads.kept ∙ c.loop-line.invariant.0,
      c.in_ok-bind_line.ensures.reads.counts ∙ c.loop-line.invariant.1,
      c.in_ok-bind_line.ensures.formed,
      λ files known.
          c.loop-line.invariant.3 files known
          ∙ ap (lines_bound files here before) split
          ∙ ap (λ (o : Outcome BoundValue). reading o (λ next. lines_bound files here next later)) (read files known),
      next_may here all before line later (subst (λ (lines : List LineText). MayRest here all before lines) split c.loop-line.invariant.4) (bound_value c.bind_line.new.bound) c.in_ok-bind_line.ensures.some,
      lines_lead told here all before line later (subst (λ (lines : List LineText). Leads told here all before lines) split c.loop-line.invariant.5) (bound_value c.bind_line.new.bound) read,
    )

pub returns-in_err-bind_line-clause-some : goal.returns-in_err-bind_line-clause-some
returns-in_err-bind_line-clause-some g c =
    let given = err_from_is_err_and c.from_residual.result c.from_residual.ensures.1 in
    let here = c.args.here.now in
    let all = lines_of c.args.text.now in
    let before = bound_value c.loop-line.bound in
    let line = line_text c.in-Some.line in
    let later = c.next_line.new.self in
    let may = subst (λ (lines : List LineText). MayRest here all before lines) c.in-Some.ensures.some c.loop-line.invariant.4 in
    rw (given.1, given.2) (rest_fails here all before line later may c.in_err-bind_line.field-0.0 c.in_err-bind_line.ensures.some)

pub returns-clause-some : goal.returns-clause-some
returns-clause-some g c = all_may c.args.here.now (lines_of c.args.text.now) (bound_value c.loop-line.bound) c.loop-line.lines (search rules) c.loop-line.invariant.4
