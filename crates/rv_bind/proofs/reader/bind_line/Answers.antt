use Rattle.std.proofs.Common.{refl}
use Rattle.std.specs.Prelude.{Err}
use Rattle.rv_text.specs.TextLines.{line_text}
use Rattle.rv_bind.specs.Bound.{form_bound, form_in, line_bound}
use Rattle.rv_bind.specs.BoundViews.{bound_value}
use Rattle.rv_bind.proofs.NumberLemmas.{form_in_numbered}
use Rattle.rv_bind.proofs.OutcomeLemmas.{line_fault, none_counted}
use Rattle.rv_bind.proofs.ReachedLemmas.{line_named}
use Rattle.rv_bind.proofs.reader.bind_line.Goals as goal

pub returns-in-Err-clause-reads : goal.returns-in-Err-clause-reads
returns-in-Err-clause-reads g c =
    let line = line_text c.args.line.now in
    let here = c.args.here.now in
    let before = bound_value c.args.bound.now in
    record {
      kept = refl;
      counts = none_counted _ _ c.in_line.result refl;
      value = line_fault here line.number _ _ _ _ c.in_line.result (form_in line) (λ files. form_bound files here line.number before) c.in-Err.fault (form_in_numbered line) c.in_line.ensures c.in-Err.ensures.reads;
      named = line_named (g.S.Store.files c.args.store.now) here line.number (Err c.in-Err.fault) c.in_line.result (λ files. line_bound files here before line) c.in_line.ensures;
    }
