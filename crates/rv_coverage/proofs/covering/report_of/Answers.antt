use Rattle.std.proofs.Common.{Bor}
use Rattle.rv_bind.specs.declared.bindings.Bound.{Bound}
use Rattle.rv_facts.specs.declared.counts.Counts.{Counts}
use Rattle.rv_facts.specs.declared.lines.BindingLines.{BindingLines}
use Rattle.rv_findings.specs.declared.coverage.Told.{Told}
use Rattle.rv_coverage.specs.inner.Words.{coverage_command_value}
use Rattle.rv_coverage.proofs.CoveredLemmas.{told-report}
use Rattle.rv_coverage.proofs.covering.report_of.Goals as goal

pub returns : goal.returns
returns c =
    let place = c.as_bytes.result.ref_ptr in
    let lines_told : Bor BindingLines = record { ref_ptr = place; now = c.args.lines } in
    let bound_told : Bor Bound = record { ref_ptr = place; now = c.args.bound } in
    let counts_told : Bor Counts = record { ref_ptr = place; now = c.args.counts } in
    let told : Told = record { bindings = c.as_bytes.result; trace = c.as_bytes-2.result; lines = lines_told; bound = bound_told; counts = counts_told } in
    told-report (coverage_command_value c.args.command) told c.coverage_text.result c.as_bytes.ensures.value c.as_bytes-2.ensures.value c.coverage_text.ensures.text c.coverage_text.ensures.status
