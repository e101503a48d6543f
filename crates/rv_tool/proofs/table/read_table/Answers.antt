use Rattle.std.proofs.Common.{List, ℕ, subst}
use Rattle.std.specs.Prelude.{Vec}
use Rattle.std.specs.declared.alloc.Global.{Global}
use Rattle.rv_bind.specs.Outcomes.{of_file}
use Rattle.rv_stream.specs.inner.Faults.{IsOutcome}
use Rattle.rv_tool.specs.Tables.{table_text}
use Rattle.rv_tool.proofs.FrontReads.{table_reads}
use Rattle.rv_tool.proofs.table.read_table.Goals as goal

pub returns-clause-reads : goal.returns-clause-reads
returns-clause-reads g c =
    let items = λ (text : Vec ℕ Global). text.items in
    let file = c.args.name.now in
    let tells = subst (λ (text : List ℕ). IsOutcome items c.named_text.result (of_file file (table_text c.args.kind text))) c.as_slice.ensures.value c.named_text.ensures in
    table_reads _ _ _ _ file c.in_ok-bytes.bytes c.in_ok-bytes.ensures.reads items c.args.kind c.named_text.result tells
