use Rattle.std.proofs.Common.{List, ℕ, subst}
use Rattle.std.specs.Prelude.{Vec}
use Rattle.std.specs.declared.alloc.Global.{Global}
use Rattle.rv_bind.specs.Outcomes.{of_file}
use Rattle.rv_stream.specs.inner.Faults.{IsOutcome}
use Rattle.rv_tool.specs.HeaderFiles.{header_of_text}
use Rattle.rv_tool.proofs.FrontReads.{header_reads}
use Rattle.rv_tool.proofs.header.read_header.Goals as goal

pub returns-clause-reads : goal.returns-clause-reads
returns-clause-reads g c =
    let items = λ (text : Vec ℕ Global). text.items in
    let file = c.args.file.now in
    let tells = subst (λ (text : List ℕ). IsOutcome items c.named_header.result (of_file file (header_of_text c.args.name.now text))) c.as_slice.ensures.value c.named_header.ensures in
    header_reads _ _ _ _ file c.in_ok-bytes.bytes c.in_ok-bytes.ensures.reads items c.args.name.now c.named_header.result tells
