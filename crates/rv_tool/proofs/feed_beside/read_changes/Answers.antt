use Rattle.std.proofs.Common.{List, ℕ, subst}
use Rattle.std.specs.Prelude.{Vec}
use Rattle.std.specs.declared.alloc.Global.{Global}
use Rattle.rv_control.specs.Opening.{opening_tree}
use Rattle.rv_model.specs.declared.work.Change.{Change}
use Rattle.rv_stream.specs.inner.Faults.{IsOutcome}
use Rattle.rv_tool.specs.Changes.{changes_text}
use Rattle.rv_tool.proofs.FrontReads.{changes_reads}
use Rattle.rv_tool.proofs.feed_beside.read_changes.Goals as goal

pub returns-clause-reads : goal.returns-clause-reads
returns-clause-reads g c =
    let items = λ (changes : Vec Change Global). changes.items in
    let file = c.args.script.now in
    let tree = opening_tree c.args.bindings.now in
    let tells = subst (λ (text : List ℕ). IsOutcome items c.changes_in_text.result (changes_text file tree text)) c.as_slice.ensures.value c.changes_in_text.ensures.value in
    changes_reads _ _ _ _ file c.in_ok-text.text c.in_ok-text.ensures.reads items tree c.changes_in_text.result tells
