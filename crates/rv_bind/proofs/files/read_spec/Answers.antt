use Rattle.std.proofs.Common.{◌≡◌, List, ℕ, Ok, Err, ap, ◌∙◌, subst}
use Rattle.rv_text.specs.Readings.{Refuses}
use Rattle.rv_bind.specs.Bound.{compiled_in}
use Rattle.rv_bind.specs.Compiling.{compiled_of}
use Rattle.rv_bind.specs.declared.compile.Compiled.{Compiled}
use Rattle.rv_bind.specs.Outcomes.{of_file}
use Rattle.rv_bind.proofs.FrontLemmas.{spec_front}
use Rattle.rv_bind.proofs.NumberLemmas.{spec_comes}
use Rattle.rv_bind.proofs.OutcomeLemmas.{none_counted}
use Rattle.rv_bind.proofs.PossibleLemmas.{spec_may}
use Rattle.rv_bind.proofs.ReachedLemmas.{file_named}
use Rattle.rv_bind.proofs.files.read_spec.Goals as goal

pub returns-clause-reads : goal.returns-clause-reads
returns-clause-reads g c =
    let told = g.S.Store.files c.args.store.now in
    let fault = c.in-Err.fault in
    let refuses = subst (λ (text : List ℕ). Refuses fault (compiled_of c.args.kind text)) c.as_slice.ensures.value c.in-Err.ensures.gives in
    record {
      kept = c.in_ok-text.ensures.reads.kept;
      counts = none_counted {X = Compiled} _ _ (Err c.refused.result) c.in_ok-text.ensures.reads.counts;
      value = spec_comes told _ _ c.args.kind c.args.file.now c.in_ok-text.text.items fault _ c.refused.ensures refuses c.in_ok-text.ensures.reads.value;
      named = file_named told Compiled c.args.file.now fault c.refused.result (λ files. compiled_in files c.args.kind c.args.file.now) c.refused.ensures;
    }

pub returns-in-Ok-clause-reads : goal.returns-in-Ok-clause-reads
returns-in-Ok-clause-reads g c =
    let file = c.args.file.now in
    let gives = subst (λ (text : List ℕ). compiled_of c.args.kind text ≡ Ok c.in-Ok.compiled) c.as_slice.ensures.value c.in-Ok.ensures.gives in
    let reads = c.in_ok-text.ensures.reads in
    record {
      kept = reads.kept;
      counts = reads.counts;
      value = λ files known. spec_front files c.args.kind file c.in_ok-text.text.items (reads.value files known) ∙ ap (of_file file) gives;
      named = tt;
    }

pub returns-in-Ok-clause-some : goal.returns-in-Ok-clause-some
returns-in-Ok-clause-some g c =
    let gives = subst (λ (text : List ℕ). compiled_of c.args.kind text ≡ Ok c.in-Ok.compiled) c.as_slice.ensures.value c.in-Ok.ensures.gives in
    spec_may c.args.kind c.args.file.now c.in_ok-text.text.items c.in-Ok.compiled gives
