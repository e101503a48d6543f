use Rattle.rv_bind.proofs.FormLemmas.{text_kept, text_refused}
use Rattle.rv_bind.proofs.words.text.Goals as goal

pub returns-in-Ok : goal.returns-in-Ok
returns-in-Ok c = text_kept c.args.word.now c.in-Ok.text.now c.in-Ok.ensures.cases

pub returns-in-Err : goal.returns-in-Err
returns-in-Err c = text_refused c.args.word.now c.in-Err.ensures.cases.0
