use Rattle.rv_text.specs.Words.{words_of}
use Rattle.rv_bind.proofs.LineLaws.{read_names}
use Rattle.rv_bind.proofs.reader.form_in.Goals as goal

pub returns-clause-named : goal.returns-clause-named
returns-clause-named c = read_names c.read_form.result (words_of c.args.line.now.bytes.now) c.read_form.ensures
