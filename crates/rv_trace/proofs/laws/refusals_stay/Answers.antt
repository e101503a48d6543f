use Rattle.rv_trace.proofs.FrontLemmas.{front-refused, read-refused}
use Rattle.rv_trace.proofs.laws.refusals_stay.Goals as goal

pub returns-clause-front : goal.returns-clause-front
returns-clause-front c fed more refusal is = front-refused fed more refusal is

pub returns-clause-read : goal.returns-clause-read
returns-clause-read c fed more refusal is = read-refused fed more refusal is
