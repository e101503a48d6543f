use Rattle.rv_header.proofs.HeadersBack.{one_header}
use Rattle.rv_header.proofs.reading.headers_are_read_again.Goals as goal

pub returns : goal.returns
returns c = λ bytes g h p q. one_header bytes g h p q
