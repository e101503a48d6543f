use Rattle.rv_table.proofs.SetLemmas.{without_bit, fewer_bits}
use Rattle.rv_table.proofs.bits.without_member.Goals as goal

pub returns : goal.returns
returns c = record {
  others = λ other h. without_bit c.args.set c.args.member other c.requires.few h;
  fewer = fewer_bits c.args.set c.args.member c.requires.few c.requires.member;
}
