use Rattle.std.proofs.Common.{◌+◌, eqb, w8, sym, ◌∙◌, ap, arith}
use Rattle.std.proofs.lemmas.Simd.{bitmask_splat, length-chunk}
use lib.Lanes.{chunk}
use lib.Count.{count_trailing_zeros}
use Rattle.rv_text.proofs.LoadLemmas.{none-least, bit-least, bit-inside}
use Rattle.rv_text.proofs.bytes.next_of.Goals as goal

pub returns-then-found-eq0-clause-none : goal.returns-then-found-eq0-clause-none
returns-then-found-eq0-clause-none c =
    let v = chunk c.args.place 32 c.args.text.now in
    let mask = bitmask_splat w8 eqb v 32 c.args.byte (length-chunk c.args.place 32 c.args.text.now c.requires) (omega arith) in
    none-least (λ x. eqb x c.args.byte) c.args.text.now c.args.place 32 c.requires (sym mask ∙ c.if-found-eq0.true)

pub returns-clause-value : goal.returns-clause-value
returns-clause-value c =
    let v = chunk c.args.place 32 c.args.text.now in
    let mask = bitmask_splat w8 eqb v 32 c.args.byte (length-chunk c.args.place 32 c.args.text.now c.requires) (omega arith) in
    ap (λ m. c.args.place + count_trailing_zeros 64 m) mask
    ∙ bit-least (λ x. eqb x c.args.byte) c.args.text.now c.args.place 32 c.requires (omega arith) (omega (arith, mask, c.if-found-eq0.false))

pub returns-clause-some : goal.returns-clause-some
returns-clause-some c =
    let v = chunk c.args.place 32 c.args.text.now in
    let mask = bitmask_splat w8 eqb v 32 c.args.byte (length-chunk c.args.place 32 c.args.text.now c.requires) (omega arith) in
    let inside = bit-inside (λ x. eqb x c.args.byte) c.args.text.now c.args.place 32 c.requires (omega arith) (omega (arith, mask, c.if-found-eq0.false)) in
    omega (arith, inside, ap (count_trailing_zeros 64) mask)
