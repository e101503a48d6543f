-- One part more of the set, whose cover was made since its branch number is not over the set's.
use Rattle.std.proofs.Common.{◌≡◌, Bool, true, false, cond, sym, ap, ◌∙◌, arith}
use mathlib.Core.Path.{ap₂}
use Rattle.std.specs.Prelude.{Vec}
use Rattle.std.specs.declared.alloc.Global.{Global}
use Rattle.std.proofs.lemmas.List.{length-map}
use Rattle.rv_model.specs.Numbers.{has_bit}
use Rattle.rv_nnf.specs.Views.{part_value, part_values}
use Rattle.rv_tableau.specs.declared.pairs.Pair.{Pair}
use Rattle.rv_tableau.specs.Cover.{part_cover, cover_below}
use Rattle.rv_tableau.specs.Pairs.{unions}
use Rattle.rv_tableau.specs.inner.Covering.{pairs_at}
use Rattle.rv_tableau.proofs.CoverLists.{part-narrow}
use Rattle.rv_tableau.proofs.CoverSet.{cover_next}
use Rattle.rv_tableau.proofs.EmptyCovers.{empty_set_cover}
use Rattle.rv_tableau.proofs.covers.set_cover.Goals.{then-has_bit+in_ok-out, else-has_bit}
use Rattle.rv_tableau.proofs.covers.set_cover.Goals as goal

pub returns-then-most-eq0 : goal.returns-then-most-eq0
returns-then-most-eq0 c = c.new-out.ensures.items ∙ sym (empty_set_cover c.args.parts.now c.args.set c.branch_number-most.result c.requires.below c.branch_number-most.ensures c.if-most-eq0.true)

pub loop-k-preserved : goal.loop-k-preserved
loop-k-preserved c =
    let ps = part_values c.args.parts.now in
    let next = cover_next ps c.args.set c.loop-k.k in
    let both = unions (cover_below ps c.args.set c.loop-k.k) (part_cover ps c.loop-k.k) in
    elim c.if-has_bit.branch [
      | then-has_bit+in_ok-out w ↦
          (let yes' : has_bit c.args.set c.loop-k.k ≡ true = sym c.has_bit.ensures ∙ w.if-has_bit.true in
          let low = c.loop-k-test.true in
          let all = length-map c.args.parts.now part_value in
          let made = c.in_ok-covers.ensures.all in
          let narrow = part-narrow ps c.args.numbers.now c.branch_number-most.result c.requires.numbers c.args.set c.loop-k.k c.branch_number-most.ensures c.if-most-eq0.false (omega arith) yes' in
          let own : pairs_at c.in_ok-covers.covers.items c.loop-k.k ≡ part_cover ps c.loop-k.k = c.in_ok-covers.ensures.covers c.loop-k.k (omega arith) narrow in
          ap (λ (v : Vec Pair Global). v.items) w.out-is ∙ w.in_ok-out.ensures
          ∙ ap₂ unions (w.deref.ensures.value ∙ c.loop-k.invariant) (w.pairs_of.ensures ∙ ap (λ covers. pairs_at covers c.loop-k.k) w.deref-then-has_bit.ensures.value ∙ own)
          ∙ sym (next ∙ ap (λ (b : Bool). cond b both (cover_below ps c.args.set c.loop-k.k)) yes'))
      | else-has_bit w ↦
          (let no' : has_bit c.args.set c.loop-k.k ≡ false = sym c.has_bit.ensures ∙ w.if-has_bit.false in
          ap (λ (v : Vec Pair Global). v.items) w.out-is ∙ c.loop-k.invariant ∙ sym (next ∙ ap (λ (b : Bool). cond b both (cover_below ps c.args.set c.loop-k.k)) no'))
    ]
