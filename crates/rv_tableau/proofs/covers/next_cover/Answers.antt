-- The cover of a part is made from those of its operands, which are not over the limit either.
use Rattle.std.proofs.Common.{◌≡◌, refl, sym, ap, ◌∙◌, arith}
use mathlib.Core.Path.{ap₂}
use Rattle.std.proofs.lemmas.List.{length-map}
use Rattle.std.proofs.lemmas.Result.{IfOk-weaker}
use Rattle.rv_nnf.specs.Parts.{part_value_at}
use Rattle.rv_nnf.specs.Views.{part_value, part_values}
use Rattle.rv_tableau.specs.Cover.{part_cover}
use Rattle.rv_tableau.specs.inner.Covering.{cover_from, operands_of}
use Rattle.rv_tableau.proofs.CoverLists.{operands-narrow}
use Rattle.rv_tableau.proofs.EmptyCovers.{empty_cover}
use Rattle.rv_tableau.proofs.PartAt.{part_value_is, operands_at, cover_at, both_below, from_both, from_none}
use Rattle.rv_tableau.proofs.covers.next_cover.Goals.{then-numbers-k-eq0-via-then-numbers-k-eq0, then-numbers-k-eq0-via-else-numbers-k-eq0+then-most-numbers}
use Rattle.rv_tableau.proofs.covers.next_cover.Goals as goal

pub returns-then-numbers-k-eq0 : goal.returns-then-numbers-k-eq0
returns-then-numbers-k-eq0 c = λ narrow.
    elim c.then-numbers-k-eq0.branch [
      | then-numbers-k-eq0-via-then-numbers-k-eq0 w ↦ c.new.ensures.items ∙ sym (empty_cover c.args.parts.now c.args.numbers.now c.args.k c.requires.numbers c.requires.below c.requires.place w.if-numbers-k-eq0.true)
      | then-numbers-k-eq0-via-else-numbers-k-eq0+then-most-numbers w ↦ (let over = w.if-most-numbers.true in absurd (omega arith))
    ]

pub pairs_of-left-requires : goal.pairs_of-left-requires
pairs_of-left-requires c =
    let own = operands_at c.args.parts.now c.args.k c.index-parts-k.result c.index-parts-k.result c.index-parts-k.is refl c.requires.place c.requires.below in
    let both = both_below c.args.k (part_value c.index-parts-k.result) c.in-Some.i c.in-Some.j (sym c.operands.ensures ∙ c.in-Some.is) own in
    let lt = both.0 in
    let n = c.requires.count in
    omega arith

pub pairs_of-right-requires : goal.pairs_of-right-requires
pairs_of-right-requires c =
    let own = operands_at c.args.parts.now c.args.k c.index-parts-k.result c.index-parts-k.result c.index-parts-k.is refl c.requires.place c.requires.below in
    let both = both_below c.args.k (part_value c.index-parts-k.result) c.in-Some.i c.in-Some.j (sym c.operands.ensures ∙ c.in-Some.is) own in
    let lt = both.1 in
    let n = c.requires.count in
    omega arith

pub cover_alone-requires-clause-operands : goal.cover_alone-requires-clause-operands
cover_alone-requires-clause-operands c = operands_at c.args.parts.now c.args.k c.index-parts-k.result c.index-parts-k.result c.index-parts-k.is refl c.requires.place c.requires.below

pub returns-in-Some : goal.returns-in-Some
returns-in-Some c =
    let part = part_value c.index-parts-k.result in
    let is = cover_at c.args.parts.now c.args.k c.index-parts-k.result c.index-parts-k.result c.index-parts-k.is refl c.requires.place c.requires.below
    ∙ from_both (part_cover (part_values c.args.parts.now)) c.args.k part c.in-Some.i c.in-Some.j (sym c.operands.ensures ∙ c.in-Some.is) in
    let own = operands_at c.args.parts.now c.args.k c.index-parts-k.result c.index-parts-k.result c.index-parts-k.is refl c.requires.place c.requires.below in
    let both = both_below c.args.k part c.in-Some.i c.in-Some.j (sym c.operands.ensures ∙ c.in-Some.is) own in
    let low = both.0 in
    let high = both.1 in
    let n = c.requires.count in
    let place = c.requires.place in
    let all = length-map c.args.parts.now part_value in
    let at : part_value_at (part_values c.args.parts.now) c.args.k ≡ part = part_value_is c.args.parts.now c.args.k c.index-parts-k.result c.index-parts-k.result c.index-parts-k.is refl c.requires.place in
    let narrow = operands-narrow (part_values c.args.parts.now) c.args.numbers.now c.args.most c.requires.numbers c.requires.below c.args.k c.in-Some.i c.in-Some.j (omega arith) (omega arith) (omega arith)
    (ap operands_of at ∙ (sym c.operands.ensures ∙ c.in-Some.is)) c.if-numbers-k-eq0.false (let le = c.if-most-numbers.false in omega arith) in
    IfOk-weaker c.cover_from.result _ _
    (λ v made. λ le. made ∙ ap₂ (cover_from c.args.k part) (c.pairs_of-left.ensures ∙ c.requires.covers c.in-Some.i (omega arith) narrow.0) (c.pairs_of-right.ensures ∙ c.requires.covers c.in-Some.j (omega arith) narrow.1) ∙ sym is) c.cover_from.ensures

pub returns-in-None : goal.returns-in-None
returns-in-None c =
    let is = cover_at c.args.parts.now c.args.k c.index-parts-k.result c.index-parts-k.result c.index-parts-k.is refl c.requires.place c.requires.below
    ∙ from_none (part_cover (part_values c.args.parts.now)) c.args.k (part_value c.index-parts-k.result) (sym c.operands.ensures ∙ c.in-None.is) in
    IfOk-weaker c.cover_alone.result _ _ (λ v made. λ le. made ∙ sym is) c.cover_alone.ensures
