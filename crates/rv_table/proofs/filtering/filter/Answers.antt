-- The label is true, or no row of the set has it.
use Rattle.std.proofs.Common.{◌≡◌, ◌&&◌, ◌||◌, not, Bool, true, false, refl, ap, ◌∙◌}
use Rattle.rv_model.specs.Numbers.{has_bit}
use Rattle.rv_model.specs.Meaning.{true_on}
use Rattle.rv_table.proofs.SharedLemmas.{apart}
use Rattle.rv_table.proofs.filtering.filter.Goals.{else-rows-label-ne0-via-then-rows-label-ne0+else-not-holds, else-rows-label-ne0-via-else-rows-label-ne0}
use Rattle.rv_table.proofs.filtering.filter.Goals as goal

-- a true label lets in
lets_in : (here has : Bool) → here ≡ (here && (not has || true))
lets_in true true = refl
lets_in true false = refl
lets_in false has = refl

pub returns-else-rows-label-ne0 : goal.returns-else-rows-label-ne0
returns-else-rows-label-ne0 c = elim c.else-rows-label-ne0.branch [
  | else-rows-label-ne0-via-then-rows-label-ne0+else-not-holds w ↦ λ q lt. lets_in (has_bit c.args.rows q) (has_bit c.args.label.now.rows q) ∙ ap (λ b. has_bit c.args.rows q && (not (has_bit c.args.label.now.rows q) || b)) w.if-not-holds.ensures
  | else-rows-label-ne0-via-else-rows-label-ne0 w ↦ λ q lt. apart c.args.rows c.args.label.now.rows q (true_on c.args.letter c.args.label.now.masks) w.if-rows-label-ne0.false
]
