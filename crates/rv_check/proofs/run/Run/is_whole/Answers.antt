-- Each script may end here, or one may not.
use Rattle.std.proofs.Common.{◌≡◌, ◌<◌, length, refl, sym, subst, arith, true, false}
use Rattle.rv_model.specs.Works.{Work}
use Rattle.rv_check.specs.declared.next.Next.{Next}
use Rattle.rv_check.specs.inner.Nexts.{MayEnd}
use Rattle.rv_check.specs.inner.Standing.{AllPlayed}
use Rattle.rv_check.proofs.RunLemmas.{not-whole, all-end}
use Rattle.rv_check.proofs.run.Run.is_whole.Goals as goal

pub returns-then-not-may_end : goal.returns-then-not-may_end
returns-then-not-may_end c =
    let i = c.self.inside in
    let w : Work = c.index-in-loop-place.result.now in
    let n : Next = c.index.result.now in
    let many : length i.works.items ≡ c.len-place-end.result = (let held = i.works.ok.0 in let is = c.len-place-end.ensures in omega arith) in
    let lt : c.loop-place.place < length i.works.items = (let below = c.loop-place-test.true in omega arith) in
    let goes : MayEnd w n → ⊥ = c.may_end.ensures.no c.if-not-may_end.true in
    (λ yes. absurd (let wrong : false ≡ true = yes in cc), λ all. absurd (not-whole c.self.invariant (record { inside = lt; work = c.index-in-loop-place.ensures; is_next = c.index.ensures }) goes (subst AllPlayed (sym c.self.view_is) all)))

pub returns : goal.returns
returns c =
    let i = c.self.inside in
    let many : length i.works.items ≡ c.len-place-end.result = (let held = i.works.ok.0 in let is = c.len-place-end.ensures in omega arith) in
    let all = all-end c.self.invariant (λ k lt. c.loop-place.invariant k (let past = c.loop-place-test.false in omega arith)) in
    (λ _. subst AllPlayed c.self.view_is all, λ _. refl)
