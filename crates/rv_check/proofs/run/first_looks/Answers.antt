-- As many looks as places.
use Rattle.std.proofs.Common.{◌≡◌, [], ◌∷◌, ◌++◌, List, ℕ, length, arith, ap, ◌∙◌, rules}
use Rattle.std.specs.Prelude.{replicate}
use Rattle.std.proofs.lemmas.List.{replicate_more}
use Rattle.rv_check.specs.declared.next.Next.{Next}
use Rattle.rv_check.specs.declared.next.Next.TheVariants.{Look}
use Rattle.rv_check.proofs.run.first_looks.Goals as goal

pub loop-place-preserved : goal.loop-place-preserved
loop-place-preserved c =
    let more : c.push.new.self.items ≡ c.loop-place.nexts.items ++ Look 0 ∷ [] = search rules in
    more ∙ ap (λ (z : List Next). z ++ Look 0 ∷ []) c.loop-place.invariant ∙ replicate_more c.loop-place._place (Look 0)

pub returns : goal.returns
returns c =
    let all : c.loop-place._place ≡ length c.args.works.now = (let a = c.loop-place.auto._place-end in let b = c.loop-place-test.false in omega arith) in
    c.loop-place.invariant ∙ ap (λ (n : ℕ). replicate n (Look 0)) all
