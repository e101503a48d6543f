use Rattle.std.proofs.Common.{ℕ, List, true, sym, ap, ◌∙◌, arith}
use Rattle.rv_ltl.specs.inner.Collected.{stands, count_below}
use Rattle.rv_ltl.proofs.Inserting.{put_there, put_new, length-inserted_new}
use Rattle.rv_ltl.proofs.atoms.put.Goals as goal

pub returns-then-stands : goal.returns-then-stands
returns-then-stands c =
    put_there c.args.x c.args.out.now.items true (c.if-stands.ensures ∙ ap (λ (m : List ℕ). stands c.args.x m) c.deref.ensures.value) c.requires

pub returns-then-len-eq32 : goal.returns-then-len-eq32
returns-then-len-eq32 c =
    let l = length-inserted_new c.args.x c.args.out.now.items (sym (c.if-stands.ensures ∙ ap (λ (m : List ℕ). stands c.args.x m) c.deref.ensures.value)) in
    omega (arith, l, c.len.ensures, c.if-len-eq32.true, c.args.out.now.ok.0)

pub returns : goal.returns
returns c =
    put_new c.args.x c.count_below-place.result c.args.out.now.items c.insert.new.self.items (c.if-stands.ensures ∙ ap (λ (m : List ℕ). stands c.args.x m) c.deref.ensures.value)
    (c.count_below-place.ensures.is ∙ ap (λ (m : List ℕ). count_below c.args.x m) c.deref-2.ensures.value) c.in_ok-insert.ensures.items c.requires (λ e. c.if-len-eq32.false (c.len.ensures ∙ c.args.out.now.ok.0 ∙ e))
