use Rattle.std.proofs.Common.{◌<◌, ◌++◌, map, nat_eq, min, length, sym, ap, ◌∙◌, arith}
use mathlib.Core.Path.{ap₂}
use Rattle.std.proofs.lemmas.List.{length-map}
use Rattle.rv_nnf.specs.Views.{part_value, part_values}
use Rattle.std.proofs.lemmas.Bool.{ltb-true, ltb-false}
use Rattle.rv_nnf.specs.Lists.{firsts}
use Rattle.rv_tableau.specs.declared.pairs.Pair.{Pair}
use Rattle.rv_tableau.specs.Cover.{cover_of}
use Rattle.rv_tableau.specs.Branches.{branch_number}
use Rattle.rv_tableau.specs.Nodes.{new_nodes}
use Rattle.rv_tableau.proofs.Turns.{begun, ended, at_end, at_wide, at_many, at_turn, read_is, first_set}
use Rattle.rv_tableau.proofs.nodes.nodes.Goals as goal

pub loop-i-init : goal.loop-i-init
loop-i-init c =
    let sets = first_set (length c.args.parts.now) c.bit.result c.push.new.self.items c.new-sets.result.items (part_values c.args.parts.now) (length-map c.args.parts.now part_value) c.bit.ensures c.new-sets.ensures.items c.in_ok-push.ensures.items in
    begun (part_values c.args.parts.now) c.push.new.self.items c.new-nodes.result.items sets c.new-nodes.ensures.items

pub returns-then-i-len : goal.returns-then-i-len
returns-then-i-len c =
    sym c.loop-i.invariant ∙ at_end (part_values c.args.parts.now) c.loop-i.i c.loop-i.sets.items c.loop-i.nodes.items c.loop-i-test.true (omega arith)

pub branch_number-requires-clause-few : goal.branch_number-requires-clause-few
branch_number-requires-clause-few c = rw (length-map c.args.parts.now part_value) at c.requires.normal.few

pub branch_number-requires-clause-numbers : goal.branch_number-requires-clause-numbers
branch_number-requires-clause-numbers c = c.requires.numbers

pub set_cover-requires-clause-few : goal.set_cover-requires-clause-few
set_cover-requires-clause-few c = rw (length-map c.args.parts.now part_value) at c.requires.normal.few

pub set_cover-requires-clause-below : goal.set_cover-requires-clause-below
set_cover-requires-clause-below c = c.requires.normal.below

pub set_cover-requires-clause-numbers : goal.set_cover-requires-clause-numbers
set_cover-requires-clause-numbers c = c.requires.numbers

pub returns-then-branch_number-gt-MOST_BRANCHES : goal.returns-then-branch_number-gt-MOST_BRANCHES
returns-then-branch_number-gt-MOST_BRANCHES c =
    let more : c.loop-i.i < length c.loop-i.sets.items = omega arith in
    let set = read_is c.loop-i.sets.items c.loop-i.i c.index-set.result.now c.index-set.ensures more in
    let b = c.branch_number.ensures ∙ ap (λ s. min (branch_number (part_values c.args.parts.now) s) 4097) set in
    sym c.loop-i.invariant ∙ at_wide (part_values c.args.parts.now) c.loop-i.i c.loop-i.sets.items c.loop-i.nodes.items c.loop-i-test.true more c.branch_number.result b (omega arith)

pub returns-then-are_too_many : goal.returns-then-are_too_many
returns-then-are_too_many c =
    let more : c.loop-i.i < length c.loop-i.sets.items = omega arith in
    let set = read_is c.loop-i.sets.items c.loop-i.i c.index-set.result.now c.index-set.ensures more in
    let b = c.branch_number.ensures ∙ ap (λ s. min (branch_number (part_values c.args.parts.now) s) 4097) set in
    let fresh = c.in_ok-new.ensures ∙ ap₂ new_nodes c.deref.ensures.value (c.deref-in-loop-i.ensures.value ∙ c.in_ok-cover.ensures ∙ ap (cover_of (part_values c.args.parts.now)) set) in
    sym c.loop-i.invariant ∙ at_many (part_values c.args.parts.now) c.loop-i.i c.loop-i.sets.items c.loop-i.nodes.items c.loop-i-test.true more c.branch_number.result b (omega arith) c.in_ok-new.new.items fresh (let h = ltb-true 31 _ (sym c.are_too_many.ensures ∙ c.if-are_too_many.true) in omega arith)

pub loop-i-preserved : goal.loop-i-preserved
loop-i-preserved c =
    let more : c.loop-i.i < length c.loop-i.sets.items = omega arith in
    let set = read_is c.loop-i.sets.items c.loop-i.i c.index-set.result.now c.index-set.ensures more in
    let b = c.branch_number.ensures ∙ ap (λ s. min (branch_number (part_values c.args.parts.now) s) 4097) set in
    let fresh = c.in_ok-new.ensures ∙ ap₂ new_nodes c.deref.ensures.value (c.deref-in-loop-i.ensures.value ∙ c.in_ok-cover.ensures ∙ ap (cover_of (part_values c.args.parts.now)) set) in
    sym (at_turn (part_values c.args.parts.now) c.loop-i.i c.loop-i.sets.items c.loop-i.nodes.items c.loop-i-test.true more c.branch_number.result b (omega arith) c.in_ok-new.new.items fresh (let h = ltb-false 31 _ (sym c.are_too_many.ensures ∙ c.if-are_too_many.false) in omega arith) c.add_sets.new.sets.items (c.in_ok-add_sets.ensures ∙ ap (λ xs. firsts nat_eq c.loop-i.sets.items (map (λ (p : Pair). p.next) xs)) c.deref-in-loop-i-2.ensures.value) c.add_all.new.out.items (c.in_ok-add_all.ensures ∙ ap (λ xs. c.loop-i.nodes.items ++ xs) c.deref-in-loop-i-3.ensures.value)) ∙ c.loop-i.invariant

pub returns : goal.returns
returns c = sym c.loop-i.invariant ∙ ended (part_values c.args.parts.now) c.loop-i.i c.loop-i.sets.items c.loop-i.nodes.items (omega arith)
