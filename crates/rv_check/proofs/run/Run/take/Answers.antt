-- One entry more, where it goes on with what has begun.
use Rattle.std.proofs.Common.{◌≡◌, ℕ, ◌+◌, ◌<◌, ◌^◌, List, [], ◌∷◌, ◌++◌, length, get_or, set, sym, ap, subst, ◌∙◌, arith, length-set, get_or-set_same, get_or-set_other}
use Rattle.std.proofs.lemmas.List.{get_or_default}
use Rattle.rv_model.specs.declared.entry.Answer.{Answer}
use Rattle.rv_model.specs.declared.entry.Entry.{Entry}
use Rattle.rv_model.specs.Numbers.{has_bit}
use Rattle.rv_core.specs.Setup.{FitsAct, word_index}
use Rattle.rv_check.specs.declared.next.Next.{Next}
use Rattle.rv_check.specs.declared.next.Next.TheVariants as next
use Rattle.rv_check.specs.inner.Nexts.{Allows, Moves}
use Rattle.rv_check.specs.Run.{RunValue, BeginsRun}
use Rattle.rv_check.specs.inner.Standing.{IsRun}
use Rattle.rv_check.proofs.RunLemmas.{IsAt, found-work, stand-at, fits-at}
use Rattle.rv_check.proofs.AllowedLemmas.{allowed-fits, has-place, can-move}
use Rattle.rv_check.proofs.BegunLemmas.{begun-allowed, begun-before, begun-after, place-in}
use Rattle.rv_check.proofs.TakenLemmas.{run-takes}
use Rattle.rv_check.proofs.run.Run.take.Goals.{After-index, After-word_index-at, After-index-2}
use Rattle.rv_check.proofs.run.Run.take.Goals as goal

-- the work that was found is the seat's
found : (c : After-index) → (c.in-Some.place < length c.self.inside.works.items) × (2 + c.index-work.result.now.cpu ≡ c.args.entry.now.seat)
found c =
    found-work c.self.inside.works.items c.args.entry.now.seat c.as_slice.result.now c.in-Some.place c.index-work.result.now
    c.as_slice.ensures.value c.in-Some.ensures.some c.in-Some.ensures.seat c.index-work.ensures

-- it stands here, and this is next for it
at : (c : After-index) → IsAt c.self.inside.works.items c.self.inside.nexts.items c.in-Some.place c.index-work.result.now c.index.result.now
at c = record { inside = (found c).0; work = c.index-work.ensures; is_next = c.index.ensures }

-- an act that is allowed fits the machine
fits : (c : After-word_index-at) → IsAt c.self.inside.works.items c.self.inside.nexts.items c.in-Some.place c.index-work.result.now c.index.result.now → FitsAct c.self.inside.setup c.args.entry.now.act
fits c here = allowed-fits c.self.inside.setup c.index-work.result.now c.index.result.now (stand-at c.self.invariant here).is_next c.args.entry.now.act (c.allows.ensures.yes c.if-not-allows.false)

-- and its word is one of the machine's
within : (c : After-word_index-at) → FitsAct c.self.inside.setup c.args.entry.now.act → word_index c.args.entry.now.act < length c.self.inside.words.items
within c f = place-in c.self.inside.setup c.self.inside.words.items c.args.entry.now.act c.self.invariant.core.count f

-- the word that was read
read : (c : After-index-2) → c.index-2.result.now ≡ get_or c.self.inside.words.items (word_index c.args.entry.now.act) c.index-2.result.now
read c = c.index-2.ensures ∙ ap (λ (j : ℕ). get_or c.self.inside.words.items j c.index-2.result.now) c.word_index-at.ensures

pub allows-requires : goal.allows-requires
allows-requires c =
    has-place c.self.inside.setup c.index-work.result.now c.index.result.now (stand-at c.self.invariant (at (goal.at.allows-requires c).After-index)).is_next

pub returns-then-not-allows-clause-no : goal.returns-then-not-allows-clause-no
returns-then-not-allows-clause-no c = λ _ b.
    let here = (goal.at.returns-then-not-allows-clause-no c).After-index in
    let begun = subst (λ (v : RunValue). BeginsRun v (v.history ++ c.args.entry.now ∷ [])) (sym c.self.view_is) b in
    c.allows.ensures.no c.if-not-allows.true (begun-allowed c.self.invariant c.args.entry.now (at here) (found here).1 begun)

pub index-requires-2 : goal.index-requires-2
index-requires-2 c =
    let on = goal.at.index-requires-2 c in
    let lt = within on.After-word_index-at (fits on.After-word_index-at (at on.After-index)) in
    omega (arith, lt, c.word_index-at.ensures, c.self.inside.words.ok.0)

pub index_mut-requires : goal.index_mut-requires
index_mut-requires c =
    let on = goal.at.index_mut-requires c in
    let lt = within on.After-word_index-at (fits on.After-word_index-at (at on.After-index)) in
    omega (arith, lt, c.word_index-at.ensures, c.self.inside.words.ok.0)

pub act_on-step-requires : goal.act_on-step-requires
act_on-step-requires c = let on = goal.at.act_on-step-requires c in fits on.After-word_index-at (at on.After-index)

pub returns-then-entry-index-clause-no : goal.returns-then-entry-index-clause-no
returns-then-entry-index-clause-no c = λ _ b.
    let on = goal.at.returns-then-entry-index-clause-no c in
    let e : Entry = c.args.entry.now in
    let f = fits on.After-word_index-at (at on.After-index) in
    let begun = subst (λ (v : RunValue). BeginsRun v (v.history ++ e ∷ [])) (sym c.self.view_is) b in
    let is : c.index-2.result.now ≡ get_or c.self.inside.words.items (word_index e.act) 0 = read on.After-index-2 ∙ get_or_default c.self.inside.words.items (word_index e.act) c.index-2.result.now 0 (within on.After-word_index-at f) in
    c.if-entry-index.true (begun-before c.self.invariant e (at on.After-index) (found on.After-index).1 begun f ∙ sym is)

pub returns-then-entry-step-clause-no : goal.returns-then-entry-step-clause-no
returns-then-entry-step-clause-no c = λ _ b.
    let on = goal.at.returns-then-entry-step-clause-no c in
    let e : Entry = c.args.entry.now in
    let begun = subst (λ (v : RunValue). BeginsRun v (v.history ++ e ∷ [])) (sym c.self.view_is) b in
    let is : e.before ≡ get_or c.self.inside.words.items (word_index e.act) e.before = c.if-entry-index.false ∙ read on.After-index-2 ∙ ap (get_or c.self.inside.words.items (word_index e.act)) (sym c.if-entry-index.false) in
    let told = c.act_on-step.ensures in
    c.if-entry-step.true (begun-after c.self.invariant e (at on.After-index) (found on.After-index).1 begun c.act_on-step.result.word (fits on.After-word_index-at (at on.After-index)) told.fits is told.word told.range)

pub after-then-requires-clause-next : goal.after-then-requires-clause-next
after-then-requires-clause-next c = (stand-at c.self.invariant (at (goal.at.after-then-requires-clause-next c).After-index)).is_next

pub after-then-requires-clause-fit : goal.after-then-requires-clause-fit
after-then-requires-clause-fit c = (fits-at c.self.invariant (at (goal.at.after-then-requires-clause-fit c).After-index)).fit

pub after-then-requires-clause-turn : goal.after-then-requires-clause-turn
after-then-requires-clause-turn c = can-move c.index-work.result.now c.index.result.now c.args.entry.now.act (c.allows.ensures.yes c.if-not-allows.false)

pub invariant_of-self : goal.invariant_of-self
invariant_of-self c =
    let on = goal.at.invariant_of-self c in
    let i = c.self.inside in
    let e : Entry = c.args.entry.now in
    let k = c.in-Some.place in
    let allowed : Allows c.index-work.result.now c.index.result.now e.act = c.allows.ensures.yes c.if-not-allows.false in
    let told = c.act_on-step.ensures in
    let is : e.before ≡ get_or i.words.items (word_index e.act) e.before = c.if-entry-index.false ∙ read on.After-index-2 ∙ ap (get_or i.words.items (word_index e.act)) (sym c.if-entry-index.false) in
    let word : e.after ≡ c.act_on-step.result.word = c.if-entry-step.false in
    let range : e.after < 2 ^ 64 = subst (λ (x : ℕ). x < 2 ^ 64) (sym word) told.range in
    let m : Next = c.after-then.result in
    let moves = subst (λ (a : Answer). Moves i.setup (has_bit i.panics) c.index-work.result.now c.index.result.now e.after a m) told.answer (subst (λ (x : ℕ). Moves i.setup (has_bit i.panics) c.index-work.result.now c.index.result.now x c.act_on-step.result.answer m) (sym word) c.after-then.ensures) in
    let watched : List Next = c.watch_all.new.nexts.items in
    let long : length watched ≡ length i.nexts.items = c.watch_all.ensures.count in
    let many : length i.nexts.items ≡ length i.works.items = c.self.invariant.count in
    let in_list : k < length watched = (let lt = (found on.After-index).0 in omega arith) in
    let takes = run-takes c.self.invariant e (at on.After-index) (found on.After-index).1 allowed told.fits is range (word ∙ told.word) m moves (set watched k m) (length-set watched k m ∙ long ∙ many) (get_or-set_same watched k m next.Over in_list)
    (λ j lt ne. get_or-set_other watched k j m next.Over ne ∙ c.watch_all.ensures.watched j next.Over (omega arith)) in
    subst (λ (h : List Entry). IsRun i.setup i.panics i.works.items (set i.words.items c.word_index-at.result e.after) (set watched k m) h) (sym c.push.ensures)
    (subst (λ (j : ℕ). IsRun i.setup i.panics i.works.items (set i.words.items j e.after) (set watched k m) (i.history ++ e ∷ [])) (sym c.word_index-at.ensures) takes)
