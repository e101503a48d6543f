-- One entry more.
use Rattle.std.proofs.Common.{◌≡◌, ℕ, ◌+◌, ◌<◌, ◌∷◌, ◌++◌, List, [], length, take, get_or, sym, ap, ◌∙◌}
use Rattle.std.proofs.lemmas.List.{take_more}
use Rattle.std.proofs.lemmas.List.Elements.{All-get_or, All-more}
use Rattle.rv_model.specs.declared.entry.Entry.{Entry}
use Rattle.rv_journal.specs.EntryTexts.{IsNoEnd, IsEntry}
use Rattle.rv_journal.proofs.entries.closed_of.Goals as goal

-- the list grows with the place
grown : (xs closed closed' : List Entry) (i : ℕ) (d : Entry) → closed ≡ take i xs → closed' ≡ closed ++ get_or xs i d ∷ [] → i < length xs → closed' ≡ take (i + 1) xs
grown xs closed closed' i d is more low = more ∙ (ap (λ (z : List Entry). z ++ get_or xs i d ∷ []) is ∙ sym (take_more xs i d low))

pub assert_entry-requires : goal.assert_entry-requires
assert_entry-requires c = All-get_or (λ (e : Entry). IsNoEnd e.act) c.args.entries.now c.loop-entry.entry-index _ c.loop-entry-test.true c.requires

pub loop-entry-preserved : goal.loop-entry-preserved
loop-entry-preserved c = record {
  list = grown c.args.entries.now _ _ c.loop-entry.entry-index _ c.loop-entry.invariant.list c.push.ensures c.loop-entry-test.true;
  known = All-more IsEntry c.args.entries.now c.loop-entry.entry-index _ c.loop-entry-test.true c.loop-entry.invariant.known c.assert_entry.ensures;
}
