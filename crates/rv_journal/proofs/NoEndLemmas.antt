-- What fits a setup delivers no end.
use Rattle.std.proofs.Common.{List, [], ◌∷◌, refl, ap}
use Rattle.std.specs.Prelude.{All}
use Rattle.std.proofs.lemmas.List.Elements.{All-nil, All-cons}
use Rattle.rv_model.specs.declared.entry.Act.{Act}
use Rattle.rv_model.specs.declared.entry.Act.TheVariants.{Deliver, Stop, Look, Raise, Lower, Clear, End}
use Rattle.rv_model.specs.declared.entry.Entry.{Entry}
use Rattle.rv_model.specs.declared.hit.Mode.{Mode}
use Rattle.rv_model.specs.declared.hit.What.{What}
use Rattle.rv_model.specs.declared.hit.What.TheVariants.{Da, Ltl, Nothing}
use Rattle.rv_model.specs.Cuts.{AtEach}
use Rattle.rv_model.specs.Setups.{Setup}
use Rattle.rv_model.specs.Table.{Table, of_events, of_labels}
use Rattle.rv_core.specs.Advance.{FitsKind}
use Rattle.rv_core.specs.Setup.{FitsAct, table_at}
use Rattle.rv_journal.specs.EntryTexts.{RunsLetter, IsNoEnd}

-- what fits a table is run
runs : (t : Table) (m : Mode) (what : What) → FitsKind t m what → RunsLetter what
runs t m (Da event) fits = tt
runs t m (Ltl on off pulse) fits = tt
runs (of_events n rows) m Nothing fits = absurd fits
runs (of_labels nodes) m Nothing fits = absurd fits

-- an act that fits delivers no end
act-no_end : (s : Setup) (act : Act) → FitsAct s act → IsNoEnd act
act-no_end s (Deliver slot hit) fits = (fits.1.0, runs (table_at s slot) hit.mode hit.what fits.1.1)
act-no_end s (Stop slot) fits = tt
act-no_end s Look fits = tt
act-no_end s (Raise bits) fits = tt
act-no_end s (Lower bits) fits = tt
act-no_end s (Clear slot) fits = tt
act-no_end s (End slot) fits = tt

-- so do all entries of a history that fits
pub no-ends : (s : Setup) (h : List Entry) → AtEach (λ before e. FitsAct s e.act) h → All (λ e. IsNoEnd e.act) h
no-ends s [] all = All-nil (λ (e : Entry). IsNoEnd e.act)
no-ends s (e ∷ h) all = All-cons (λ (x : Entry). IsNoEnd x.act) e h (act-no_end s e.act (all [] e h refl)) (no-ends s h (λ before x after eq. all (e ∷ before) x after (ap (λ (z : List Entry). e ∷ z) eq)))
