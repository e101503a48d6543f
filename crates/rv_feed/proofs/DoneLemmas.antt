-- What a seat did on the machine of one thread, one act after another.
use Rattle.std.proofs.Common.{◌≡◌, ℕ, List, [], ◌∷◌, ◌++◌, reverse, inl, refl, sym, ap, ◌∙◌, subst}
use Rattle.std.proofs.lemmas.List.{reverse-append}
use Rattle.rv_model.specs.declared.entry.Act.{Act}
use Rattle.rv_model.specs.declared.entry.Answer.{Answer}
use Rattle.rv_model.specs.declared.entry.Entry.{Entry}
use Rattle.rv_model.specs.declared.record.Delivered.TheVariants.{Done}
use Rattle.rv_model.specs.declared.work.Delivery.{Delivery}
use Rattle.rv_model.specs.Histories.{IsNoStop, IsPermittedTo}
use Rattle.rv_model.specs.Records.{outcome_of}
use Rattle.rv_model.specs.Setups.{Setup, slot_of}
use Rattle.rv_model.specs.SharedWords.{answer_at}
use Rattle.rv_model.specs.Scripts.{played, hit_act}
use Rattle.rv_model.proofs.ScriptLemmas.{played-own}
use Rattle.rv_core.specs.Core.{CoreValue, Steps}
use Rattle.rv_core.specs.Setup.{judges_of}
use Rattle.rv_feed.specs.Players.{Serves}
use Rattle.rv_feed.specs.Turns.{Did}
use Rattle.rv_feed.proofs.ActLemmas.{hit-free, hit-held, hit-done}

-- one step of the machine
pub did-step : (seat : ℕ) (old new : CoreValue) (act : Act) (result : Answer) → (t : Steps old new seat act result) → IsNoStop act → IsPermittedTo act seat → Did seat old new ((t.entry, result) ∷ [])
did-step seat old new act result t free held =
    let s : Setup = old.setup in
    let past : List Entry = reverse old.history in
    let answer : answer_at s (judges_of s) past t.entry t.entry.act ≡ result = ap (answer_at s (judges_of s) past t.entry) t.act_is ∙ sym t.answer in
    record {
      grows = t.grows;
      played_is = ap (played s (judges_of s) seat) (reverse-append old.history (t.entry ∷ [])) ∙ played-own s (judges_of s) seat t.entry past t.seat_is
          ∙ ap (λ (a : Answer). played s (judges_of s) seat past ++ (t.entry, a) ∷ []) answer;
      by = ((t.seat_is, subst IsNoStop (sym t.act_is) free, subst (λ (a : Act). IsPermittedTo a seat) (sym t.act_is) held), tt);
    }

-- a delivery's step
pub did-serve : (seat : ℕ) {old new : CoreValue} {act : Act} {a : Answer} {d : Delivery} → Steps old new seat act a → act ≡ hit_act (slot_of old.setup.shape d.monitor d.instance) d.hit → Serves (Did seat) old.setup old new d (Done a)
did-serve seat {old} {new} {act} {a} {d} t is =
    let slot : ℕ = slot_of old.setup.shape d.monitor d.instance in
    record {
      entry = t.entry;
      answer = a;
      makes = inl (t.act_is ∙ is);
      did = did-step seat old new act a t (subst IsNoStop (sym is) (hit-free slot d.hit)) (subst (λ (z : Act). IsPermittedTo z seat) (sym is) (hit-held seat slot d.hit));
      outcome_is = ap (λ (z : Act). outcome_of z a) (t.act_is ∙ is) ∙ hit-done slot d.hit a;
      fails_is = refl;
    }
