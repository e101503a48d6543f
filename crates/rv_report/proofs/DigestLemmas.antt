-- What one record more makes of a digest.
use Rattle.std.proofs.Common.{◌≡◌, true, false, List, [], ◌∷◌, ◌++◌, refl, sym, ap, ◌∙◌, append-nil}
use Rattle.std.specs.Prelude.{filter}
use Rattle.std.proofs.lemmas.List.Elements.{filter-append}
use Rattle.rv_model.specs.declared.record.Record.{Record}
use Rattle.rv_model.specs.Records.{status_of}
use Rattle.rv_report.specs.Printed.{has_reaction}
use Rattle.rv_report.specs.Tallies.{FoundValue, IsDigest}
use Rattle.rv_report.specs.inner.Tallies.{AreWhole}

-- no records come to nothing
pub digest-none : IsDigest [] (record { tallies = []; printed = []; status = 0 })
digest-none = record { tallies = λ k. record { seen = λ j. refl; deliveries = refl; failures = refl; stopped = refl }; printed = refl; status = refl }

module _ (rs : List Record) (r : Record) (f f' : FoundValue) where
  -- a record with a reaction
  pub digest-reaction : has_reaction r ≡ true → f'.printed ≡ f.printed ++ r ∷ [] → (AreWhole rs f.tallies → AreWhole (rs ++ r ∷ []) f'.tallies)
      → (f.status ≡ status_of rs → f'.status ≡ status_of (rs ++ r ∷ [])) → IsDigest rs f → IsDigest (rs ++ r ∷ []) f'
  digest-reaction reacts more tallies status was =
      let one : filter has_reaction (r ∷ []) ≡ r ∷ [] = rw reacts refl in
      record {
        tallies = tallies was.tallies;
        printed = more ∙ ap (λ (us : List Record). us ++ r ∷ []) was.printed ∙ ap (λ (us : List Record). filter has_reaction rs ++ us) (sym one) ∙ sym (filter-append has_reaction rs (r ∷ []));
        status = status was.status;
      }

  -- a record without one
  pub digest-quiet : has_reaction r ≡ false → f'.printed ≡ f.printed → (AreWhole rs f.tallies → AreWhole (rs ++ r ∷ []) f'.tallies)
      → (f.status ≡ status_of rs → f'.status ≡ status_of (rs ++ r ∷ [])) → IsDigest rs f → IsDigest (rs ++ r ∷ []) f'
  digest-quiet quiet same tallies status was =
      let none : filter has_reaction (r ∷ []) ≡ [] = rw quiet refl in
      record {
        tallies = tallies was.tallies;
        printed = same ∙ was.printed ∙ sym (append-nil (filter has_reaction rs)) ∙ ap (λ (us : List Record). filter has_reaction rs ++ us) (sym none) ∙ sym (filter-append has_reaction rs (r ∷ []));
        status = status was.status;
      }
