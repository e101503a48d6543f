-- What one record more, one lane more and a sort make of what was found.
use Rattle.std.proofs.Common.{◌≡◌, ℕ, ◌+◌, ◌<◌, ◌≤◌, true, false, List, [], ◌∷◌, ◌++◌, length, take, get_or, refl, sym, ap, ◌∙◌, subst, append-nil, append_assoc}
use Rattle.std.specs.Prelude.{filter, flat_map}
use Rattle.std.proofs.lemmas.Grind.{flat_map-append}
use Rattle.std.proofs.lemmas.List.{take_more, take_all}
use Rattle.std.proofs.lemmas.List.Elements.{filter-append}
use Rattle.rv_model.specs.declared.record.Record.{Record}
use Rattle.rv_model.specs.declared.record.Task.{Task}
use Rattle.rv_model.specs.Records.{sort_records, status_of}
use Rattle.rv_model.specs.Reports.{Reported}
use Rattle.rv_model.proofs.SortedLemmas.{filter-sort, status-sorted}
use Rattle.rv_report.specs.Printed.{is_printed}
use Rattle.rv_report.specs.Tallies.{AreTallies, FoundValue, IsFound}
use Rattle.rv_report.proofs.TallyLemmas.{tallies-sort}

module _ (monitors : List Reported) (tasks : List Task) (rs : List Record) (f f' : FoundValue) where
  -- a record whose reaction is printed
  pub found-printed : (r : Record) → is_printed monitors r ≡ true → f'.printed ≡ f.printed ++ r ∷ [] → (AreTallies monitors tasks rs f.tallies → AreTallies monitors tasks (rs ++ r ∷ []) f'.tallies)
      → (f.status ≡ status_of rs → f'.status ≡ status_of (rs ++ r ∷ [])) → IsFound monitors tasks rs f → IsFound monitors tasks (rs ++ r ∷ []) f'
  found-printed r printed more tallies status was =
      let one : filter (is_printed monitors) (r ∷ []) ≡ r ∷ [] = rw printed refl in
      record {
        tallies = tallies was.tallies;
        printed = more ∙ ap (λ (us : List Record). us ++ r ∷ []) was.printed ∙ ap (λ (us : List Record). filter (is_printed monitors) rs ++ us) (sym one) ∙ sym (filter-append (is_printed monitors) rs (r ∷ []));
        status = status was.status;
      }

  -- a record whose reaction is not printed
  pub found-quiet : (r : Record) → is_printed monitors r ≡ false → f'.printed ≡ f.printed → (AreTallies monitors tasks rs f.tallies → AreTallies monitors tasks (rs ++ r ∷ []) f'.tallies)
      → (f.status ≡ status_of rs → f'.status ≡ status_of (rs ++ r ∷ [])) → IsFound monitors tasks rs f → IsFound monitors tasks (rs ++ r ∷ []) f'
  found-quiet r quiet same tallies status was =
      let none : filter (is_printed monitors) (r ∷ []) ≡ [] = rw quiet refl in
      record {
        tallies = tallies was.tallies;
        printed = same ∙ was.printed ∙ sym (append-nil (filter (is_printed monitors) rs)) ∙ ap (λ (us : List Record). filter (is_printed monitors) rs ++ us) (sym none) ∙ sym (filter-append (is_printed monitors) rs (r ∷ []));
        status = status was.status;
      }

  -- the records in their order
  pub found-sort : f'.printed ≡ sort_records f.printed → f'.tallies ≡ f.tallies → f'.status ≡ f.status → IsFound monitors tasks rs f → IsFound monitors tasks (sort_records rs) f'
  found-sort sorted same kept was = record {
    tallies = subst (AreTallies monitors tasks (sort_records rs)) (sym same) (tallies-sort monitors tasks rs f.tallies was.tallies);
    printed = sorted ∙ ap sort_records was.printed ∙ sym (filter-sort (is_printed monitors) rs);
    status = kept ∙ was.status ∙ sym (status-sorted rs);
  }

-- the records of one lane more
pub lanes-more : {L : Type 0} (records : L → List Record) (lanes : List L) (i : ℕ) (lane : L) → i < length lanes → lane ≡ get_or lanes i lane → flat_map records (take (i + 1) lanes) ≡ flat_map records (take i lanes) ++ records lane
lanes-more {L} records lanes i lane lt is =
    ap (flat_map records) (take_more lanes i lane lt ∙ ap (λ (l : L). take i lanes ++ l ∷ []) (sym is)) ∙ flat_map-append records (take i lanes) (lane ∷ []) ∙ ap (λ (rs : List Record). flat_map records (take i lanes) ++ rs) (append-nil (records lane))

-- the records of all lanes in their order
pub lanes-sorted : {L : Type 0} (records : L → List Record) (monitors : List Reported) (tasks : List Task) (lanes : List L) (n : ℕ) (f f' : FoundValue) → length lanes ≤ n
    → ((us : List Record) → IsFound monitors tasks us f → IsFound monitors tasks (sort_records us) f') → IsFound monitors tasks (flat_map records (take n lanes)) f → IsFound monitors tasks (sort_records (flat_map records lanes)) f'
lanes-sorted {L} records monitors tasks lanes n f f' all sorted was =
    sorted (flat_map records lanes) (subst (λ (ls : List L). IsFound monitors tasks (flat_map records ls) f) (take_all n lanes all) was)

-- one record more
pub records-more : (monitors : List Reported) (tasks : List Task) (rs records : List Record) (i : ℕ) (d : Record) (f : FoundValue) → i < length records → IsFound monitors tasks ((rs ++ take i records) ++ get_or records i d ∷ []) f
    → IsFound monitors tasks (rs ++ take (i + 1) records) f
records-more monitors tasks rs records i d f lt is =
    subst (λ (us : List Record). IsFound monitors tasks us f) (append_assoc rs (take i records) (get_or records i d ∷ []) ∙ ap (λ (us : List Record). rs ++ us) (sym (take_more records i d lt))) is
