-- How the models of structs store what a seat knows: as nested pairs.
use Rattle.std.specs.Prelude.{ℕ, List}
use Rattle.std.specs.Coded.{Coded, code_by, coded×, coded_ℕ, coded_list}
use Rattle.std.proofs.Common.{refl}
use Rattle.rv_model.specs.declared.entry.Entry.{Entry}
use Rattle.rv_model.specs.Seats.{Seat}

-- a seat as nested pairs of its fields, by a code of entries
abbrev pub coded_part : Coded Entry → Coded Seat
coded_part entry =
    code_by (ℕ × (ℕ × (List ℕ × List Entry))) (coded× coded_ℕ (coded× coded_ℕ (coded× (coded_list coded_ℕ) (coded_list entry))))
    (λ s. (s.number, (s.end, (s.joined_in, s.seen)))) (λ p. record { number = p.0; end = p.1.0; joined_in = p.1.1.0; seen = p.1.1.1 }) (λ _. refl)
