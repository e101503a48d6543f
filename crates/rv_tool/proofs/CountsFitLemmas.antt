-- What the test of narrow monitors tells of one monitor, and of each of a list.
use Rattle.std.proofs.Common.{◌≡◌, ◌≢◌, ℕ, zero, suc, ◌+◌, ◌<◌, ◌≤◌, true, false, List, [], ◌∷◌, length, drop, get_or, refl, sym, ap, ◌∙◌, arith}
use Rattle.std.specs.Prelude.{nat_le, ◌&&◌, not, All}
use Rattle.std.proofs.lemmas.Bool.{and_parts, and_right, not-true}
use Rattle.std.proofs.lemmas.Bool.Decides.{nat_tests}
use Rattle.std.proofs.lemmas.List.{drop_all, drop_more}
use Rattle.std.proofs.lemmas.List.Elements.{All-nil, All-cons}
use Rattle.rv_model.specs.Reactors.{is_panic}
use Rattle.rv_model.specs.Table.{Table}
use Rattle.rv_table.specs.Rows.{row_count}
use Rattle.rv_bind.specs.declared.bindings.Monitor.{Monitor}
use Rattle.rv_tool.specs.CountsFit.{atom_count, monitor_fits_counts, monitors_fit_counts}

-- ---- one monitor

-- a number is at most another, where the test finds it so
at_most : (n most : ℕ) → nat_le n most ≡ true → n ≤ most
at_most n most e = grind (arith, nat_tests)

-- there is room for its rows and its atoms
pub narrow-room : (m : Monitor) (t : Table) → monitor_fits_counts m t ≡ true → row_count t + atom_count m.spec ≤ 32
narrow-room m t on = at_most (row_count t + atom_count m.spec) 32 (and_parts (nat_le (row_count t + atom_count m.spec) 32) (not (is_panic m.reactor)) on).0

-- its reactor is not panic
narrow-calm : (m : Monitor) (t : Table) → monitor_fits_counts m t ≡ true → is_panic m.reactor ≡ false
narrow-calm m t on = not-true (is_panic m.reactor) (and_parts (nat_le (row_count t + atom_count m.spec) 32) (not (is_panic m.reactor)) on).1

-- ---- all monitors

-- none of their reactors is panic
pub all-calm : (monitors : List Monitor) (tables : List Table) → monitors_fit_counts monitors tables ≡ true → All (λ (m : Monitor). is_panic m.reactor ≡ false) monitors
all-calm [] tables on = All-nil (λ (m : Monitor). is_panic m.reactor ≡ false)
all-calm (m ∷ monitors) [] on = absurd (cc)
all-calm (m ∷ monitors) (t ∷ tables) on =
    let parts = and_parts (monitor_fits_counts m t) (monitors_fit_counts monitors tables) on in
    All-cons (λ (m : Monitor). is_panic m.reactor ≡ false) m monitors (narrow-calm m t parts.0) (all-calm monitors tables parts.1)

-- the one at a place is narrow
pub narrow-at : (monitors : List Monitor) (tables : List Table) (n : ℕ) (m : Monitor) (t : Table) → m ≡ get_or monitors n m → t ≡ get_or tables n t → n < length monitors → monitors_fit_counts monitors tables ≡ true → monitor_fits_counts m t ≡ true
narrow-at [] tables n m t at_m at_t lt on = absurd (omega arith)
narrow-at (a ∷ monitors) [] n m t at_m at_t lt on = absurd (cc)
narrow-at (a ∷ monitors) (b ∷ tables) zero m t at_m at_t lt on = (λ i. monitor_fits_counts (at_m i) (at_t i)) ∙ (and_parts (monitor_fits_counts a b) (monitors_fit_counts monitors tables) on).0
narrow-at (a ∷ monitors) (b ∷ tables) (suc n) m t at_m at_t lt on = narrow-at monitors tables n m t at_m at_t (omega arith) (and_parts (monitor_fits_counts a b) (monitors_fit_counts monitors tables) on).1

-- another number of tables is refused
pub other-long : (monitors : List Monitor) (tables : List Table) → length monitors ≢ length tables → monitors_fit_counts monitors tables ≡ false
other-long [] [] other = absurd (other refl)
other-long [] (t ∷ tables) other = refl
other-long (m ∷ monitors) [] other = refl
other-long (m ∷ monitors) (t ∷ tables) other = and_right (monitor_fits_counts m t) (monitors_fit_counts monitors tables) (other-long monitors tables (λ same. other (ap suc same)))

-- those from a place on are the one there and those behind it
pub narrow-step : (n : ℕ) (monitors : List Monitor) (tables : List Table) (m : Monitor) (t : Table) → m ≡ get_or monitors n m → t ≡ get_or tables n t → n < length monitors → n < length tables
    → monitors_fit_counts (drop n monitors) (drop n tables) ≡ (monitor_fits_counts m t && monitors_fit_counts (drop (n + 1) monitors) (drop (n + 1) tables))
narrow-step n monitors tables m t at_m at_t lt lt' =
    let monitors_are : drop n monitors ≡ m ∷ drop (n + 1) monitors = drop_more monitors n m lt ∙ ap (λ (z : Monitor). z ∷ drop (n + 1) monitors) (sym at_m) in
    let tables_are : drop n tables ≡ t ∷ drop (n + 1) tables = drop_more tables n t lt' ∙ ap (λ (z : Table). z ∷ drop (n + 1) tables) (sym at_t) in
    λ i. monitors_fit_counts (monitors_are i) (tables_are i)

-- from their end on there is none
pub none-left : (n : ℕ) (monitors : List Monitor) (tables : List Table) → length monitors ≤ n → length tables ≤ n → monitors_fit_counts (drop n monitors) (drop n tables) ≡ true
none-left n monitors tables le le' = λ i. monitors_fit_counts (drop_all n monitors le i) (drop_all n tables le' i)
