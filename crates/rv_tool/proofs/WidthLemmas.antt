-- The bits of the monitors' words, by what accepted bindings keep.
use Rattle.std.proofs.Common.{◌≡◌, ℕ, zero, suc, ◌+◌, ◌<◌, ◌≤◌, ◌^◌, true, List, [], ◌∷◌, ◌++◌, ◌⊎◌, inl, inr, length, map, get_or, sym, ap, ◌∙◌, subst, arith, length-append}
use Rattle.std.specs.Prelude.{slice_index, slice_index_or}
use Rattle.std.proofs.Math.ListN.{get_or-append}
use Rattle.std.proofs.Math.Seq.{get_or-append_seam}
use Rattle.std.proofs.lemmas.List.{get_or-map, get_or_read}
use Rattle.rv_model.specs.declared.formula.Spec.{Spec}
use Rattle.rv_model.specs.declared.formula.Spec.TheVariants as specs
use Rattle.rv_model.specs.Numbers.{list_of}
use Rattle.rv_model.specs.Setups.{Setup}
use Rattle.rv_model.specs.Table.{Table, Node, of_labels, first_row, next_row, table_of}
use Rattle.rv_model.proofs.FoundLemmas.{length-list_of}
use Rattle.rv_table.specs.Rows.{IsRows, row_count}
use Rattle.rv_core.specs.Setup.{no_table}
use Rattle.rv_bind.specs.declared.bindings.Monitor.{Monitor}
use Rattle.rv_bind.specs.Compiling.{IsTableOf}
use Rattle.rv_bind.specs.WellFormed.{kind_of, kinds_of, StartsIn, HasTable, HaveTables}
use Rattle.rv_bind.proofs.TableLemmas.{labelled}
use Rattle.rv_journal.specs.declared.words.Width.{Width}
use Rattle.rv_journal.specs.CountedSeats.{IsWidth, AreWidths, no_width}
use Rattle.rv_tool.specs.CountsFit.{atom_count, monitor_fits_counts}
use Rattle.rv_tool.specs.inner.CountsFit.{HasState}
use Rattle.rv_tool.proofs.CountsFitLemmas.{narrow-room}
use Rattle.rv_tool.proofs.PreparedLemmas.{tables_counted}

-- the start row of a formula's table is one of its rows
labels-begin : (nodes : List Node) → IsRows (of_labels nodes) → first_row (of_labels nodes) < row_count (of_labels nodes)
labels-begin nodes rows = let some = rows.some in omega arith

-- the start row of a specification's table is one of its rows
table-begins : (spec : Spec) (t : Table) → HasState spec → IsTableOf spec t → IsRows t → first_row t < row_count t
table-begins (specs.Da a) t state is rows =
    let many = length-list_of (λ row. list_of (next_row a row) (length a.events)) (length a.states) in
    let begins : first_row (table_of a) < row_count (table_of a) = omega arith in
    subst (λ (u : Table). first_row u < row_count u) (sym is) begins
table-begins (specs.Ltl rule) t state is rows =
    let labels = labelled rule.formula t is in
    subst (λ (u : Table). first_row u < row_count u) (sym labels.1) (labels-begin labels.0 (subst IsRows labels.1 rows))

-- the starting levels are some of the atoms
starts-below : (spec : Spec) (start : ℕ) → StartsIn spec start → start < 2 ^ atom_count spec
starts-below (specs.Da a) start none = omega arith
starts-below (specs.Ltl rule) start below = below

-- the bits of one monitor
pub width-is : (m : Monitor) (t : Table) (rows atoms : ℕ) → monitor_fits_counts m t ≡ true → HasTable (kind_of m) t → HasState m.spec → IsRows t → rows ≡ row_count t → atoms ≡ atom_count m.spec → IsWidth t m.starting (record { rows = rows; atoms = atoms })
width-is m t rows atoms narrow has state known rows_are atoms_are =
    let few = narrow-room m t narrow in
    record {
      wide = rows_are;
      begins = table-begins m.spec t state has.compiles.is known;
      fits = omega arith;
      levels = subst (λ (n : ℕ). m.starting < 2 ^ n) (sym atoms_are) (starts-below m.spec m.starting has.starting);
    }

-- ---- all monitors

-- each monitor has its table
pub have-at : (monitors : List Monitor) (tables : List Table) (n : ℕ) (m : Monitor) (t : Table) → m ≡ get_or monitors n m → t ≡ get_or tables n t → n < length monitors → HaveTables (kinds_of monitors) tables → HasTable (kind_of m) t
have-at [] tables n m t at_m at_t lt have = absurd (omega arith)
have-at (a ∷ monitors) [] n m t at_m at_t lt have = absurd have
have-at (a ∷ monitors) (b ∷ tables) zero m t at_m at_t lt have = subst (λ (z : Monitor). HasTable (kind_of z) t) (sym at_m) (subst (λ (z : Table). HasTable (kind_of a) z) (sym at_t) have.0)
have-at (a ∷ monitors) (b ∷ tables) (suc n) m t at_m at_t lt have = have-at monitors tables n m t at_m at_t (omega arith) have.1

-- the widths of the monitors so far
pub record WidthsTo (n : ℕ) (tables : List Table) (starts : List ℕ) (widths : List Width) : Type 0 where
  pub many : length widths ≡ n
  pub each : (k : ℕ) → k < n → IsWidth (slice_index_or tables k no_table) (slice_index starts k) (slice_index_or widths k no_width)

-- there are no widths before the first monitor
pub widths-none : (tables : List Table) (starts : List ℕ) (widths : List Width) → widths ≡ [] → WidthsTo 0 tables starts widths
widths-none tables starts widths none = record { many = ap length none; each = λ k lt. absurd (omega arith) }

-- the starting value at a place is that of the monitor there
start-at : (monitors : List Monitor) (n : ℕ) (m : Monitor) → m ≡ get_or monitors n m → n < length monitors → slice_index (map (λ (m : Monitor). m.starting) monitors) n ≡ m.starting
start-at monitors n m at lt = get_or-map (λ (m : Monitor). m.starting) monitors n m 0 lt ∙ ap (λ (m : Monitor). m.starting) (sym at)

-- what is below the next number is below this one, or is this one
below-or-last : (k n : ℕ) → k < n + 1 → (k < n) ⊎ (k ≡ n)
below-or-last k n lt = grind arith

-- one monitor more
pub widths-next : (monitors : List Monitor) (tables : List Table) (starts : List ℕ) (n : ℕ) (m : Monitor) (t : Table) (widths more : List Width) (w : Width) → starts ≡ map (λ (m : Monitor). m.starting) monitors → m ≡ get_or monitors n m → t ≡ get_or tables n t
    → n < length monitors → n < length tables → more ≡ widths ++ w ∷ [] → WidthsTo n tables starts widths → IsWidth t m.starting w → WidthsTo (n + 1) tables starts more
widths-next monitors tables starts n m t widths more w starts_are at_m at_t lt lt' added so_far is = record {
  many = (let many = so_far.many in let long = ap length added ∙ length-append widths (w ∷ []) in omega arith);
  each = λ k below. subst (λ (z : List Width). IsWidth (slice_index_or tables k no_table) (slice_index starts k) (slice_index_or z k no_width)) (sym added) (go k (below-or-last k n below));
}
  where
    go : (k : ℕ) → (k < n) ⊎ (k ≡ n) → IsWidth (slice_index_or tables k no_table) (slice_index starts k) (slice_index_or (widths ++ w ∷ []) k no_width)
    go k (inl before) =
        let many = so_far.many in
        subst (λ (z : Width). IsWidth (slice_index_or tables k no_table) (slice_index starts k) z) (sym (get_or-append widths (w ∷ []) no_width k (omega arith))) (so_far.each k before)
    go k (inr last) =
        let at : k ≡ length widths = (let many = so_far.many in omega arith) in
        let first : slice_index_or (widths ++ w ∷ []) k no_width ≡ w = ap (λ (i : ℕ). get_or (widths ++ w ∷ []) i no_width) at ∙ get_or-append_seam widths w [] no_width in
        let start : slice_index starts k ≡ m.starting = ap (slice_index starts) last ∙ ap (λ (z : List ℕ). slice_index z n) starts_are ∙ start-at monitors n m at_m lt in
        let table : slice_index_or tables k no_table ≡ t = ap (λ (i : ℕ). slice_index_or tables i no_table) last ∙ sym (get_or_read tables n t lt' at_t no_table) in
        subst (λ (z : Width). IsWidth (slice_index_or tables k no_table) (slice_index starts k) z) (sym first)
        (subst (λ (s : ℕ). IsWidth (slice_index_or tables k no_table) s w) (sym start) (subst (λ (u : Table). IsWidth u m.starting w) (sym table) is))

-- all monitors
pub widths-whole : (monitors : List Monitor) (s : Setup) (widths : List Width) (n : ℕ) → length monitors ≤ n → n ≤ length monitors → HaveTables (kinds_of monitors) s.tables → WidthsTo n s.tables s.starts widths → AreWidths s widths
widths-whole monitors s widths n le ge have so_far =
    let tables = tables_counted monitors s.tables have in
    let widths = so_far.many in
    record { many = omega arith; each = λ m lt. so_far.each m (omega arith) }
