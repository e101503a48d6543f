-- The definitions that a definition reaches, as flags.
use Rattle.std.specs.Prelude.{◌≡◌, ℕ, zero, suc, ◌+◌, ◌<◌, ◌⊎◌, Bool, true, false, List, [], ◌∷◌, length, slice_index_or, Option, Some, None, Vec}
use Rattle.std.specs.declared.alloc.Global.{Global}
use Rattle.rv_ltl.specs.declared.token.CodeStep.{CodeStep}
use Rattle.rv_ltl.specs.declared.token.CodeStep.TheVariants as steps
use Rattle.rv_ltl.specs.File.{Def}
use Rattle.rv_ltl.specs.Reach.{Mentions, Leads}
use Rattle.rv_ltl.specs.inner.Weights.{def_at}

-- the flag at a place
abbrev pub flag_at : List Bool → ℕ → Bool
flag_at fs i = slice_index_or fs i false

-- the step is the name
abbrev pub IsNameStep : CodeStep → ℕ → Type 0
IsNameStep steps.True x = ⊥
IsNameStep steps.False x = ⊥
IsNameStep (steps.Name y) x = y ≡ x
IsNameStep (steps.Unary op) x = ⊥
IsNameStep (steps.Binary op) x = ⊥

-- the name stands in the code
abbrev pub Holds : List CodeStep → ℕ → Type 0
Holds [] x = ⊥
Holds (step ∷ code) x = IsNameStep step x ⊎ Holds code x

-- the flags of the definitions whose names stand in the code
pub record IsRow (ds : List Def) (code : List CodeStep) (fs : List Bool) : Type 0 where
  pub each : length fs ≡ length ds
  pub made : (j : ℕ) → j < length ds → Holds code (def_at ds j).name → flag_at fs j ≡ true
  pub only : (j : ℕ) → j < length ds → flag_at fs j ≡ true → Holds code (def_at ds j).name

-- the row at a place
abbrev pub row_at : List (Vec Bool Global) → ℕ → List Bool
row_at [] i = []
row_at (row ∷ rows) zero = row.items
row_at (row ∷ rows) (suc i) = row_at rows i

-- the first n rows have the uses of the first n definitions
pub record AreUses (ds : List Def) (rows : List (Vec Bool Global)) (n : ℕ) : Type 0 where
  pub each : length rows ≡ n
  pub width : (i : ℕ) → i < n → length (row_at rows i) ≡ length ds
  pub made : (i j : ℕ) → i < n → j < length ds → Mentions (def_at ds i).body (def_at ds j).name → flag_at (row_at rows i) j ≡ true
  pub only : (i j : ℕ) → i < n → j < length ds → flag_at (row_at rows i) j ≡ true → Mentions (def_at ds i).body (def_at ds j).name

-- by the rows, one definition uses another
abbrev pub Flags : List (Vec Bool Global) → ℕ → ℕ → Type 0
Flags rows i j = flag_at (row_at rows i) j ≡ true

-- the root, or what it leads to
abbrev pub IsFrom : List (Vec Bool Global) → ℕ → ℕ → Type 0
IsFrom rows root i = (root ≡ i) ⊎ Leads (Flags rows) root i

-- the flags of the root and of what it leads to
pub record AreReachFlags (rows : List (Vec Bool Global)) (root : ℕ) (fs : List Bool) : Type 0 where
  pub each : length fs ≡ length rows
  pub start : flag_at fs root ≡ true
  pub sound : (i : ℕ) → flag_at fs i ≡ true → IsFrom rows root i
  pub closed : (i j : ℕ) → flag_at fs i ≡ true → j < length rows → Flags rows i j → flag_at fs j ≡ true

-- on the way there: what is done was followed
pub record IsUnderWay (rows : List (Vec Bool Global)) (root : ℕ) (fs done : List Bool) : Type 0 where
  pub each : length fs ≡ length rows
  pub each_done : length done ≡ length rows
  pub start : flag_at fs root ≡ true
  pub sound : (i : ℕ) → flag_at fs i ≡ true → IsFrom rows root i
  pub followed : (i j : ℕ) → flag_at done i ≡ true → j < length rows → Flags rows i j → flag_at fs j ≡ true

-- the flags of both lists
pub record Joins (old row new : List Bool) (n : ℕ) : Type 0 where
  pub each : length new ≡ length old
  pub kept : (i : ℕ) → flag_at old i ≡ true → flag_at new i ≡ true
  pub made : (i : ℕ) → i < n → flag_at row i ≡ true → flag_at new i ≡ true
  pub only : (i : ℕ) → flag_at new i ≡ true → (flag_at old i ≡ true) ⊎ (flag_at row i ≡ true)

-- how many are not done
abbrev pub undone : List Bool → ℕ
undone [] = 0
undone (true ∷ fs) = undone fs
undone (false ∷ fs) = 1 + undone fs

-- a place that is flagged and not done, if there is one
abbrev pub NextIs : List Bool → List Bool → Option ℕ → Type 0
NextIs fs done (Some i) = (i < length done) × (flag_at fs i ≡ true) × (flag_at done i ≡ false)
NextIs fs done None = (i : ℕ) → i < length done → flag_at fs i ≡ true → flag_at done i ≡ true
