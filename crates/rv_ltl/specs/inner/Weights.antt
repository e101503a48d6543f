-- Weights as far as they are known, for each definition in its place.
use Rattle.std.specs.Prelude.{◌≡◌, ◌≢◌, ℕ, suc, ◌+◌, ◌<◌, ◌≤◌, Bool, true, false, nat_eq, nat_lt, if◌then◌else◌, List, [], ◌∷◌, length, slice_index_or, slice_set, Option, Some, None}
use Rattle.rv_model.specs.Numbers.{one_if}
use Rattle.rv_ltl.specs.declared.token.Binary.{Binary}
use Rattle.rv_ltl.specs.declared.weight.Weight.{Weight}
use Rattle.rv_ltl.specs.declared.weight.Weight.TheVariants.{Open, Large, Is}
use Rattle.rv_ltl.specs.Grammar.{Expr}
use Rattle.rv_ltl.specs.Operators.{weight_two}
use Rattle.rv_ltl.specs.Parse.{◌>>=◌}
use Rattle.rv_ltl.specs.File.{Def}
use Rattle.rv_ltl.specs.Replace.{weight_of, value_of}
use Rattle.rv_ltl.specs.inner.Machine.{Values, value}

-- a weight, as far as it counts
abbrev pub limited : ℕ → Weight
limited w = if nat_lt 1024 w then Large else Is w

-- the weight of what a name stands for, if it stands for something
abbrev pub weighed : Option Expr → Weight
weighed None = Open
weighed (Some f) = limited (weight_of f)

-- the weight under an operator
abbrev pub one_weight : Weight → Weight
one_weight Open = Open
one_weight Large = Large
one_weight (Is w) = limited (1 + w)

-- the weight of two operands with the operator between them
abbrev pub two_weights : Binary → Weight → Weight → Weight
two_weights op Open b = Open
two_weights op Large Open = Open
two_weights op Large Large = Large
two_weights op Large (Is w) = Large
two_weights op (Is w) Open = Open
two_weights op (Is w) Large = Large
two_weights op (Is w) (Is x) = limited (weight_two op w x)

-- weights as values
abbrev pub weights_by : (ℕ → Weight) → Values Weight
weights_by names = record { constant = λ b. Is 1; name = names; one = λ op. one_weight; two = two_weights }

-- the place of the first definition of the name
abbrev pub index_of : List Def → ℕ → Option ℕ
index_of [] x = None
index_of (d ∷ ds) x = if nat_eq d.name x then Some 0 else (index_of ds x >>= λ i. Some (suc i))

-- a definition that is none
abbrev pub no_def : Def
no_def = record { name = 0; body = Expr.True }

-- the definition at a place
abbrev pub def_at : List Def → ℕ → Def
def_at ds i = slice_index_or ds i no_def

-- what is known of the definition at a place
abbrev pub known_at : List Weight → ℕ → Weight
known_at ws i = slice_index_or ws i Open

-- what is known of a name; one that is not defined weighs 1
abbrev pub weight_at : List Def → List Weight → ℕ → Weight
weight_at ds ws x = elim (index_of ds x) [ None ↦ Is 1 | Some i ↦ known_at ws i ]

-- no name is defined twice
abbrev pub IsDistinct : List Def → Type 0
IsDistinct ds = (i : ℕ) → i < length ds → index_of ds (def_at ds i).name ≡ Some i

-- what is known is the weight, with definitions in one another at most n deep
abbrev pub IsSure : List Def → List Weight → ℕ → Type 0
IsSure ds ws n = (i : ℕ) → i < length ds → known_at ws i ≢ Open → known_at ws i ≡ weighed (value_of ds n (def_at ds i).name)

-- nothing more can be known of the first n definitions
abbrev pub IsStuck : List Def → List Weight → ℕ → Type 0
IsStuck ds ws n = (i : ℕ) → i < n → known_at ws i ≡ Open → value (weights_by (weight_at ds ws)) (def_at ds i).body ≡ Open

-- of how many definitions nothing is known
abbrev pub open_count : List Weight → ℕ
open_count [] = 0
open_count (Open ∷ ws) = 1 + open_count ws
open_count (Large ∷ ws) = open_count ws
open_count (Is w ∷ ws) = open_count ws

-- of how many definitions the weight is known
abbrev pub known_count : List Weight → ℕ
known_count [] = 0
known_count (Open ∷ ws) = known_count ws
known_count (Large ∷ ws) = 1 + known_count ws
known_count (Is w ∷ ws) = 1 + known_count ws

-- one definition was looked at: what follows from what is known was put down, or nothing follows
abbrev pub Learns : List Def → List Weight → List Weight → ℕ → Bool → Type 0
Learns ds old new i true =
    (new ≡ slice_set old i (value (weights_by (weight_at ds old)) (def_at ds i).body)) × (value (weights_by (weight_at ds old)) (def_at ds i).body ≢ Open) × (known_at old i ≡ Open)
Learns ds old new i false = (new ≡ old) × (known_at old i ≡ Open → value (weights_by (weight_at ds old)) (def_at ds i).body ≡ Open)

-- the definitions before i were looked at
pub record Passes (ds : List Def) (start ws : List Weight) (more : Bool) (i : ℕ) : Type 0 where
  pub each : length ws ≡ length ds
  pub sure : IsSure ds ws (known_count ws)
  pub fewer : open_count ws + one_if more ≤ open_count start
  pub stuck : more ≡ false → IsStuck ds ws i

-- the weight of what each definition stands for; it is open where that is nothing
pub record IsSettled (ds : List Def) (ws : List Weight) : Type 0 where
  pub each : length ws ≡ length ds
  pub known : (i : ℕ) → i < length ds → known_at ws i ≡ weighed (value_of ds (length ds) (def_at ds i).name)
