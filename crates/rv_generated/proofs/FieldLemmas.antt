-- The pids among the fields of a generated line, whatever their digits are.
use Rattle.std.proofs.Common.{◌≡◌, ℕ, true, false, List, [], ◌∷◌, ◌++◌, Some, refl, arith}
use Rattle.std.specs.Prelude.{codes}
use Rattle.rv_text.specs.Places.{is_digit, is_blank, least, run_end, between}
use Rattle.rv_text.specs.declared.runs.ByteClass.TheVariants as kinds
use Rattle.rv_trace.specs.Fields.{field_place, field_of}
use Rattle.rv_generated.proofs.ReadingLemmas.{run-on, run-off, digit-word}

-- the fields of a waking, behind their blank
abbrev pub woken_more : ℕ → ℕ → ℕ → List ℕ
woken_more p q r = codes "comm=t pid=1" ++ p ∷ q ∷ [] ++ codes " prio=120 target_cpu=00" ++ r ∷ []

-- the fields of a waking
abbrev pub woken_fields : ℕ → ℕ → ℕ → List ℕ
woken_fields p q r = 32 ∷ woken_more p q r

-- the fields of a switch, behind their blank
abbrev pub switch_more : ℕ → ℕ → ℕ → ℕ → ℕ → ℕ → List ℕ
switch_more x p q y z s = codes "prev_comm=" ++ x ∷ [] ++ codes " prev_pid=1" ++ p ∷ q ∷ [] ++ codes " prev_prio=120 prev_state=" ++ y ∷ [] ++ codes " ==> next_comm=" ++ z ∷ [] ++ codes " next_pid=1" ++ p ∷ s ∷ [] ++ codes " next_prio=120"

-- the fields of a switch
abbrev pub switch_fields : ℕ → ℕ → ℕ → ℕ → ℕ → ℕ → List ℕ
switch_fields x p q y z s = 32 ∷ switch_more x p q y z s

-- no blank
abbrev pub NoBlank : ℕ → Type 0
NoBlank byte = is_blank byte ≡ false

-- the pid of a waking
pub woken-pid : (p q r : ℕ) → is_digit p ≡ true → is_digit q ≡ true → field_of (woken_fields p q r) (codes "pid") ≡ Some (record { from = 12; to = 15 })
unfolding field_of
woken-pid p q r pd qd =
    let fields : List ℕ = woken_fields p q r in
    let place : field_place (woken_fields p q r) (codes "pid") ≡ 8 = unfold field_place least in refl in
    let end : run_end kinds.Word (woken_fields p q r) 12 ≡ 15 =
    run-on kinds.Word fields 12 15 refl (omega arith) (run-on kinds.Word fields 13 15 (digit-word p pd) (omega arith) (run-on kinds.Word fields 14 15 (digit-word q qd) (omega arith) (run-off kinds.Word fields 15 refl (omega arith)))) in
    rw (place, end) refl

-- the pid of the task that goes
pub prev-pid : (x p q y z s : ℕ) → NoBlank x → is_digit p ≡ true → is_digit q ≡ true → field_of (switch_fields x p q y z s) (codes "prev_pid") ≡ Some (record { from = 22; to = 25 })
unfolding field_of
prev-pid x p q y z s xb pd qd =
    let fields : List ℕ = switch_fields x p q y z s in
    let place : field_place (switch_fields x p q y z s) (codes "prev_pid") ≡ 13 = unfold field_place least in rw xb refl in
    let end : run_end kinds.Word (switch_fields x p q y z s) 22 ≡ 25 =
    run-on kinds.Word fields 22 25 refl (omega arith) (run-on kinds.Word fields 23 25 (digit-word p pd) (omega arith) (run-on kinds.Word fields 24 25 (digit-word q qd) (omega arith) (run-off kinds.Word fields 25 refl (omega arith)))) in
    rw (place, end) refl

-- the pid of the task that comes
pub next-pid : (x p q y z s : ℕ) → NoBlank x → NoBlank y → NoBlank z → is_digit p ≡ true → is_digit q ≡ true → is_digit s ≡ true → NoBlank p → NoBlank q → field_of (switch_fields x p q y z s) (codes "next_pid") ≡ Some (record { from = 78; to = 81 })
unfolding field_of
next-pid x p q y z s xb yb zb pd qd sd pb qb =
    let fields : List ℕ = switch_fields x p q y z s in
    let place : field_place (switch_fields x p q y z s) (codes "next_pid") ≡ 69 = unfold field_place least in rw (xb, pb, qb, yb, zb) refl in
    let end : run_end kinds.Word (switch_fields x p q y z s) 78 ≡ 81 =
    run-on kinds.Word fields 78 81 refl (omega arith) (run-on kinds.Word fields 79 81 (digit-word p pd) (omega arith) (run-on kinds.Word fields 80 81 (digit-word s sd) (omega arith) (run-off kinds.Word fields 81 refl (omega arith)))) in
    rw (place, end) refl

-- these are their digits
pub woken-digits : (p q r : ℕ) → between (woken_fields p q r) 12 15 ≡ 49 ∷ p ∷ q ∷ []
woken-digits p q r = refl

-- of the task that goes
pub prev-digits : (x p q y z s : ℕ) → between (switch_fields x p q y z s) 22 25 ≡ 49 ∷ p ∷ q ∷ []
prev-digits x p q y z s = refl

-- and of the one that comes
pub next-digits : (x p q y z s : ℕ) → between (switch_fields x p q y z s) 78 81 ≡ 49 ∷ p ∷ s ∷ []
next-digits x p q y z s = refl
