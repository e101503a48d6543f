-- The bytes of a generated line: its digits, its event and the fields behind it.
use Rattle.std.proofs.Common.{◌≡◌, ℕ, zero, suc, ◌+◌, ◌-◌, ◌*◌, ◌/◌, ◌%◌, ◌<◌, true, false, eqb, List, [], ◌∷◌, ◌++◌, refl, arith}
use Rattle.std.specs.Prelude.{codes, decimal, slice_index_or}
use Rattle.std.specs.Fmt as formats
use Rattle.std.proofs.lemmas.Bool.{and_from, le-leb}
use Rattle.rv_text.specs.Places.{is_digit}
use Rattle.rv_trace.specs.Streams.{has_line_end}
use Rattle.rv_gen.specs.Generated.{cpu_text, first_pid, second_pid, block_events, digit, generated_line}
use Rattle.rv_generated.proofs.ReadingLemmas.{line_text}
use Rattle.rv_generated.proofs.FieldLemmas.{NoBlank, woken_more, switch_more}

-- a digit, and so no blank and no line end
pub record IsDigit (byte : ℕ) : Type 0 where
  pub digit : is_digit byte ≡ true
  pub no_blank : NoBlank byte
  pub no_end : eqb byte 10 ≡ false

-- what passes the test is one
pub digit-is : (byte : ℕ) → is_digit byte ≡ true → IsDigit byte
digit-is byte is = record { digit = is; no_blank = grind arith; no_end = grind arith }

-- the digit of a weight is one
pub weight-is : (n weight : ℕ) → IsDigit (digit n weight)
weight-is n weight =
    let low : (n / weight) % 10 < 10 = omega arith in
    digit-is (digit n weight) (and_from _ _ (le-leb 48 (digit n weight) (omega arith)) (le-leb (digit n weight) 57 (omega arith)))

-- the digits of a CPU, and of the pids of its two tasks
pub record HasDigits (cpu : ℕ) : Type 0 where
  pub ten : ℕ
  pub one : ℕ
  pub other : ℕ
  pub last : ℕ
  pub ten_is : IsDigit ten
  pub one_is : IsDigit one
  pub other_is : IsDigit other
  pub last_is : IsDigit last
  pub first : decimal (first_pid cpu) ≡ 49 ∷ ten ∷ one ∷ []
  pub second : decimal (second_pid cpu) ≡ 49 ∷ ten ∷ other ∷ []
  pub cpu_is : cpu_text cpu ≡ 48 ∷ 48 ∷ last ∷ []
  pub first_is : (10 + (ten - 48)) * 10 + (one - 48) ≡ first_pid cpu
  pub second_is : (10 + (ten - 48)) * 10 + (other - 48) ≡ second_pid cpu
  pub number : last - 48 ≡ cpu

-- these digits
digits : (cpu ten one other last : ℕ) → is_digit ten ≡ true → is_digit one ≡ true → is_digit other ≡ true → is_digit last ≡ true
    → decimal (first_pid cpu) ≡ 49 ∷ ten ∷ one ∷ [] → decimal (second_pid cpu) ≡ 49 ∷ ten ∷ other ∷ [] → cpu_text cpu ≡ 48 ∷ 48 ∷ last ∷ []
    → (10 + (ten - 48)) * 10 + (one - 48) ≡ first_pid cpu → (10 + (ten - 48)) * 10 + (other - 48) ≡ second_pid cpu → last - 48 ≡ cpu → HasDigits cpu
digits cpu ten one other last t o u l first second text first_is second_is number = record {
  ten = ten;
  one = one;
  other = other;
  last = last;
  ten_is = digit-is ten t;
  one_is = digit-is one o;
  other_is = digit-is other u;
  last_is = digit-is last l;
  first = first;
  second = second;
  cpu_is = text;
  first_is = first_is;
  second_is = second_is;
  number = number;
}

-- each of the eight has them
pub has-digits : (cpu : ℕ) → cpu < 8 → HasDigits cpu
unfolding cpu_text formats.digits
has-digits zero low = digits 0 48 48 49 48 refl refl refl refl refl refl refl refl refl refl
has-digits (suc zero) low = digits 1 48 50 51 49 refl refl refl refl refl refl refl refl refl refl
has-digits (suc (suc zero)) low = digits 2 48 52 53 50 refl refl refl refl refl refl refl refl refl refl
has-digits (suc (suc (suc zero))) low = digits 3 48 54 55 51 refl refl refl refl refl refl refl refl refl refl
has-digits (suc (suc (suc (suc zero)))) low = digits 4 48 56 57 52 refl refl refl refl refl refl refl refl refl refl
has-digits (suc (suc (suc (suc (suc zero))))) low = digits 5 49 48 49 53 refl refl refl refl refl refl refl refl refl refl
has-digits (suc (suc (suc (suc (suc (suc zero)))))) low = digits 6 49 50 51 54 refl refl refl refl refl refl refl refl refl refl
has-digits (suc (suc (suc (suc (suc (suc (suc zero))))))) low = digits 7 49 52 53 55 refl refl refl refl refl refl refl refl refl refl
has-digits (suc (suc (suc (suc (suc (suc (suc (suc cpu)))))))) low = absurd (omega arith)

-- the name of an event of a block
abbrev pub event_name : ℕ → List ℕ
event_name zero = codes "preempt_enable"
event_name (suc zero) = codes "preempt_disable"
event_name (suc (suc zero)) = codes "sched_waking"
event_name (suc (suc (suc zero))) = codes "preempt_enable"
event_name (suc (suc (suc (suc zero)))) = codes "sched_waking"
event_name (suc (suc (suc (suc (suc zero))))) = codes "sched_switch"
event_name (suc (suc (suc (suc (suc (suc zero)))))) = codes "sched_wakeup"
event_name (suc (suc (suc (suc (suc (suc (suc e))))))) = codes "sched_switch"

-- its fields, behind their blank
abbrev pub event_more : {cpu : ℕ} → HasDigits cpu → ℕ → List ℕ
event_more has zero = codes "caller=a parent=b"
event_more has (suc zero) = codes "caller=a parent=b"
event_more has (suc (suc zero)) = woken_more has.ten has.one has.last
event_more has (suc (suc (suc zero))) = codes "caller=a parent=b"
event_more has (suc (suc (suc (suc zero)))) = woken_more has.ten has.one has.last
event_more has (suc (suc (suc (suc (suc zero))))) = switch_more 116 has.ten has.one 83 117 has.other
event_more has (suc (suc (suc (suc (suc (suc zero)))))) = woken_more has.ten has.one has.last
event_more has (suc (suc (suc (suc (suc (suc (suc e))))))) = switch_more 117 has.ten has.other 82 116 has.one

module _ (cpu : ℕ) (has : HasDigits cpu) where
  -- an event: its name, a colon, a blank, and its fields
  abbrev pub event_text : ℕ → List ℕ
  event_text e = event_name e ++ 58 ∷ 32 ∷ event_more has e

  -- these are the events of a block
  event-is : (e : ℕ) → e < 8 → slice_index_or (block_events cpu) e [] ≡ event_text e
  event-is zero low = refl
  event-is (suc zero) low = refl
  event-is (suc (suc zero)) low = rw (has.first, has.cpu_is) refl
  event-is (suc (suc (suc zero))) low = refl
  event-is (suc (suc (suc (suc zero)))) low = rw (has.first, has.cpu_is) refl
  event-is (suc (suc (suc (suc (suc zero))))) low = rw (has.first, has.second) refl
  event-is (suc (suc (suc (suc (suc (suc zero)))))) low = rw (has.first, has.cpu_is) refl
  event-is (suc (suc (suc (suc (suc (suc (suc zero))))))) low = rw (has.first, has.second) refl
  event-is (suc (suc (suc (suc (suc (suc (suc (suc e)))))))) low = absurd (omega arith)

  -- no line end stands in them
  event-clean : (e : ℕ) → has_line_end (event_text e) ≡ false
  event-clean zero = refl
  event-clean (suc zero) = refl
  event-clean (suc (suc zero)) = rw (has.ten_is.no_end, has.one_is.no_end, has.last_is.no_end) refl
  event-clean (suc (suc (suc zero))) = refl
  event-clean (suc (suc (suc (suc zero)))) = rw (has.ten_is.no_end, has.one_is.no_end, has.last_is.no_end) refl
  event-clean (suc (suc (suc (suc (suc zero))))) = rw (has.ten_is.no_end, has.one_is.no_end, has.other_is.no_end) refl
  event-clean (suc (suc (suc (suc (suc (suc zero)))))) = rw (has.ten_is.no_end, has.one_is.no_end, has.last_is.no_end) refl
  event-clean (suc (suc (suc (suc (suc (suc (suc e))))))) = rw (has.ten_is.no_end, has.other_is.no_end, has.one_is.no_end) refl

  -- the bytes of a line with this number and this event
  abbrev pub line_bytes : ℕ → ℕ → List ℕ
  line_bytes i e = line_text has.ten has.one has.last (digit i 100000) (digit i 10000) (digit i 1000) (digit i 100) (digit i 10) (digit i 1) (event_text e)

  -- none of them is a line end
  pub line-clean : (i e : ℕ) → has_line_end (line_bytes i e) ≡ false
  line-clean i e = rw (has.ten_is.no_end, has.one_is.no_end, has.last_is.no_end, (weight-is i 100000).no_end, (weight-is i 10000).no_end, (weight-is i 1000).no_end, (weight-is i 100).no_end, (weight-is i 10).no_end, (weight-is i 1).no_end, event-clean e) refl

-- so a line of the trace are these bytes, and a line end
pub line-is : (i : ℕ) (has : HasDigits (i % 8)) → generated_line i ≡ line_bytes (i % 8) has i (i / 8 % 8) ++ 10 ∷ []
line-is i has =
    let low : i / 8 % 8 < 8 = omega arith in
    let event = event-is (i % 8) has (i / 8 % 8) low in
    rw (event, has.first, has.cpu_is) refl
