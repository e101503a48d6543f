-- The lines of a trace are numbered upwards.
use Rattle.std.proofs.Common.{◌≡◌, ℕ, ◌+◌, ◌-◌, ◌<◌, ◌≤◌, Bool, true, false, ◌||◌, List, [], ◌∷◌, length, refl, sym, ap, ◌∙◌, subst, arith}
use Rattle.std.specs.Prelude.{All, AllPairs, Option, Some, None, Result, Ok, Err, nat_lt, if◌then◌else◌, option_to_list}
use Rattle.std.specs.Option.{ok_or}
use Rattle.std.proofs.lemmas.List.Elements.{All-nil, All-cons, All-weaker}
use Rattle.std.proofs.lemmas.List.Kept.{AllPairs-cons}
use Rattle.rv_text.specs.declared.refusals.Refusal.{Refusal}
use Rattle.rv_text.specs.declared.numbers.TheConstants.{TOO_LONG, TRACE_SYNTAX, LOST_EVENTS, TOO_MANY_CPUS}
use Rattle.rv_text.specs.Readings.{and_then, refused_at, onto}
use Rattle.rv_text.specs.TextLines.{line_here, next_number, lines_at, lines_from, lines_of, select, is_line_start}
use Rattle.rv_trace.specs.declared.parts.Parts.{Parts}
use Rattle.rv_trace.specs.declared.line.TraceLine.{TraceLine}
use Rattle.rv_trace.specs.declared.trace.TheConstants.{MAX_LINES, MAX_BYTES}
use Rattle.rv_trace.specs.Lines.{is_skipped, is_lost, parts_of, head_pid, cpu_of, line_with, said, line_of}
use Rattle.rv_trace.specs.Traces.{reading_of, all_read, trace_of}

-- a line that is read has its number
said_number : (text : List ℕ) (from number : ℕ) (parts : Parts) (line : TraceLine) → said text from number parts ≡ Ok line → line.number ≡ number
unfolding said
said_number text from number parts line e = go (head_pid text parts.head) (cpu_of text parts.head) e
  where
    go : (pid cpu : Option ℕ)
        → and_then (ok_or pid (record { number = TRACE_SYNTAX; line = number })) (λ pid. and_then (ok_or cpu (record { number = TOO_MANY_CPUS; line = number })) (λ cpu. Ok (line_with text from number parts.name pid cpu))) ≡ Ok line → line.number ≡ number
    go None cpu e = cc
    go (Some pid) None e = cc
    go (Some pid) (Some cpu) e = let same : line_with text from number parts.name pid cpu ≡ line = cc in sym (ap (λ (l : TraceLine). l.number) same)

-- a line that is neither skipped nor refused has its number
line_number : (text : List ℕ) (from number : ℕ) (line : TraceLine) → line_of text from number ≡ Ok (Some line) → line.number ≡ number
unfolding line_of
line_number text from number line e = go (is_skipped text) (is_lost text) (parts_of text) e
  where
    read : (parts : Parts) (r : Result TraceLine Refusal) → said text from number parts ≡ r → and_then r (λ line. Ok (Some line)) ≡ Ok (Some line) → line.number ≡ number
    read parts (Ok l) is e = let same : l ≡ line = cc in said_number text from number parts line (is ∙ ap (λ (k : TraceLine). Ok k) same)
    read parts (Err refusal) is e = cc

    go : (skipped lost : Bool) (parts : Option Parts)
        → (if skipped then Ok None else if lost then refused_at LOST_EVENTS number else and_then (ok_or parts (record { number = TRACE_SYNTAX; line = number })) (λ parts. and_then (said text from number parts) (λ line. Ok (Some line)))) ≡ Ok (Some line) → line.number ≡ number
    go true lost parts e = cc
    go false true parts e = cc
    go false false None e = cc
    go false false (Some parts) e = read parts (said text from number parts) refl e

-- numbered upwards, from this number on
record Up (n : ℕ) (lines : List TraceLine) : Type 0 where
  low : All (λ (l : TraceLine). n ≤ l.number) lines
  ascend : AllPairs (λ (l m : TraceLine). l.number < m.number) lines

-- an empty list of lines is numbered upwards, from any number on
up_nil : (n : ℕ) → Up n []
up_nil n = record { low = All-nil (λ (l : TraceLine). n ≤ l.number); ascend = λ i j d lt within. absurd (omega arith) }

-- lines numbered upwards from the next number on are so from this one on
up_lower : (n : ℕ) (lines : List TraceLine) → Up (n + 1) lines → Up n lines
up_lower n lines up = record { low = All-weaker (λ (l : TraceLine). n + 1 ≤ l.number) (λ (l : TraceLine). n ≤ l.number) (λ l le. omega arith) lines up.low; ascend = up.ascend }

-- with a line of this number in front, they are so from this number on
up_cons : (n : ℕ) (line : TraceLine) (lines : List TraceLine) → line.number ≡ n → Up (n + 1) lines → Up n (line ∷ lines)
up_cons n line lines is up = record {
  low = All-cons (λ (l : TraceLine). n ≤ l.number) line lines (omega arith) (up_lower n lines up).low;
  ascend = AllPairs-cons (λ (l m : TraceLine). l.number < m.number) line lines (All-weaker (λ (l : TraceLine). n + 1 ≤ l.number) (λ (l : TraceLine). line.number < l.number) (λ l le. omega arith) lines up.low) up.ascend;
}

-- behind a number that a line may have, the next one is one more
next_is : (n : ℕ) → n ≤ MAX_LINES → next_number n ≡ n + 1
next_is n le = let few : nat_lt n 4294967295 ≡ true = grind arith in rw few refl

module _ (text : List ℕ) where
  -- the lines that are read at some places are numbered upwards from the first one's number on
  read_up : (n : ℕ) (places : List ℕ) (lines : List TraceLine) → all_read (lines_at text n places) ≡ Ok lines → Up n lines
  unfolding all_read lines_at reading_of
  read_up n [] lines e = let none : [] ≡ lines = cc in subst (Up n) none (up_nil n)
  read_up n (place ∷ places) lines e =
      go (nat_lt MAX_LINES n) refl (nat_lt MAX_BYTES (line_here text n place).end) (λ few more h. subst (λ k. (xs : List TraceLine) → all_read (lines_at text k places) ≡ Ok xs → Up k xs) (next_is n few) (read_up (next_number n) places) more h) e
    where
      rest : Result (List TraceLine) Refusal
      rest = all_read (lines_at text (next_number n) places)

      later : (r : Option TraceLine) (more : Result (List TraceLine) Refusal) → ((l : TraceLine) → r ≡ Some l → l.number ≡ n) → ((xs : List TraceLine) → more ≡ Ok xs → Up (n + 1) xs) → onto (option_to_list r) more ≡ Ok lines → Up n lines
      later r (Err refusal) number up e = cc
      later None (Ok xs) number up e = let same : xs ≡ lines = cc in subst (Up n) same (up_lower n xs (up xs refl))
      later (Some l) (Ok xs) number up e = let same : l ∷ xs ≡ lines = cc in subst (Up n) same (up_cons n l xs (number l refl) (up xs refl))

      line : (r : Result (Option TraceLine) Refusal) → line_of (line_here text n place).bytes place n ≡ r → ((xs : List TraceLine) → all_read (lines_at text (next_number n) places) ≡ Ok xs → Up (n + 1) xs)
          → and_then r (λ read. onto (option_to_list read) (all_read (lines_at text (next_number n) places))) ≡ Ok lines → Up n lines
      line (Err refusal) is up e = cc
      line (Ok r) is up e = later r (all_read (lines_at text (next_number n) places)) (λ l some. line_number (line_here text n place).bytes place n l (is ∙ ap (λ (o : Option TraceLine). Ok o) some)) up e

      go : (many : Bool) → nat_lt MAX_LINES n ≡ many → (late : Bool) → (n ≤ MAX_LINES → (xs : List TraceLine) → all_read (lines_at text (n + 1) places) ≡ Ok xs → Up (n + 1) xs)
          → and_then (if many || late then refused_at TOO_LONG n else line_of (line_here text n place).bytes place n) (λ read. onto (option_to_list read) (all_read (lines_at text (next_number n) places))) ≡ Ok lines → Up n lines
      go true is late up e = cc
      go false is true up e = cc
      go false is false up e =
          let few : n ≤ MAX_LINES = grind arith in
          line (line_of (line_here text n place).bytes place n) refl (subst (λ k. (xs : List TraceLine) → all_read (lines_at text k places) ≡ Ok xs → Up (n + 1) xs) (sym (next_is n few)) (up few)) e

-- a trace's lines are numbered upwards
pub trace_ascends : (text : List ℕ) (lines : List TraceLine) → trace_of text ≡ Ok lines → AllPairs (λ (l m : TraceLine). l.number < m.number) lines
unfolding trace_of lines_of lines_from
trace_ascends text lines e = (read_up text 1 (select (is_line_start text) 0 (length text - 0)) lines e).ascend
