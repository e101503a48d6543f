-- The pieces of a line that was read lie in its text.
use Rattle.std.proofs.Common.{◌≡◌, ℕ, ◌+◌, ◌-◌, ◌<◌, ◌≤◌, inl, inr, Bool, true, false, ◌&&◌, cond, eqb, ltb, leb, List, length, get_or, Option, Some, None, Result, Ok, Err, refl, sym, ◌∙◌, ap, subst, arith}
use Rattle.std.proofs.lemmas.Bool.{and_parts, ltb-true, leb-true}
use Rattle.std.specs.Option.{ok_or}
use Rattle.rv_text.specs.Places.{run_end, between}
use Rattle.rv_text.specs.Decimal.{number_of}
use Rattle.rv_text.specs.Readings.{and_then}
use Rattle.rv_text.specs.declared.numbers.TheConstants.{TRACE_SYNTAX, TOO_MANY_CPUS}
use Rattle.rv_text.specs.declared.refusals.Refusal.{Refusal}
use Rattle.rv_text.specs.declared.runs.ByteClass.TheVariants as kinds
use Rattle.rv_text.proofs.LeastLemmas.{run_end-low, run_end-high}
use Rattle.rv_text.proofs.ReadingLaws.{bind_some, map_some, and_then_ok, chosen}
use Rattle.rv_trace.specs.declared.head.Head.{Head}
use Rattle.rv_trace.specs.declared.parts.LinePart.{LinePart}
use Rattle.rv_trace.specs.declared.parts.Parts.{Parts}
use Rattle.rv_trace.specs.declared.line.TraceLine.{TraceLine}
use Rattle.rv_trace.specs.declared.line.TheConstants.{LAST_CPU}
use Rattle.rv_trace.specs.Heads.{IsHead, head_of}
use Rattle.rv_trace.specs.Lines.{word_at, is_stamp, stamp_end, event_part, parts_of, is_skipped, is_lost, number_up_to, head_pid, cpu_of, line_with, said, line_of, LiesIn}
use Rattle.rv_trace.proofs.HeadLemmas.{head-inside}
use Rattle.rv_trace.proofs.PlaceLemmas.{first_or_none}

-- something is one thing, and is not nothing
one_thing : {X : Type 0} (x y : X) → Some x ≡ Some y → x ≡ y
one_thing x y is = cc

-- what is nothing is not something
not_none : {X : Type 0} (x : X) → None ≡ Some x → ⊥
not_none x is = cc

-- a test that gave something passed
picked : {X : Type 0} (b : Bool) (x y : X) → cond b (Some x) None ≡ Some y → (b ≡ true) × (x ≡ y)
picked true x y is = (refl, cc)
picked false x y is = absurd (cc)

-- a value is one value, and neither nothing nor a refusal
ok_one : {X : Type 0} (x y : X) → ◌≡◌ {A = Result X Refusal} (Ok x) (Ok y) → x ≡ y
ok_one x y is = cc

-- what is skipped is no line
skipped_none : (line : TraceLine) → ◌≡◌ {A = Result (Option TraceLine) Refusal} (Ok None) (Ok (Some line)) → ⊥
skipped_none line is = cc

-- what is refused is no line
pub refused_none : (refusal : Refusal) (line : TraceLine) → ◌≡◌ {A = Result (Option TraceLine) Refusal} (Err refusal) (Ok (Some line)) → ⊥
refused_none refusal line is = cc

-- what was not refused was there
ok_or_some : {X : Type 0} (o : Option X) (refusal : Refusal) (x : X) → ok_or o refusal ≡ Ok x → o ≡ Some x
ok_or_some None refusal x is = absurd (cc)
ok_or_some (Some y) refusal x is = cc

-- the head of a text is one by its places
head_of-is : (text : List ℕ) (head : Head) → head_of text ≡ Some head → IsHead text head
head_of-is text head is =
    elim (first_or_none text) [
      | inl found ↦ subst (λ (h : Head). IsHead text h) (one_thing found.0 head (sym found.1.0 ∙ is)) found.1.1.stands
      | inr none ↦ absurd (not_none head (sym none.0 ∙ is))
    ]

-- a word lies from its place on
record Within (text : List ℕ) (place : ℕ) (word : LinePart) : Type 0 where
  low : place ≤ word.from
  order : word.from ≤ word.to
  high : word.to ≤ length text

-- the first word from a place on lies behind the place and in the text
word_at-within : (text : List ℕ) (place : ℕ) → place ≤ length text → Within text place (word_at text place)
unfolding word_at
word_at-within text place inside =
    let from : run_end kinds.Blank text place ≤ length text = run_end-high kinds.Blank text place inside in
    record {
      low = run_end-low kinds.Blank text place;
      order = run_end-low kinds.Word text (run_end kinds.Blank text place);
      high = run_end-high kinds.Word text (run_end kinds.Blank text place) from;
    }

-- a timestamp ends within the text
stamp_end-high : (text : List ℕ) (place end : ℕ) → place ≤ length text → stamp_end text place ≡ Some end → end ≤ length text
unfolding stamp_end
stamp_end-high text place end inside is =
    let first : Within text place (word_at text place) = word_at-within text place inside in
    let second : Within text (word_at text place).to (word_at text (word_at text place).to) = word_at-within text (word_at text place).to first.high in
    elim (chosen (is_stamp text (word_at text place)) _ _ _ is) [
      | inl here ↦ subst (λ (n : ℕ). n ≤ length text) (one_thing _ _ here.1) first.high
      | inr later ↦ elim (chosen (is_stamp text (word_at text (word_at text place).to)) _ _ _ later.1) [
        | inl next ↦ subst (λ (n : ℕ). n ≤ length text) (one_thing _ _ next.1) second.high
        | inr none ↦ absurd (not_none end none.1)
      ]
    ]

-- the name of an event lies within the text, before its colon
event_part-within : (text : List ℕ) (place : ℕ) (name : LinePart) → place ≤ length text → event_part text place ≡ Some name → (name.from ≤ name.to) × (name.to < length text)
unfolding event_part
event_part-within text place name inside is =
    let word : Within text place (word_at text place) = word_at-within text place inside in
    let whole : LinePart = record { from = (word_at text place).from; to = (word_at text place).to - 1 } in
    let here = picked (ltb ((word_at text place).from + 1) (word_at text place).to && eqb (get_or text ((word_at text place).to - 1) 0) 58) whole name is in
    let some : (word_at text place).from + 1 < (word_at text place).to = ltb-true _ _ (and_parts _ _ here.0).0 in
    subst (λ (n : LinePart). (n.from ≤ n.to) × (n.to < length text)) here.1 (omega arith, omega (arith, word.high))

-- the parts of a line lie in it
parts_of-within : (text : List ℕ) (parts : Parts) → parts_of text ≡ Some parts → (parts.name.from ≤ parts.name.to) × (parts.name.to < length text)
unfolding parts_of
parts_of-within text parts is =
    let head = bind_some _ _ parts is in
    let place = bind_some _ _ parts head.2 in
    let name = map_some _ _ parts place.2 in
    subst (λ (p : Parts). (p.name.from ≤ p.name.to) × (p.name.to < length text)) name.2
    (event_part-within text place.0 name.0 (stamp_end-high text (head.0.close + 2) place.0 (head-inside text head.0 (head_of-is text head.0 head.1)) place.1) name.1)

-- a number up to a limit is no larger
up_to-fits : (digits : List ℕ) (limit n : ℕ) → number_up_to digits limit ≡ Some n → n ≤ limit
unfolding number_up_to
up_to-fits digits limit n is =
    let fits = picked (leb (number_of digits) limit) (number_of digits) n is in
    subst (λ (k : ℕ). k ≤ limit) fits.1 (leb-true _ _ fits.0)

-- what the parts say lies in a text that has the line in it
said-lies : (whole text : List ℕ) (from number : ℕ) (parts : Parts) (line : TraceLine) → from + length text ≤ length whole → parts.name.from ≤ parts.name.to → parts.name.to < length text → said text from number parts ≡ Ok line → LiesIn whole line
unfolding said
said-lies whole text from number parts line inside order high is =
    let pid = and_then_ok (ok_or (head_pid text parts.head) (record { number = TRACE_SYNTAX; line = number })) (λ pid. and_then (ok_or (cpu_of text parts.head) (record { number = TOO_MANY_CPUS; line = number })) (λ cpu. Ok (line_with text from number parts.name pid cpu))) line is in
    let cpu = and_then_ok (ok_or (cpu_of text parts.head) (record { number = TOO_MANY_CPUS; line = number })) (λ cpu. Ok (line_with text from number parts.name pid.0 cpu)) line pid.2 in
    subst (λ (l : TraceLine). LiesIn whole l) (ok_one (line_with text from number parts.name pid.0 cpu.0) line cpu.2) (record {
      cpu = up_to-fits (between text (parts.head.bracket + 1) parts.head.close) LAST_CPU cpu.0 (ok_or_some (cpu_of text parts.head) (record { number = TOO_MANY_CPUS; line = number }) cpu.0 cpu.1);
      name = omega arith;
      name_end = omega arith;
      fields = omega arith;
      fields_end = inside;
    })

-- a line that was read lies in the text
pub line_of-lies : (whole text : List ℕ) (from number : ℕ) (line : TraceLine) → from + length text ≤ length whole → line_of text from number ≡ Ok (Some line) → LiesIn whole line
unfolding line_of
line_of-lies whole text from number line inside is =
    elim (chosen (is_skipped text) _ _ _ is) [
      | inl skipped ↦ absurd (skipped_none line skipped.1)
      | inr kept ↦ elim (chosen (is_lost text) _ _ _ kept.1) [
        | inl lost ↦ absurd (refused_none _ line lost.1)
        | inr whole_line ↦ (
            let parts = and_then_ok _ _ (Some line) whole_line.1 in
            let read = and_then_ok _ _ (Some line) parts.2 in
            let within = parts_of-within text parts.0 (ok_or_some _ _ parts.0 parts.1) in
            said-lies whole text from number parts.0 line inside within.0 within.1 (read.1 ∙ ap Ok (one_thing _ line (ok_one _ _ read.2))))
      ]
    ]
