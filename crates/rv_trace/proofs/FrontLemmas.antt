-- A text up to its last line end, and what of a refusal stays, whatever follows.
use Rattle.std.proofs.Common.{◌≡◌, ◌≢◌, ℕ, ◌+◌, ◌-◌, ◌<◌, ◌≤◌, inl, inr, true, false, eqb, ltb, min, List, [], ◌∷◌, ◌++◌, length, get_or, Result, Ok, Err, refl, sym, ◌∙◌, ap, subst, arith, append_assoc, append-nil, length-append}
use Rattle.std.proofs.lemmas.Bool.{cases_lt, eqb-true, eqb-false, or_right, lt-ltb, ltb-true}
use Rattle.std.proofs.lemmas.List.{get_or_append_left, get_or-append-add}
use Rattle.std.specs.Prelude.{option_to_list}
use Rattle.rv_text.specs.TextLines.{LineText, line_end, line_here, lines_from, lines_of, next_number}
use Rattle.rv_text.specs.Readings.{and_then, refused_at, onto}
use Rattle.rv_text.specs.declared.numbers.TheConstants.{TOO_LONG}
use Rattle.rv_text.specs.declared.refusals.Refusal.{Refusal}
use Rattle.rv_text.proofs.TextLineLemmas.{line_end-low, line_end-byte, lines_from-next}
use Rattle.rv_text.proofs.ReadingLaws.{chosen-true}
use Rattle.rv_trace.specs.declared.line.TraceLine.{TraceLine}
use Rattle.rv_trace.specs.declared.trace.TheConstants.{MAX_LINES, MAX_BYTES}
use Rattle.rv_trace.specs.Lines.{line_of}
use Rattle.rv_trace.specs.Traces.{is_too_long, reading_of, all_read, trace_of}
use Rattle.rv_trace.specs.Streams.{ended_front, is_whole, part_read, StandsAt}
use Rattle.rv_trace.proofs.StreamLemmas.{NoEnd, ended_front-none, ended_front-on, behind_line, choice, stands-first, stands-next}
use Rattle.rv_trace.proofs.TakenLemmas.{all_read-append}

-- one more byte that is no line end
more-none : (bytes : List ℕ) (byte : ℕ) → NoEnd bytes → byte ≢ 10 → NoEnd (bytes ++ byte ∷ [])
more-none bytes byte none other k h is =
    elim (cases_lt k (length bytes)) [
      | inl inside ↦ none k inside (sym (get_or_append_left bytes (byte ∷ []) 0 k inside) ∙ is)
      | inr past ↦ (
          let last : length bytes + 0 ≡ k = omega (arith, length-append bytes (byte ∷ [])) in
          other (sym (get_or-append-add bytes (byte ∷ []) 0 0) ∙ ap (λ n. get_or (bytes ++ byte ∷ []) n 0) last ∙ is))
    ]

-- a text behind what was passed: its ended front, from whose end lines can be read on, and a rest with no line end
record Pieces (done text : List ℕ) : Type 0 where
  front : List ℕ
  rest : List ℕ
  number : ℕ
  is : text ≡ front ++ rest
  ended : ended_front text ≡ front
  stands : StandsAt (done ++ front) number
  none : NoEnd rest

-- behind what was passed, bytes without a line end and any text after them have such pieces
pieces-from : (tail done bytes : List ℕ) (number : ℕ) → StandsAt done number → NoEnd bytes → Pieces done (bytes ++ tail)
pieces-from [] done bytes number stands none =
    subst (λ (text : List ℕ). Pieces done text) (sym (append-nil bytes)) (record {
      front = [];
      rest = bytes;
      number = number;
      is = refl;
      ended = ended_front-none bytes none;
      stands = subst (λ (text : List ℕ). StandsAt text number) (sym (append-nil done)) stands;
      none = none;
    })
pieces-from (byte ∷ tail) done bytes number stands none =
    elim (eqb byte 10) as (λ b. eqb byte 10 ≡ b → Pieces done (bytes ++ byte ∷ tail)) [
      | true ↦ (λ is_end.
          let later = pieces-from tail (done ++ (bytes ++ 10 ∷ [])) [] (next_number number) (stands-next done bytes number stands none) (λ k h. absurd (omega arith)) in
          subst (λ (b : ℕ). Pieces done (bytes ++ b ∷ tail)) (sym (eqb-true byte 10 is_end)) (record {
            front = bytes ++ 10 ∷ later.front;
            rest = later.rest;
            number = later.number;
            is = ap (λ text. bytes ++ 10 ∷ text) later.is ∙ sym (append_assoc bytes (10 ∷ later.front) later.rest);
            ended = ended_front-on bytes tail ∙ ap (λ text. bytes ++ 10 ∷ text) later.ended;
            stands = subst (λ (text : List ℕ). StandsAt text later.number) (behind_line done bytes later.front) later.stands;
            none = later.none;
          }))
      | false ↦ (λ other.
          subst (λ (text : List ℕ). Pieces done text) (append_assoc bytes (byte ∷ []) tail)
          (pieces-from tail done (bytes ++ byte ∷ []) number stands (more-none bytes byte none (eqb-false byte 10 other))))
    ] refl

-- the pieces of a whole text
pieces : (text : List ℕ) → Pieces [] text
pieces text = pieces-from text [] [] 1 stands-first (λ k h. absurd (omega arith))

-- the lines of a front that are refused, whatever lines follow
lines-refused : (front text : List ℕ) (later : List LineText) (refusal : Refusal) → lines_of text ≡ lines_of front ++ later → trace_of front ≡ Err refusal → trace_of text ≡ Err refusal
unfolding trace_of
lines-refused front text later refusal are is =
    ap all_read are ∙ all_read-append (lines_of front) later ∙ ap (λ read. and_then read (λ lines. onto lines (all_read later))) is

-- what is refused up to the last line end is refused, whatever follows
pub front-refused : (fed more : List ℕ) (refusal : Refusal) → trace_of (ended_front fed) ≡ Err refusal → trace_of (fed ++ more) ≡ Err refusal
front-refused fed more refusal is =
    let part = pieces fed in
    let whole : fed ++ more ≡ part.front ++ (part.rest ++ more) = ap (λ text. text ++ more) part.is ∙ append_assoc part.front part.rest more in
    lines-refused part.front (fed ++ more) (lines_from (part.front ++ (part.rest ++ more)) part.number (length part.front)) refusal
    (ap lines_of whole ∙ part.stands.splits (part.rest ++ more)) (ap trace_of (sym part.ended) ∙ is)

-- a line that ends too late is refused
late-refused : (line : LineText) (later : List LineText) → MAX_BYTES < line.end → all_read (line ∷ later) ≡ refused_at TOO_LONG line.number
unfolding all_read reading_of
late-refused line later past =
    ap (λ read. and_then read (λ r. onto (option_to_list r) (all_read later)))
    (chosen-true (is_too_long line) (refused_at TOO_LONG line.number) (line_of line.bytes line.from line.number) (or_right (ltb MAX_LINES line.number) (ltb MAX_BYTES line.end) (lt-ltb _ _ past)))

module _ (front rest more : List ℕ) (number : ℕ) (stands : StandsAt front number) (none : NoEnd rest) (some : 0 < length rest) where
  -- the front, the rest, and what follows them
  abbrev pub text : List ℕ
  text = front ++ (rest ++ more)

  -- it is as long as the three together
  size : length text ≡ length front + (length rest + length more)
  size = length-append front (rest ++ more) ∙ ap (λ n. length front + n) (length-append rest more)

  -- the line behind the front has all of the rest
  rest-inside : length front + length rest ≤ min (line_end text (length front) + 1) (length text)
  rest-inside =
      let low : length front ≤ line_end text (length front) = line_end-low text (length front) in
      elim (cases_lt (line_end text (length front)) (length front + length rest)) [
        | inl early ↦ (
            let here : length front + (line_end text (length front) - length front) ≡ line_end text (length front) = omega arith in
            absurd (none (line_end text (length front) - length front) (omega arith)
            (sym (get_or_append_left rest more 0 (line_end text (length front) - length front) (omega arith))
            ∙ sym (get_or-append-add front (rest ++ more) (line_end text (length front) - length front) 0)
            ∙ ap (λ n. get_or text n 0) here
            ∙ line_end-byte text (length front) (omega (arith, size)) (omega (arith, size)))))
        | inr late ↦ omega (arith, size)
      ]

  -- so it is refused where the two are too long
  rest-late : MAX_BYTES < length front + length rest → all_read (lines_from text number (length front)) ≡ refused_at TOO_LONG number
  rest-late past =
      ap all_read (lines_from-next text number (length front) (omega (arith, size)) (stands.starts (rest ++ more) (omega (arith, length-append rest more))))
      ∙ late-refused (line_here text number (length front)) (lines_from text (next_number number) (min (line_end text (length front) + 1) (length text))) (omega (arith, rest-inside))

  -- and with it the text, where the front is read
  pub rest-refused : (lines : List TraceLine) → MAX_BYTES < length front + length rest → trace_of front ≡ Ok lines → trace_of text ≡ refused_at TOO_LONG number
  unfolding trace_of
  rest-refused lines past is =
      ap all_read (stands.splits (rest ++ more)) ∙ all_read-append (lines_of front) (lines_from text number (length front))
      ∙ ap (λ read. and_then read (λ first. onto first (all_read (lines_from text number (length front))))) is
      ∙ ap (onto lines) (rest-late past)

-- a refusal is no reading, and one refusal
ok_not : (refusal : Refusal) (lines : List TraceLine) → ◌≡◌ {A = Result (List TraceLine) Refusal} (Ok lines) (Err refusal) → ⊥
ok_not refusal lines is = cc

-- where the front was read, a refusal of a text that is too long stays
long-read : (front rest more : List ℕ) (number : ℕ) (refusal : Refusal) (lines : List TraceLine) → StandsAt front number → NoEnd rest → MAX_BYTES < length front + length rest
    → trace_of front ≡ Ok lines → trace_of (front ++ rest) ≡ Err refusal → trace_of (front ++ (rest ++ more)) ≡ Err refusal
long-read front [] more number refusal lines stands none past read is = absurd (ok_not refusal lines (sym read ∙ ap trace_of (sym (append-nil front)) ∙ is))
long-read front (byte ∷ rest) more number refusal lines stands none past read is =
    rest-refused front (byte ∷ rest) more number stands none (omega arith) lines past read
    ∙ sym (rest-refused front (byte ∷ rest) [] number stands none (omega arith) lines past read)
    ∙ ap (λ text. trace_of (front ++ text)) (append-nil (byte ∷ rest))
    ∙ is

-- what is refused of a text that is too long is refused, whatever follows
long-refused : (fed more : List ℕ) (refusal : Refusal) → MAX_BYTES < length fed → trace_of fed ≡ Err refusal → trace_of (fed ++ more) ≡ Err refusal
long-refused fed more refusal past is =
    let part = pieces fed in
    let whole : fed ++ more ≡ part.front ++ (part.rest ++ more) = ap (λ text. text ++ more) part.is ∙ append_assoc part.front part.rest more in
    let long : MAX_BYTES < length part.front + length part.rest = omega (arith, ap {B = ℕ} length part.is, length-append part.front part.rest) in
    elim (trace_of part.front) as (λ read. trace_of part.front ≡ read → trace_of (fed ++ more) ≡ Err refusal) [
      | Ok lines ↦ (λ read. ap trace_of whole ∙ long-read part.front part.rest more part.number refusal lines part.stands part.none long read (ap trace_of (sym part.is) ∙ is))
      | Err first ↦ (λ refused.
          let here : trace_of (fed ++ []) ≡ Err first = front-refused fed [] first (ap trace_of part.ended ∙ refused) in
          front-refused fed more first (ap trace_of part.ended ∙ refused) ∙ sym here ∙ ap trace_of (append-nil fed) ∙ is)
    ] refl

-- what is refused of what is read of a stream is refused, whatever follows
pub read-refused : (fed more : List ℕ) (refusal : Refusal) → trace_of (part_read false fed) ≡ Err refusal → trace_of (fed ++ more) ≡ Err refusal
read-refused fed more refusal is =
    elim (choice (is_whole false fed) fed (ended_front fed)) [
      | inl all ↦ long-refused fed more refusal (ltb-true MAX_BYTES (length fed) all.0) (ap trace_of (sym all.1) ∙ is)
      | inr front ↦ front-refused fed more refusal (ap trace_of (sym front.1) ∙ is)
    ]
