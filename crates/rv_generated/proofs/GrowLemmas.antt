-- The generated trace, line by line: each line that comes is read behind those before it.
use Rattle.std.proofs.Common.{◌≡◌, ◌≢◌, ℕ, zero, suc, ◌+◌, ◌-◌, ◌*◌, ◌/◌, ◌%◌, ◌<◌, ◌≤◌, Bool, true, false, cond, ◌||◌, ◌&&◌, eqb, List, [], ◌∷◌, ◌++◌, length, get_or, flat_map, Option, Some, None, Result, Ok, Err, refl, sym, ◌∙◌, ap, ap₂, subst, arith, append_assoc, length-append}
use Rattle.std.proofs.lemmas.Bool.{false≢true, and_parts, or_parts, le-ltb, eq-eqb}
use Rattle.std.proofs.lemmas.List.{flat_map_more}
use Rattle.rv_text.specs.Places.{has_class}
use Rattle.rv_text.specs.Readings.{and_then, onto, refused_at}
use Rattle.rv_text.specs.TextLines.{lines_of, next_number}
use Rattle.rv_text.specs.declared.numbers.TheConstants.{TOO_LONG}
use Rattle.rv_text.specs.declared.runs.ByteClass.TheVariants as kinds
use Rattle.rv_model.specs.Numbers.{list_of}
use Rattle.rv_trace.specs.declared.line.TraceLine.{TraceLine}
use Rattle.rv_trace.specs.declared.trace.TheConstants.{MAX_LINES, MAX_BYTES}
use Rattle.rv_trace.specs.Lines.{line_of, moved, moved_line}
use Rattle.rv_trace.specs.Streams.{has_line_end, StandsAt}
use Rattle.rv_trace.specs.Traces.{reading_of, all_read, trace_of}
use Rattle.rv_trace.proofs.MoveLemmas.{line_of-moved}
use Rattle.rv_trace.proofs.StreamLemmas.{NoEnd, line_before, lines-only, begins-end, stands-next}
use Rattle.rv_trace.proofs.TakenLemmas.{all_read-append}
use Rattle.rv_trace.proofs.TraceLemmas.{all_read-ok}
use Rattle.rv_gen.specs.Generated.{generated_line}
use Rattle.rv_generated.proofs.SaidLemmas.{Says, IsName, says}
use Rattle.rv_generated.proofs.TextLemmas.{HasDigits, weight-is, event_name, event_more, line_bytes}

-- where no line end is found, none stands
pub no-end : (bytes : List ℕ) → has_line_end bytes ≡ false → NoEnd bytes
no-end [] none k h is = absurd (omega arith)
no-end (byte ∷ bytes) none zero h is = false≢true (sym (or_parts _ _ none).0 ∙ eq-eqb byte 10 is)
no-end (byte ∷ bytes) none (suc k) h is = no-end bytes (or_parts _ _ none).1 k (omega arith) is

module _ (done bytes : List ℕ) (number : ℕ) (stands : StandsAt done number) (none : NoEnd bytes) (few : number ≤ MAX_LINES) where
  -- what was read, with one line more
  abbrev pub more : List ℕ
  more = done ++ (bytes ++ 10 ∷ [])

  -- lines can be read on behind it
  pub stands-more : StandsAt more (number + 1)
  stands-more =
      let later : next_number number ≡ number + 1 = grind arith in
      subst (StandsAt more) later (stands-next done bytes number stands none)

  module _ (short : length more ≤ MAX_BYTES) (line : TraceLine) (says : line_of bytes 0 number ≡ Ok (Some line)) where
    -- what the line says in its place
    says-there : reading_of (line_before done bytes (10 ∷ []) number) ≡ Ok (Some (moved_line (length done) line))
    unfolding reading_of
    says-there =
        let size = length-append done (bytes ++ 10 ∷ []) in
        let own = length-append bytes (10 ∷ []) in
        let low = le-ltb MAX_LINES number few in
        let near = le-ltb MAX_BYTES (length done + Rattle.std.proofs.Common.min (length bytes + 1) (length bytes + 1)) (omega arith) in
        ap₂ (λ a b. cond (a || b) (refused_at TOO_LONG number) (line_of bytes (length done) number)) low near
        ∙ line_of-moved bytes (length done) number
        ∙ ap (moved (length done)) says

    -- it is read behind the lines before it
    pub read-more : (lines : List TraceLine) → trace_of done ≡ Ok lines → trace_of more ≡ Ok (lines ++ moved_line (length done) line ∷ [])
    unfolding trace_of all_read
    read-more lines is =
        ap all_read (lines-only done bytes (10 ∷ []) number none (begins-end []) stands (omega arith) (omega arith))
        ∙ all_read-append (lines_of done) (line_before done bytes (10 ∷ []) number ∷ [])
        ∙ ap (λ read. and_then read (λ first. onto first (all_read (line_before done bytes (10 ∷ []) number ∷ [])))) is
        ∙ ap (onto lines) (all_read-ok (line_before done bytes (10 ∷ []) number) [] (Some (moved_line (length done) line)) says-there)

-- the first lines of the trace
abbrev pub first_lines : ℕ → List ℕ
first_lines k = flat_map generated_line (list_of (λ i. i) k)

-- one more
pub lines-grow : (k : ℕ) → first_lines (suc k) ≡ first_lines k ++ generated_line k
unfolding list_of
lines-grow k = sym (flat_map_more generated_line [] (list_of (λ i. i) k) k)

-- no blank is among the bytes
abbrev are_words : List ℕ → Bool
are_words [] = true
are_words (byte ∷ bytes) = has_class kinds.Word byte && are_words bytes

-- so none is at any place
each-word : (bytes : List ℕ) → are_words bytes ≡ true → (k : ℕ) → k < length bytes → has_class kinds.Word (get_or bytes k 0) ≡ true
each-word [] all k h = absurd (omega arith)
each-word (byte ∷ bytes) all zero h = (and_parts _ _ all).0
each-word (byte ∷ bytes) all (suc k) h = each-word bytes (and_parts _ _ all).1 k (omega arith)

-- these bytes are a name
name-is : (name : List ℕ) → 0 < length name → has_class kinds.Blank (get_or name 0 0) ≡ false → are_words name ≡ true → IsName name
name-is name some first all = record { some = some; first = first; each = each-word name all }

-- the events' names are names
names-are : (e : ℕ) → IsName (event_name e)
names-are zero = name-is (event_name 0) (omega arith) refl refl
names-are (suc zero) = name-is (event_name 1) (omega arith) refl refl
names-are (suc (suc zero)) = name-is (event_name 2) (omega arith) refl refl
names-are (suc (suc (suc zero))) = name-is (event_name 3) (omega arith) refl refl
names-are (suc (suc (suc (suc zero)))) = name-is (event_name 4) (omega arith) refl refl
names-are (suc (suc (suc (suc (suc zero))))) = name-is (event_name 5) (omega arith) refl refl
names-are (suc (suc (suc (suc (suc (suc zero)))))) = name-is (event_name 6) (omega arith) refl refl
names-are (suc (suc (suc (suc (suc (suc (suc e))))))) = name-is (event_name 7) (omega arith) refl refl

-- what a line of the trace says by itself
pub line-says : (i cpu e number : ℕ) (has : HasDigits cpu) → Says (line_bytes cpu has i e) number (has.last - 48) (event_name e) (32 ∷ event_more has e)
line-says i cpu e number has =
    says has.ten has.one has.last _ _ _ _ _ _ (event_name e) (event_more has e) (names-are e) has.ten_is.digit has.one_is.digit has.last_is.digit
    (weight-is i 100000).digit (weight-is i 10000).digit (weight-is i 1000).digit (weight-is i 100).digit (weight-is i 10).digit (weight-is i 1).digit number
