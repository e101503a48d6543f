-- What a line of the generated trace says: its number, its CPU, its event and its fields.
use Rattle.std.proofs.Common.{◌≡◌, ℕ, ◌+◌, ◌-◌, ◌*◌, ◌<◌, ◌≤◌, inl, inr, true, false, cond, eqb, ◌||◌, List, [], ◌∷◌, ◌++◌, length, get_or, take, drop, Some, None, Ok, refl, sym, ◌∙◌, ap, ap₂, arith, append_assoc}
use Rattle.std.proofs.lemmas.Bool.{and_from, lt-ltb, le-leb, eq-eqb, ne_eqb, cases_lt}
use Rattle.std.proofs.lemmas.List.{get_or_append_left, get_or-append-add, drop_at, take_at, take_all, length-append}
use Rattle.rv_text.specs.Places.{is_digit, has_class, run_end, between}
use Rattle.rv_text.specs.Decimal.{number_of}
use Rattle.rv_text.specs.declared.runs.ByteClass.TheVariants as kinds
use Rattle.rv_text.proofs.LeastLemmas.{run_end-is}
use Rattle.rv_trace.specs.declared.parts.Parts.{Parts}
use Rattle.rv_trace.specs.declared.line.TraceLine.{TraceLine}
use Rattle.rv_trace.specs.Lines.{LiesIn, event_part, word_at, parts_of, is_skipped, is_lost, number_up_to, head_pid, cpu_of, line_with, said, line_of}
use Rattle.rv_trace.proofs.LiesLemmas.{line_of-lies}
use Rattle.rv_generated.proofs.ReadingLemmas.{run-on, run-off, line_text, line_head, head-is, stamp-is}

-- what a line says that stands at the beginning of a text
pub record Says (text : List ℕ) (number cpu : ℕ) (name fields : List ℕ) : Type 0 where
  pub line : TraceLine
  pub says : line_of text 0 number ≡ Ok (Some line)
  pub number_is : line.number ≡ number
  pub cpu_is : line.cpu ≡ cpu
  pub name_is : between text line.name.from line.name.to ≡ name
  pub fields_are : between text line.fields.from line.fields.to ≡ fields
  pub lies : LiesIn text line

-- a name: some bytes, and no blank among them
pub record IsName (name : List ℕ) : Type 0 where
  pub some : 0 < length name
  pub first : has_class kinds.Blank (get_or name 0 0) ≡ false
  pub each : (k : ℕ) → k < length name → has_class kinds.Word (get_or name k 0) ≡ true

module _ (front name more : List ℕ) (is : IsName name) where
  -- a name behind some bytes, with a colon and a blank behind it
  abbrev pub named : List ℕ
  named = front ++ (name ++ 58 ∷ 32 ∷ more)

  reads : (k : ℕ) → get_or named (length front + k) 0 ≡ get_or (name ++ 58 ∷ 32 ∷ more) k 0
  reads k = get_or-append-add front (name ++ 58 ∷ 32 ∷ more) k 0

  reads-name : (k : ℕ) → k < length name → get_or named (length front + k) 0 ≡ get_or name k 0
  reads-name k h = reads k ∙ get_or_append_left name (58 ∷ 32 ∷ more) 0 k h

  -- the bytes behind the name
  pub reads-behind : (k : ℕ) → get_or named (length front + (length name + k)) 0 ≡ get_or (58 ∷ 32 ∷ more) k 0
  reads-behind k = reads (length name + k) ∙ get_or-append-add name (58 ∷ 32 ∷ more) k 0

  size : length named ≡ length front + (length name + (2 + length more))
  size = omega (arith, length-append front (name ++ 58 ∷ 32 ∷ more), length-append name (58 ∷ 32 ∷ more))

  -- no blank stands before the name
  pub starts : run_end kinds.Blank named (length front) ≡ length front
  starts =
      let here : length front ≡ length front + 0 = omega arith in
      run-off kinds.Blank named (length front) (ap (λ n. has_class kinds.Blank (get_or named n 0)) here ∙ ap (has_class kinds.Blank) (reads-name 0 is.some) ∙ is.first) (omega (arith, size))

  -- the word ends behind the colon
  pub ends : run_end kinds.Word named (length front) ≡ length front + (length name + 1)
  ends =
      run_end-is kinds.Word named (length front) (length front + (length name + 1)) (omega arith) (omega (arith, size))
      (λ k l h.
      let here : length front + (k - length front) ≡ k = omega arith in
      elim (cases_lt (k - length front) (length name)) [
        | inl inside ↦ ap (λ n. has_class kinds.Word (get_or named n 0)) (sym here) ∙ ap (has_class kinds.Word) (reads-name (k - length front) inside) ∙ is.each (k - length front) inside
        | inr last ↦ (let colon : k ≡ length front + (length name + 0) = omega arith in
            ap (λ n. has_class kinds.Word (get_or named n 0)) colon ∙ ap (has_class kinds.Word) (reads-behind 0))
      ])
      (λ _. ap (has_class kinds.Word) (reads-behind 1))

  -- the name stands there
  pub name-piece : between named (length front) (length front + length name) ≡ name
  name-piece =
      let count : length front + length name - length front ≡ length name = omega arith in
      ap₂ (λ n rest. take n rest) count (drop_at front (name ++ 58 ∷ 32 ∷ more) (length front) refl) ∙ take_at name (58 ∷ 32 ∷ more) (length name) refl

module _ (p q r a b c d e f : ℕ) (name more : List ℕ) (is : IsName name) where
  -- a line whose event has this name, and these fields behind it
  abbrev pub text : List ℕ
  text = line_text p q r a b c d e f (name ++ 58 ∷ 32 ∷ more)

  -- the bytes before the name
  abbrev before : List ℕ
  before = line_text p q r a b c d e f []

  -- its event
  event-is : event_part text 23 ≡ Some (record { from = 24; to = 24 + length name })
  unfolding event_part word_at
  event-is =
      let start : run_end kinds.Blank text 23 ≡ 24 = run-on kinds.Blank text 23 24 refl (omega arith) (starts before name more is) in
      let word : run_end kinds.Word text 24 ≡ 24 + (length name + 1) = ends before name more is in
      let colon : get_or text (24 + (length name + 1) - 1) 0 ≡ 58 = (let last : 24 + (length name + 1) - 1 ≡ 24 + (length name + 0) = omega arith in ap (λ n. get_or text n 0) last ∙ reads-behind before name more is 0) in
      let last : 24 + (length name + 1) - 1 ≡ 24 + length name = omega arith in
      let longer : 24 + 1 < 24 + (length name + 1) = omega (arith, is.some) in
      rw (start, word) (ap (λ t. cond t (Some (record { from = 24; to = 24 + (length name + 1) - 1 })) None) (and_from _ _ (lt-ltb _ _ longer) (eq-eqb _ _ colon)) ∙ ap (λ n. Some (record { from = 24; to = n })) last)

  module _ (pd : is_digit p ≡ true) (qd : is_digit q ≡ true) (rd : is_digit r ≡ true) (ad : is_digit a ≡ true) (bd : is_digit b ≡ true) (cd : is_digit c ≡ true) (dd : is_digit d ≡ true) (ed : is_digit e ≡ true) (fd : is_digit f ≡ true) where
    -- its name and its head
    abbrev parts : Parts
    parts = record { head = line_head p q r a b c d e f []; name = record { from = 24; to = 24 + length name } }

    -- they are found
    parts-are : parts_of text ≡ Some parts
    unfolding parts_of
    parts-are =
        let head = head-is p q r a b c d e f (name ++ 58 ∷ 32 ∷ more) pd qd rd in
        let stamp = stamp-is p q r a b c d e f (name ++ 58 ∷ 32 ∷ more) ad bd cd dd ed fd in
        rw (head, stamp, event-is) refl

    -- the number in front
    abbrev pid : ℕ
    pid = ((0 * 10 + 1) * 10 + (p - 48)) * 10 + (q - 48)

    -- it is small enough
    pid-is : head_pid text (line_head p q r a b c d e f []) ≡ Some pid
    unfolding number_up_to number_of
    pid-is =
        let low : p ≤ 57 = grind arith in
        let low' : q ≤ 57 = grind arith in
        ap (λ t. cond t (Some pid) None) (le-leb pid 4294967295 (omega arith))

    -- the number of the CPU
    abbrev cpu : ℕ
    cpu = ((0 * 10 + 0) * 10 + 0) * 10 + (r - 48)

    -- it is small enough
    cpu-is : cpu_of text (line_head p q r a b c d e f []) ≡ Some cpu
    unfolding number_up_to number_of
    cpu-is =
        let low : r ≤ 57 = grind arith in
        ap (λ t. cond t (Some cpu) None) (le-leb cpu 63 (omega arith))

    -- the line is not skipped
    not-skipped : is_skipped text ≡ false
    unfolding is_skipped
    not-skipped =
        let blanks : run_end kinds.Blank text 0 ≡ 0 = run-off kinds.Blank text 0 refl (omega arith) in
        let some : eqb 0 (length text) ≡ false = ne_eqb 0 (length text) (λ none. omega arith) in
        rw blanks (ap (λ t. t || eqb 116 35) some)

    -- the line is read
    line-is : (number : ℕ) → line_of text 0 number ≡ Ok (Some (line_with text 0 number (record { from = 24; to = 24 + length name }) pid cpu))
    unfolding line_of said is_lost
    line-is number = rw (not-skipped, parts-are, pid-is, cpu-is) refl

    -- its fields stand behind the colon
    fields-piece : between text (24 + length name + 1) (length text) ≡ 32 ∷ more
    fields-piece =
        let place : 24 + length name + 1 ≡ length (before ++ (name ++ 58 ∷ [])) = omega (arith, length-append name (58 ∷ [])) in
        let size : length text ≡ 24 + (length name + (2 + length more)) = omega (arith, length-append name (58 ∷ 32 ∷ more)) in
        let whole : text ≡ (before ++ (name ++ 58 ∷ [])) ++ 32 ∷ more = ap (λ rest. before ++ rest) (sym (append_assoc name (58 ∷ []) (32 ∷ more))) in
        let count : length text - (24 + length name + 1) ≡ length (32 ∷ more) = omega arith in
        ap₂ (λ n rest. take n rest) count (ap (drop (24 + length name + 1)) whole ∙ drop_at (before ++ (name ++ 58 ∷ [])) (32 ∷ more) (24 + length name + 1) (sym place)) ∙ take_all (length (32 ∷ more)) (32 ∷ more) (omega arith)

    -- so it says this
    pub says : (number : ℕ) → Says text number (r - 48) name (32 ∷ more)
    says number = record {
      line = line_with text 0 number (record { from = 24; to = 24 + length name }) pid cpu;
      says = line-is number;
      number_is = refl;
      cpu_is = omega arith;
      name_is = (let to : 0 + (24 + length name) ≡ 24 + length name = omega arith in ap (between text 24) to ∙ name-piece before name more is);
      fields_are = (let from : 0 + (24 + length name + 1) ≡ 24 + length name + 1 = omega arith in let to : 0 + length text ≡ length text = omega arith in ap₂ (between text) from to ∙ fields-piece);
      lies = line_of-lies text text 0 number _ (omega arith) (line-is number);
    }
