-- The lines of a journal are the texts of its entries, and are read as these.
use Rattle.std.proofs.Common.{◌≡◌, ◌≢◌, ℕ, suc, ◌+◌, ◌-◌, ◌<◌, true, List, [], ◌∷◌, ◌++◌, length, get_or, take, map, Option, Some, refl, sym, ap, ap₂, ◌∙◌, subst, arith, append_assoc, length-append, All}
use Rattle.std.proofs.lemmas.List.{get_or_append_left, get_or-append-add, drop_at, take_at}
use Rattle.std.proofs.lemmas.List.Elements.{All-head, All-tail}
use Rattle.rv_text.specs.Places.{between}
use Rattle.rv_text.specs.TextLines.{LineText, is_line_start, line_end, line_here, lines_from, lines_of, next_number}
use Rattle.rv_text.proofs.TextLineLemmas.{line_end-is, lines_from-first, lines_from-end, start-next}
use Rattle.rv_model.specs.declared.entry.Entry.{Entry}
use Rattle.rv_journal.specs.EntryTexts.{entry_text, journal_of, IsEntry}
use Rattle.rv_journal.specs.JournalReadings.{lines_in, IsReading, AreReadings, JournalsAreReadAgain, JournalsHaveOneHistory}
use Rattle.rv_journal.proofs.ReadingLemmas.{line-reads, entry-unended}

-- ---- the lines

-- without their line ends
abbrev bytes_of : List LineText → List (List ℕ)
bytes_of lines = map (λ (line : LineText). line.bytes) lines

module _ (done bytes more : List ℕ) (number : ℕ) (none : (k : ℕ) → k < length bytes → get_or bytes k 0 ≢ 10) where
  -- what stands before a line, the line with its line end, and what follows
  abbrev whole : List ℕ
  whole = done ++ (bytes ++ 10 ∷ more)

  -- what stands before what follows
  abbrev passed : List ℕ
  passed = done ++ (bytes ++ 10 ∷ [])

  size : length whole ≡ length done + (length bytes + suc (length more))
  size = length-append done (bytes ++ 10 ∷ more) ∙ ap (λ n. length done + n) (length-append bytes (10 ∷ more))

  passed-size : length passed ≡ length done + (length bytes + 1)
  passed-size = length-append done (bytes ++ 10 ∷ []) ∙ ap (λ n. length done + n) (length-append bytes (10 ∷ []))

  -- the same text, parted behind the line
  passed-is : passed ++ more ≡ whole
  passed-is = append_assoc done (bytes ++ 10 ∷ []) more ∙ ap (λ rest. done ++ rest) (append_assoc bytes (10 ∷ []) more)

  reads-at : (k : ℕ) → get_or whole (length done + k) 0 ≡ get_or (bytes ++ 10 ∷ more) k 0
  reads-at k = get_or-append-add done (bytes ++ 10 ∷ more) k 0

  -- the line ends behind its bytes
  end-is : line_end whole (length done) ≡ length done + length bytes
  end-is =
      line_end-is whole (length done) (length done + length bytes) (omega arith) (omega (arith, size))
      (λ k l h is.
      let here : length done + (k - length done) ≡ k = omega arith in
      none (k - length done) (omega arith) (sym (get_or_append_left bytes (10 ∷ more) 0 (k - length done) (omega arith)) ∙ sym (reads-at (k - length done)) ∙ ap (λ n. get_or whole n 0) here ∙ is))
      (λ h.
      let here : length bytes ≡ length bytes + 0 = omega arith in
      reads-at (length bytes) ∙ ap (λ n. get_or (bytes ++ 10 ∷ more) n 0) here ∙ get_or-append-add bytes (10 ∷ more) 0 0)

  -- what stands from its place up to its end
  bytes-are : (line_here whole number (length done)).bytes ≡ bytes
  bytes-are =
      let count : length done + length bytes - length done ≡ length bytes = omega arith in
      ap (between whole (length done)) end-is
      ∙ ap₂ (λ n rest. take n rest) count (drop_at done (bytes ++ 10 ∷ more) (length done) refl) ∙ take_at bytes (10 ∷ more) (length bytes) refl

  -- behind it lines are read on
  behind : line_end whole (length done) + 1 ≡ length passed
  behind = omega (arith, end-is, passed-size)

  -- where a line starts, its bytes come first
  first-bytes : is_line_start whole (length done) ≡ true → bytes_of (lines_from whole number (length done)) ≡ bytes ∷ bytes_of (lines_from (passed ++ more) (next_number number) (length passed))
  first-bytes start =
      ap bytes_of (lines_from-first whole number (length done) (omega (arith, size)) start)
      ∙ ap₂ (λ (b : List ℕ) (later : List LineText). b ∷ bytes_of later) bytes-are (ap₂ (λ (text : List ℕ) (place : ℕ). lines_from text (next_number number) place) (sym passed-is) behind)

  -- behind it a line starts
  next-starts : 0 < length more → is_line_start (passed ++ more) (length passed) ≡ true
  next-starts some =
      ap₂ (λ (text : List ℕ) (place : ℕ). is_line_start text place) passed-is (sym behind)
      ∙ start-next whole (length done) (omega (arith, size)) (omega (arith, size, end-is))

-- the lines of a journal that stands behind other lines
lines-behind : (h : List Entry) (done : List ℕ) (number : ℕ) → All IsEntry h → (0 < length (journal_of h) → is_line_start (done ++ journal_of h) (length done) ≡ true) →
    bytes_of (lines_from (done ++ journal_of h) number (length done)) ≡ map entry_text h
lines-behind [] done number all starts = ap bytes_of (lines_from-end (done ++ []) number (length done) (omega (arith, length-append {A = ℕ} done [])))
lines-behind (e ∷ h) done number all starts =
    let line = entry_text e in
    let more = journal_of h in
    let unended = entry-unended e (All-head IsEntry e h all) in
    let same : done ++ journal_of (e ∷ h) ≡ whole done line more number unended = ap (λ (rest : List ℕ). done ++ rest) (append_assoc line (10 ∷ []) more) in
    let some : 0 < length (journal_of (e ∷ h)) = omega (arith, length-append (line ++ 10 ∷ []) more, length-append line (10 ∷ [])) in
    ap (λ (text : List ℕ). bytes_of (lines_from text number (length done))) same
    ∙ first-bytes done line more number unended (subst (λ (text : List ℕ). is_line_start text (length done) ≡ true) same (starts some))
    ∙ ap (λ (later : List (List ℕ)). line ∷ later) (lines-behind h (passed done line more number unended) (next_number number) (All-tail IsEntry e h all) (next-starts done line more number unended))

-- the lines of a journal
journal-lines : (h : List Entry) → All IsEntry h → lines_in (journal_of h) ≡ map entry_text h
unfolding lines_of
journal-lines h all = lines-behind h [] 1 all (λ some. refl)

-- ---- what is read of them

-- what is read of an entry's line
reading-is : (e : Entry) (read : Option Entry) → IsEntry e → IsReading (entry_text e) read → read ≡ Some e
reading-is e read is r = r.every e is refl

-- the entry is what is read of its line
is-reading : (e : Entry) → IsEntry e → IsReading (entry_text e) (Some e)
is-reading e is = record {
  some = refl;
  fits = is;
  every = λ f is_f same. sym (line-reads (entry_text e) e is refl) ∙ line-reads (entry_text e) f is_f same;
}

-- what is read of the lines of entries
readings-are : (h : List Entry) (reads : List (Option Entry)) → All IsEntry h → AreReadings (map entry_text h) reads → reads ≡ map Some h
readings-are [] [] all are = refl
readings-are [] (read ∷ reads) all are = absurd are
readings-are (e ∷ h) [] all are = absurd are
readings-are (e ∷ h) (read ∷ reads) all are =
    ap₂ (λ (r : Option Entry) (later : List (Option Entry)). r ∷ later) (reading-is e read (All-head IsEntry e h all) are.0) (readings-are h reads (All-tail IsEntry e h all) are.1)

-- the entries are what is read
are-readings : (h : List Entry) → All IsEntry h → AreReadings (map entry_text h) (map Some h)
are-readings [] all = tt
are-readings (e ∷ h) all = (is-reading e (All-head IsEntry e h all), are-readings h (All-tail IsEntry e h all))

-- of the lines of a journal its entries are read
pub journals-again : JournalsAreReadAgain
journals-again h reads all = (
  λ are. readings-are h reads all (subst (λ (lines : List (List ℕ)). AreReadings lines reads) (journal-lines h all) are),
  λ same. subst (λ (r : List (Option Entry)). AreReadings (lines_in (journal_of h)) r) (sym same) (subst (λ (lines : List (List ℕ)). AreReadings lines (map Some h)) (sym (journal-lines h all)) (are-readings h all)),
)

-- entries that are read alike are the same
same-entries : (h g : List Entry) → ◌≡◌ {A = List (Option Entry)} (map Some h) (map Some g) → h ≡ g
same-entries [] [] is = refl
same-entries [] (f ∷ g) is = absurd (cc)
same-entries (e ∷ h) [] is = absurd (cc)
same-entries (e ∷ h) (f ∷ g) is =
    let heads : e ≡ f = cc in
    let tails : ◌≡◌ {A = List (Option Entry)} (map Some h) (map Some g) = cc in
    ap₂ (λ (x : Entry) (rest : List Entry). x ∷ rest) heads (same-entries h g tails)

-- so no text is the journal of two histories
pub one-journal : JournalsHaveOneHistory
one-journal h g in_h in_g same =
    let lines : AreReadings (lines_in (journal_of g)) (map Some h) = subst (λ (text : List ℕ). AreReadings (lines_in text) (map Some h)) same ((journals-again h (map Some h) in_h).1 refl) in
    same-entries h g ((journals-again g (map Some h) in_g).0 lines)
