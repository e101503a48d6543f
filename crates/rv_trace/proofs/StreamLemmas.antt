-- The next line of a stream: what was passed before it, and what follows.
use Rattle.std.proofs.Common.{◌≡◌, ◌≢◌, ℕ, suc, ◌+◌, ◌-◌, ◌<◌, ◌≤◌, ◌⊎◌, inl, inr, Bool, true, false, cond, eqb, min, List, [], ◌∷◌, ◌++◌, length, get_or, take, refl, sym, ◌∙◌, ap, ap₂, arith, append_assoc, length-append}
use Rattle.std.proofs.lemmas.Bool.{ne_eqb, eq-eqb}
use Rattle.std.proofs.lemmas.List.{get_or_append_left, get_or-append-add, drop_at, take_at}
use Rattle.rv_text.specs.Places.{between}
use Rattle.rv_text.specs.TextLines.{LineText, is_line_start, line_end, line_here, lines_from, lines_of, next_number}
use Rattle.rv_text.proofs.TextLineLemmas.{line_end-is, lines_from-next, lines_from-end}
use Rattle.rv_trace.specs.Streams.{has_line_end, ended_front, is_whole, part_read, StandsAt}
use Rattle.rv_trace.proofs.FieldLemmas.{neither, second}

-- no line end stands in the bytes
abbrev pub NoEnd : List ℕ → Type 0
NoEnd bytes = (k : ℕ) → k < length bytes → get_or bytes k 0 ≢ 10

-- the text is empty, or begins with a line end
abbrev pub BeginsEnded : List ℕ → Type 0
BeginsEnded tail = 0 < length tail → get_or tail 0 0 ≡ 10

-- where no byte is a line end, none is found
has_line_end-none : (bytes : List ℕ) → NoEnd bytes → has_line_end bytes ≡ false
has_line_end-none [] none = refl
has_line_end-none (byte ∷ bytes) none = neither (eqb byte 10) (has_line_end bytes) (ne_eqb byte 10 (none 0 (omega arith))) (has_line_end-none bytes (λ k h. none (suc k) (omega arith)))

-- where one byte is a line end, one is found
has_line_end-some : (front more : List ℕ) → has_line_end (front ++ 10 ∷ more) ≡ true
has_line_end-some [] more = refl
has_line_end-some (byte ∷ front) more = second (eqb byte 10) (has_line_end (front ++ 10 ∷ more)) (has_line_end-some front more)

-- what has no line end has no ended front
pub ended_front-none : (bytes : List ℕ) → NoEnd bytes → ended_front bytes ≡ []
unfolding ended_front
ended_front-none [] none = refl
ended_front-none (byte ∷ bytes) none = ap (λ t. cond t (byte ∷ ended_front bytes) []) (has_line_end-none (byte ∷ bytes) none)

-- up to a line end all belongs to it
pub ended_front-on : (front more : List ℕ) → ended_front (front ++ 10 ∷ more) ≡ front ++ 10 ∷ ended_front more
unfolding ended_front
ended_front-on [] more = refl
ended_front-on (byte ∷ front) more =
    ap (λ t. cond t (byte ∷ ended_front (front ++ 10 ∷ more)) []) (has_line_end-some (byte ∷ front) more) ∙ ap (λ rest. byte ∷ rest) (ended_front-on front more)

-- a stream begins here
pub stands-first : StandsAt [] 1
unfolding lines_of
stands-first = record {
  starts = λ more some. refl;
  fronts = λ more. refl;
  splits = λ more. ap (λ front. front ++ lines_from more 1 0) (sym (lines_from-end [] 1 0 (omega arith)));
}

-- the line between what was passed and what follows
abbrev pub line_before : List ℕ → List ℕ → List ℕ → ℕ → LineText
line_before done bytes tail number = record { number = number; from = length done; bytes = bytes; end = length done + min (length bytes + 1) (length bytes + length tail) }

module _ (done bytes tail : List ℕ) (number : ℕ) (none : NoEnd bytes) (begins : BeginsEnded tail) where
  -- what was passed, the bytes of a line, and what follows them
  abbrev pub whole : List ℕ
  whole = done ++ (bytes ++ tail)

  size : length whole ≡ length done + (length bytes + length tail)
  size = length-append done (bytes ++ tail) ∙ ap (λ n. length done + n) (length-append bytes tail)

  reads : (k : ℕ) → get_or whole (length done + k) 0 ≡ get_or (bytes ++ tail) k 0
  reads k = get_or-append-add done (bytes ++ tail) k 0

  -- the line ends behind its bytes
  end-is : line_end whole (length done) ≡ length done + length bytes
  end-is =
      line_end-is whole (length done) (length done + length bytes) (omega arith) (omega (arith, size))
      (λ k l h is.
      let here : length done + (k - length done) ≡ k = omega arith in
      none (k - length done) (omega arith) (sym (get_or_append_left bytes tail 0 (k - length done) (omega arith)) ∙ sym (reads (k - length done)) ∙ ap (λ n. get_or whole n 0) here ∙ is))
      (λ h.
      let here : length bytes ≡ length bytes + 0 = omega arith in
      reads (length bytes) ∙ ap (λ n. get_or (bytes ++ tail) n 0) here ∙ get_or-append-add bytes tail 0 0 ∙ begins (omega (arith, size)))

  -- what stands from the line's place up to its end is its bytes
  piece : between whole (length done) (length done + length bytes) ≡ bytes
  piece =
      let count : length done + length bytes - length done ≡ length bytes = omega arith in
      ap₂ (λ n rest. take n rest) count (drop_at done (bytes ++ tail) (length done) refl) ∙ take_at bytes tail (length bytes) refl

  -- so the line at that place is the one of these bytes
  here-is : line_here whole number (length done) ≡ line_before done bytes tail number
  here-is =
      let end : min (length done + length bytes + 1) (length whole) ≡ length done + min (length bytes + 1) (length bytes + length tail) = omega (arith, size) in
      ap {B = LineText} (λ e. record { number = number; from = length done; bytes = between whole (length done) e; end = min (e + 1) (length whole) }) end-is
      ∙ ap₂ {C = LineText} (λ b e. record { number = number; from = length done; bytes = b; end = e }) piece end

  -- the lines of the whole: those that were passed, this one, and the later ones
  pub lines-next : StandsAt done number → 0 < length bytes + length tail →
      lines_of whole ≡ lines_of done ++ (line_before done bytes tail number ∷ lines_from whole (next_number number) (length done + min (length bytes + 1) (length bytes + length tail)))
  lines-next stands some =
      let inside : length done < length whole = omega (arith, size) in
      let behind : min (line_end whole (length done) + 1) (length whole) ≡ length done + min (length bytes + 1) (length bytes + length tail) = omega (arith, size, end-is) in
      stands.splits (bytes ++ tail)
      ∙ ap (λ later. lines_of done ++ later)
      (lines_from-next whole number (length done) inside (stands.starts (bytes ++ tail) (omega (arith, length-append bytes tail)))
      ∙ ap₂ (λ line place. line ∷ lines_from whole (next_number number) place) here-is behind)

  -- nothing follows it
  pub lines-only : StandsAt done number → 0 < length bytes + length tail → length tail ≤ 1 → lines_of whole ≡ lines_of done ++ line_before done bytes tail number ∷ []
  lines-only stands some short =
      lines-next stands some
      ∙ ap (λ later. lines_of done ++ line_before done bytes tail number ∷ later)
      (lines_from-end whole (next_number number) (length done + min (length bytes + 1) (length bytes + length tail)) (omega (arith, size)))

-- what follows an ended line
pub behind_line : (done bytes more : List ℕ) → (done ++ (bytes ++ 10 ∷ [])) ++ more ≡ done ++ (bytes ++ 10 ∷ more)
behind_line done bytes more = append_assoc done (bytes ++ 10 ∷ []) more ∙ ap (λ rest. done ++ rest) (append_assoc bytes (10 ∷ []) more)

-- a line end begins what it begins
pub begins-end : (more : List ℕ) → BeginsEnded (10 ∷ more)
begins-end more some = refl

module _ (done bytes : List ℕ) (number : ℕ) (stands : StandsAt done number) (none : NoEnd bytes) where
  -- what was passed, the bytes of a line, and its line end
  abbrev pub ended : List ℕ
  ended = done ++ (bytes ++ 10 ∷ [])

  -- the line is the same, whatever follows its line end
  same-line : (more : List ℕ) → line_before done bytes (10 ∷ more) number ≡ line_before done bytes (10 ∷ []) number
  same-line more =
      let end : min (length bytes + 1) (length bytes + length {A = ℕ} (10 ∷ more)) ≡ min (length bytes + 1) (length bytes + length {A = ℕ} (10 ∷ [])) = omega arith in
      ap {B = LineText} (λ e. record { number = number; from = length done; bytes = bytes; end = length done + e }) end

  size-ended : length ended ≡ length done + (length bytes + 1)
  size-ended = length-append done (bytes ++ 10 ∷ []) ∙ ap (λ n. length done + n) (length-append bytes (10 ∷ []))

  -- behind an ended line a line starts
  start-more : (more : List ℕ) → is_line_start (ended ++ more) (length ended) ≡ true
  start-more more =
      let last : length ended - 1 ≡ length done + length bytes = omega (arith, size-ended) in
      let here : length bytes ≡ length bytes + 0 = omega arith in
      second (eqb (length ended) 0) (eqb (get_or (ended ++ more) (length ended - 1) 0) 10) (eq-eqb _ _ (
      ap₂ (λ text n. get_or text n 0) (behind_line done bytes more) last
      ∙ get_or-append-add done (bytes ++ 10 ∷ more) (length bytes) 0
      ∙ ap (λ n. get_or (bytes ++ 10 ∷ more) n 0) here
      ∙ get_or-append-add bytes (10 ∷ more) 0 0))

  -- lines can be read on from behind an ended line
  pub stands-next : StandsAt ended (next_number number)
  stands-next = record {
    starts = λ more some. start-more more;
    fronts = λ more.
        ap ended_front (behind_line done bytes more)
        ∙ stands.fronts (bytes ++ 10 ∷ more)
        ∙ ap (λ rest. done ++ rest) (ended_front-on bytes more)
        ∙ sym (behind_line done bytes (ended_front more));
    splits = λ more.
        let place : length done + min (length bytes + 1) (length bytes + length {A = ℕ} (10 ∷ more)) ≡ length ended = omega (arith, size-ended) in
        ap lines_of (behind_line done bytes more)
        ∙ lines-next done bytes (10 ∷ more) number none (begins-end more) stands (omega arith)
        ∙ ap₂ (λ line text. lines_of done ++ (line ∷ lines_from text (next_number number) (length done + min (length bytes + 1) (length bytes + length {A = ℕ} (10 ∷ more))))) (same-line more) (sym (behind_line done bytes more))
        ∙ ap (λ n. lines_of done ++ (line_before done bytes (10 ∷ []) number ∷ lines_from (ended ++ more) (next_number number) n)) place
        ∙ sym (append_assoc (lines_of done) (line_before done bytes (10 ∷ []) number ∷ []) (lines_from (ended ++ more) (next_number number) (length ended)))
        ∙ ap (λ front. front ++ lines_from (ended ++ more) (next_number number) (length ended)) (sym (lines-only done bytes (10 ∷ []) number none (begins-end []) stands (omega arith) (omega arith)));
  }

-- a step of a stream: one more line, which is also the next one of what is read
pub record Steps (ended : Bool) (fed done after : List ℕ) (line : LineText) : Type 0 where
  pub only : lines_of after ≡ lines_of done ++ line ∷ []
  pub later : List LineText
  pub next : lines_of (part_read ended fed) ≡ lines_of done ++ line ∷ later

-- a choice is one of the two
pub choice : {X : Type 0} (b : Bool) (x y : X) → ((b ≡ true) × (cond b x y ≡ x)) ⊎ ((b ≡ false) × (cond b x y ≡ y))
choice true x y = inl (refl, refl)
choice false x y = inr (refl, refl)

module _ (done bytes : List ℕ) (number : ℕ) (stands : StandsAt done number) (none : NoEnd bytes) (closed : Bool) (fed : List ℕ) where
  -- what is read goes on behind an ended line
  read-on : (more : List ℕ) → fed ≡ done ++ (bytes ++ 10 ∷ more) → (rest : List ℕ) × (part_read closed fed ≡ done ++ (bytes ++ 10 ∷ rest))
  read-on more is =
      elim (choice (is_whole closed fed) fed (ended_front fed)) [
        | inl all ↦ (more, all.1 ∙ is)
        | inr front ↦ (ended_front more, front.1 ∙ ap ended_front is ∙ stands.fronts (bytes ++ 10 ∷ more) ∙ ap (λ rest. done ++ rest) (ended_front-on bytes more))
      ]

  -- a step to a line that has its line end
  pub steps-ended : (more : List ℕ) → fed ≡ done ++ (bytes ++ 10 ∷ more) → Steps closed fed done (done ++ (bytes ++ 10 ∷ [])) (line_before done bytes (10 ∷ []) number)
  steps-ended more is =
      let on = read-on more is in
      record {
        only = lines-only done bytes (10 ∷ []) number none (begins-end []) stands (omega arith) (omega arith);
        later = lines_from (done ++ (bytes ++ 10 ∷ on.0)) (next_number number) (length done + min (length bytes + 1) (length bytes + length {A = ℕ} (10 ∷ on.0)));
        next = ap lines_of on.1 ∙ lines-next done bytes (10 ∷ on.0) number none (begins-end on.0) stands (omega arith)
            ∙ ap (λ line. lines_of done ++ line ∷ lines_from (done ++ (bytes ++ 10 ∷ on.0)) (next_number number) (length done + min (length bytes + 1) (length bytes + length {A = ℕ} (10 ∷ on.0)))) (same-line done bytes number stands none on.0);
      }

  -- a step to the last line, which has none
  pub steps-last : fed ≡ done ++ (bytes ++ []) → 0 < length bytes → is_whole closed fed ≡ true → Steps closed fed done fed (line_before done bytes [] number)
  steps-last is some all =
      let only : lines_of fed ≡ lines_of done ++ line_before done bytes [] number ∷ [] = ap lines_of is ∙ lines-only done bytes [] number none (λ h. absurd (omega arith)) stands (omega arith) (omega arith) in
      let same : part_read closed fed ≡ fed = ap (λ b. cond b fed (ended_front fed)) all in
      record {
        only = only;
        later = [];
        next = ap lines_of same ∙ only;
      }
