-- What the reader of traces makes of a line of the generated trace, whatever its digits are.
use Rattle.std.proofs.Common.{◌≡◌, ℕ, zero, suc, ◌+◌, ◌-◌, ◌<◌, true, false, not, cond, List, ◌∷◌, length, get_or, Some, refl, ◌∙◌, ap, arith}
use Rattle.rv_text.specs.Places.{is_digit, has_class, least, run_end}
use Rattle.rv_text.specs.declared.runs.ByteClass.{ByteClass}
use Rattle.rv_text.specs.declared.runs.ByteClass.TheVariants as kinds
use Rattle.rv_text.proofs.LeastLemmas.{run_end-is}
use Rattle.rv_trace.specs.declared.head.Head.{Head}
use Rattle.rv_trace.specs.Heads.{head_at, head_of, is_head}
use Rattle.rv_trace.specs.Lines.{stamp_end, word_at, is_stamp}
use Rattle.rv_trace.proofs.HeadLemmas.{head_of-some}

-- a run goes on behind a byte of its kind
pub run-on : (kind : ByteClass) (text : List ℕ) (from place : ℕ) → has_class kind (get_or text from 0) ≡ true → from < length text → run_end kind text (from + 1) ≡ place → run_end kind text from ≡ place
unfolding run_end least
run-on kind text from place is inside later =
    let count : length text - from ≡ suc (length text - (from + 1)) = omega arith in
    ap (least (λ k. not (has_class kind (get_or text k 0))) from) count
    ∙ ap (λ b. cond (not b) from (least (λ k. not (has_class kind (get_or text k 0))) (from + 1) (length text - (from + 1)))) is
    ∙ later

-- and ends at a byte of another one
pub run-off : (kind : ByteClass) (text : List ℕ) (from : ℕ) → has_class kind (get_or text from 0) ≡ false → from < length text → run_end kind text from ≡ from
run-off kind text from is inside = run_end-is kind text from from (omega arith) (omega arith) (λ k l h. absurd (omega arith)) (λ _. is)

-- a digit is no blank
pub digit-word : (byte : ℕ) → is_digit byte ≡ true → has_class kinds.Word byte ≡ true
digit-word byte digit = grind arith

module _ (p q r a b c d e f : ℕ) (rest : List ℕ) where
  -- a line up to its event
  abbrev pub line_text : List ℕ
  line_text = 116 ∷ 45 ∷ 49 ∷ p ∷ q ∷ 32 ∷ 91 ∷ 48 ∷ 48 ∷ r ∷ 93 ∷ 32 ∷ 49 ∷ 48 ∷ 48 ∷ 46 ∷ a ∷ b ∷ c ∷ d ∷ e ∷ f ∷ 58 ∷ 32 ∷ rest

  -- its head
  abbrev pub line_head : Head
  line_head = record { dash = 1; digits = 5; bracket = 6; close = 10 }

  -- these are its places
  places : is_digit p ≡ true → is_digit q ≡ true → is_digit r ≡ true → head_at line_text 1 ≡ line_head
  unfolding head_at
  places pd qd rd =
      let digits : run_end kinds.Digit line_text 2 ≡ 5 = run-on kinds.Digit line_text 2 5 refl (omega arith) (run-on kinds.Digit line_text 3 5 pd (omega arith) (run-on kinds.Digit line_text 4 5 qd (omega arith) (run-off kinds.Digit line_text 5 refl (omega arith)))) in
      let blanks : run_end kinds.Blank line_text 5 ≡ 6 = run-on kinds.Blank line_text 5 6 refl (omega arith) (run-off kinds.Blank line_text 6 refl (omega arith)) in
      let close : run_end kinds.Digit line_text 7 ≡ 10 = run-on kinds.Digit line_text 7 10 refl (omega arith) (run-on kinds.Digit line_text 8 10 refl (omega arith) (run-on kinds.Digit line_text 9 10 rd (omega arith) (run-off kinds.Digit line_text 10 refl (omega arith)))) in
      rw (digits, blanks, close) refl

  -- its head is found
  pub head-is : is_digit p ≡ true → is_digit q ≡ true → is_digit r ≡ true → head_of line_text ≡ Some line_head
  unfolding head_at
  head-is pd qd rd =
      let at : head_at line_text 1 ≡ line_head = places pd qd rd in
      head_of-some line_text 1 first (ap (is_head line_text) at) ∙ ap (λ (h : Head). Some h) at
    where
      first : (k : ℕ) → k < 1 → is_head line_text (head_at line_text k) ≡ false
      first zero h = refl
      first (suc k) h = absurd (omega arith)

  -- the time stamp ends at place 23
  pub stamp-is : is_digit a ≡ true → is_digit b ≡ true → is_digit c ≡ true → is_digit d ≡ true → is_digit e ≡ true → is_digit f ≡ true → stamp_end line_text 12 ≡ Some 23
  unfolding stamp_end word_at is_stamp
  stamp-is ad bd cd dd ed fd =
      let start : run_end kinds.Blank line_text 12 ≡ 12 = run-off kinds.Blank line_text 12 refl (omega arith) in
      let word : run_end kinds.Word line_text 12 ≡ 23 =
      run-on kinds.Word line_text 12 23 refl (omega arith)
      (run-on kinds.Word line_text 13 23 refl (omega arith)
      (run-on kinds.Word line_text 14 23 refl (omega arith)
      (run-on kinds.Word line_text 15 23 refl (omega arith)
      (run-on kinds.Word line_text 16 23 (digit-word a ad) (omega arith)
      (run-on kinds.Word line_text 17 23 (digit-word b bd) (omega arith)
      (run-on kinds.Word line_text 18 23 (digit-word c cd) (omega arith)
      (run-on kinds.Word line_text 19 23 (digit-word d dd) (omega arith)
      (run-on kinds.Word line_text 20 23 (digit-word e ed) (omega arith)
      (run-on kinds.Word line_text 21 23 (digit-word f fd) (omega arith)
      (run-on kinds.Word line_text 22 23 refl (omega arith)
      (run-off kinds.Word line_text 23 refl (omega arith)))))))))))) in
      let whole : run_end kinds.Digit line_text 12 ≡ 15 =
      run-on kinds.Digit line_text 12 15 refl (omega arith) (run-on kinds.Digit line_text 13 15 refl (omega arith) (run-on kinds.Digit line_text 14 15 refl (omega arith) (run-off kinds.Digit line_text 15 refl (omega arith)))) in
      let part : run_end kinds.Digit line_text 16 ≡ 22 =
      run-on kinds.Digit line_text 16 22 ad (omega arith)
      (run-on kinds.Digit line_text 17 22 bd (omega arith)
      (run-on kinds.Digit line_text 18 22 cd (omega arith)
      (run-on kinds.Digit line_text 19 22 dd (omega arith)
      (run-on kinds.Digit line_text 20 22 ed (omega arith)
      (run-on kinds.Digit line_text 21 22 fd (omega arith)
      (run-off kinds.Digit line_text 22 refl (omega arith))))))) in
      rw (start, word, whole, part) refl
