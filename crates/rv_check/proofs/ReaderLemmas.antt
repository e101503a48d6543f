-- A reader's text as it grows, and what it comes to.
use Rattle.std.proofs.Common.{◌≡◌, ◌≢◌, inl, inr, ℕ, suc, true, ◌+◌, ◌<◌, ◌≤◌, List, [], ◌∷◌, ◌++◌, length, refl, sym, ap, ◌∙◌, subst, arith, append_assoc, append-nil, length-append}
use Rattle.std.proofs.lemmas.List.{length-map}
use Rattle.std.proofs.lemmas.Grind.{flat_map-append}
use Rattle.std.proofs.lemmas.List.Folds.{flat_map-map}
use Rattle.rv_model.specs.declared.entry.Entry.{Entry}
use Rattle.rv_model.specs.declared.formula.Spec.{Spec}
use Rattle.rv_journal.specs.EntryTexts.{entry_text, journal_of}
use Rattle.rv_check.specs.Checker.{IsJournalOf, CheckerValue, IsBegun, IsWhole}
use Rattle.rv_check.specs.Readings.{journal_by, with_more_text, has_no_end, with_line_ends, IsStopped, IsOpen}
use Rattle.rv_check.specs.inner.Taking.{one_more}
use Rattle.rv_check.specs.Verdicts.{Journal, Begins, BeginsUpTo, IsYes, IsStuck, IsNo}
use Rattle.rv_check.proofs.JournalLemmas.{journal-more}
use Rattle.rv_check.proofs.LineEndLemmas.{no_end-append, end-in, one-line, long-line}
use Rattle.rv_check.proofs.TextLemmas.{entry-unended, entry-short}

-- lines and one more
with_line_ends-more : (lines : List (List ℕ)) (line : List ℕ) → with_line_ends (lines ++ line ∷ []) ≡ with_line_ends lines ++ (line ++ 10 ∷ [])
with_line_ends-more lines line = flat_map-append (λ (l : List ℕ). l ++ 10 ∷ []) lines (line ∷ []) ∙ ap (λ (t : List ℕ). with_line_ends lines ++ t) (append-nil (line ++ 10 ∷ []))

-- the lines of a journal are its text
with_line_ends-journal : (lines : List (List ℕ)) (h : List Entry) → IsJournalOf lines h → with_line_ends lines ≡ journal_of h
with_line_ends-journal lines h j = ap with_line_ends (sym j.texts) ∙ flat_map-map (λ (l : List ℕ). l ++ 10 ∷ []) entry_text h

-- and are as many as its entries
lines-count : (lines : List (List ℕ)) (h : List Entry) → IsJournalOf lines h → length lines ≡ length h
lines-count lines h j = ap length (sym j.texts) ∙ length-map h entry_text

-- a long text is not empty
long-some : (text : List ℕ) → 200 < length text → text ≢ []
long-some text long none = absurd (let zero : length text ≡ 0 = ap length none in omega arith)

-- nor is one with a line end
end-some : (a b : List ℕ) → a ++ 10 ∷ b ≢ []
end-some [] b is = absurd (let same : 10 ∷ b ≡ [] = is in cc)
end-some (c ∷ a) b is = absurd (let same : c ∷ (a ++ 10 ∷ b) ≡ [] = is in cc)

-- more text stands behind a beginning
up_to-more : (j : Journal) (line : ℕ) (front : List Entry) (back more : List ℕ) → BeginsUpTo j line front back → BeginsUpTo (with_more_text j more) line front (back ++ more)
up_to-more j line front back more u = record {
  entries = u.entries;
  text = ap (λ (t : List ℕ). t ++ more) u.text ∙ append_assoc (journal_of front) back more;
  begins = u.begins;
  count = u.count;
}

-- one that has stopped stays so
pub stop-more : (j : Journal) (line : ℕ) (more : List ℕ) → IsStopped j line → IsStopped (with_more_text j more) line
stop-more j line more s = record {
  front = s.front;
  back = s.back ++ more;
  up_to = up_to-more j line s.front s.back more s.up_to;
  some = λ none. s.some (left-none s.back none);
  stuck = λ after e rest is_e is. s.stuck (more ++ after) e rest is_e (sym (append_assoc s.back more after) ∙ is);
}
  where
    left-none : (a : List ℕ) → a ++ more ≡ [] → a ≡ []
    left-none [] is = refl
    left-none (c ∷ a) is = absurd (let same : c ∷ (a ++ more) ≡ [] = is in cc)

module _ (c : CheckerValue) (tail : List ℕ) (line : ℕ) (text : List ℕ) (open_here : IsOpen c tail line text) where
  -- its lines are a beginning
  up_to : BeginsUpTo (journal_by c text) line open_here.begun.0 tail
  up_to =
      let h = open_here.begun.0 in
      let j = open_here.begun.1 in
      record {
        entries = j.entries;
        text = open_here.text_is ∙ ap (λ (t : List ℕ). t ++ tail) (with_line_ends-journal c.lines h j);
        begins = open_here.begun.2;
        count = open_here.count ∙ ap suc (lines-count c.lines h j);
      }

  -- it has stopped where what follows is stuck
  stops : (more : List ℕ) → tail ++ more ≢ [] → ((h : List Entry) → IsJournalOf c.lines h → Begins (journal_by c text) h → (after : List ℕ) → IsStuck (journal_by c text) h ((tail ++ more) ++ after)) → IsStopped (journal_by c (text ++ more)) line
  stops more some stuck = record {
    front = open_here.begun.0;
    back = tail ++ more;
    up_to = up_to-more (journal_by c text) line open_here.begun.0 tail more up_to;
    some = some;
    stuck = stuck open_here.begun.0 open_here.begun.1 open_here.begun.2;
  }

  -- no entry has so long a line
  pub stop-long : (part : List ℕ) → has_no_end part ≡ true → 200 < length tail + length part → IsStopped (journal_by c (text ++ part)) line
  stop-long part unended long =
      let high : 200 < length (tail ++ part) = omega (arith, length-append tail part) in
      stops part (long-some (tail ++ part) high)
      (λ h j b after e rest is_e is begins. long-line (tail ++ part) after (entry_text e) rest (no_end-append tail part open_here.unended unended) (let l = entry-short e is_e in omega arith) is)

  -- the line with its end goes on with no beginning
  pub stop-bad : (part : List ℕ) → has_no_end part ≡ true → (IsBegun (one_more c (tail ++ part)) → ⊥) → IsStopped (journal_by c (text ++ (part ++ 10 ∷ []))) line
  stop-bad part unended bad =
      let split : tail ++ (part ++ 10 ∷ []) ≡ (tail ++ part) ++ 10 ∷ [] = sym (append_assoc tail part (10 ∷ [])) in
      stops (part ++ 10 ∷ []) (λ none. end-some (tail ++ part) [] (sym split ∙ none))
      (λ h j b after e rest is_e is begins.
      let whole : (tail ++ part) ++ 10 ∷ after ≡ entry_text e ++ 10 ∷ rest = sym (append_assoc (tail ++ part) (10 ∷ []) after) ∙ ap (λ (t : List ℕ). t ++ after) (sym split) ∙ is in
      let lines = one-line (tail ++ part) (entry_text e) after rest (no_end-append tail part open_here.unended unended) (entry-unended e is_e) whole in
      bad (h ++ e ∷ [], journal-more c.lines (tail ++ part) h e j is_e (sym lines.0), begins))

  -- the line with its end is good
  pub open-next : (part : List ℕ) → IsBegun (one_more c (tail ++ part)) → IsOpen (one_more c (tail ++ part)) [] (line + 1) (text ++ (part ++ 10 ∷ []))
  open-next part begun = record {
    begun = begun;
    text_is =
        ap (λ (t : List ℕ). t ++ (part ++ 10 ∷ [])) open_here.text_is
        ∙ append_assoc (with_line_ends c.lines) tail (part ++ 10 ∷ [])
        ∙ ap (λ (t : List ℕ). with_line_ends c.lines ++ t) (sym (append_assoc tail part (10 ∷ [])))
        ∙ sym (with_line_ends-more c.lines (tail ++ part))
        ∙ sym (append-nil (with_line_ends (c.lines ++ (tail ++ part) ∷ [])));
    count = (let was = open_here.count in let more = length-append c.lines ((tail ++ part) ∷ []) in omega arith);
    unended = refl;
    short = omega arith;
  }

  -- the line goes on
  pub open-keep : (part : List ℕ) → has_no_end part ≡ true → length tail + length part ≤ 200 → IsOpen c (tail ++ part) line (text ++ part)
  open-keep part unended short = record {
    begun = open_here.begun;
    text_is = ap (λ (t : List ℕ). t ++ part) open_here.text_is ∙ append_assoc (with_line_ends c.lines) tail part;
    count = open_here.count;
    unended = no_end-append tail part open_here.unended unended;
    short = omega (arith, length-append tail part);
  }

  -- ---- what it comes to

  -- a last line without its line end is bad
  pub no-tail : (specs : List Spec) → tail ≢ [] → IsNo (journal_by c text) specs line
  no-tail specs some = record {
    front = open_here.begun.0;
    back = tail;
    up_to = up_to;
    why = inr (some, λ e rest is_e is begins. end-in (entry_text e) rest (subst (λ (t : List ℕ). has_no_end t ≡ true) is open_here.unended));
  }

  -- the lines are over, and not whole
  pub no-over : (specs : List Spec) → tail ≡ [] → (IsWhole c specs → ⊥) → IsNo (journal_by c text) specs line
  no-over specs none bad = record {
    front = open_here.begun.0;
    back = tail;
    up_to = up_to;
    why = inl (none, λ legal. bad (open_here.begun.0, open_here.begun.1, legal));
  }

  -- they are whole
  pub yes-whole : (specs : List Spec) → tail ≡ [] → IsWhole c specs → IsYes (journal_by c text) specs
  yes-whole specs none (h, j, legal) = record {
    history = h;
    entries = j.entries;
    text = open_here.text_is ∙ ap (λ (t : List ℕ). with_line_ends c.lines ++ t) none ∙ append-nil (with_line_ends c.lines) ∙ with_line_ends-journal c.lines h j;
    legal = legal;
  }

-- it has stopped
pub no-stopped : (j : Journal) (line : ℕ) (specs : List Spec) → IsStopped j line → IsNo j specs line
no-stopped j line specs s = record {
  front = s.front;
  back = s.back;
  up_to = s.up_to;
  why = inr (s.some, λ e rest is_e is begins. s.stuck [] e rest is_e (append-nil s.back ∙ is) begins);
}
