-- What a reader keeps of its text, as it goes on, and once it has stopped.
use Rattle.std.proofs.Common.{◌≡◌, inl, inr, ℕ, suc, Bool, true, false, not, cond, ◌+◌, List, [], ◌∷◌, ◌++◌, length, refl, sym, ap, ◌∙◌, subst, arith, append_assoc, append-nil, length-append}
use Rattle.std.proofs.lemmas.Grind.{flat_map-append}
use Rattle.rv_check.specs.Checker.{CheckerValue, IsBegun}
use Rattle.rv_check.specs.Readings.{pieces_joined, journal_by, has_no_end, with_line_ends, IsStopped, IsOpen, IsReader}
use Rattle.rv_check.specs.inner.Taking.{SameMaking, TakesJournalLine, one_more}
use Rattle.rv_check.proofs.ReaderLemmas.{stop-more, stop-long, stop-bad, open-next}

-- pieces and one more
pub pieces_joined-more : (pieces : List (List ℕ)) (piece : List ℕ) → pieces_joined (pieces ++ piece ∷ []) ≡ pieces_joined pieces ++ piece
pieces_joined-more pieces piece = flat_map-append (λ (p : List ℕ). p) pieces (piece ∷ []) ∙ ap (λ (t : List ℕ). pieces_joined pieces ++ t) (append-nil piece)

-- it goes on
pub reader-open : (c new : CheckerValue) (tail now : List ℕ) (line : ℕ) (stopped : Bool) (text later : List ℕ) → new ≡ c → now ≡ tail → stopped ≡ false → later ≡ text → IsOpen c tail line text → IsReader new now line stopped later
reader-open c new tail now line stopped text later is_c is_tail going is_text o =
    subst (λ (b : Bool). IsReader new now line b later) (sym going)
    (subst (λ (d : CheckerValue). IsOpen d now line later) (sym is_c)
    (subst (λ (t : List ℕ). IsOpen c t line later) (sym is_tail)
    (subst (λ (t : List ℕ). IsOpen c tail line t) (sym is_text) o)))

-- it has stopped
pub reader-stopped : (c new : CheckerValue) (tail : List ℕ) (line : ℕ) (stopped : Bool) (text later : List ℕ) → SameMaking c new → stopped ≡ true → later ≡ text → IsStopped (journal_by c text) line → IsReader new tail line stopped later
reader-stopped c new tail line stopped text later same over is_text s =
    subst (λ (b : Bool). IsReader new tail line b later) (sym over)
    (subst (λ (t : List ℕ). IsStopped (journal_by new t) line) (sym is_text)
    (subst (λ (d : CheckerValue). IsStopped (journal_by d text) line) (sym same) s))

-- what it keeps where it goes on, and where it has stopped
pub open-of : (c : CheckerValue) (tail : List ℕ) (line : ℕ) (stopped : Bool) (text : List ℕ) → stopped ≡ false → IsReader c tail line stopped text → IsOpen c tail line text
open-of c tail line stopped text going r = subst (λ (b : Bool). IsReader c tail line b text) going r

-- where it has stopped, its line is stuck
pub stopped-of : (c : CheckerValue) (tail : List ℕ) (line : ℕ) (stopped : Bool) (text : List ℕ) → stopped ≡ true → IsReader c tail line stopped text → IsStopped (journal_by c text) line
stopped-of c tail line stopped text over r = subst (λ (b : Bool). IsReader c tail line b text) over r

-- no text yet
pub open-none : (c : CheckerValue) → c.lines ≡ [] → IsBegun (record c { lines = [] }) → IsOpen c [] 1 []
open-none c none begun = record {
  begun = subst (λ (lines : List (List ℕ)). IsBegun (record c { lines = lines })) (sym none) begun;
  text_is = sym (ap (λ (lines : List (List ℕ)). with_line_ends lines ++ []) none);
  count = sym (ap (λ (lines : List (List ℕ)). suc (length lines)) none);
  unended = refl;
  short = omega arith;
}

-- a line has ended
pub reader-ended : (c new : CheckerValue) (tail now : List ℕ) (line next number : ℕ) (good : Bool) (text later part : List ℕ) → IsOpen c tail line text → has_no_end part ≡ true → TakesJournalLine c (tail ++ part) good new now → next ≡ line + 1 → number ≡ cond good next line → later ≡ text ++ (part ++ 10 ∷ []) → IsReader new now number (not good) later
reader-ended c new tail now line next number true text later part o unended takes next_is number_is is_text =
    reader-open (one_more c (tail ++ part)) new [] now number false (text ++ (part ++ 10 ∷ [])) later takes.1.0 takes.1.2 refl is_text
    (subst (λ (n : ℕ). IsOpen (one_more c (tail ++ part)) [] n (text ++ (part ++ 10 ∷ []))) (sym (number_is ∙ next_is))
    (open-next c tail line text o part (subst IsBegun takes.1.0 takes.1.1)))
reader-ended c new tail now line next number false text later part o unended takes next_is number_is is_text =
    reader-stopped c new now number true (text ++ (part ++ 10 ∷ [])) later takes.0 refl is_text
    (subst (λ (n : ℕ). IsStopped (journal_by c (text ++ (part ++ 10 ∷ []))) n) (sym number_is)
    (elim takes.1 [
      | inl long ↦ subst (λ (t : List ℕ). IsStopped (journal_by c t) line) (append_assoc text part (10 ∷ []))
          (stop-more (journal_by c (text ++ part)) line (10 ∷ []) (stop-long c tail line text o part unended (omega (arith, long, length-append tail part))))
      | inr bad ↦ stop-bad c tail line text o part unended bad
    ]))
