-- A line's form, with one word read ahead.
use Rattle.std.proofs.Common.{◌≡◌, ℕ, Bool, true, false, not, List, [], ◌∷◌, ◌++◌, refl, sym, ap, ◌∙◌, Bor, arith}
use Rattle.std.specs.Prelude.{Result, Ok, Err, bytes_eq, codes}
use Rattle.std.specs.Str.{is_utf8, IsUtf8}
use Rattle.std.proofs.lemmas.Str.{IsUtf8-from_is_utf8, is_utf8-from_IsUtf8}
use Rattle.std.proofs.lemmas.List.{map-append, append_assoc, append-nil}
use Rattle.rv_ltl.specs.inner.Texts.{texts}
use Rattle.rv_model.specs.declared.hit.Mode.{Mode}
use Rattle.rv_text.specs.declared.numbers.TheConstants.{BIND_SYNTAX}
use Rattle.rv_bind.specs.Forms.{FormValue, on, by_at, tests_at, hit_form, on_form}
use Rattle.rv_bind.specs.inner.FormsAhead.{with_next, hit_at, on_read}
use Rattle.rv_bind.specs.LineWords.{Words, Read, when, after}

-- text is kept as it is
pub text_kept : (bytes text : List ℕ) → (text ≡ bytes) × IsUtf8 bytes → when (is_utf8 bytes) bytes ≡ Ok text
text_kept bytes text h = rw (is_utf8-from_IsUtf8 bytes h.1, h.0) refl

-- what is no text is refused
pub text_refused : (bytes : List ℕ) → ¬ IsUtf8 bytes → when (is_utf8 bytes) bytes ≡ Err BIND_SYNTAX
text_refused bytes h = go (is_utf8 bytes) refl
  where
    go : (b : Bool) → is_utf8 bytes ≡ b → when b bytes ≡ Err BIND_SYNTAX
    go true is = absurd (h (IsUtf8-from_is_utf8 bytes is))
    go false is = refl

-- a word may be read ahead where something has to follow
next-after : {Y : Type 0} (read : Read Y) (rest : Y → Words → Result FormValue ℕ) → ((y : Y) → rest y [] ≡ Err BIND_SYNTAX)
    → after (with_next read) (λ x. rest x.0.0 (x.0.1 ∷ x.1)) ≡ after read (λ x. rest x.0 x.1)
next-after (Err number) rest none = refl
next-after (Ok (y, [])) rest none = sym (none y)
next-after (Ok (y, word ∷ words)) rest none = refl

-- a hit by its parts is the hit
hit_read_is_form : (made : Mode → Words → FormValue) (colon : List ℕ) (words : Words) → after (hit_at colon words) (λ hit. Ok (made hit.0 hit.1)) ≡ hit_form made (colon ∷ words)
hit_read_is_form made colon words = grind arith

-- behind the event, reading with one word ahead reads the same
on-behind : (name called : List ℕ) (words : Words)
    → after (with_next (by_at words)) (λ by. after (with_next (tests_at (by.0.1 ∷ by.1))) (λ tests. after (hit_at tests.0.1 tests.1) (λ hit. Ok (on name called by.0.0 tests.0.0 hit.0 hit.1))))
    ≡ after (by_at words) (λ by. after (tests_at by.1) (λ tests. hit_form (on name called by.0 tests.0) tests.1))
on-behind name called words =
    ap (after (with_next (by_at words))) (λ i by. ap (after (with_next (tests_at (by.0.1 ∷ by.1)))) (λ j tests. hit_read_is_form (on name called by.0.0 tests.0.0) tests.0.1 tests.1 j) i)
    ∙ next-after (by_at words) (λ by words. after (with_next (tests_at words)) (λ tests. hit_form (on name called by tests.0.0) (tests.0.1 ∷ tests.1))) (λ by. refl)
    ∙ ap (after (by_at words)) (λ i by. next-after (tests_at by.1) (λ tests words. hit_form (on name called by.0 tests) words) (λ tests. refl) i)

-- reading ahead is reading
pub on_read_is_form : (words : Words) → on_read words ≡ on_form words
on_read_is_form [] = refl
on_read_is_form (name ∷ []) = refl
on_read_is_form (name ∷ event ∷ words) = ap (after (when (not (bytes_eq event (codes ":"))) event)) (λ i called. on-behind name called words i)

-- one more word is taken
pub one_taken : (taken more : List (Bor (List ℕ))) (word : Bor (List ℕ)) (words rest all : Words) → words ≡ word.now ∷ rest → texts taken ++ words ≡ all → more ≡ taken ++ word ∷ [] → texts more ++ rest ≡ all
one_taken taken more word words rest all next so_far pushed =
    ap (λ ts. texts ts ++ rest) pushed ∙ ap (λ ts. ts ++ rest) (map-append (λ s. s.now) taken (word ∷ [])) ∙ append_assoc (texts taken) (word.now ∷ []) rest ∙ ap (λ ws. texts taken ++ ws) (sym next) ∙ so_far

-- no word is left
pub all_taken : (taken : List (Bor (List ℕ))) (words all : Words) → words ≡ [] → texts taken ++ words ≡ all → texts taken ≡ all
all_taken taken words all none so_far = sym (append-nil (texts taken)) ∙ ap (λ ws. texts taken ++ ws) (sym none) ∙ so_far
