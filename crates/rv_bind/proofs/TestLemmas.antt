-- The tests of a line, one after another.
use Rattle.std.proofs.Common.{◌≡◌, ℕ, true, false, List, [], ◌∷◌, ◌++◌, refl, sym, ap, ◌∙◌}
use Rattle.std.specs.Prelude.{Result, Ok, Err, Option, Some, None, bytes_eq, codes}
use Rattle.std.proofs.lemmas.List.{append_assoc, append-nil}
use Rattle.rv_text.specs.declared.numbers.TheConstants.{BIND_SYNTAX}
use Rattle.rv_bind.specs.declared.bindings.Test.{Test}
use Rattle.rv_bind.specs.Forms.{tests_at, with_test}
use Rattle.rv_bind.specs.inner.FormsAhead.{with_next, test_next, with_tests}
use Rattle.rv_bind.specs.LineWords.{Words, Read, word_at, or_syntax, test_of, after}

-- a test, and the word behind it, from the test's word on
abbrev next_of : Words → Option Test → Read (Test × List ℕ)
next_of words t = after (or_syntax t) (λ test. after (word_at words) (λ next. Ok ((test, next.0), next.1)))

-- one number of a refusal, whatever was read
same_fault : {X Y : Type 0} (a b : ℕ) → (let x : Result X ℕ = Err a in let y : Result X ℕ = Err b in x ≡ y) → (let x : Result Y ℕ = Err a in let y : Result Y ℕ = Err b in x ≡ y)
same_fault a b e = let same : a ≡ b = cc in ap Err same

-- one more test in front of those that are read
with_tests-more : (tests : List Test) (test : Test) (read : Read (List Test)) → with_tests (tests ++ test ∷ []) read ≡ with_tests tests (with_test test read)
with_tests-more tests test (Err number) = refl
with_tests-more tests test (Ok later) = ap (λ (ts : List Test). Ok (ts, later.1)) (append_assoc tests (test ∷ []) later.0)

module _ (next : List ℕ) (another : bytes_eq next (codes "if") ≡ true) where
  -- where one more test is read, it is the first of those that are left
  tests_at-more : (words : Words) (x : (Test × List ℕ) × Words) → test_next words ≡ Ok x → tests_at (next ∷ words) ≡ with_test x.0.0 (tests_at (x.0.1 ∷ x.1))
  tests_at-more [] x e = cc
  tests_at-more (word ∷ []) x e = go (test_of word) e
    where
      go : (t : Option Test) → next_of [] t ≡ Ok x → tests_at (next ∷ word ∷ []) ≡ with_test x.0.0 (tests_at (x.0.1 ∷ x.1))
      go None e = cc
      go (Some t) e = cc
  tests_at-more (word ∷ behind ∷ words) x e = rw another (go (test_of word) e)
    where
      go : (t : Option Test) → next_of (behind ∷ words) t ≡ Ok x
          → after (or_syntax t) (λ first. with_test first (tests_at (behind ∷ words))) ≡ with_test x.0.0 (tests_at (x.0.1 ∷ x.1))
      go None e = cc
      go (Some t) e = let same : ((t, behind), words) ≡ x = cc in ap (λ (y : (Test × List ℕ) × Words). with_test y.0.0 (tests_at (y.0.1 ∷ y.1))) same

  -- one more test was read
  pub tests_more : (whole : Read (List Test)) (tests more : List Test) (words : Words) (x : (Test × List ℕ) × Words)
      → whole ≡ with_tests tests (tests_at (next ∷ words)) → test_next words ≡ Ok x → more ≡ tests ++ x.0.0 ∷ [] → whole ≡ with_tests more (tests_at (x.0.1 ∷ x.1))
  tests_more whole tests more words x so_far e is =
      so_far ∙ ap (with_tests tests) (tests_at-more words x e) ∙ sym (with_tests-more tests x.0.0 (tests_at (x.0.1 ∷ x.1))) ∙ ap (λ ts. with_tests ts (tests_at (x.0.1 ∷ x.1))) (sym is)

  -- where one more test is refused, all are refused by the same number
  tests_at-fault : (words : Words) (number : ℕ) → test_next words ≡ Err number → (tests : List Test) → with_next (with_tests tests (tests_at (next ∷ words))) ≡ Err number
  tests_at-fault [] number e tests = rw another (same_fault BIND_SYNTAX number e)
  tests_at-fault (word ∷ []) number e tests = rw another (go (test_of word) e)
    where
      go : (t : Option Test) → next_of [] t ≡ Err number
          → with_next (with_tests tests (after (or_syntax t) (λ first. with_test first (tests_at [])))) ≡ Err number
      go None e = same_fault BIND_SYNTAX number e
      go (Some t) e = same_fault BIND_SYNTAX number e
  tests_at-fault (word ∷ behind ∷ words) number e tests = rw another (go (test_of word) e)
    where
      go : (t : Option Test) → next_of (behind ∷ words) t ≡ Err number
          → with_next (with_tests tests (after (or_syntax t) (λ first. with_test first (tests_at (behind ∷ words))))) ≡ Err number
      go None e = same_fault BIND_SYNTAX number e
      go (Some t) e = cc

-- a test that can't be read is the fault of the whole
pub tests_fault : (whole : Read (List Test)) (tests : List Test) (next : List ℕ) (words : Words) (number : ℕ)
    → bytes_eq next (codes "if") ≡ true → whole ≡ with_tests tests (tests_at (next ∷ words)) → test_next words ≡ Err number → with_next whole ≡ Err number
tests_fault whole tests next words number another so_far e = ap with_next so_far ∙ tests_at-fault next another words number e tests

-- no test is left
pub tests_end : (whole : Read (List Test)) (tests : List Test) (next : List ℕ) (words : Words)
    → bytes_eq next (codes "if") ≡ false → whole ≡ with_tests tests (tests_at (next ∷ words)) → with_next whole ≡ Ok ((tests, next), words)
tests_end whole tests next words none so_far = ap with_next (so_far ∙ ap (with_tests tests) (no_test words)) ∙ ap (λ (ts : List Test). Ok ((ts, next), words)) (append-nil tests)
  where
    no_test : (words : Words) → tests_at (next ∷ words) ≡ Ok ([], next ∷ words)
    no_test [] = rw none refl
    no_test (word ∷ words) = rw none refl
