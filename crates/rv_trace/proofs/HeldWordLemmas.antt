-- A word whose first bytes stand beside it is compared with the word with which a text begins.
use Rattle.std.proofs.Common.{◌≡◌, ℕ, ◌<◌, ◌≤◌, Bool, true, false, List, length, get_or, take, refl, sym, ap, ◌∙◌, arith}
use Rattle.std.proofs.Math.Dec.{leb}
use Rattle.std.proofs.lemmas.Bool.{eqb-true, eq-eqb, leb-true, leb-false, false≢true}
use Rattle.std.proofs.lemmas.Grind.{same_number_lists}
use Rattle.std.proofs.lemmas.List.{get_or-take, length-take-le}
use Rattle.std.proofs.lemmas.Slice.Eq.{bytes_eq-Decides}
use Rattle.std.specs.Cmp.Lexicographic.{pointwise_decides}
use Rattle.std.specs.Prelude.{bytes_eq, min, nat_eq}
use Rattle.std.specs.List.{starts_with}
use Rattle.rv_trace.specs.Masks.{IsPairRun}

module _ (near held word text : List ℕ) (run : ℕ) (as_long : length word ≡ length held) (first : take (min (length held) 16) near ≡ take 16 held)
    (front : take (length word) text ≡ word) (pairs : IsPairRun nat_eq near text 16 run) where
  -- a byte of the held word is the one that stands beside it
  of_held : (k : ℕ) → k < length held → k < 16 → get_or held k 0 ≡ get_or near k 0
  of_held k inside few =
      sym (get_or-take 16 held k 0 few) ∙ ap (λ (l : List ℕ). get_or l k 0) (sym first) ∙ get_or-take (min (length held) 16) near k 0 (omega arith)

  -- a byte of the word is one of the text
  of_word : (k : ℕ) → k < length word → get_or word k 0 ≡ get_or text k 0
  of_word k inside = ap (λ (l : List ℕ). get_or l k 0) (sym front) ∙ get_or-take (length word) text k 0 inside

  -- they are the same where none of their bytes differs
  pub held-same : length word ≤ run → true ≡ bytes_eq word held
  held-same all =
      sym ((bytes_eq-Decides word held).1 (same_number_lists word held as_long (λ k inside.
      of_word k inside ∙ sym (eqb-true (get_or near k 0) (get_or text k 0) (pairs.each k (omega arith))) ∙ sym (of_held k (omega arith) (omega (arith, pairs.most))))))

  -- and others where one does
  pub held-apart : run < length word → run < 16 → false ≡ bytes_eq word held
  held-apart inside few =
      elim (bytes_eq word held) as (λ b. bytes_eq word held ≡ b → false ≡ b) [
        | true ↦ (λ same.
            let equal : get_or near run 0 ≡ get_or text run 0 = sym (of_held run (omega arith) few) ∙ ap (λ (l : List ℕ). get_or l run 0) (sym ((bytes_eq-Decides word held).0 same)) ∙ of_word run inside in
            absurd (false≢true (sym (pairs.stop few) ∙ eq-eqb (get_or near run 0) (get_or text run 0) equal)))
        | false ↦ (λ _. refl)
      ] refl

-- two tests that hold together are one
same-test : (one other : Bool) → (one ≡ true → other ≡ true) → (other ≡ true → one ≡ true) → one ≡ other
same-test true other to from = sym (to refl)
same-test false true to from = from refl
same-test false false to from = refl

module _ (near held text : List ℕ) (run : ℕ) (short : length held ≤ 16) (room : 16 ≤ length text) (first : take (min (length held) 16) near ≡ take 16 held)
    (pairs : IsPairRun nat_eq near text 16 run) where
  -- the text's bytes in the place of the held word
  abbrev front : List ℕ
  front = take (length held) text

  -- they are as many
  as_long : length front ≡ length held
  as_long = length-take-le (length held) text (omega arith)

  -- the text begins with the held word where they are the same
  front-is : bytes_eq front held ≡ starts_with nat_eq text held
  front-is =
      let same = pointwise_decides (λ a b. (eqb-true a b, eq-eqb a b)) held front in
      same-test (bytes_eq front held) (starts_with nat_eq text held) (λ yes. same.1 (sym ((bytes_eq-Decides front held).0 yes))) (λ yes. (bytes_eq-Decides front held).1 (sym (same.0 yes)))

  -- a load tells whether it does
  pub held-begins : leb (length held) run ≡ starts_with nat_eq text held
  held-begins =
      let as_front = ap (λ (n : ℕ). take n text) as_long in
      elim (leb (length held) run) as (λ b. leb (length held) run ≡ b → b ≡ starts_with nat_eq text held) [
        | true ↦ (λ all. held-same near held front text run as_long first as_front pairs (omega (arith, as_long, leb-true (length held) run all)) ∙ front-is)
        | false ↦ (λ one. let before = leb-false (length held) run one in held-apart near held front text run as_long first as_front pairs (omega (arith, as_long, before)) (omega (arith, short, before)) ∙ front-is)
      ] refl
