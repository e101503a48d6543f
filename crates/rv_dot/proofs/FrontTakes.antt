-- What is read is made of pieces.
use Rattle.std.proofs.Common.{◌≡◌, ℕ, zero, suc, Bool, true, false, eqb, List, [], ◌∷◌, ◌++◌, Option, Some, None, cond, refl, sym, ap, ◌∙◌, subst, drop, inl, inr}
use Rattle.std.specs.Prelude.{◌&&◌}
use Rattle.std.specs.List.{find, AllByRecursion}
use Rattle.std.specs.Option.{option_map, option_to_list}
use Rattle.std.proofs.lemmas.Option.{same_Some}
use Rattle.rv_dot.specs.declared.token.Mark.{Mark}
use Rattle.rv_dot.specs.declared.token.Mark.TheVariants.{Arrow}
use Rattle.rv_dot.specs.Runs.{is_word_byte, begins_with}
use Rattle.rv_dot.specs.Tokens.{Lexeme, sign, Front, gap, byte_marks, mark_of, front_of, tokens_within}
use Rattle.rv_dot.specs.Pieces.{Piece, blank, hash_line, unit, mark_bytes, is_gap_byte, ends_line, SplitsInto, tokens_in}
use Rattle.rv_dot.proofs.MarkLaws.{bind_some, chosen}
use Rattle.rv_dot.proofs.RunLaws.{same_byte, begins_with_takes, map_some}
use Rattle.rv_dot.proofs.FrontLaws.{first_byte}
use Rattle.rv_dot.proofs.PieceTakes.{Took, comment_takes, line_takes, string_token_takes, took_gap, word_token_takes}

-- the mark that is found by a byte is spelled by it
found_spelled : (b : ℕ) (m : Mark) (ps : List (ℕ × Mark)) → AllByRecursion (λ p. mark_bytes p.1 ≡ p.0 ∷ []) ps → option_map (λ p. p.1) (find (λ p. eqb b p.0) ps) ≡ Some m → mark_bytes m ≡ b ∷ []
found_spelled b m [] all h = absurd (cc)
found_spelled b m (p ∷ ps) all h = go (eqb b p.0) refl h (found_spelled b m ps all.1)
  where
    go : (t : Bool) → eqb b p.0 ≡ t → option_map (λ (q : ℕ × Mark). q.1) (cond t (Some p) (find (λ (q : ℕ × Mark). eqb b q.0) ps)) ≡ Some m → (option_map (λ (q : ℕ × Mark). q.1) (find (λ (q : ℕ × Mark). eqb b q.0) ps) ≡ Some m → mark_bytes m ≡ b ∷ []) → mark_bytes m ≡ b ∷ []
    go true same k more = ap mark_bytes (sym (same_Some p.1 m k)) ∙ all.0 ∙ ap (λ (d : ℕ). d ∷ []) (sym (same_byte b p.0 same))
    go false same k more = more k

-- a mark of one byte
mark_takes : (b : ℕ) (m : Mark) → mark_of b ≡ Some m → mark_bytes m ≡ b ∷ []
mark_takes b m h = found_spelled b m byte_marks (refl, (refl, (refl, (refl, (refl, (refl, (refl, tt))))))) h

-- both tests pass
both : (a b : Bool) → (a && b) ≡ true → (a ≡ true) × (b ≡ true)
both true b h = (refl, h)
both false b h = absurd (cc)

-- at a byte that is known
at_byte : (starts : Bool) (b k : ℕ) (rest : List ℕ) (x : Front) → eqb b k ≡ true → Took starts (k ∷ rest) x → Took starts (b ∷ rest) x
at_byte starts b k rest x same took = (took.0, took.1, ap (λ (d : ℕ). d ∷ rest) (same_byte b k same) ∙ took.2, took.3)

-- what is read so is spelled so: front
pub front_takes : (starts : Bool) (bytes : List ℕ) (x : Front) → front_of starts bytes ≡ Some x → Took starts bytes x
unfolding front_of
front_takes starts [] x h = absurd (cc)
front_takes starts (b ∷ rest) x h =
    elim (chosen (is_gap_byte b) (gap rest) _ (Some x) h) [
      | inl p ↦ took_gap starts (b ∷ rest) (blank b) rest x p.1 p.0 refl
      | inr p ↦
          elim (chosen (eqb b 35 && starts) _ _ (Some x) p.1) [
            | inl q ↦
                let tests = both (eqb b 35) starts q.0 in
                let k = line_takes rest in
                at_byte starts b 35 rest x tests.0 (took_gap starts (35 ∷ rest) (hash_line k.0) k.1 x (ap gap (sym k.5) ∙ q.1) (tests.1, k.3, k.4) (ap (λ (bs : List ℕ). 35 ∷ bs) k.2))
            | inr q ↦
                elim (chosen (eqb b 47) _ _ (Some x) q.1) [
                  | inl r ↦ at_byte starts b 47 rest x r.0 (comment_takes starts rest x r.1)
                  | inr r ↦
                      elim (chosen (eqb b 34) _ _ (Some x) r.1) [
                        | inl s ↦ at_byte starts b 34 rest x s.0 (string_token_takes starts rest x s.1)
                        | inr s ↦
                            elim (chosen (eqb b 45) _ _ (Some x) s.1) [
                              | inl t ↦
                                  elim (chosen (begins_with 62 rest) _ None (Some x) t.1) [
                                    | inl u ↦ at_byte starts b 45 rest x t.0 (took_gap starts (45 ∷ rest) (unit (sign Arrow)) (drop 1 rest) x u.1 tt (ap (λ (bs : List ℕ). 45 ∷ bs) (begins_with_takes 62 rest u.0)))
                                    | inr u ↦ absurd (cc)
                                  ]
                              | inr t ↦
                                  elim (chosen (is_word_byte b) _ _ (Some x) t.1) [
                                    | inl u ↦ word_token_takes starts b rest x u.0 u.1
                                    | inr u ↦
                                        let m = map_some _ (mark_of b) x u.1 in
                                        took_gap starts (b ∷ rest) (unit (sign m.0)) rest x (ap Some m.2) tt (ap (λ (bs : List ℕ). bs ++ rest) (sym (mark_takes b m.0 m.1)))
                                  ]
                            ]
                      ]
                ]
          ]
    ]

-- what is read so is spelled so: tokens
pub tokens_take : (n : ℕ) (starts : Bool) (bytes : List ℕ) (ts : List Lexeme) → tokens_within n starts bytes ≡ Some ts → (ps : List Piece) × SplitsInto starts bytes ps × (tokens_in ps ≡ ts)
unfolding tokens_within
tokens_take zero starts [] ts h = ([], refl, same_Some [] ts h)
tokens_take (suc n) starts [] ts h = ([], refl, same_Some [] ts h)
tokens_take zero starts (b ∷ bytes) ts h = absurd (cc)
tokens_take (suc n) starts (b ∷ bytes) ts h =
    let front = bind_some (front_of starts (b ∷ bytes)) _ ts h in
    let others = bind_some (tokens_within n (eqb b 10) front.0.1) _ ts front.2 in
    let took = front_takes starts (b ∷ bytes) front.0 front.1 in
    let more = tokens_take n (eqb b 10) front.0.1 others.0 others.1 in
    let first = first_byte starts took.0 front.0.1 took.1 in
    let whole : b ∷ bytes ≡ first.0 ∷ first.1 = took.2 ∙ first.2 in
    let same : b ≡ first.0 = cc in
    let line : eqb b 10 ≡ ends_line took.0 = ap (λ (d : ℕ). eqb d 10) same ∙ first.3 in (
      took.0 ∷ more.0,
      (front.0.1, took.2, took.1, subst (λ (t : Bool). SplitsInto t front.0.1 more.0) line more.1),
      ap (λ (o : Option Lexeme). option_to_list o ++ tokens_in more.0) took.3 ∙ ap (λ (l : List Lexeme). option_to_list front.0.0 ++ l) more.2 ∙ same_Some _ ts others.2,
    )
