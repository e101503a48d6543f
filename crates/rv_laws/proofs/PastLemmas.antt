-- What holds at each entry of a history holds at each entry of its past, which has the newest entry first.
use Rattle.std.proofs.Common.{◌≡◌, List, [], ◌∷◌, ◌++◌, reverse, sym, subst, append_assoc, append-nil}
use Rattle.std.proofs.lemmas.List.{reverse-append}
use Rattle.rv_model.specs.declared.entry.Entry.{Entry}
use Rattle.rv_model.specs.Cuts.{AtEach}
use Rattle.rv_model.proofs.CutLemmas.{at_each-front}

-- the fact holds at each entry, of the past before it and of it
abbrev pub Each : (List Entry → Entry → Type 0) → List Entry → Type 0
Each Q [] = Unit {0}
Each Q (e ∷ past) = Q past e × Each Q past

module _ (Q : List Entry → Entry → Type 0) where
  -- the fact of a history's entries, by the entries before each
  abbrev pub AtCuts : List Entry → Type 0
  AtCuts = AtEach (λ before e. Q (reverse before) e)

  -- one more entry, and what comes after it
  each-more : (front back : List Entry) → Each Q (reverse front) → AtCuts (front ++ back) → Each Q (reverse (front ++ back))
  each-more front [] so_far cuts = subst (λ (z : List Entry). Each Q (reverse z)) (sym (append-nil front)) so_far
  each-more front (e ∷ back) so_far cuts =
      let more : List Entry = front ++ e ∷ [] in
      let same : more ++ back ≡ front ++ e ∷ back = append_assoc front (e ∷ []) back in
      let grown : Each Q (reverse more) = subst (Each Q) (sym (reverse-append front (e ∷ []))) (cuts front e back (λ _. front ++ e ∷ back), so_far) in
      subst (λ (z : List Entry). Each Q (reverse z)) same (each-more more back grown (subst AtCuts (sym same) cuts))

  -- what holds at each entry holds along the whole past
  pub each-of : (h : List Entry) → AtCuts h → Each Q (reverse h)
  each-of h cuts = each-more [] h tt cuts

  -- and along the past of each entry
  pub each-before : (h before : List Entry) (e : Entry) (after : List Entry) → h ≡ before ++ e ∷ after → AtCuts h → Each Q (reverse before)
  each-before h before e after eq cuts = each-of before (at_each-front (λ b f. Q (reverse b) f) before (e ∷ after) (subst AtCuts eq cuts))
