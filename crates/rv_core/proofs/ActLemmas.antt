-- The word that an act is on, and what the act makes of it.
use Rattle.std.proofs.Common.{◌≡◌, ◌≢◌, ℕ, ◌+◌, ◌^◌, ◌<◌, ◌⊎◌, arith, refl, ap, subst, sum}
use Rattle.rv_model.specs.declared.entry.Act.{Act}
use Rattle.rv_model.specs.declared.entry.Act.TheVariants.{Deliver, Stop, Look, Raise, Lower, Clear, End}
use Rattle.rv_model.specs.Setups.{Setup, start_of}
use Rattle.rv_core.specs.Advance.{FitsTable, acted}
use Rattle.rv_core.specs.Setup.{ActFits, FitsAct, word_index, table_at, table_of_act, start_of_act}
use Rattle.rv_core.proofs.TurnLemmas.{fits-start}
use Rattle.rv_core.proofs.WordLemmas.{Acts}

-- numbers are the same or not
pub same_or_not : (a b : ℕ) → (a ≡ b) ⊎ (a ≢ b)
same_or_not a b = grind arith

-- an act's word is one of the words
pub place-below : (s : Setup) (act : Act) → FitsAct s act → word_index act < sum s.shape + 1
place-below s (Deliver slot hit) f = let l = f.0 in omega arith
place-below s (Stop slot) f = omega arith
place-below s (Clear slot) f = omega arith
place-below s (End slot) f = omega arith
place-below s Look f = omega arith
place-below s (Raise _) f = omega arith
place-below s (Lower _) f = omega arith

-- an act on a slot's word is on that slot, and fits its table
pub acts-on : (s : Setup) (i : ℕ) (act : Act) → FitsAct s act → ActFits s act → word_index act ≡ i + 1 → Acts (table_at s i) (start_of s i) act
acts-on s i (Deliver slot hit) f b e =
    let same : slot ≡ i = omega arith in
    let fits : FitsTable (table_at s i) hit = subst (λ (n : ℕ). FitsTable (table_at s n) hit) same f.1 in
    (b, fits-start (table_at s i) hit.mode hit.what fits.1)
acts-on s i (Stop _) f b e = tt
acts-on s i (Clear slot) f b e = let same : slot ≡ i = omega arith in subst (λ (n : ℕ). start_of s n < 2 ^ 32) same b
acts-on s i (End slot) f b e = let same : slot ≡ i = omega arith in subst (λ (n : ℕ). start_of s n < 2 ^ 32) same b
acts-on s i Look f b e = tt
acts-on s i (Raise _) f b e = tt
acts-on s i (Lower _) f b e = tt

-- what an act makes of the word of its slot, by the slot's table and starting levels
pub acted-at : (s : Setup) (w i : ℕ) (act : Act) → word_index act ≡ i + 1 → (acted (table_of_act s act) (start_of_act s act) w act).1 ≡ (acted (table_at s i) (start_of s i) w act).1
acted-at s w i (Deliver slot hit) e = let same : slot ≡ i = omega arith in ap (λ (n : ℕ). (acted (table_at s n) (start_of s i) w (Deliver slot hit)).1) same
acted-at s w i (Stop _) e = refl
acted-at s w i (Clear slot) e = let same : slot ≡ i = omega arith in ap (λ (n : ℕ). 2 ^ 32 + start_of s n) same
acted-at s w i (End slot) e = let same : slot ≡ i = omega arith in ap (λ (n : ℕ). 2 ^ 32 + start_of s n) same
acted-at s w i Look e = refl
acted-at s w i (Raise _) e = refl
acted-at s w i (Lower _) e = refl
