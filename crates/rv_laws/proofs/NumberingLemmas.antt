-- What the numbers of a part leave as it is: the order of steps and of records, and the answers.
use Rattle.std.proofs.Common.{◌≡◌, ℕ, ◌<◌, ◌≤◌, Bool, true, false, List, [], ◌∷◌, inl, inr, map, arith, refl, sym, ap, ◌∙◌}
use Rattle.std.specs.Prelude.{nat_le}
use Rattle.rv_model.specs.declared.entry.Entry.{Entry}
use Rattle.rv_model.specs.declared.record.Record.{Record}
use Rattle.rv_model.specs.Judging.{Judge}
use Rattle.rv_model.specs.Phases.{answer_to}
use Rattle.rv_model.specs.Records.{sort_records}
use Rattle.rv_model.specs.inner.Sorting.{insert_record}
use Rattle.rv_model.proofs.NumberLemmas.{nat_lt_or}
use Rattle.rv_model.proofs.SortLemmas.{sort_records-nil, sort_records-cons}
use Rattle.rv_laws.specs.Parts.{Numbering, placed_by, record_in}
use Rattle.rv_laws.proofs.AnswerLemmas.{bare}
use Rattle.rv_laws.proofs.Made.{Made}
use Rattle.rv_laws.proofs.MergeLemmas.{Below, Descends}
use Rattle.rv_laws.proofs.StepLemmas.{Step, Answered, past_of, answer_after, answered}

-- what keeps "less" keeps "at most"
keeps-le : (f : ℕ → ℕ) → ((a b : ℕ) → a < b → f a < f b) → (a b : ℕ) → a ≤ b → f a ≤ f b
keeps-le f up a b le = elim (nat_lt_or a b le) [ inl lt ↦ let more = up a b lt in omega arith | inr same ↦ let e : f a ≡ f b = ap f same in omega arith ]

module _ (n : Numbering) where
  -- a step of the part, as the whole has it
  abbrev pub step_in : Step → Step
  step_in x = record { seat = x.seat; line = n.line x.line; act = x.act }

  -- a step with its answer
  abbrev pub told_in : Answered → Answered
  told_in x = record { step = step_in x.step; answer = x.answer }

  -- what the part made
  abbrev pub made_in : Made → Made
  made_in x = record { place = placed_by n x.place; answer = x.answer }

  -- the acts stay
  past-in : (xs : List Step) → past_of (map step_in xs) ≡ past_of xs
  past-in [] = refl
  past-in (x ∷ xs) = ap (λ (z : List Entry). bare x.act ∷ z) (past-in xs)

  -- so do the answers
  pub answered-in : (j : Judge) (start : ℕ) (xs : List Step) → answered j start (map step_in xs) ≡ map told_in (answered j start xs)
  answered-in j start [] = refl
  answered-in j start (x ∷ xs) =
      ap (λ (z : List Answered). record { step = step_in x; answer = answer_after j start (map step_in xs) x.act } ∷ z) (answered-in j start xs)
      ∙ ap (λ (z : List Entry). record { step = step_in x; answer = answer_to j start z (bare x.act) x.act } ∷ map told_in (answered j start xs)) (past-in xs)

  module _ (lines : (a b : ℕ) → a ≤ b → n.line a ≤ n.line b) where
    -- no line is above
    below-in : (k : ℕ) (xs : List Step) → Below k xs → Below (n.line k) (map step_in xs)
    below-in k [] below = tt
    below-in k (x ∷ xs) below = (lines x.line k below.0, below-in k xs below.1)

    -- the lines never ascend
    pub descends-in : (xs : List Step) → Descends xs → Descends (map step_in xs)
    descends-in [] down = tt
    descends-in (x ∷ xs) down = (below-in x.line xs down.0, descends-in xs down.1)

  module _ (orders : (a b : ℕ) → a < b → n.order a < n.order b) where
    -- orders compare as they did
    order-test : (a b : ℕ) → nat_le (n.order a) (n.order b) ≡ nat_le a b
    order-test a b = go (nat_le a b) refl
      where
        go : (t : Bool) → nat_le a b ≡ t → nat_le (n.order a) (n.order b) ≡ t
        go true le = let under : a ≤ b = grind arith in let more = keeps-le n.order orders a b under in grind arith
        go false gt = let over : b < a = grind arith in let more = orders b a over in grind arith

    -- a record is put in the same place
    insert-in : (r : Record) (rs : List Record) → insert_record (record_in n r) (map (record_in n) rs) ≡ map (record_in n) (insert_record r rs)
    insert-in r [] = refl
    insert-in r (x ∷ rs) = go (nat_le r.order x.order) refl (insert-in r rs)
      where
        go : (t : Bool) → nat_le r.order x.order ≡ t → insert_record (record_in n r) (map (record_in n) rs) ≡ map (record_in n) (insert_record r rs) → insert_record (record_in n r) (map (record_in n) (x ∷ rs)) ≡ map (record_in n) (insert_record r (x ∷ rs))
        go true le rest = let there : nat_le (n.order r.order) (n.order x.order) ≡ true = order-test r.order x.order ∙ le in rw (le, there) refl
        go false gt rest = let there : nat_le (n.order r.order) (n.order x.order) ≡ false = order-test r.order x.order ∙ gt in rw (gt, there) (ap (λ (z : List Record). record_in n x ∷ z) rest)

    -- records are sorted as they were
    pub sort-in : (rs : List Record) → sort_records (map (record_in n) rs) ≡ map (record_in n) (sort_records rs)
    sort-in [] = sort_records-nil ∙ ap (map (record_in n)) (sym sort_records-nil)
    sort-in (r ∷ rs) = sort_records-cons (record_in n r) (map (record_in n) rs) ∙ ap (insert_record (record_in n r)) (sort-in rs) ∙ insert-in r (sort_records rs) ∙ ap (map (record_in n)) (sym (sort_records-cons r rs))
