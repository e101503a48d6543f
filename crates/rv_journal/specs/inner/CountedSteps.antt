-- What the seat that takes a step learns by it, for each kind of step of a counted board.
use Rattle.std.specs.Prelude.{◌≡◌, ℕ, ◌+◌, ◌-◌, ◌==◌, ◌++◌, MatchBool, if◌then◌else◌}
use Rattle.atomic_table.specs.Table.{Step}
use Rattle.rv_model.specs.declared.entry.Act.{Act}
use Rattle.rv_model.specs.declared.entry.Act.TheVariants.{Stop}
use Rattle.rv_model.specs.declared.hit.Hit.{Hit}
use Rattle.rv_model.specs.Table.{Table}
use Rattle.rv_core.specs.Advance.{advanced}
use Rattle.rv_board.specs.declared.view.View.{View}
use Rattle.rv_board.specs.inner.Steps.{Ours, Saw, Made, index_of, step_answer}
use Rattle.rv_journal.specs.CountedWords.{FitsCounts}
use Rattle.rv_journal.specs.inner.CountedWords.{counted_word, word_in, count_in, counted_at}

-- the seat has seen the history so far, which fits counts, and found the counted word that it gives
abbrev pub SawCounted : View → View → ℕ → ℕ → Type 0
SawCounted v w index found = Saw counted_at v w index found × FitsCounts v.setup w.part.seen

-- the seat has seen the history so far and added its act; the list fits counts before and after
pub record MadeCounted (v w : View) (act : Act) (found : ℕ) : Type 0 where
  pub made : Made counted_at v w act found
  pub before : FitsCounts v.setup (v.part.seen ++ made.rest)
  pub after : FitsCounts v.setup w.part.seen

-- a load adds no entry
abbrev pub IsCountedLoad : Step Act → Ours → ℕ → Ours → Type 0
IsCountedLoad st m found m' = SawCounted m.0 m'.0 (index_of st m) found × (m'.1 ≡ m.1)

-- a compare-exchange adds its act where it finds the word that it expects, and else no entry
abbrev pub IsCountedExchange : Step Act → Ours → ℕ → Ours → Type 0
IsCountedExchange st m found m' = MatchBool (found == st.first) (MadeCounted m.0 m'.0 (step_answer st.said) found) (SawCounted m.0 m'.0 (index_of st m) found) × (m'.1 ≡ m.1)

-- an `and` of the word of index n + 1 that leaves its count alone stops slot n
abbrev pub IsCountedStop : Step Act → Ours → ℕ → Ours → Type 0
IsCountedStop st m found m' = MadeCounted m.0 m'.0 (Stop (index_of st m - 1)) found × (m'.1 ≡ m.1)

-- ---- the next word of a delivery

-- the next word of the instance whose counted word `raw` a delivery found
abbrev pub next_word : Table → ℕ → ℕ → Hit → ℕ
next_word t wide raw hit = (advanced t (word_in wide raw) hit).1

-- the next counted word: the instance's next word, and the count, which grows where that word changes
abbrev pub next_counted : Table → ℕ → ℕ → Hit → ℕ
next_counted t wide raw hit = counted_word wide (next_word t wide raw hit) (count_in raw + (if word_in wide raw == next_word t wide raw hit then 0 else 1))
