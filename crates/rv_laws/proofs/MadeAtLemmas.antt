-- What a history of one thread makes at a seat and on a slot, and the steps of it.
use Rattle.std.proofs.Common.{◌≡◌, ℕ, false, List, [], ◌∷◌, map, reverse, sym, ap, ◌∙◌}
use Rattle.std.specs.Prelude.{filter}
use Rattle.rv_model.specs.declared.entry.Entry.{Entry}
use Rattle.rv_model.specs.Histories.{Input, IsOneHistory}
use Rattle.rv_model.specs.Judging.{Judge}
use Rattle.rv_model.specs.Numbers.{has_bit}
use Rattle.rv_laws.specs.Parts.{Placed, IsPlain}
use Rattle.rv_laws.proofs.AllMadeLemmas.{all-made}
use Rattle.rv_laws.proofs.ListLemmas.{Every, filter-map, map-map, map-reverse}
use Rattle.rv_laws.proofs.Made.{Made, made_told, placed_step}
use Rattle.rv_laws.proofs.MergeLemmas.{is_by}
use Rattle.rv_laws.proofs.PartLemmas.{place_of}
use Rattle.rv_laws.proofs.SeatStepLemmas.{line_of}
use Rattle.rv_laws.proofs.StepLemmas.{Step, Answered, steps_of, told_of, told-steps}
use Rattle.rv_laws.proofs.SwitchLemmas.{opening_word}
use Rattle.rv_laws.proofs.WholeLemmas.{is_at, of_place}

module _ (input : Input) (js : List Judge) (h : List Entry) (plain : IsPlain input) (one : IsOneHistory input js h) (running : has_bit (opening_word input.setup) 34 ≡ false) where
  -- what it makes
  abbrev pub all : List Made
  all = (all-made input js h plain one running).made

  -- what a seat makes on a slot
  abbrev pub made_at : ℕ → ℕ → List Made
  made_at seat slot = filter (of_place (is_at seat input.setup.shape slot)) all

  -- the steps on a slot, and with their answers
  abbrev pub steps : ℕ → List Step
  steps slot = steps_of slot (line_of input.works) (reverse h)

  abbrev pub told : ℕ → List Answered
  told slot = told_of slot (line_of input.works) input.setup js (reverse h)

  -- the steps of a seat on a slot are those of what it makes there
  pub seat-steps : (seat slot : ℕ) → filter (is_by seat) (steps slot) ≡ reverse (map placed_step (map place_of (made_at seat slot)))
  seat-steps seat slot =
      ap (filter (is_by seat)) (sym (told-steps slot (line_of input.works) input.setup js (reverse h)))
      ∙ filter-map (λ (t : Answered). t.step) (is_by seat) (told slot)
      ∙ ap (map (λ (t : Answered). t.step)) ((all-made input js h plain one running).steps_are seat slot)
      ∙ map-reverse (λ (t : Answered). t.step) (map made_told (made_at seat slot))
      ∙ ap reverse (map-map made_told (λ (t : Answered). t.step) (made_at seat slot) ∙ sym (map-map place_of placed_step (made_at seat slot)))

-- what holds of places holds of what was made there
pub places-every : (P : Placed → Type 0) (xs : List Made) → Every P (map place_of xs) → Every (λ x. P x.place) xs
places-every P [] h = tt
places-every P (x ∷ xs) h = (h.0, places-every P xs h.1)
