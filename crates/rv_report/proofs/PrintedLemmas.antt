-- Records whose reaction is not printed have no text.
use Rattle.std.proofs.Common.{◌≡◌, ℕ, Bool, true, false, List, [], ◌∷◌, ◌++◌, ◌⊎◌, inl, inr, refl, sym, ap, ◌∙◌}
use Rattle.std.specs.Prelude.{is_some, filter, flat_map, Option, Some, None, slice_get}
use Rattle.std.specs.Option.{option_map_or}
use Rattle.std.proofs.lemmas.List.Concat.{flat_map-cons}
use Rattle.rv_model.specs.declared.entry.Answer.TheVariants.{Passed, Started, Kept, Failed, Stopped, Cleared, Ended, Looked, Switched}
use Rattle.rv_model.specs.declared.reactor.Reactor.{Reactor}
use Rattle.rv_model.specs.declared.record.Delivered.{Delivered}
use Rattle.rv_model.specs.declared.record.Delivered.TheVariants.{Done, Racing}
use Rattle.rv_model.specs.declared.record.Record.{Record}
use Rattle.rv_model.specs.declared.record.Task.{Task}
use Rattle.rv_model.specs.Reactors.{reaction_front}
use Rattle.rv_model.specs.Reports.{Reported, said_text, reaction_text, fault_text, instance_text, failed_text, record_text}
use Rattle.rv_report.specs.Printed.{set_if, is_loud, is_printing, is_printed}

-- a test has two answers
yes_or_no : (b : Bool) → (b ≡ true) ⊎ (b ≡ false)
yes_or_no true = inl refl
yes_or_no false = inr refl

-- what is not there has no text
none-quiet : (text : List ℕ → List ℕ) (front : Option (List ℕ)) → is_some front ≡ false → option_map_or text front [] ≡ []
none-quiet text None e = refl
none-quiet text (Some front) e = absurd (let no : true ≡ false = e in cc)

-- a reactor that does not print has no text
silent-text : (reactor : Reactor) (instance fault : List ℕ) (line : ℕ) → is_loud reactor ≡ false → reaction_text reactor instance fault line ≡ []
silent-text reactor instance fault line e = none-quiet (λ front. front ++ said_text instance fault line) (reaction_front reactor) e

-- a record of a monitor
failed-quiet : (m : Reported) (tasks : List Task) (r : Record) (d : Delivered) → is_printing (set_if r.reacting d) (Some m) ≡ false → failed_text m tasks r d ≡ []
failed-quiet m tasks r (Done (Failed set)) quiet = elim (yes_or_no r.reacting) [
  | inl on ↦ rw on (silent-text m.reactor (instance_text tasks m r.instance) (fault_text m.spec r.hit.what set) r.line (rw on at quiet))
  | inr off ↦ rw off refl
]
failed-quiet m tasks r (Done Passed) quiet = refl
failed-quiet m tasks r (Done Started) quiet = refl
failed-quiet m tasks r (Done Kept) quiet = refl
failed-quiet m tasks r (Done Stopped) quiet = refl
failed-quiet m tasks r (Done Cleared) quiet = refl
failed-quiet m tasks r (Done Ended) quiet = refl
failed-quiet m tasks r (Done (Looked word)) quiet = refl
failed-quiet m tasks r (Done Switched) quiet = refl
failed-quiet m tasks r Racing quiet = refl

-- a record of a monitor or of none
record-quiet : (o : Option Reported) (tasks : List Task) (r : Record) → is_printing (set_if r.reacting r.outcome) o ≡ false → record_text o tasks r ≡ []
record-quiet None tasks r quiet = refl
record-quiet (Some m) tasks r quiet = failed-quiet m tasks r r.outcome quiet

module _ (monitors : List Reported) (tasks : List Task) where
  -- a record's text
  abbrev text : Record → List ℕ
  text r = record_text (slice_get monitors r.monitor) tasks r

  -- a record whose reaction is printed
  filter-printed : (r : Record) (rs : List Record) → is_printed monitors r ≡ true → filter (is_printed monitors) (r ∷ rs) ≡ r ∷ filter (is_printed monitors) rs
  filter-printed r rs e = rw e refl

  -- a record whose reaction is not printed
  filter-quiet : (r : Record) (rs : List Record) → is_printed monitors r ≡ false → filter (is_printed monitors) (r ∷ rs) ≡ filter (is_printed monitors) rs
  filter-quiet r rs e = rw e refl

  -- the text of records is that of those whose reaction is printed
  pub printed-text : (rs : List Record) → flat_map text (filter (is_printed monitors) rs) ≡ flat_map text rs
  printed-text [] = refl
  printed-text (r ∷ rs) = elim (yes_or_no (is_printed monitors r)) [
    | inl printed ↦ ap (flat_map text) (filter-printed r rs printed) ∙ flat_map-cons text r (filter (is_printed monitors) rs) ∙ ap (λ (z : List ℕ). text r ++ z) (printed-text rs) ∙ sym (flat_map-cons text r rs)
    | inr quiet ↦
        ap (flat_map text) (filter-quiet r rs quiet) ∙ printed-text rs ∙ ap (λ (z : List ℕ). z ++ flat_map text rs) (sym (record-quiet (slice_get monitors r.monitor) tasks r quiet)) ∙ sym (flat_map-cons text r rs)
  ]
