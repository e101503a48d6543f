-- How the words of an entry are read, one after another; that this reads back its text is a clause of `read_entry`.
use Rattle.std.specs.Prelude.{ℕ, List, [], ◌∷◌, Option, Some, None}
use Rattle.rv_model.specs.declared.entry.Act.{Act}
use Rattle.rv_model.specs.declared.entry.Act.TheVariants.{Deliver, Stop, Look, Raise, Lower, Clear, End}
use Rattle.rv_model.specs.declared.entry.Entry.{Entry}
use Rattle.rv_model.specs.declared.hit.Mode.{Mode}
use Rattle.rv_model.specs.declared.hit.What.{What}
use Rattle.rv_model.specs.declared.hit.What.TheVariants.{Da, Ltl}
use Rattle.rv_journal.specs.declared.names.LetterKind.{LetterKind}
use Rattle.rv_journal.specs.declared.names.LetterKind.TheVariants as kinds
use Rattle.rv_journal.specs.declared.names.ActVerb.{ActVerb}
use Rattle.rv_journal.specs.declared.names.ActVerb.TheVariants as verbs
use Rattle.rv_journal.specs.inner.PieceReadings.{Reading, then_read, first_by, most_8, most_32, most_64, number_from, mode_in, kind_in, verb_in}

-- ---- what is delivered

-- reads an automaton's event
abbrev pub event_from : List (List ℕ) → Reading What
event_from words = then_read (number_from most_8 words) (λ event rest. Some (Da event, rest))

-- reads the pulses of a rule's atoms, after those that go on and off
abbrev pub pulse_from : ℕ → ℕ → List (List ℕ) → Reading What
pulse_from on off words = then_read (number_from most_32 words) (λ pulse rest. Some (Ltl on off pulse, rest))

-- reads the atoms of a rule that go off, and then the pulses
abbrev pub off_from : ℕ → List (List ℕ) → Reading What
off_from on words = then_read (number_from most_32 words) (pulse_from on)

-- reads the atoms of a rule that go on, and then the two other sets
abbrev pub sets_from : List (List ℕ) → Reading What
sets_from words = then_read (number_from most_32 words) off_from

-- reads what is delivered, whose kind is known: an event, or what becomes of a rule's atoms
abbrev pub what_of : LetterKind → List (List ℕ) → Reading What
what_of kinds.Da words = event_from words
what_of kinds.Ltl words = sets_from words

-- reads a kind of letter, and then the letter
abbrev pub what_from : List (List ℕ) → Reading What
what_from words = then_read (first_by kind_in words) what_of

-- ---- acts

-- reads what is delivered, after the slot and the mode
abbrev pub run_from : ℕ → Mode → List (List ℕ) → Reading Act
run_from slot mode words = then_read (what_from words) (λ what rest. Some (Deliver slot (record { mode = mode; what = what }), rest))

-- reads the mode of a delivery, after its slot, and then what is delivered
abbrev pub hit_from : ℕ → List (List ℕ) → Reading Act
hit_from slot words = then_read (first_by mode_in words) (run_from slot)

-- reads a delivery, after its name: its slot, its mode, and what is delivered
abbrev pub deliver_from : List (List ℕ) → Reading Act
deliver_from words = then_read (number_from most_32 words) hit_from

-- reads the one number of an act: a slot, or the bits of switches
abbrev pub numbered_from : ℕ → (ℕ → Act) → List (List ℕ) → Reading Act
numbered_from most act words = then_read (number_from most words) (λ n rest. Some (act n, rest))

-- reads the numbers of an act, whose name is known
abbrev pub act_of : ActVerb → List (List ℕ) → Reading Act
act_of verbs.Deliver words = deliver_from words
act_of verbs.Stop words = numbered_from most_32 Stop words
act_of verbs.Look words = Some (Look, words)
act_of verbs.Raise words = numbered_from most_64 Raise words
act_of verbs.Lower words = numbered_from most_64 Lower words
act_of verbs.Clear words = numbered_from most_32 Clear words
act_of verbs.End words = numbered_from most_32 End words

-- reads the name of an act, and then its numbers
abbrev pub act_from : List (List ℕ) → Reading Act
act_from words = then_read (first_by verb_in words) act_of

-- ---- entries

-- the value where no word is left, and else none
abbrev pub all_words_read : {X : Type 0} → X → List (List ℕ) → Option X
all_words_read x [] = Some x
all_words_read x (word ∷ words) = None

-- reads the word after an entry, after all else, and wants the line to end
abbrev pub after_from : ℕ → Act → ℕ → List (List ℕ) → Option Entry
after_from seat act before words = then_read (number_from most_64 words) (λ after rest. all_words_read (record { seat = seat; act = act; before = before; after = after }) rest)

-- reads the word before an entry, after the seat and the act, and then the word after it
abbrev pub before_from : ℕ → Act → List (List ℕ) → Option Entry
before_from seat act words = then_read (number_from most_64 words) (after_from seat act)

-- reads the act of an entry, after the seat, and then the words before and after it
abbrev pub acted_from : ℕ → List (List ℕ) → Option Entry
acted_from seat words = then_read (act_from words) (before_from seat)

-- reads an entry: its seat, its act, and the words before and after it
abbrev pub entry_from : List (List ℕ) → Option Entry
entry_from words = then_read (number_from most_32 words) acted_from
