-- The text of an entry (this project's choice: docs/FORMATS.md, "The journal"): its words, one blank apart.
use Rattle.std.specs.Prelude.{◌≡◌, ℕ, false, ◌^◌, ◌<◌, List, [], ◌∷◌, ◌++◌, flat_map, codes, decimal}
use Rattle.rv_model.specs.declared.entry.Act.{Act}
use Rattle.rv_model.specs.declared.entry.Act.TheVariants.{Deliver, Stop, Look, Raise, Lower, Clear, End}
use Rattle.rv_model.specs.declared.entry.Entry.{Entry}
use Rattle.rv_model.specs.declared.hit.Mode.{Mode}
use Rattle.rv_model.specs.declared.hit.Mode.TheVariants as modes
use Rattle.rv_model.specs.declared.hit.What.{What}
use Rattle.rv_model.specs.declared.hit.What.TheVariants.{Da, Ltl, Nothing}
use Rattle.rv_model.specs.Scripts.{is_end}

-- ---- words

-- the word of a mode, as in bindings
abbrev pub mode_word : Mode → List ℕ
mode_word modes.Event = codes "event"
mode_word modes.Start = codes "start"
mode_word modes.StartRun = codes "start_run"
mode_word modes.End = codes "end"

-- the words of what is delivered: an automaton's event, or what becomes of a rule's atoms; an end has none
abbrev pub what_words : What → List (List ℕ)
what_words (Da event) = codes "da" ∷ decimal event ∷ []
what_words (Ltl on off pulse) = codes "ltl" ∷ decimal on ∷ decimal off ∷ decimal pulse ∷ []
what_words Nothing = []

-- the words of an act: its name, and then its numbers
abbrev pub act_words : Act → List (List ℕ)
act_words (Deliver slot hit) = codes "deliver" ∷ decimal slot ∷ mode_word hit.mode ∷ what_words hit.what
act_words (Stop slot) = codes "stop" ∷ decimal slot ∷ []
act_words Look = codes "look" ∷ []
act_words (Raise bits) = codes "raise" ∷ decimal bits ∷ []
act_words (Lower bits) = codes "lower" ∷ decimal bits ∷ []
act_words (Clear slot) = codes "clear" ∷ decimal slot ∷ []
act_words (End slot) = codes "end" ∷ decimal slot ∷ []

-- the words of an entry: its seat, those of its act, and the shared word before and after it
abbrev pub entry_words : Entry → List (List ℕ)
entry_words e = decimal e.seat ∷ (act_words e.act ++ decimal e.before ∷ decimal e.after ∷ [])

-- ---- texts

-- the words, each with a blank in front
abbrev pub behind_blanks : List (List ℕ) → List ℕ
behind_blanks words = flat_map (λ word. 32 ∷ word) words

-- the words, with one blank between two of them
abbrev pub one_apart : List (List ℕ) → List ℕ
one_apart [] = []
one_apart (word ∷ words) = word ++ behind_blanks words

-- the text of an entry, without a line end
abbrev pub entry_text : Entry → List ℕ
entry_text e = one_apart (entry_words e)

-- the journal of a history: a line for each entry, oldest first
abbrev pub journal_of : List Entry → List ℕ
journal_of entries = flat_map (λ e. entry_text e ++ 10 ∷ []) entries

-- ---- which entries there are

-- the event takes 8 bits, or each of the three sets of atoms 32
abbrev pub IsWhat : What → Type 0
IsWhat (Da event) = event < 2 ^ 8
IsWhat (Ltl on off pulse) = (on < 2 ^ 32) × (off < 2 ^ 32) × (pulse < 2 ^ 32)
IsWhat Nothing = Unit {0}

-- the slot takes 32 bits, or the bits of switches 64; what is delivered is in range too
abbrev pub IsAct : Act → Type 0
IsAct (Deliver slot hit) = (slot < 2 ^ 32) × IsWhat hit.what
IsAct (Stop slot) = slot < 2 ^ 32
IsAct Look = Unit {0}
IsAct (Raise bits) = bits < 2 ^ 64
IsAct (Lower bits) = bits < 2 ^ 64
IsAct (Clear slot) = slot < 2 ^ 32
IsAct (End slot) = slot < 2 ^ 32

-- the hit brings a letter: an event or atoms, and not nothing
abbrev pub RunsLetter : What → Type 0
RunsLetter (Da event) = Unit {0}
RunsLetter (Ltl on off pulse) = Unit {0}
RunsLetter Nothing = ⊥

-- if the act is a delivery, its hit is no end and brings a letter
abbrev pub IsNoEnd : Act → Type 0
IsNoEnd (Deliver slot hit) = (is_end hit.mode ≡ false) × RunsLetter hit.what
IsNoEnd _ = Unit {0}

-- an entry of which all numbers are in the range of the program's, and whose hit is no end
pub record IsEntry (e : Entry) : Type 0 where
  pub seat : e.seat < 2 ^ 32
  pub act : IsAct e.act
  pub no_end : IsNoEnd e.act
  pub before : e.before < 2 ^ 64
  pub after : e.after < 2 ^ 64
