-- What is printed of an entry is read as it.
use Rattle.std.proofs.Common.{◌≡◌, ℕ, ◌^◌, ◌<◌, ◌≤◌, List, [], ◌∷◌, ◌++◌, Some, ◌∙◌, arith}
use Rattle.std.specs.Prelude.{decimal}
use Rattle.rv_model.specs.declared.entry.Act.{Act}
use Rattle.rv_model.specs.declared.entry.Act.TheVariants.{Deliver, Stop, Look, Raise, Lower, Clear, End}
use Rattle.rv_model.specs.declared.entry.Entry.{Entry}
use Rattle.rv_model.specs.declared.hit.Hit.{Hit}
use Rattle.rv_model.specs.declared.hit.What.{What}
use Rattle.rv_model.specs.declared.hit.What.TheVariants.{Da, Ltl, Nothing}
use Rattle.rv_journal.specs.declared.names.LetterKind.TheVariants as kinds
use Rattle.rv_journal.specs.declared.names.ActVerb.TheVariants as verbs
use Rattle.rv_journal.specs.EntryTexts.{mode_word, what_words, act_words, entry_words, IsWhat, IsAct, RunsLetter, IsNoEnd, IsEntry}
use Rattle.rv_journal.specs.inner.PieceReadings.{most_8, most_32, most_64}
use Rattle.rv_journal.specs.inner.EntryReadings.{off_from, pulse_from, what_of, what_from, hit_from, run_from, deliver_from, numbered_from, act_of, act_from, all_words_read, acted_from, before_from, after_from, entry_from}
use Rattle.rv_journal.proofs.NumberLemmas.{number_from-decimal}
use Rattle.rv_journal.proofs.ThenLemmas.{then-some}
use Rattle.rv_journal.proofs.NameLemmas.{verb-first, kind-first, mode-first}

-- what is run
what-read : (what : What) (rest : List (List ℕ)) → IsWhat what → RunsLetter what → what_from (what_words what ++ rest) ≡ Some (what, rest)
what-read (Da event) rest is runs =
    then-some what_of (kind-first kinds.Da (decimal event ∷ rest))
    ∙ then-some (λ event rest. Some (Da event, rest)) (number_from-decimal most_8 event rest (omega arith) (omega arith))
what-read (Ltl on off pulse) rest is runs =
    let a = is.0 in
    let b = is.1 in
    let c = is.2 in
    then-some what_of (kind-first kinds.Ltl (decimal on ∷ decimal off ∷ decimal pulse ∷ rest))
    ∙ then-some off_from (number_from-decimal most_32 on (decimal off ∷ decimal pulse ∷ rest) (omega arith) (omega arith))
    ∙ then-some (pulse_from on) (number_from-decimal most_32 off (decimal pulse ∷ rest) (omega arith) (omega arith))
    ∙ then-some (λ pulse rest. Some (Ltl on off pulse, rest)) (number_from-decimal most_32 pulse rest (omega arith) (omega arith))
what-read Nothing rest is runs = absurd runs

-- a delivery
deliver-read : (slot : ℕ) (hit : Hit) (rest : List (List ℕ)) → slot < 2 ^ 32 → IsWhat hit.what → IsNoEnd (Deliver slot hit) → deliver_from (decimal slot ∷ mode_word hit.mode ∷ (what_words hit.what ++ rest)) ≡ Some (Deliver slot hit, rest)
deliver-read slot hit rest low is no_end =
    then-some hit_from (number_from-decimal most_32 slot (mode_word hit.mode ∷ (what_words hit.what ++ rest)) (omega arith) (omega arith))
    ∙ then-some (run_from slot) (mode-first hit.mode (what_words hit.what ++ rest) no_end.0)
    ∙ then-some (λ what rest. Some (Deliver slot (record { mode = hit.mode; what = what }), rest)) (what-read hit.what rest is no_end.1)

-- an act that has a number
numbered-read : (most : ℕ) (act : ℕ → Act) (n : ℕ) (rest : List (List ℕ)) → n ≤ most → most < 2 ^ 64 → numbered_from most act (decimal n ∷ rest) ≡ Some (act n, rest)
numbered-read most act n rest low fits = then-some (λ n rest. Some (act n, rest)) (number_from-decimal most n rest low fits)

-- an act
act-read : (act : Act) (rest : List (List ℕ)) → IsAct act → IsNoEnd act → act_from (act_words act ++ rest) ≡ Some (act, rest)
act-read (Deliver slot hit) rest is no_end = then-some act_of (verb-first verbs.Deliver (decimal slot ∷ mode_word hit.mode ∷ (what_words hit.what ++ rest))) ∙ deliver-read slot hit rest is.0 is.1 no_end
act-read (Stop slot) rest is no_end = then-some act_of (verb-first verbs.Stop (decimal slot ∷ rest)) ∙ numbered-read most_32 Stop slot rest (omega arith) (omega arith)
act-read Look rest is no_end = then-some act_of (verb-first verbs.Look rest)
act-read (Raise bits) rest is no_end = then-some act_of (verb-first verbs.Raise (decimal bits ∷ rest)) ∙ numbered-read most_64 Raise bits rest (omega arith) (omega arith)
act-read (Lower bits) rest is no_end = then-some act_of (verb-first verbs.Lower (decimal bits ∷ rest)) ∙ numbered-read most_64 Lower bits rest (omega arith) (omega arith)
act-read (Clear slot) rest is no_end = then-some act_of (verb-first verbs.Clear (decimal slot ∷ rest)) ∙ numbered-read most_32 Clear slot rest (omega arith) (omega arith)
act-read (End slot) rest is no_end = then-some act_of (verb-first verbs.End (decimal slot ∷ rest)) ∙ numbered-read most_32 End slot rest (omega arith) (omega arith)

-- an entry
pub entry-read : (e : Entry) → IsEntry e → entry_from (entry_words e) ≡ Some e
entry-read e is =
    let a = is.seat in
    let b = is.before in
    let c = is.after in
    let ends : List (List ℕ) = decimal e.before ∷ decimal e.after ∷ [] in
    then-some acted_from (number_from-decimal most_32 e.seat (act_words e.act ++ ends) (omega arith) (omega arith))
    ∙ then-some (before_from e.seat) (act-read e.act ends is.act is.no_end)
    ∙ then-some (after_from e.seat e.act) (number_from-decimal most_64 e.before (decimal e.after ∷ []) (omega arith) (omega arith))
    ∙ then-some (λ after rest. all_words_read (record { seat = e.seat; act = e.act; before = e.before; after = after }) rest) (number_from-decimal most_64 e.after [] (omega arith) (omega arith))
