-- The numbers of an entry that is read are in range, and its hit is no end.
use Rattle.std.proofs.Common.{◌≡◌, ℕ, ◌≤◌, inl, inr, false, List, Some, codes, ap, subst, arith}
use Rattle.rv_model.specs.declared.entry.Act.{Act}
use Rattle.rv_model.specs.declared.entry.Act.TheVariants.{Deliver, Stop, Look, Raise, Lower, Clear, End}
use Rattle.rv_model.specs.declared.entry.Entry.{Entry}
use Rattle.rv_model.specs.declared.hit.Mode.{Mode}
use Rattle.rv_model.specs.declared.hit.Mode.TheVariants as modes
use Rattle.rv_model.specs.declared.hit.What.{What}
use Rattle.rv_model.specs.declared.hit.What.TheVariants.{Da, Ltl}
use Rattle.rv_model.specs.Scripts.{is_end}
use Rattle.rv_journal.specs.declared.names.LetterKind.{LetterKind}
use Rattle.rv_journal.specs.declared.names.LetterKind.TheVariants as kinds
use Rattle.rv_journal.specs.declared.names.ActVerb.{ActVerb}
use Rattle.rv_journal.specs.declared.names.ActVerb.TheVariants as verbs
use Rattle.rv_journal.specs.EntryTexts.{IsWhat, IsAct, RunsLetter, IsNoEnd, IsEntry}
use Rattle.rv_journal.specs.inner.PieceReadings.{most_8, most_32, most_64, number_from, first_by, mode_in, kind_in, verb_in}
use Rattle.rv_journal.specs.inner.EntryReadings.{off_from, pulse_from, what_of, what_from, hit_from, run_from, deliver_from, numbered_from, act_of, act_from, all_words_read, acted_from, before_from, after_from, entry_from}
use Rattle.rv_journal.proofs.NumberLemmas.{number_from-low}
use Rattle.rv_journal.proofs.ThenLemmas.{then-parts, same-read, no-read, first-some}
use Rattle.rv_journal.proofs.NameLemmas.{if-word}
use Rattle.rv_journal.proofs.EntrySpelledLemmas.{all_words_read-none}

-- of two modes that are one
one-end : (a b : Mode) → Some a ≡ Some b → is_end b ≡ is_end a
one-end a b is = let same : b ≡ a = cc in ap is_end same

-- a mode that is read is no end
mode-goes : (word : List ℕ) (mode : Mode) → mode_in word ≡ Some mode → is_end mode ≡ false
unfolding mode_in
mode-goes word mode is =
    elim (if-word word (codes "event") (Some modes.Event) _ mode is) [
      | inl t ↦ one-end modes.Event mode t.1
      | inr o ↦ elim (if-word word (codes "start") (Some modes.Start) _ mode o) [
        | inl t ↦ one-end modes.Start mode t.1
        | inr p ↦ elim (if-word word (codes "start_run") (Some modes.StartRun) _ mode p) [
          | inl t ↦ one-end modes.StartRun mode t.1
          | inr none ↦ absurd (no-read _ none)
        ]
      ]
    ]

-- what is read of a kind is run
kind-fits : (kind : LetterKind) (words : List (List ℕ)) (what : What) (rest : List (List ℕ)) → what_of kind words ≡ Some (what, rest) → IsWhat what × RunsLetter what
kind-fits kinds.Da words what rest is =
    let n = then-parts (number_from most_8 words) (λ event rest. Some (Da event, rest)) (what, rest) is in
    let s = same-read (Da n.x) what n.words rest n.second in
    let low = number_from-low most_8 words n.x n.words n.first in
    subst (λ (w : What). IsWhat w × RunsLetter w) s.0 (omega arith, tt)
kind-fits kinds.Ltl words what rest is =
    let a = then-parts (number_from most_32 words) off_from (what, rest) is in
    let b = then-parts (number_from most_32 a.words) (pulse_from a.x) (what, rest) a.second in
    let c = then-parts (number_from most_32 b.words) (λ pulse rest. Some (Ltl a.x b.x pulse, rest)) (what, rest) b.second in
    let s = same-read (Ltl a.x b.x c.x) what c.words rest c.second in
    let on = number_from-low most_32 words a.x a.words a.first in
    let off = number_from-low most_32 a.words b.x b.words b.first in
    let pulse = number_from-low most_32 b.words c.x c.words c.first in
    subst (λ (w : What). IsWhat w × RunsLetter w) s.0 ((omega arith, omega arith, omega arith), tt)

-- so is what is read
what-fits : (words : List (List ℕ)) (what : What) (rest : List (List ℕ)) → what_from words ≡ Some (what, rest) → IsWhat what × RunsLetter what
what-fits words what rest is =
    let k = then-parts (first_by kind_in words) what_of (what, rest) is in
    kind-fits k.x k.words what rest k.second

-- a delivery that is read is an entry's
deliver-fits : (words : List (List ℕ)) (act : Act) (rest : List (List ℕ)) → deliver_from words ≡ Some (act, rest) → IsAct act × IsNoEnd act
deliver-fits words act rest is =
    let a = then-parts (number_from most_32 words) hit_from (act, rest) is in
    let b = then-parts (first_by mode_in a.words) (run_from a.x) (act, rest) a.second in
    let c = then-parts (what_from b.words) (λ what rest. Some (Deliver a.x (record { mode = b.x; what = what }), rest)) (act, rest) b.second in
    let s = same-read (Deliver a.x (record { mode = b.x; what = c.x })) act c.words rest c.second in
    let low = number_from-low most_32 words a.x a.words a.first in
    let word = first-some mode_in a.words b.x b.words b.first in
    let goes = mode-goes word.0 b.x word.2 in
    let what = what-fits b.words c.x c.words c.first in
    subst (λ (x : Act). IsAct x × IsNoEnd x) s.0 ((omega arith, what.0), (goes, what.1))

-- an act that has a number
numbered-fits : (most : ℕ) (make : ℕ → Act) (words : List (List ℕ)) (act : Act) (rest : List (List ℕ)) → ((n : ℕ) → n ≤ most → IsAct (make n) × IsNoEnd (make n)) → numbered_from most make words ≡ Some (act, rest) → IsAct act × IsNoEnd act
numbered-fits most make words act rest fits is =
    let a = then-parts (number_from most words) (λ n rest. Some (make n, rest)) (act, rest) is in
    let s = same-read (make a.x) act a.words rest a.second in
    subst (λ (x : Act). IsAct x × IsNoEnd x) s.0 (fits a.x (number_from-low most words a.x a.words a.first))

-- an act of its name
verb-fits : (verb : ActVerb) (words : List (List ℕ)) (act : Act) (rest : List (List ℕ)) → act_of verb words ≡ Some (act, rest) → IsAct act × IsNoEnd act
verb-fits verbs.Deliver words act rest is = deliver-fits words act rest is
verb-fits verbs.Stop words act rest is = numbered-fits most_32 Stop words act rest (λ n low. (omega arith, tt)) is
verb-fits verbs.Look words act rest is = let s = same-read Look act words rest is in subst (λ (x : Act). IsAct x × IsNoEnd x) s.0 (tt, tt)
verb-fits verbs.Raise words act rest is = numbered-fits most_64 Raise words act rest (λ n low. (omega arith, tt)) is
verb-fits verbs.Lower words act rest is = numbered-fits most_64 Lower words act rest (λ n low. (omega arith, tt)) is
verb-fits verbs.Clear words act rest is = numbered-fits most_32 Clear words act rest (λ n low. (omega arith, tt)) is
verb-fits verbs.End words act rest is = numbered-fits most_32 End words act rest (λ n low. (omega arith, tt)) is

-- an entry
pub entry-fits : (words : List (List ℕ)) (e : Entry) → entry_from words ≡ Some e → IsEntry e
entry-fits words e is =
    let a = then-parts (number_from most_32 words) acted_from e is in
    let b = then-parts (act_from a.words) (before_from a.x) e a.second in
    let c = then-parts (number_from most_64 b.words) (after_from a.x b.x) e b.second in
    let d = then-parts (number_from most_64 c.words) (λ after rest. all_words_read (record { seat = a.x; act = b.x; before = c.x; after = after }) rest) e c.second in
    let x : Entry = record { seat = a.x; act = b.x; before = c.x; after = d.x } in
    let s = all_words_read-none x d.words e d.second in
    let v = then-parts (first_by verb_in a.words) act_of (b.x, b.words) b.first in
    let act = verb-fits v.x v.words b.x b.words v.second in
    let seat = number_from-low most_32 words a.x a.words a.first in
    let before = number_from-low most_64 b.words c.x c.words c.first in
    let after = number_from-low most_64 c.words d.x d.words d.first in
    subst IsEntry s.0 (record { seat = omega arith; act = act.0; no_end = act.1; before = omega arith; after = omega arith })
