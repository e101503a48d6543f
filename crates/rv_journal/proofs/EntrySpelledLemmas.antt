-- What is read as an entry has its words.
use Rattle.std.proofs.Common.{◌≡◌, ℕ, List, [], ◌∷◌, ◌++◌, Some, codes, refl, sym, ap, ◌∙◌}
use Rattle.std.specs.Prelude.{decimal}
use Rattle.rv_model.specs.declared.entry.Act.{Act}
use Rattle.rv_model.specs.declared.entry.Act.TheVariants.{Deliver, Stop, Look, Raise, Lower, Clear, End}
use Rattle.rv_model.specs.declared.entry.Entry.{Entry}
use Rattle.rv_model.specs.declared.hit.Hit.{Hit}
use Rattle.rv_model.specs.declared.hit.Mode.{Mode}
use Rattle.rv_model.specs.declared.hit.What.{What}
use Rattle.rv_model.specs.declared.hit.What.TheVariants.{Da, Ltl}
use Rattle.rv_journal.specs.declared.names.LetterKind.{LetterKind}
use Rattle.rv_journal.specs.declared.names.LetterKind.TheVariants as kinds
use Rattle.rv_journal.specs.declared.names.ActVerb.{ActVerb}
use Rattle.rv_journal.specs.declared.names.ActVerb.TheVariants as verbs
use Rattle.rv_journal.specs.EntryTexts.{mode_word, what_words, act_words, entry_words}
use Rattle.rv_journal.specs.inner.PieceReadings.{most_8, most_32, most_64, number_from, first_by, mode_in, kind_in, verb_in}
use Rattle.rv_journal.specs.inner.EntryReadings.{off_from, pulse_from, what_of, what_from, hit_from, run_from, deliver_from, numbered_from, act_of, act_from, all_words_read, acted_from, before_from, after_from, entry_from}
use Rattle.rv_journal.proofs.NumberLemmas.{number_from-some}
use Rattle.rv_journal.proofs.ThenLemmas.{then-parts, same-read, no-read, first-some}
use Rattle.rv_journal.proofs.NameLemmas.{verb_word, kind_word, mode-spelled, kind-spelled, verb-spelled}

-- a mode
mode-words : (words : List (List ℕ)) (mode : Mode) (rest : List (List ℕ)) → first_by mode_in words ≡ Some (mode, rest) → words ≡ mode_word mode ∷ rest
mode-words words mode rest is = let f = first-some mode_in words mode rest is in f.1 ∙ ap (λ (w : List ℕ). w ∷ rest) (mode-spelled f.0 mode f.2)

-- a kind
kind-words : (words : List (List ℕ)) (kind : LetterKind) (rest : List (List ℕ)) → first_by kind_in words ≡ Some (kind, rest) → words ≡ kind_word kind ∷ rest
kind-words words kind rest is = let f = first-some kind_in words kind rest is in f.1 ∙ ap (λ (w : List ℕ). w ∷ rest) (kind-spelled f.0 kind f.2)

-- the name of an act
verb-words : (words : List (List ℕ)) (verb : ActVerb) (rest : List (List ℕ)) → first_by verb_in words ≡ Some (verb, rest) → words ≡ verb_word verb ∷ rest
verb-words words verb rest is = let f = first-some verb_in words verb rest is in f.1 ∙ ap (λ (w : List ℕ). w ∷ rest) (verb-spelled f.0 verb f.2)

-- words in front of others
front : (word : List ℕ) {xs ys : List (List ℕ)} → xs ≡ ys → word ∷ xs ≡ word ∷ ys
front word is = ap (λ (l : List (List ℕ)). word ∷ l) is

-- what is run, of its kind
kind-of-words : (kind : LetterKind) (words : List (List ℕ)) (what : What) (rest : List (List ℕ)) → what_of kind words ≡ Some (what, rest) → kind_word kind ∷ words ≡ what_words what ++ rest
kind-of-words kinds.Da words what rest is =
    let n = then-parts (number_from most_8 words) (λ event rest. Some (Da event, rest)) (what, rest) is in
    let s = same-read (Da n.x) what n.words rest n.second in
    front (codes "da") (number_from-some most_8 words n.x n.words n.first ∙ front (decimal n.x) s.1) ∙ ap (λ (w : What). what_words w ++ rest) s.0
kind-of-words kinds.Ltl words what rest is =
    let a = then-parts (number_from most_32 words) off_from (what, rest) is in
    let b = then-parts (number_from most_32 a.words) (pulse_from a.x) (what, rest) a.second in
    let c = then-parts (number_from most_32 b.words) (λ pulse rest. Some (Ltl a.x b.x pulse, rest)) (what, rest) b.second in
    let s = same-read (Ltl a.x b.x c.x) what c.words rest c.second in
    front (codes "ltl") (number_from-some most_32 words a.x a.words a.first
    ∙ front (decimal a.x) (number_from-some most_32 a.words b.x b.words b.first
    ∙ front (decimal b.x) (number_from-some most_32 b.words c.x c.words c.first ∙ front (decimal c.x) s.1)))
    ∙ ap (λ (w : What). what_words w ++ rest) s.0

-- what is run
what-words : (words : List (List ℕ)) (what : What) (rest : List (List ℕ)) → what_from words ≡ Some (what, rest) → words ≡ what_words what ++ rest
what-words words what rest is =
    let k = then-parts (first_by kind_in words) what_of (what, rest) is in
    kind-words words k.x k.words k.first ∙ kind-of-words k.x k.words what rest k.second

-- a delivery
deliver-words : (words : List (List ℕ)) (act : Act) (rest : List (List ℕ)) → deliver_from words ≡ Some (act, rest) → codes "deliver" ∷ words ≡ act_words act ++ rest
deliver-words words act rest is =
    let a = then-parts (number_from most_32 words) hit_from (act, rest) is in
    let b = then-parts (first_by mode_in a.words) (run_from a.x) (act, rest) a.second in
    let c = then-parts (what_from b.words) (λ what rest. Some (Deliver a.x (record { mode = b.x; what = what }), rest)) (act, rest) b.second in
    let hit : Hit = record { mode = b.x; what = c.x } in
    let s = same-read (Deliver a.x hit) act c.words rest c.second in
    front (codes "deliver") (number_from-some most_32 words a.x a.words a.first
    ∙ front (decimal a.x) (mode-words a.words b.x b.words b.first
    ∙ front (mode_word b.x) (what-words b.words c.x c.words c.first ∙ ap (λ (r : List (List ℕ)). what_words c.x ++ r) s.1)))
    ∙ ap (λ (x : Act). act_words x ++ rest) s.0

-- an act that has a number
numbered-words : (name : List ℕ) (most : ℕ) (make : ℕ → Act) (words : List (List ℕ)) (act : Act) (rest : List (List ℕ)) → ((n : ℕ) → act_words (make n) ≡ name ∷ decimal n ∷ []) → numbered_from most make words ≡ Some (act, rest) → name ∷ words ≡ act_words act ++ rest
numbered-words name most make words act rest spelled is =
    let a = then-parts (number_from most words) (λ n rest. Some (make n, rest)) (act, rest) is in
    let s = same-read (make a.x) act a.words rest a.second in
    front name (number_from-some most words a.x a.words a.first ∙ front (decimal a.x) s.1)
    ∙ ap (λ (ws : List (List ℕ)). ws ++ rest) (sym (spelled a.x)) ∙ ap (λ (x : Act). act_words x ++ rest) s.0

-- an act of its name
verb-of-words : (verb : ActVerb) (words : List (List ℕ)) (act : Act) (rest : List (List ℕ)) → act_of verb words ≡ Some (act, rest) → verb_word verb ∷ words ≡ act_words act ++ rest
verb-of-words verbs.Deliver words act rest is = deliver-words words act rest is
verb-of-words verbs.Stop words act rest is = numbered-words (codes "stop") most_32 Stop words act rest (λ n. refl) is
verb-of-words verbs.Look words act rest is = let s = same-read Look act words rest is in front (codes "look") s.1 ∙ ap (λ (x : Act). act_words x ++ rest) s.0
verb-of-words verbs.Raise words act rest is = numbered-words (codes "raise") most_64 Raise words act rest (λ n. refl) is
verb-of-words verbs.Lower words act rest is = numbered-words (codes "lower") most_64 Lower words act rest (λ n. refl) is
verb-of-words verbs.Clear words act rest is = numbered-words (codes "clear") most_32 Clear words act rest (λ n. refl) is
verb-of-words verbs.End words act rest is = numbered-words (codes "end") most_32 End words act rest (λ n. refl) is

-- an act
act-words : (words : List (List ℕ)) (act : Act) (rest : List (List ℕ)) → act_from words ≡ Some (act, rest) → words ≡ act_words act ++ rest
act-words words act rest is =
    let v = then-parts (first_by verb_in words) act_of (act, rest) is in
    verb-words words v.x v.words v.first ∙ verb-of-words v.x v.words act rest v.second

-- no word is left behind an entry
pub all_words_read-none : (x : Entry) (words : List (List ℕ)) (e : Entry) → all_words_read x words ≡ Some e → (x ≡ e) × (words ≡ [])
all_words_read-none x [] e is = (let same : x ≡ e = cc in same, refl)
all_words_read-none x (word ∷ words) e is = absurd (no-read _ is)

-- an entry
pub entry-spelled : (words : List (List ℕ)) (e : Entry) → entry_from words ≡ Some e → words ≡ entry_words e
entry-spelled words e is =
    let a = then-parts (number_from most_32 words) acted_from e is in
    let b = then-parts (act_from a.words) (before_from a.x) e a.second in
    let c = then-parts (number_from most_64 b.words) (after_from a.x b.x) e b.second in
    let d = then-parts (number_from most_64 c.words) (λ after rest. all_words_read (record { seat = a.x; act = b.x; before = c.x; after = after }) rest) e c.second in
    let x : Entry = record { seat = a.x; act = b.x; before = c.x; after = d.x } in
    let s = all_words_read-none x d.words e d.second in
    number_from-some most_32 words a.x a.words a.first
    ∙ front (decimal a.x) (act-words a.words b.x b.words b.first
    ∙ ap (λ (r : List (List ℕ)). act_words b.x ++ r) (number_from-some most_64 b.words c.x c.words c.first
    ∙ front (decimal c.x) (number_from-some most_64 c.words d.x d.words d.first ∙ front (decimal d.x) s.1)))
    ∙ ap entry_words s.0
