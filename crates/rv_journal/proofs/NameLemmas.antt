-- The names of modes, kinds and acts: each is read as what it names, and no other word is.
use Rattle.std.proofs.Common.{◌≡◌, ℕ, ◌⊎◌, inl, inr, Bool, true, false, cond, List, ◌∷◌, Option, Some, codes, refl, ap, ◌∙◌}
use Rattle.std.specs.Prelude.{bytes_eq}
use Rattle.std.proofs.lemmas.Slice.Eq.{bytes_eq-Decides}
use Rattle.rv_model.specs.declared.hit.Mode.{Mode}
use Rattle.rv_model.specs.declared.hit.Mode.TheVariants as modes
use Rattle.rv_model.specs.Scripts.{is_end}
use Rattle.rv_journal.specs.declared.names.LetterKind.{LetterKind}
use Rattle.rv_journal.specs.declared.names.LetterKind.TheVariants as kinds
use Rattle.rv_journal.specs.declared.names.ActVerb.{ActVerb}
use Rattle.rv_journal.specs.declared.names.ActVerb.TheVariants as verbs
use Rattle.rv_journal.specs.EntryTexts.{mode_word}
use Rattle.rv_journal.specs.inner.PieceReadings.{first_by, mode_in, kind_in, verb_in}
use Rattle.rv_journal.proofs.ThenLemmas.{no-read}

-- the word is this one, or what is read of another
pub if-word : {Y : Type 0} (word name : List ℕ) (this other : Option Y) (y : Y) → cond (bytes_eq word name) this other ≡ Some y → ((word ≡ name) × (this ≡ Some y)) ⊎ (other ≡ Some y)
if-word {Y} word name this other y = on (bytes_eq word name) refl
  where
    on : (b : Bool) → bytes_eq word name ≡ b → cond b this other ≡ Some y → ((word ≡ name) × (this ≡ Some y)) ⊎ (other ≡ Some y)
    on true same is = inl ((bytes_eq-Decides word name).0 same, is)
    on false differs is = inr is

-- the name of an act
abbrev pub verb_word : ActVerb → List ℕ
verb_word verbs.Deliver = codes "deliver"
verb_word verbs.Stop = codes "stop"
verb_word verbs.Look = codes "look"
verb_word verbs.Raise = codes "raise"
verb_word verbs.Lower = codes "lower"
verb_word verbs.Clear = codes "clear"
verb_word verbs.End = codes "end"

-- the name of a kind
abbrev pub kind_word : LetterKind → List ℕ
kind_word kinds.Da = codes "da"
kind_word kinds.Ltl = codes "ltl"

-- of two modes that are one
one-mode : (a b : Mode) → Some a ≡ Some b → mode_word a ≡ mode_word b
one-mode a b is = let same : a ≡ b = cc in ap mode_word same

-- of two kinds that are one
one-kind : (a b : LetterKind) → Some a ≡ Some b → kind_word a ≡ kind_word b
one-kind a b is = let same : a ≡ b = cc in ap kind_word same

-- of two acts that are one
one-verb : (a b : ActVerb) → Some a ≡ Some b → verb_word a ≡ verb_word b
one-verb a b is = let same : a ≡ b = cc in ap verb_word same

-- the mode that is read has the word
pub mode-spelled : (word : List ℕ) (mode : Mode) → mode_in word ≡ Some mode → word ≡ mode_word mode
unfolding mode_in
mode-spelled word mode is =
    elim (if-word word (codes "event") (Some modes.Event) _ mode is) [
      | inl t ↦ t.0 ∙ one-mode modes.Event mode t.1
      | inr o ↦ elim (if-word word (codes "start") (Some modes.Start) _ mode o) [
        | inl t ↦ t.0 ∙ one-mode modes.Start mode t.1
        | inr p ↦ elim (if-word word (codes "start_run") (Some modes.StartRun) _ mode p) [
          | inl t ↦ t.0 ∙ one-mode modes.StartRun mode t.1
          | inr none ↦ absurd (no-read _ none)
        ]
      ]
    ]

-- the kind
pub kind-spelled : (word : List ℕ) (kind : LetterKind) → kind_in word ≡ Some kind → word ≡ kind_word kind
unfolding kind_in
kind-spelled word kind is =
    elim (if-word word (codes "da") (Some kinds.Da) _ kind is) [
      | inl t ↦ t.0 ∙ one-kind kinds.Da kind t.1
      | inr o ↦ elim (if-word word (codes "ltl") (Some kinds.Ltl) _ kind o) [
        | inl t ↦ t.0 ∙ one-kind kinds.Ltl kind t.1
        | inr none ↦ absurd (no-read _ none)
      ]
    ]

-- the act
pub verb-spelled : (word : List ℕ) (verb : ActVerb) → verb_in word ≡ Some verb → word ≡ verb_word verb
unfolding verb_in
verb-spelled word verb is =
    elim (if-word word (codes "deliver") (Some verbs.Deliver) _ verb is) [
      | inl t ↦ t.0 ∙ one-verb verbs.Deliver verb t.1
      | inr o ↦ elim (if-word word (codes "stop") (Some verbs.Stop) _ verb o) [
        | inl t ↦ t.0 ∙ one-verb verbs.Stop verb t.1
        | inr p ↦ elim (if-word word (codes "look") (Some verbs.Look) _ verb p) [
          | inl t ↦ t.0 ∙ one-verb verbs.Look verb t.1
          | inr q ↦ elim (if-word word (codes "raise") (Some verbs.Raise) _ verb q) [
            | inl t ↦ t.0 ∙ one-verb verbs.Raise verb t.1
            | inr r ↦ elim (if-word word (codes "lower") (Some verbs.Lower) _ verb r) [
              | inl t ↦ t.0 ∙ one-verb verbs.Lower verb t.1
              | inr s ↦ elim (if-word word (codes "clear") (Some verbs.Clear) _ verb s) [
                | inl t ↦ t.0 ∙ one-verb verbs.Clear verb t.1
                | inr u ↦ elim (if-word word (codes "end") (Some verbs.End) _ verb u) [
                  | inl t ↦ t.0 ∙ one-verb verbs.End verb t.1
                  | inr none ↦ absurd (no-read _ none)
                ]
              ]
            ]
          ]
        ]
      ]
    ]

-- the name of an act, among words
pub verb-first : (verb : ActVerb) (words : List (List ℕ)) → first_by verb_in (verb_word verb ∷ words) ≡ Some (verb, words)
unfolding verb_in
verb-first verbs.Deliver words = refl
verb-first verbs.Stop words = refl
verb-first verbs.Look words = refl
verb-first verbs.Raise words = refl
verb-first verbs.Lower words = refl
verb-first verbs.Clear words = refl
verb-first verbs.End words = refl

-- the name of a kind
pub kind-first : (kind : LetterKind) (words : List (List ℕ)) → first_by kind_in (kind_word kind ∷ words) ≡ Some (kind, words)
unfolding kind_in
kind-first kinds.Da words = refl
kind-first kinds.Ltl words = refl

-- a mode that is no end
pub mode-first : (mode : Mode) (words : List (List ℕ)) → is_end mode ≡ false → first_by mode_in (mode_word mode ∷ words) ≡ Some (mode, words)
unfolding mode_in
mode-first modes.Event words is = refl
mode-first modes.Start words is = refl
mode-first modes.StartRun words is = refl
mode-first modes.End words is = absurd (let no : true ≡ false = is in cc)
