-- A control script beside the CPUs, command by command.
use Rattle.std.proofs.Common.{◌≡◌, ℕ, ◌+◌, ◌<◌, List, [], ◌∷◌, ◌++◌, drop, length, refl, sym, ap, ◌∙◌, subst, append_assoc, append-nil}
use Rattle.std.specs.Prelude.{Result, Ok, Err, All, slice_index_or}
use Rattle.std.proofs.lemmas.List.{drop_more}
use Rattle.std.proofs.lemmas.List.Elements.{All-nil, All-push}
use Rattle.rv_text.specs.declared.refusals.Refusal.{Refusal}
use Rattle.rv_text.specs.Readings.{and_then}
use Rattle.rv_model.specs.declared.work.Change.{Change}
use Rattle.rv_control.specs.declared.script.Numbered.{Numbered}
use Rattle.rv_control.specs.Trees.{ControlValue}
use Rattle.rv_feed.specs.Changes.{IsBelowHalt}
use Rattle.rv_tool.specs.Changes.{asked_in, change_before, changes_of}

-- the changes so far, and then those of later commands
abbrev pub before_all : List Change → Result (List Change) Refusal → Result (List Change) Refusal
before_all changes later = and_then later (λ more. Ok (changes ++ more))

-- a part of a script was done: its changes, none of which halts
pub record AskedSoFar (opening : ControlValue) (commands : List Numbered) (place : ℕ) (tree : ControlValue) (changes : List Change) : Type 0 where
  pub changes_are : before_all changes (changes_of tree (drop place commands)) ≡ changes_of opening commands
  pub below_halt : All IsBelowHalt changes

-- nothing before changes nothing
before_none : (later : Result (List Change) Refusal) → before_all [] later ≡ later
before_none (Ok more) = refl
before_none (Err refusal) = refl

-- one change more
before_more : (changes : List Change) (change : Change) (later : Result (List Change) Refusal) → before_all changes (change_before change later) ≡ before_all (changes ++ change ∷ []) later
before_more changes change (Ok more) = ap Ok (sym (append_assoc changes (change ∷ []) more))
before_more changes change (Err refusal) = refl

module _ (opening : ControlValue) (commands : List Numbered) where
  -- no command yet
  pub asked_none : AskedSoFar opening commands 0 opening []
  asked_none = record { changes_are = before_none (changes_of opening commands); below_halt = All-nil IsBelowHalt }

  -- the rest of a script by its first command
  abbrev pub Next : ControlValue → ℕ → Numbered → Result (ControlValue × Change) Refusal → Result (List Change) Refusal
  Next tree place n done = and_then done (λ done. change_before done.1 (changes_of done.0 (drop (place + 1) commands)))

  -- the changes of commands are the first one's, and then those of the later ones
  asked_before : (tree : ControlValue) (n : Numbered) (later : List Numbered) → changes_of tree (n ∷ later) ≡ and_then (asked_in tree n) (λ done. change_before done.1 (changes_of done.0 later))
  unfolding changes_of
  asked_before tree n later = refl

  -- the commands from a place on begin with the command there
  asked_next : (tree : ControlValue) (place : ℕ) (n : Numbered) → place < length commands → n ≡ slice_index_or commands place n → changes_of tree (drop place commands) ≡ Next tree place n (asked_in tree n)
  asked_next tree place n within is =
      ap (changes_of tree) (drop_more commands place n within ∙ ap (λ (m : Numbered). m ∷ drop (place + 1) commands) (sym is)) ∙ asked_before tree n (drop (place + 1) commands)

  module _ (place : ℕ) (tree : ControlValue) (changes : List Change) (n : Numbered) (within : place < length commands) (is : n ≡ slice_index_or commands place n) (so_far : AskedSoFar opening commands place tree changes) where
    -- one command more
    pub asked_more : (after : ControlValue) (change : Change) (more : List Change) → asked_in tree n ≡ Ok (after, change) → IsBelowHalt change → more ≡ changes ++ change ∷ [] → AskedSoFar opening commands (place + 1) after more
    asked_more after change more asked below added =
        let later : Result (List Change) Refusal = changes_of after (drop (place + 1) commands) in
        let whole : changes_of tree (drop place commands) ≡ change_before change later = asked_next tree place n within is ∙ ap (Next tree place n) asked in
        record {
          changes_are = ap (λ cs. before_all cs later) added ∙ sym (before_more changes change later) ∙ ap (before_all changes) (sym whole) ∙ so_far.changes_are;
          below_halt = subst (All IsBelowHalt) (sym added) (All-push IsBelowHalt changes change so_far.below_halt below);
        }

    -- a command that is refused
    pub asked_refused : (refusal : Refusal) → asked_in tree n ≡ Err refusal → changes_of opening commands ≡ Err refusal
    asked_refused refusal refused =
        let whole : changes_of tree (drop place commands) ≡ Err refusal = asked_next tree place n within is ∙ ap (Next tree place n) refused in
        sym so_far.changes_are ∙ ap (before_all changes) whole

  -- all commands
  pub asked_all : (place : ℕ) (tree : ControlValue) (changes : List Change) → drop place commands ≡ [] → AskedSoFar opening commands place tree changes → changes_of opening commands ≡ Ok changes
  unfolding changes_of
  asked_all place tree changes none so_far =
      sym so_far.changes_are ∙ ap (λ ns. before_all changes (changes_of tree ns)) none ∙ ap Ok (append-nil changes)
