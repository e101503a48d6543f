-- A script, command by command.
use Rattle.std.proofs.Common.{◌≡◌, ℕ, ◌+◌, ◌<◌, Bool, true, false, List, [], ◌∷◌, ◌++◌, drop, length, refl, sym, ap, ◌∙◌, subst, append_assoc}
use Rattle.std.specs.Prelude.{slice_index_or, if◌then◌else◌}
use Rattle.std.proofs.lemmas.List.{drop_more, append-nil}
use Rattle.rv_control.specs.declared.script.Numbered.{Numbered}
use Rattle.rv_control.specs.Trees.{ControlValue}
use Rattle.rv_tool.specs.Sessions.{Printed, status_with, done_of, before, session_of}

-- a part of a script was done: its texts, and whether a command was refused
pub record RanSoFar (script : List ℕ) (opening : ControlValue) (commands : List Numbered) (place : ℕ) (tree : ControlValue) (text : List ℕ) (is_refused : Bool) : Type 0 where
  pub text_is : text ++ (session_of script tree (drop place commands)).text ≡ (session_of script opening commands).text
  pub status_is : status_with is_refused (session_of script tree (drop place commands)).status ≡ (session_of script opening commands).status

module _ (script : List ℕ) (opening : ControlValue) (commands : List Numbered) where
  -- no command yet
  pub ran_none : RanSoFar script opening commands 0 opening [] false
  ran_none = record { text_is = refl; status_is = refl }

  -- a command, and then the later ones
  session_before : (tree : ControlValue) (n : Numbered) (later : List Numbered) → session_of script tree (n ∷ later) ≡ before (done_of script tree n) (session_of script (done_of script tree n).tree later)
  unfolding session_of
  session_before tree n later = refl

  -- the commands from a place on begin with the command there
  session_after : (tree : ControlValue) (place : ℕ) (n : Numbered) → place < length commands → n ≡ slice_index_or commands place n → session_of script tree (drop place commands)
      ≡ before (done_of script tree n) (session_of script (done_of script tree n).tree (drop (place + 1) commands))
  session_after tree place n within is =
      ap (session_of script tree) (drop_more commands place n within ∙ ap (λ (m : Numbered). m ∷ drop (place + 1) commands) (sym is)) ∙ session_before tree n (drop (place + 1) commands)

  -- a command that is refused now counts as one that was refused before
  refused_or : (is_refused so_far now : Bool) (later : ℕ) → status_with so_far (status_with now later) ≡ status_with (if now then true else so_far) later
  refused_or is_refused true true later = refl
  refused_or is_refused true false later = refl
  refused_or is_refused false true later = refl
  refused_or is_refused false false later = refl

  -- one command more
  pub ran_more : (place : ℕ) (tree after : ControlValue) (text longer : List ℕ) (so_far now : Bool) (n : Numbered) → place < length commands → n ≡ slice_index_or commands place n → RanSoFar script opening commands place tree text so_far
      → longer ≡ text ++ (done_of script tree n).text → after ≡ (done_of script tree n).tree → now ≡ (done_of script tree n).is_refused
      → RanSoFar script opening commands (place + 1) after longer (if now then true else so_far)
  ran_more place tree after text longer so_far now n within is ran longer_is after_is now_is =
      let rest : ControlValue → Printed = λ t. session_of script t (drop (place + 1) commands) in
      let later : Printed = rest (done_of script tree n).tree in
      let whole : session_of script tree (drop place commands) ≡ before (done_of script tree n) later = session_after tree place n within is in
      let same : rest after ≡ later = ap rest after_is in
      record {
        text_is =
            ap (λ (p : Printed). longer ++ p.text) same ∙ ap (λ (t : List ℕ). t ++ later.text) longer_is ∙ append_assoc text (done_of script tree n).text later.text
            ∙ ap (λ (p : Printed). text ++ p.text) (sym whole) ∙ ran.text_is;
        status_is =
            ap (λ (p : Printed). status_with (if now then true else so_far) p.status) same ∙ sym (refused_or now so_far now later.status)
            ∙ ap (λ (b : Bool). status_with so_far (status_with b later.status)) now_is ∙ ap (λ (p : Printed). status_with so_far p.status) (sym whole) ∙ ran.status_is;
      }

  -- all commands
  pub ran_all : (place : ℕ) (tree : ControlValue) (text : List ℕ) (is_refused : Bool) → drop place commands ≡ [] → RanSoFar script opening commands place tree text is_refused
      → record { text = text; status = status_with is_refused 0 } ≡ session_of script opening commands
  unfolding session_of
  ran_all place tree text is_refused none ran =
      let text_is : text ++ [] ≡ (session_of script opening commands).text = subst (λ (ns : List Numbered). text ++ (session_of script tree ns).text ≡ (session_of script opening commands).text) none ran.text_is in
      let status_is : status_with is_refused 0 ≡ (session_of script opening commands).status =
      subst (λ (ns : List Numbered). status_with is_refused (session_of script tree ns).status ≡ (session_of script opening commands).status) none ran.status_is in
      λ i. record { text = (sym (append-nil text) ∙ text_is) i; status = status_is i }
