-- A line has exactly the form that it is a line of.
use Rattle.std.proofs.Common.{◌≡◌, ℕ, Bool, true, false, not, List, [], ◌∷◌, ◌++◌, refl, sym, ap, ◌∙◌, subst}
use Rattle.std.specs.Prelude.{Option, Some, None, Result, Ok, Err, IfOk, codes, bytes_eq, nat_eq, find, if◌then◌else◌}
use Rattle.std.specs.List.{AllByRecursion, starts_with}
use Rattle.std.specs.Str.{is_utf8}
use Rattle.std.proofs.lemmas.Option.{same_Some}
use Rattle.std.proofs.lemmas.Slice.Eq.{bytes_eq-Decides}
use Rattle.rv_model.specs.declared.hit.Mode.{Mode}
use Rattle.rv_model.specs.declared.hit.Mode.TheVariants as modes
use Rattle.rv_model.specs.declared.kind.SpecKind.{SpecKind}
use Rattle.rv_model.specs.declared.kind.SpecKind.TheVariants as kinds
use Rattle.rv_model.specs.declared.work.Scope.{Scope}
use Rattle.rv_model.specs.declared.work.Scope.TheVariants as scopes
use Rattle.rv_model.specs.Reactors.{reactor_name, reactor_named}
use Rattle.rv_model.specs.Words.{kind_name, kind_named, scope_name, scope_named}
use Rattle.rv_model.proofs.ReactorLemmas.{named_each}
use Rattle.rv_bind.specs.declared.bindings.Test.{Test}
use Rattle.rv_bind.specs.declared.fault.LineFault.{LineFault}
use Rattle.rv_bind.specs.declared.forms.Form.{Form}
use Rattle.rv_bind.specs.LineWords.{Read, Words, after, is_field, is_name, mode_named, no_word_left, or_syntax, test_of, when, word_at}
use Rattle.rv_bind.specs.Forms.{FormValue, skipped, container, monitor, on, react, off, begin, container_form, holder_at, monitor_form, react_form, off_form, begin_form, by_at, tests_at, with_test, on_form, form_of}
use Rattle.rv_bind.specs.inner.FormViews.{IsNamed, form_value}
use Rattle.rv_bind.specs.inner.LineReads.{ReadsValue}
use Rattle.rv_bind.specs.Lines.{IsBy, IsLineOf, IsTest, by_words, holder_words, mode_name, test_word, tests_words}
use Rattle.rv_bind.proofs.TestWords.{test_again, test_takes}

-- ---- the steps of a reading

module _ {Y : Type 0} (P : Y → Type 0) where
  -- what is read, where anything is, has the fact
  abbrev Holds : Result Y ℕ → Type 0
  Holds (Ok y) = P y
  Holds (Err number) = Unit {0}

  -- behind a step
  holds_after : {X : Type 0} (read : Result X ℕ) (next : X → Result Y ℕ) → ((x : X) → read ≡ Ok x → Holds (next x)) → Holds (after read next)
  holds_after (Ok x) next each = each x refl
  holds_after (Err number) next each = tt

  -- by a test
  holds_if : (b : Bool) (one other : Result Y ℕ) → (b ≡ true → Holds one) → (b ≡ false → Holds other) → Holds (if b then one else other)
  holds_if true one other is not = is refl
  holds_if false one other is not = not refl

  -- so has each value
  held : (read : Result Y ℕ) (y : Y) → Holds read → read ≡ Ok y → P y
  held read y holds e = subst Holds e holds

-- a word is taken
took : (words : Words) (x : List ℕ × Words) → word_at words ≡ Ok x → words ≡ x.0 ∷ x.1
took [] x e = cc
took (word ∷ words) x e = let same : (word, words) ≡ x = cc in ap (λ (y : List ℕ × Words). y.0 ∷ y.1) same

-- no word is left
ended : (words : Words) (d : Unit) → no_word_left words ≡ Ok d → words ≡ []
ended [] d e = refl
ended (word ∷ words) d e = cc

-- what passes
passed : (b : Bool) (word called : List ℕ) → when b word ≡ Ok called → (b ≡ true) × (word ≡ called)
passed true word called e = (refl, cc)
passed false word called e = cc

-- so what passes a test passes it as what it is called
passed_as : (test : List ℕ → Bool) (word called : List ℕ) → when (test word) word ≡ Ok called → (test called ≡ true) × (word ≡ called)
passed_as test word called e = let both = passed (test word) word called e in (subst (λ (w : List ℕ). test w ≡ true) both.1 both.0, both.1)

-- what is there
known : {Y : Type 0} (o : Option Y) (y : Y) → or_syntax o ≡ Ok y → o ≡ Some y
known None y e = cc
known (Some x) y e = let same : x ≡ y = cc in ap (λ z. Some z) same

-- a word is this text
is_text : (word text : List ℕ) → bytes_eq word text ≡ true → word ≡ text
is_text word text same = (bytes_eq-Decides word text).0 same

-- what is found by its name has it
found_has : {Y : Type 0} (name_of : Y → List ℕ) (word : List ℕ) (y : Y) (all : List Y) → find (λ x. bytes_eq (name_of x) word) all ≡ Some y → word ≡ name_of y
found_has name_of word y [] e = absurd cc
found_has name_of word y (x ∷ all) e = go (bytes_eq (name_of x) word) refl e (λ later. found_has name_of word y all later)
  where
    go : (b : Bool) → bytes_eq (name_of x) word ≡ b → (if b then Some x else find (λ x. bytes_eq (name_of x) word) all) ≡ Some y → (find (λ x. bytes_eq (name_of x) word) all ≡ Some y → word ≡ name_of y) → word ≡ name_of y
    go true is e later = sym (is_text (name_of x) word is) ∙ ap name_of (same_Some x y e)
    go false is e later = later e

-- a scope's name
scope_is : (word : List ℕ) (scope : Scope) → scope_named word ≡ Some scope → word ≡ scope_name scope
scope_is word scope e = found_has scope_name word scope (scopes.Global ∷ scopes.Cpu ∷ scopes.Task ∷ []) e

-- a kind's name
kind_is : (word : List ℕ) (kind : SpecKind) → kind_named word ≡ Some kind → word ≡ kind_name kind
kind_is word kind e = found_has kind_name word kind (kinds.Da ∷ kinds.Ltl ∷ []) e

-- a mode's name
mode_is : (word : List ℕ) (mode : Mode) → mode_named word ≡ Some mode → word ≡ mode_name mode
mode_is word mode e =
    pick (bytes_eq word (codes "event")) modes.Event _ (is_text word (codes "event")) (λ e.
    pick (bytes_eq word (codes "start")) modes.Start _ (is_text word (codes "start")) (λ e.
    pick (bytes_eq word (codes "start_run")) modes.StartRun _ (is_text word (codes "start_run")) (λ e.
    pick (bytes_eq word (codes "end")) modes.End None (is_text word (codes "end")) (λ e. absurd cc) e) e) e) e
  where
    pick : (b : Bool) (m : Mode) (o : Option Mode) → (b ≡ true → word ≡ mode_name m) → (o ≡ Some mode → word ≡ mode_name mode) → (if b then Some m else o) ≡ Some mode → word ≡ mode_name mode
    pick true m o here later e = here refl ∙ ap mode_name (same_Some m mode e)
    pick false m o here later e = later e

-- ---- from words to the form

-- [in CONTAINER]
holder_takes : (words : Words) (holder : Option (List ℕ)) → holder_at words ≡ Ok holder → words ≡ holder_words holder
holder_takes [] holder e = let same : None ≡ holder = cc in ap holder_words same
holder_takes (word ∷ words) holder e =
    held (λ h. word ∷ words ≡ holder_words h) (holder_at (word ∷ words)) holder
    (holds_after (λ h. word ∷ words ≡ holder_words h) (when (bytes_eq word (codes "in")) word) _ (λ sign is.
    holds_after (λ h. word ∷ words ≡ holder_words h) (word_at words) _ (λ name taken.
    holds_after (λ h. word ∷ words ≡ holder_words h) (no_word_left name.1) _ (λ done ends.
    let first : word ≡ codes "in" = is_text word (codes "in") (passed (bytes_eq word (codes "in")) word sign is).0 in
    let second = took words name taken in
    let third = ended name.1 done ends in
    cc)))) e

-- [by FIELD]
by_takes : (words : Words) (x : Option (List ℕ) × Words) → by_at words ≡ Ok x → (words ≡ by_words x.0 ++ x.1) × IsBy x.0
by_takes [] x e = let same : (None, []) ≡ x = cc in subst (λ (y : Option (List ℕ) × Words). ([] ≡ by_words y.0 ++ y.1) × IsBy y.0) same (refl, tt)
by_takes (word ∷ words) x e =
    held (λ (y : Option (List ℕ) × Words). (word ∷ words ≡ by_words y.0 ++ y.1) × IsBy y.0) (by_at (word ∷ words)) x
    (holds_if (λ (y : Option (List ℕ) × Words). (word ∷ words ≡ by_words y.0 ++ y.1) × IsBy y.0) (bytes_eq word (codes "by")) _ _
    (λ is. holds_after (λ (y : Option (List ℕ) × Words). (word ∷ words ≡ by_words y.0 ++ y.1) × IsBy y.0) (word_at words) _ (λ field taken. holds_after (λ (y : Option (List ℕ) × Words). (word ∷ words ≡ by_words y.0 ++ y.1) × IsBy y.0) (when (is_field field.0) field.0) _ (λ name passes.
    let first : word ≡ codes "by" = is_text word (codes "by") is in
    let second = took words field taken in
    let third = passed_as is_field field.0 name passes in
    let third_is : field.0 ≡ name = third.1 in
    (cc, third.0))))
    (λ is. (refl, tt))) e

-- one more test in front
with_test_takes : (test : Test) (read : Read (List Test)) (front words : Words) → IsTest test → front ≡ codes "if" ∷ test_word test ∷ words
    → ((x : List Test × Words) → read ≡ Ok x → (words ≡ tests_words x.0 ++ x.1) × AllByRecursion IsTest x.0) → Holds (λ (y : List Test × Words). (front ≡ tests_words y.0 ++ y.1) × AllByRecursion IsTest y.0) (with_test test read)
with_test_takes test (Ok later) front words is whole each =
    let rest = each later refl in
    (whole ∙ ap (λ (ws : Words). codes "if" ∷ test_word test ∷ ws) rest.0, (is, rest.1))
with_test_takes test (Err number) front words is whole each = tt

-- {if TEST}
tests_take : (words : Words) (x : List Test × Words) → tests_at words ≡ Ok x → (words ≡ tests_words x.0 ++ x.1) × AllByRecursion IsTest x.0
tests_take [] x e = let same : ([], []) ≡ x = cc in subst (λ (y : List Test × Words). ([] ≡ tests_words y.0 ++ y.1) × AllByRecursion IsTest y.0) same (refl, tt)
tests_take (word ∷ []) x e =
    held (λ y. (word ∷ [] ≡ tests_words y.0 ++ y.1) × AllByRecursion IsTest y.0) (tests_at (word ∷ [])) x (holds_if (λ y. (word ∷ [] ≡ tests_words y.0 ++ y.1) × AllByRecursion IsTest y.0) (bytes_eq word (codes "if")) _ _ (λ is. tt) (λ is. (refl, tt))) e
tests_take (word ∷ test ∷ words) x e =
    let later = λ (y : List Test × Words) (read : tests_at words ≡ Ok y). tests_take words y read in
    held (λ y. (word ∷ test ∷ words ≡ tests_words y.0 ++ y.1) × AllByRecursion IsTest y.0) (tests_at (word ∷ test ∷ words)) x
    (holds_if (λ y. (word ∷ test ∷ words ≡ tests_words y.0 ++ y.1) × AllByRecursion IsTest y.0) (bytes_eq word (codes "if")) _ _
    (λ is. holds_after (λ y. (word ∷ test ∷ words ≡ tests_words y.0 ++ y.1) × AllByRecursion IsTest y.0) (or_syntax (test_of test)) _ (λ first read.
    let one = test_takes test first (known (test_of test) first read) in
    with_test_takes first (tests_at words) (word ∷ test ∷ words) words one.1 (ap (λ (w : List ℕ). w ∷ test ∷ words) (is_text word (codes "if") is) ∙ ap (λ (t : List ℕ). codes "if" ∷ t ∷ words) one.0) later))
    (λ is. (refl, tt))) e

module _ (first : List ℕ) (words : Words) where
  -- the line is of the form
  abbrev Fits : FormValue → Type 0
  Fits = IsLineOf (first ∷ words)

  -- container NAME
  container_takes : first ≡ codes "container" → Holds Fits (container_form words)
  container_takes front =
      holds_after Fits (word_at words) _ (λ name taken.
      holds_after Fits (when (is_name name.0) name.0) _ (λ called passes.
      holds_after Fits (no_word_left name.1) _ (λ done ends.
      let one = took words name taken in
      let two = passed_as is_name name.0 called passes in
      let two_is : name.0 ≡ called = two.1 in
      let three = ended name.1 done ends in
      (two.0, cc))))

  -- monitor NAME SCOPE KIND FILE [in CONTAINER]
  monitor_takes : first ≡ codes "monitor" → Holds Fits (monitor_form words)
  monitor_takes front =
      holds_after Fits (word_at words) _ (λ name taken.
      holds_after Fits (when (is_name name.0) name.0) _ (λ called passes.
      holds_after Fits (word_at name.1) _ (λ scope reached.
      holds_after Fits (or_syntax (scope_named scope.0)) _ (λ reach told.
      holds_after Fits (word_at scope.1) _ (λ kind given.
      holds_after Fits (or_syntax (kind_named kind.0)) _ (λ language said.
      holds_after Fits (word_at kind.1) _ (λ file there.
      holds_after Fits (when (is_utf8 file.0) file.0) _ (λ text valid.
      holds_after Fits (holder_at file.1) _ (λ holder last.
      let one = took words name taken in
      let two = passed_as is_name name.0 called passes in
      let two_is : name.0 ≡ called = two.1 in
      let three = took name.1 scope reached in
      let four = scope_is scope.0 reach (known (scope_named scope.0) reach told) in
      let five = took scope.1 kind given in
      let six = kind_is kind.0 language (known (kind_named kind.0) language said) in
      let seven = took kind.1 file there in
      let eight = passed_as is_utf8 file.0 text valid in
      let eight_is : file.0 ≡ text = eight.1 in
      let nine = holder_takes file.1 holder last in
      (two.0, eight.0, cc))))))))))

  -- react MONITOR REACTOR
  react_takes : first ≡ codes "react" → Holds Fits (react_form words)
  react_takes front =
      holds_after Fits (word_at words) _ (λ name taken.
      holds_after Fits (word_at name.1) _ (λ reactor given.
      holds_after Fits (or_syntax (reactor_named reactor.0)) _ (λ chosen said.
      holds_after Fits (no_word_left reactor.1) _ (λ done ends.
      let one = took words name taken in
      let two = took name.1 reactor given in
      let three : reactor.0 ≡ reactor_name chosen = (named_each reactor.0 chosen).0 (known (reactor_named reactor.0) chosen said) in
      let four = ended reactor.1 done ends in
      cc))))

  -- off MONITOR
  off_takes : first ≡ codes "off" → Holds Fits (off_form words)
  off_takes front =
      holds_after Fits (word_at words) _ (λ name taken.
      holds_after Fits (no_word_left name.1) _ (λ done ends.
      let one = took words name taken in
      let two = ended name.1 done ends in
      cc))

  -- begin MONITOR ATOM
  begin_takes : first ≡ codes "begin" → Holds Fits (begin_form words)
  begin_takes front =
      holds_after Fits (word_at words) _ (λ name taken.
      holds_after Fits (word_at name.1) _ (λ atom given.
      holds_after Fits (no_word_left atom.1) _ (λ done ends.
      let one = took words name taken in
      let two = took name.1 atom given in
      let three = ended atom.1 done ends in
      cc)))

  -- a test that fails
  fails : (b : Bool) → not b ≡ true → b ≡ false
  fails true e = cc
  fails false e = refl

  -- on MONITOR EVENT [by FIELD] {if TEST} : MODE {WHAT}
  on_takes : first ≡ codes "on" → Holds Fits (on_form words)
  on_takes front =
      holds_after Fits (word_at words) _ (λ name taken.
      holds_after Fits (word_at name.1) _ (λ event given.
      holds_after Fits (when (not (bytes_eq event.0 (codes ":"))) event.0) _ (λ called passes.
      holds_after Fits (by_at event.1) _ (λ by found.
      holds_after Fits (tests_at by.1) _ (λ tests read.
      holds_after Fits (word_at tests.1) _ (λ colon there.
      holds_after Fits (when (bytes_eq colon.0 (codes ":")) colon.0) _ (λ sign same.
      holds_after Fits (word_at colon.1) _ (λ mode said.
      holds_after Fits (or_syntax (mode_named mode.0)) _ (λ chosen told.
      let one = took words name taken in
      let two = took name.1 event given in
      let three = passed_as (λ w. not (bytes_eq w (codes ":"))) event.0 called passes in
      let three_is : event.0 ≡ called = three.1 in
      let four = by_takes event.1 by found in
      let four_is : event.1 ≡ by_words by.0 ++ by.1 = four.0 in
      let five = tests_take by.1 tests read in
      let five_is : by.1 ≡ tests_words tests.0 ++ tests.1 = five.0 in
      let six = took tests.1 colon there in
      let seven : colon.0 ≡ codes ":" = is_text colon.0 (codes ":") (passed (bytes_eq colon.0 (codes ":")) colon.0 sign same).0 in
      let eight = took colon.1 mode said in
      let nine = mode_is mode.0 chosen (known (mode_named mode.0) chosen told) in
      (fails (bytes_eq called (codes ":")) three.0, four.1, five.1, cc))))))))))

  -- any line
  form_takes : Holds Fits (form_of (first ∷ words))
  form_takes =
      holds_if Fits (starts_with nat_eq first (codes "#")) _ _ (λ is. is) (λ _.
      holds_if Fits (bytes_eq first (codes "container")) _ _ (λ is. container_takes (is_text first _ is)) (λ _.
      holds_if Fits (bytes_eq first (codes "monitor")) _ _ (λ is. monitor_takes (is_text first _ is)) (λ _.
      holds_if Fits (bytes_eq first (codes "on")) _ _ (λ is. on_takes (is_text first _ is)) (λ _.
      holds_if Fits (bytes_eq first (codes "react")) _ _ (λ is. react_takes (is_text first _ is)) (λ _.
      holds_if Fits (bytes_eq first (codes "off")) _ _ (λ is. off_takes (is_text first _ is)) (λ _.
      holds_if Fits (bytes_eq first (codes "begin")) _ _ (λ is. begin_takes (is_text first _ is)) (λ _. tt)))))))

-- a line that has a form is a line of it
pub line_takes : (words : Words) (form : FormValue) → form_of words ≡ Ok form → IsLineOf words form
line_takes [] form e = let same : skipped ≡ form = cc in subst (IsLineOf []) same tt
line_takes (first ∷ words) form e = held (IsLineOf (first ∷ words)) (form_of (first ∷ words)) form (form_takes first words) e

-- so a name that it gives is of the bytes of names
form_names : (words : Words) (form : FormValue) → IsLineOf words form → IsNamed form
form_names words skipped is = tt
form_names words (container name) is = is.0
form_names words (monitor name scope kind file holder) is = is.0
form_names words (on name event by tests mode brought) is = tt
form_names words (react name reactor) is = tt
form_names words (off name) is = tt
form_names words (begin name atom) is = tt

-- and so is that of the form that is read
pub read_names : (read : Result Form LineFault) (words : Words) → ReadsValue form_value read (form_of words) → IfOk read (λ form. IsNamed (form_value form))
read_names (Ok form) words reads = form_names words (form_value form) (line_takes words (form_value form) reads)
read_names (Err fault) words reads = tt

-- ---- from the form to its line

-- names are found again
scope_again : (scope : Scope) → scope_named (scope_name scope) ≡ Some scope
scope_again scopes.Global = refl
scope_again scopes.Cpu = refl
scope_again scopes.Task = refl

kind_again : (kind : SpecKind) → kind_named (kind_name kind) ≡ Some kind
kind_again kinds.Da = refl
kind_again kinds.Ltl = refl

mode_again : (mode : Mode) → mode_named (mode_name mode) ≡ Some mode
mode_again modes.Event = refl
mode_again modes.Start = refl
mode_again modes.StartRun = refl
mode_again modes.End = refl

holder_again : (holder : Option (List ℕ)) → holder_at (holder_words holder) ≡ Ok holder
holder_again None = refl
holder_again (Some name) = refl

-- tests are read up to a colon
tests_again : (tests : List Test) (behind : Words) → AllByRecursion IsTest tests → tests_at (tests_words tests ++ (codes ":" ∷ behind)) ≡ Ok (tests, codes ":" ∷ behind)
tests_again [] [] all = refl
tests_again [] (word ∷ behind) all = refl
tests_again (test ∷ tests) behind all = rw (test_again test all.0, tests_again tests behind all.1) refl

-- a field is read, or none
by_again : (by : Option (List ℕ)) (tests : List Test) (behind : Words) → IsBy by → by_at (by_words by ++ (tests_words tests ++ (codes ":" ∷ behind))) ≡ Ok (by, tests_words tests ++ (codes ":" ∷ behind))
by_again None [] behind is = refl
by_again None (test ∷ tests) behind is = refl
by_again (Some field) tests behind is = rw is refl

-- the line of a form has it
pub line_again : (form : FormValue) (words : Words) → IsLineOf words form → form_of words ≡ Ok form
line_again skipped [] is = refl
line_again skipped (word ∷ words) is = rw is refl
line_again (container name) words is = ap form_of is.1 ∙ rw is.0 refl
line_again (monitor name scope kind file holder) words is = ap form_of is.2 ∙ rw (is.0, scope_again scope, kind_again kind, is.1, holder_again holder) refl
line_again (on name event by tests mode brought) words is =
    ap form_of is.3 ∙ rw (is.0, by_again by tests (mode_name mode ∷ brought) is.1, tests_again tests (mode_name mode ∷ brought) is.2, mode_again mode) refl
line_again (react name reactor) words is = ap form_of is ∙ rw ((named_each (reactor_name reactor) reactor).1 refl) refl
line_again (off name) words is = ap form_of is
line_again (begin name atom) words is = ap form_of is
