-- Who refuses what ends past the limit looks no further into a text than one byte past it.
use Rattle.std.proofs.Common.{◌≡◌, ℕ, ◌+◌, ◌<◌, inl, inr, List, [], ◌∷◌, length, take, refl, sym, ap, ◌∙◌, arith}
use Rattle.std.specs.Prelude.{Option, Some, None, Result, option_map}
use Rattle.std.proofs.lemmas.Bool.{cases_lt, lt-ltb}
use Rattle.std.proofs.lemmas.List.{take_all, length-take-le}
use Rattle.rv_text.specs.Readings.{and_then, refused_with}
use Rattle.rv_text.specs.declared.numbers.TheConstants.{BIND_SYNTAX, DOT_SYNTAX, LTL_SYNTAX}
use Rattle.rv_text.specs.declared.refusals.Refusal.{Refusal}
use Rattle.rv_text.specs.TextLines.{LineText, lines_of}
use Rattle.rv_bind.proofs.LinesAlike.{AreAlikeWithin, lines_of-alike}
use Rattle.rv_io.specs.Files.{Files, front_read}
use Rattle.rv_dot.specs.Dot.{dot_of}
use Rattle.rv_ltl.specs.RuleFile.{ltl_of}
use Rattle.rv_model.specs.declared.kind.SpecKind.{SpecKind}
use Rattle.rv_model.specs.declared.kind.SpecKind.TheVariants as kinds
use Rattle.rv_bind.specs.declared.limits.TheConstants.{TEXT_LIMIT}
use Rattle.rv_bind.specs.Values.{BoundValue}
use Rattle.rv_bind.specs.Compiling.{compiled_of}
use Rattle.rv_bind.specs.Bound.{nothing_bound, compiled_in, line_bound, lines_bound}
use Rattle.rv_bind.specs.Outcomes.{Outcome, accepted, refused, missing, reading, of_file, of_text, of_name, text_front, front_named}

-- what is read of a text is read of its front
abbrev pub LooksAtFront : {X : Type 0} → (List ℕ → X) → Type 0
LooksAtFront read = (text : List ℕ) → read text ≡ read (text_front text)

-- ---- one file

module _ {X : Type 0} (read : List ℕ → Outcome X) (looks : LooksAtFront read) where
  -- so what is read of a file is read of its front
  pub front_named-reading : (files : Files) (file : List ℕ) → of_name files file read ≡ reading (front_named files file) read
  front_named-reading files file = go (files file)
    where
      go : (text : Option (List ℕ)) → of_text file (option_map front_read text) read ≡ reading (of_text file (option_map front_read text) (λ bytes. accepted (text_front bytes))) read
      go None = refl
      go (Some text) = looks (front_read text)

  -- and of any text that has this front
  pub of_front : (files : Files) (file text : List ℕ) → front_named files file ≡ accepted (text_front text) → of_name files file read ≡ read text
  of_front files file text is = front_named-reading files file ∙ ap (λ o. reading o read) is ∙ sym (looks text)

-- ---- specifications

-- where all texts that are too long come to the same, no more is looked at
limited : {X : Type 0} (read : List ℕ → X) (fault : X) → ((text : List ℕ) → TEXT_LIMIT < length text → read text ≡ fault) → LooksAtFront read
unfolding text_front
limited read fault past text = elim (cases_lt TEXT_LIMIT (length text)) [
  | inl long ↦ (
      let size : length (take (TEXT_LIMIT + 1) text) ≡ TEXT_LIMIT + 1 = length-take-le (TEXT_LIMIT + 1) text (omega arith) in
      past text long ∙ sym (past (take (TEXT_LIMIT + 1) text) (omega arith)))
  | inr short ↦ ap read (sym (take_all (TEXT_LIMIT + 1) text (omega arith)))
]

-- automata
pub dot-looks : LooksAtFront dot_of
unfolding dot_of
dot-looks = limited dot_of (refused_with DOT_SYNTAX) (λ text long. rw (lt-ltb TEXT_LIMIT (length text) long) refl)

-- rules
pub ltl-looks : LooksAtFront ltl_of
unfolding ltl_of
ltl-looks = limited ltl_of (refused_with LTL_SYNTAX) (λ text long. rw (lt-ltb TEXT_LIMIT (length text) long) refl)

-- what is made of them
pub then-looks : {X Y : Type 0} (read : List ℕ → Result X Refusal) (next : X → Result Y Refusal) → LooksAtFront read → LooksAtFront (λ text. and_then (read text) next)
then-looks read next looks text = ap (λ r. and_then r next) (looks text)

-- their compiled specifications
compiled-looks : (kind : SpecKind) → LooksAtFront (compiled_of kind)
compiled-looks kinds.Da text = then-looks dot_of _ dot-looks text
compiled-looks kinds.Ltl text = then-looks ltl_of _ ltl-looks text

-- and those of a file
pub spec-looks : (kind : SpecKind) (file : List ℕ) → LooksAtFront (λ text. of_file file (compiled_of kind text))
spec-looks kind file text = ap (of_file file) (compiled-looks kind text)

-- what the specification's file is compiled to is what a text with its front is
pub spec_front : (files : Files) (kind : SpecKind) (file text : List ℕ) → front_named files file ≡ accepted (text_front text) → compiled_in files kind file ≡ of_file file (compiled_of kind text)
spec_front files kind file text is = of_front (λ t. of_file file (compiled_of kind t)) (spec-looks kind file) files file text is

-- ---- bindings

-- what comes to the same behind each value comes to the same
pub reading-same : {X Y : Type 0} (o : Outcome X) (next other : X → Outcome Y) → ((x : X) → next x ≡ other x) → reading o next ≡ reading o other
reading-same (accepted x) next other same = same x
reading-same (refused file refusal) next other same = refl
reading-same (missing file) next other same = refl

module _ (files : Files) (here : List ℕ) where
  -- a line that ends past the limit is refused by its number alone
  pub line-past : (bound : BoundValue) (line : LineText) → TEXT_LIMIT < line.end → line_bound files here bound line ≡ refused here (record { number = BIND_SYNTAX; line = line.number })
  line-past bound line past = rw (lt-ltb TEXT_LIMIT line.end past) refl

  -- lines that are alike within the limit make the same of the bindings
  lines-alike : (lines others : List LineText) (bound : BoundValue) → AreAlikeWithin TEXT_LIMIT lines others → lines_bound files here bound lines ≡ lines_bound files here bound others
  lines-alike [] [] bound alike = refl
  lines-alike [] (other ∷ others) bound alike = absurd alike
  lines-alike (line ∷ lines) [] bound alike = absurd alike
  lines-alike (line ∷ lines) (other ∷ others) bound (inl alike) =
      ap (λ l. reading (line_bound files here bound l) (λ next. lines_bound files here next lines)) alike.0
      ∙ reading-same (line_bound files here bound other) (λ next. lines_bound files here next lines) (λ next. lines_bound files here next others) (λ next. lines-alike lines others next alike.1)
  lines-alike (line ∷ lines) (other ∷ others) bound (inr past) =
      ap (λ o. reading o (λ next. lines_bound files here next lines)) (line-past bound line past.1)
      ∙ ap (λ n. refused here (record { number = BIND_SYNTAX; line = n })) past.0
      ∙ sym (ap (λ o. reading o (λ next. lines_bound files here next others)) (line-past bound other past.2))

  -- so bindings are read of their front
  pub lines-looks : LooksAtFront (λ text. lines_bound files here nothing_bound (lines_of text))
  unfolding text_front
  lines-looks text = lines-alike (lines_of text) (lines_of (take (TEXT_LIMIT + 1) text)) nothing_bound (lines_of-alike text TEXT_LIMIT)
