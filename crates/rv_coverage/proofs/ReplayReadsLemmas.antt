-- The texts that the two files come to make the input that a replay of them has.
use Rattle.std.proofs.Common.{◌≡◌, ℕ, List, [], refl, sym, ap, ◌∙◌, subst}
use Rattle.std.specs.Prelude.{Option, Some, None, option_map}
use Rattle.rv_io.specs.Files.{Files, front_read}
use Rattle.rv_bind.specs.BoundTexts.{BoundTextValue, bound_text_of}
use Rattle.rv_bind.specs.Outcomes.{Outcome, accepted, refused, missing, reading, of_name, of_text}
use Rattle.rv_bind.specs.Possible.{MayRead, MayThen, Only}
use Rattle.rv_bind.specs.Values.{BoundValue}
use Rattle.rv_bind.proofs.BoundTextLemmas.{bindings_of, bound_may, bound_text_of-bound}
use Rattle.rv_route.specs.Routing.{RoutedValue}
use Rattle.rv_stream.specs.RoutedTraces.{routed_in, routed_text}
use Rattle.rv_tool.specs.Inputs.{InputValue, run_input}
use Rattle.rv_tool.specs.Possible.{AreWorksOf, Keeping, MayInput, MayRoute}
use Rattle.rv_coverage.specs.ReplayReads.{input_alone}
use Rattle.rv_coverage.specs.Texts.{MayTexts, RunTexts, texts_by, texts_in}
use Rattle.rv_coverage.proofs.TextsLemmas.{texts-routed}

-- the input that a trace makes under bindings
abbrev input_by : BoundValue → RoutedValue → InputValue
input_by bound routed = record { bound = bound; routed = routed; changes = [] }

-- and with the text of both
abbrev texts_with : BoundTextValue → List ℕ → RoutedValue → RunTexts
texts_with read text routed = record { bindings = read.text; trace = text; input = input_by read.bound routed }

-- ---- on a store that tells its files

module _ (files : Files) (trace : List ℕ) where
  -- what the trace makes of it is the input of its texts
  trace_input : (read : BoundTextValue) (text : Option (List ℕ)) → input_alone (of_text trace text (texts_by trace read)) ≡ reading (of_text trace text (routed_text trace read.bound)) (λ routed. accepted (input_by read.bound routed))
  trace_input read None = refl
  trace_input read (Some text) = go (routed_text trace read.bound text)
    where
      go : (o : Outcome RoutedValue) → input_alone (reading o (λ routed. accepted (texts_with read text routed))) ≡ reading o (λ routed. accepted (input_by read.bound routed))
      go (accepted routed) = refl
      go (refused file refusal) = refl
      go (missing file) = refl

  -- so it is behind the bindings
  behind_bindings : (o : Outcome BoundTextValue) → input_alone (reading o (λ read. of_name files trace (texts_by trace read))) ≡ reading (bindings_of o) (λ bound. reading (routed_in files trace bound) (λ routed. accepted (input_by bound routed)))
  behind_bindings (accepted read) = trace_input read (option_map front_read (files trace))
  behind_bindings (refused file refusal) = refl
  behind_bindings (missing file) = refl

-- the texts' input is the replay's
pub told_alike : (files : Files) (bindings trace : List ℕ) → input_alone (texts_in files bindings trace) ≡ run_input files bindings trace
told_alike files bindings trace =
    behind_bindings files trace (bound_text_of files bindings) ∙ ap (λ o. reading o (λ bound. reading (routed_in files trace bound) (λ routed. accepted (input_by bound routed)))) (bound_text_of-bound bindings files)

-- ---- on any store

module _ (trace : List ℕ) (read : BoundTextValue) where
  -- texts that come of a trace have the input that it makes
  made_input : (texts : RunTexts) (text : Option (List ℕ)) → accepted texts ≡ of_text trace text (texts_by trace read) → accepted texts.input ≡ accepted (input_by read.bound texts.input.routed)
  made_input texts None is = cc
  made_input texts (Some text) is = go (routed_text trace read.bound text) is
    where
      go : (o : Outcome RoutedValue) → accepted texts ≡ reading o (λ routed. accepted (texts_with read text routed)) → accepted texts.input ≡ accepted (input_by read.bound texts.input.routed)
      go (accepted routed) same =
          let e : texts ≡ texts_with read text routed = cc in
          subst (λ (t : RunTexts). accepted t.input ≡ accepted (input_by read.bound t.input.routed)) (sym e) refl
      go (refused file refusal) same = cc
      go (missing file) same = cc

  -- what the trace may come to with its text, it may come to
  routed_may : (text : Option (List ℕ)) (o : Outcome RunTexts) → o ≡ of_text trace text (texts_by trace read) → MayRead trace (routed_text trace read.bound) (reading o (λ (t : RunTexts). accepted t.input.routed))
  routed_may text o is = (text, ap (λ (x : Outcome RunTexts). reading x (λ (t : RunTexts). accepted t.input.routed)) is ∙ texts-routed trace read text)

  -- and so may the input
  input_may : (o : Outcome RunTexts) → Keeping (λ (texts : RunTexts). AreWorksOf read.bound texts.input.routed) (MayRead trace (texts_by trace read)) o
      → MayThen (MayRoute trace read.bound) (λ routed. Only (accepted (input_by read.bound routed))) (input_alone o)
  input_may (accepted texts) (found, works) = (accepted texts.input.routed, (routed_may found.0 (accepted texts) found.1, works), made_input texts found.0 found.1)
  input_may (refused file refusal) found = (refused file refusal, routed_may found.0 (refused file refusal) found.1, refl)
  input_may (missing file) found = (missing file, routed_may found.0 (missing file) found.1, refl)

-- the texts' input may come of a replay
pub untold_alike : (bindings trace : List ℕ) (o : Outcome RunTexts) → MayTexts bindings trace o → MayInput bindings trace (input_alone o)
untold_alike bindings trace o (accepted read, (may, formed), rest) = (accepted read.bound, (bound_may bindings (accepted read) may, formed), input_may trace read o rest)
untold_alike bindings trace o (refused file refusal, may, is) = (refused file refusal, bound_may bindings (refused file refusal) may, ap input_alone is)
untold_alike bindings trace o (missing file, may, is) = (missing file, bound_may bindings (missing file) may, ap input_alone is)
