-- The generated input is one, and its report is that of one thread.
use Rattle.std.proofs.Common.{◌≡◌, ◌≢◌, ◌⊎◌, ◌≤◌, ℕ, inl, inr, Bool, true, false, not, cond, ◌&&◌, List, [], ◌∷◌, Some, None, refl, ap, ◌∙◌, subst, arith}
use Rattle.std.specs.Prelude.{Option, codes, bytes_eq, nat_lt, if◌then◌else◌}
use Rattle.std.proofs.lemmas.Bool.{and_parts, not-true, ltb-false}
use Rattle.std.proofs.lemmas.List.Elements.{All-nil, All-cons}
use Rattle.rv_io.specs.Files.{front_read}
use Rattle.rv_text.specs.Decimal.{decimal_of}
use Rattle.rv_model.specs.declared.entry.Entry.{Entry}
use Rattle.rv_model.specs.Histories.{IsLegal}
use Rattle.rv_model.specs.Reactors.{is_panic}
use Rattle.rv_model.specs.declared.kind.SpecKind.{SpecKind}
use Rattle.rv_model.specs.Words.{kind_named}
use Rattle.rv_laws.proofs.StopLemmas.{all_lone_have_no_stop}
use Rattle.rv_bind.specs.Outcomes.{accepted, reading, of_file}
use Rattle.rv_route.specs.Routing.{route_of}
use Rattle.rv_gen.specs.declared.files.TheConstants.{MAX_BLOCKS}
use Rattle.rv_gen.specs.Generated.{trace_text}
use Rattle.rv_gen.proofs.LengthLemmas.{blocks-short}
use Rattle.rv_header.specs.Naming.{is_header_name}
use Rattle.rv_generated.specs.Accepted.{IsAccepted}
use Rattle.rv_generated.specs.GeneratedBound.{generated_bound, wip_monitor, wwnr_monitor}
use Rattle.rv_generated.proofs.AcceptedLemmas.{trace-accepted}
use Rattle.rv_tool.specs.Calls.{CallEnd}
use Rattle.rv_tool.specs.GeneratedBound.{LoadIsAccepted}
use Rattle.rv_tool.specs.Headline.{IsReported, PrintsSome, Ends}
use Rattle.rv_stream.specs.RoutedTraces.{routed_text, routed_in}
use Rattle.rv_tool.specs.Inputs.{InputValue, run_of}
use Rattle.rv_tool.specs.Loaded.{generated_files, load_input}
use Rattle.rv_tool.specs.Loads.{EndsAsLoad}
use Rattle.rv_tool.specs.inner.Commands.{IsVerdictReport}
use Rattle.rv_tool.specs.Verdicts.{HasNoPanic, HasOneWriterIn, HasVerdicts, HasLoadVerdict, ReportsLoad}
use Rattle.rv_tool.specs.Words.{CommandValue, replay, feed, feed_beside, journal, check, watch, table, header, control, load, load_of, command_of}
use Rattle.rv_tool.proofs.LoadLemmas.{front-short, load_bound}

-- ---- the input

-- what so many blocks come to
record Loads (blocks : ℕ) : Type 0 where
  input : InputValue
  is : load_input blocks ≡ accepted input
  unchanged : input.changes ≡ []
  no_panic : HasNoPanic input
  one_writer : (slot : ℕ) → HasOneWriterIn input slot

module _ (blocks : ℕ) (few : blocks ≤ MAX_BLOCKS) where
  -- the trace is read whole
  trace-whole : front_read (trace_text blocks) ≡ trace_text blocks
  trace-whole = front-short (trace_text blocks) (omega (arith, blocks-short blocks))

  -- its file is accepted under the bindings
  trace-routed : (is : IsAccepted blocks) → routed_in (generated_files blocks) (codes "gen.txt") generated_bound ≡ accepted is.routed
  trace-routed is =
      ap (routed_text (codes "gen.txt") generated_bound) trace-whole
      ∙ ap (λ r. reading (of_file (codes "gen.txt") r) (λ lines. of_file (codes "gen.txt") (route_of generated_bound.monitors generated_bound.rules (trace_text blocks) lines))) is.read
      ∙ ap (of_file (codes "gen.txt")) is.routes

  -- so they come to an input
  loads : Loads blocks
  loads =
      let is : IsAccepted blocks = trace-accepted blocks few in
      record {
        input = record { bound = generated_bound; routed = is.routed; changes = [] };
        is = ap (λ o. reading o (λ bound. reading (routed_in (generated_files blocks) (codes "gen.txt") bound) (λ routed. accepted (record { bound = bound; routed = routed; changes = [] })))) (load_bound blocks)
            ∙ ap (λ o. reading o (λ routed. accepted (record { bound = generated_bound; routed = routed; changes = [] }))) (trace-routed is);
        unchanged = refl;
        no_panic = All-cons (λ m. is_panic m.reactor ≡ false) wip_monitor (wwnr_monitor ∷ []) refl (All-cons (λ m. is_panic m.reactor ≡ false) wwnr_monitor [] refl (All-nil (λ m. is_panic m.reactor ≡ false)));
        one_writer = is.one_writer;
      }

-- the law
pub load_accepted : LoadIsAccepted
load_accepted blocks few = let is = loads blocks few in (is.input, is.is, is.no_panic, is.one_writer)

-- ---- the report

-- a status that is not 6 is 0 or 1
zero_or_one : (failed stopped : Bool) (status : ℕ) → status ≡ (if failed then 1 else if stopped then 6 else 0) → status ≢ 6 → (status ≡ 0) ⊎ (status ≡ 1)
zero_or_one true stopped status is other = inr is
zero_or_one false true status is other = absurd (other is)
zero_or_one false false status is other = inl is

-- its report has the verdict of one thread
load_verdict : (blocks : ℕ) (made : Loads blocks) (h : List Entry) (text : List ℕ) (status : ℕ) → IsReported IsLegal made.input h text status → HasVerdicts made.input h text status → HasLoadVerdict made.input h text status
load_verdict blocks made h text status is verdicts = record {
  no_stop = all_lone_have_no_stop (run_of made.input) is.judges h is.history made.unchanged made.one_writer;
  said = zero_or_one _ _ status is.status_is (verdicts.run.not_six made.one_writer);
  alike = λ k other said one. (verdicts.text_is made.no_panic made.one_writer k other said one, verdicts.run.status_is made.no_panic made.one_writer k other said one);
}

-- where a report with its verdicts is put, one with fewer facts, or more that follow, is
prints_as : (c : CallEnd) (Goes Others : List Entry → List ℕ → ℕ → Type 0) → ((h : List Entry) (text : List ℕ) (said : ℕ) → Goes h text said → Others h text said) → PrintsSome Goes c → PrintsSome Others c
prints_as c Goes Others follows (inl (text, said, goes, written)) = inl (text, said, follows c.history text said goes, written)
prints_as c Goes Others follows (inr up) = inr up

module _ (blocks : ℕ) (few : blocks ≤ MAX_BLOCKS) (c : CallEnd) (ends : Ends (λ i. PrintsSome (IsVerdictReport i)) (load_input blocks) c) where
  -- the report of the input is put
  put : PrintsSome (IsVerdictReport (loads blocks few).input) c
  put = subst (λ o. Ends (λ i. PrintsSome (IsVerdictReport i)) o c) (loads blocks few).is ends

  -- with what is told of the generated input
  pub load_ends : EndsAsLoad ReportsLoad blocks c
  load_ends =
      let made = loads blocks few in
      (made.input, made.is, prints_as c (IsVerdictReport made.input) (λ h text status. IsReported IsLegal made.input h text status × HasVerdicts made.input h text status × HasLoadVerdict made.input h text status) (λ h text status goes. (goes.0, goes.1, load_verdict blocks made h text status goes.0 goes.1)) put)

  -- or without
  pub load_reports : EndsAsLoad (λ i. PrintsSome (IsReported IsLegal i)) blocks c
  load_reports =
      let made = loads blocks few in
      (made.input, made.is, prints_as c (IsVerdictReport made.input) (IsReported IsLegal made.input) (λ h text status goes. goes.0) put)

-- ---- the words

-- no more blocks are asked for than there may be
abbrev pub IsWithin : CommandValue → Type 0
IsWithin (load blocks) = blocks ≤ MAX_BLOCKS
IsWithin _ = Unit {0}

module _ (command : CommandValue) where
  -- what is asked for is within the bounds
  abbrev Within : Option CommandValue → Type 0
  Within asked = Some command ≡ asked → IsWithin command

  -- nothing is asked for
  none : Within None
  none is = cc

  -- this is asked for
  some : (other : CommandValue) → IsWithin other → Within (Some other)
  some other within is = let same : other ≡ command = cc in subst IsWithin same within

  -- one or the other is
  either : (b : Bool) (x y : Option CommandValue) → Within x → Within y → Within (cond b x y)
  either true x y first second = first
  either false x y first second = second

  -- so many blocks are
  blocks-within : (number : Option ℕ) → Within (load_of number)
  blocks-within None = none
  blocks-within (Some blocks) = go (nat_lt 0 blocks && not (nat_lt MAX_BLOCKS blocks)) refl
    where
      go : (b : Bool) → (nat_lt 0 blocks && not (nat_lt MAX_BLOCKS blocks)) ≡ b → Within (cond b (Some (load blocks)) None)
      go true is = some (load blocks) (ltb-false MAX_BLOCKS blocks (not-true _ (and_parts _ _ is).1))
      go false is = none

  -- a table is
  table-within : (kind : Option SpecKind) (file : List ℕ) → Within (Rattle.std.specs.Prelude.option_map (λ k. table k file) kind)
  table-within None file = none
  table-within (Some kind) file = some (table kind file) tt

  -- whatever the words are
  pub words_within : (words : List (List ℕ)) → Within (command_of words)
  words_within [] = none
  words_within (word ∷ []) = none
  words_within (word ∷ number ∷ []) = either (bytes_eq word (codes "load")) (load_of (decimal_of number)) None (blocks-within (decimal_of number)) none
  words_within (word ∷ first ∷ second ∷ []) =
      either (bytes_eq word (codes "replay")) _ _ (some (replay first second) tt)
      (either (bytes_eq word (codes "feed")) _ _ (some (feed first second) tt)
      (either (bytes_eq word (codes "journal")) _ _ (some (journal first second) tt)
      (either (bytes_eq word (codes "control")) _ _ (some (control first second) tt)
      (either (bytes_eq word (codes "table")) _ _ (table-within (kind_named first) second)
      (either (bytes_eq word (codes "header")) _ _ (either (is_header_name first) _ _ (some (header first second) tt) none) none)))))
  words_within (word ∷ bindings ∷ trace ∷ third ∷ []) =
      either (bytes_eq word (codes "feed")) _ _ (some (feed_beside bindings trace third) tt)
      (either (bytes_eq word (codes "check")) _ _ (some (check bindings trace third) tt) none)
  words_within (word ∷ bindings ∷ trace ∷ monitor ∷ instance ∷ []) = either (bytes_eq word (codes "watch")) _ _ (some (watch bindings trace monitor instance) tt) none
  words_within (word ∷ a ∷ b ∷ c ∷ d ∷ e ∷ more) = none
