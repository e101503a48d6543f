-- A line that is taken of a stream, skipped or not: it is routed where it is not skipped, and observed.
use Rattle.std.proofs.Common.{◌≡◌, ℕ, List, [], ◌∷◌, take, sym, ap, ◌∙◌, subst, arith}
use Rattle.std.specs.Prelude.{Option, Some, None, Ok, Err}
use Rattle.std.proofs.lemmas.List.Elements.{All-nil, All-cons}
use Rattle.rv_text.specs.declared.refusals.Refusal.{Refusal}
use Rattle.rv_text.specs.declared.refusals.Refused.{Refused}
use Rattle.rv_text.specs.TextLines.{LineText, lines_of}
use Rattle.rv_text.proofs.TextLineLemmas.{lines_from-end}
use Rattle.rv_trace.specs.declared.line.TraceLine.{TraceLine}
use Rattle.rv_trace.specs.declared.taken.TakenLine.{TakenLine}
use Rattle.rv_trace.specs.AnyLines.{IsTakenLine, TakesAny, TakesNextAny}
use Rattle.rv_trace.specs.Lines.{moved}
use Rattle.rv_trace.specs.Streams.{Stream, Adds, IsSkipped, TakesNextLine, part_read}
use Rattle.rv_trace.specs.Traces.{trace_of}
use Rattle.rv_trace.proofs.TakenLemmas.{refused-read}
use Rattle.rv_bind.specs.declared.bindings.Bindings.{Bindings}
use Rattle.rv_route.specs.Routers.{RouterValue}
use Rattle.rv_stream.specs.Observing.{ObservesLine}
use Rattle.rv_stream.specs.inner.Pieces.{passed_text, IsRouted, IsTold}
use Rattle.rv_stream.proofs.PiecesLemmas.{adds-routed}

-- no text has no lines
pub lines-none : lines_of [] ≡ []
unfolding lines_of
lines-none = lines_from-end [] 1 0 (omega arith)

module _ (old new : Stream) where
  -- a call that took a line which is not skipped took the next such line
  pub taken-next : (taken : TakenLine) (line : TraceLine) → taken.found ≡ Some line → TakesNextAny old new (Ok (Some taken)) → TakesNextLine old new (Ok (Some line))
  taken-next taken line is t =
      let any : TakesAny (passed_text old) (passed_text new) (part_read old.ended old.fed) new.text taken = t.answers in
      record {
        fed = t.fed;
        ended = t.ended;
        idle = t.idle;
        answers = record {
          last = any.last;
          adds = record { skipped = []; each = All-nil IsSkipped; are = any.adds };
          later = any.later;
          next = any.next;
          says = any.is.says ∙ ap (λ (found : Option TraceLine). moved any.last.from (Ok found)) is;
          bytes = sym any.is.bytes;
        };
      }

  -- a line that is skipped adds nothing to be read
  skipped-adds : (taken : TakenLine) → taken.found ≡ None → TakesNextAny old new (Ok (Some taken)) → Adds (passed_text old) (passed_text new) []
  skipped-adds taken none t =
      let any : TakesAny (passed_text old) (passed_text new) (part_read old.ended old.fed) new.text taken = t.answers in
      record {
        skipped = any.last ∷ [];
        each = All-cons IsSkipped any.last [] (any.is.says ∙ ap (λ (found : Option TraceLine). moved any.last.from (Ok found)) none) (All-nil IsSkipped);
        are = any.adds;
      }

  module _ {O : Type 0} (observed : List LineText → O → Type 0) where
    -- the line was observed
    pub told-more : (taken : TakenLine) (text : List ℕ) (o o' : O) → text ≡ new.text → TakesNextAny old new (Ok (Some taken)) → ObservesLine observed text taken o o' → IsTold observed old o → IsTold observed new o'
    told-more taken text o o' same t observes told =
        let any : TakesAny (passed_text old) (passed_text new) (part_read old.ended old.fed) new.text taken = t.answers in
        subst (λ (lines : List LineText). observed lines o') (sym any.adds)
        (observes (lines_of (passed_text old)) any.last (subst (λ (bytes : List ℕ). IsTakenLine bytes taken any.last) (sym same) any.is) told)

  module _ (bindings : Bindings) (router : RouterValue) (late : Option Refused) (routed : IsRouted bindings (passed_text old) router late) where
    -- a skipped line routes nothing
    pub skip-routed : (taken : TakenLine) → taken.found ≡ None → TakesNextAny old new (Ok (Some taken)) → IsRouted bindings (passed_text new) router late
    skip-routed taken none t =
        let adds : Adds (take old.taken old.fed) (take new.taken old.fed) [] = subst (λ (fed : List ℕ). Adds (take old.taken old.fed) (take new.taken fed) []) t.fed (skipped-adds taken none t) in
        subst (λ (fed : List ℕ). IsRouted bindings (take new.taken fed) router late) (sym t.fed) (adds-routed bindings old.fed old.taken new.taken router late adds routed)

    -- a line was refused
    pub refused-taken : (refusal : Refusal) → TakesNextAny old new (Err refusal) → trace_of (part_read old.ended old.fed) ≡ Err refusal
    refused-taken refusal t = refused-read (passed_text old) (passed_text new) (part_read old.ended old.fed) refusal routed.lines t.answers.1 routed.read
