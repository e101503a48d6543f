use Rattle.std.proofs.Common.{◌≡◌, ◌≤◌, ◌+◌, List, ℕ, take, Option, Result, Ok, Some, None, refl, sym, ◌∙◌, ap, subst, arith}
use Rattle.std.specs.Prelude.{IfSome}
use Rattle.rv_text.specs.Places.{between}
use Rattle.rv_text.specs.TextLines.{LineText}
use Rattle.rv_text.specs.declared.refusals.Refusal.{Refusal}
use Rattle.rv_trace.specs.declared.line.TraceLine.{TraceLine}
use Rattle.rv_trace.specs.declared.trace.TheConstants.{MAX_BYTES}
use Rattle.rv_trace.specs.Held.{IsPieceOf}
use Rattle.rv_trace.specs.inner.Seeking.{EndsAt, HasNoLineEnd}
use Rattle.rv_trace.specs.Lines.{LiesIn}
use Rattle.rv_trace.specs.Streams.{AnswersLine, IsPassed, part_read}
use Rattle.rv_trace.proofs.SeekLemmas.{open-is, Tells, tells}
use Rattle.rv_trace.proofs.HeldLemmas.{looks-first}
use Rattle.rv_trace.proofs.AddLemmas.{adds-none, reading-fits}
use Rattle.rv_trace.proofs.TraceLemmas.{reading-lies}
use Rattle.rv_trace.proofs.seek.seek.Goals.{After-next_number}
use Rattle.rv_trace.proofs.seek.seek.Goals as goal

-- the line that ends here
abbrev line_here : After-next_number → LineText
line_here c = record { number = c.loop-to.at.number; from = 0; bytes = between c.args.held.now c.loop-to.at.from c.in-Some.to; end = c.args.passed + c.past_line_end-end.result }

-- its reading is told of the stream
tells-here : (c : After-next_number) (fed : List ℕ) → IsPieceOf fed c.args.held.now c.args.passed → IsPassed fed c.args.ended (c.args.passed + c.args.start.from) c.args.start.number
    → Tells fed c.args.held.now c.args.passed c.loop-to.at.from c.in-Some.to c.args.ended (take (c.args.passed + c.args.start.from) fed) c.past_line_end-end.result c.next_number.result c.read_at-read.result
tells-here c fed piece stands =
    let looks = c.loop-to.invariant.0 in
    let before = c.loop-to.invariant.3 fed piece stands in
    tells fed c.args.held.now c.args.passed c.loop-to.at.from c.loop-to.at.number c.args.ended piece (omega (arith, looks.order, looks.within)) c.in-Some.to
    (subst (λ w. EndsAt c.args.held.now c.loop-to.at.from w c.in-Some.to) c.loop-to.invariant.2 c.in-Some.ensures.some) _ before.1 before.0
    c.past_line_end-end.result c.next_number.result c.past_line_end-end.ensures c.next_number.ensures c.read_at-read.result c.read_at-read.ensures

-- one that is read ends in time
fits-here : (c : After-next_number) (found : Option TraceLine) → ◌≡◌ {A = Result (Option TraceLine) Refusal} c.read_at-read.result (Ok found) → c.args.passed + c.past_line_end-end.result ≤ MAX_BYTES
fits-here c found is = reading-fits (line_here c) found (sym c.read_at-read.ensures ∙ is)

pub loop-to-init : goal.loop-to-init
loop-to-init c = (c.requires.looks, c.requires.fits, c.is_whole-whole.ensures, λ fed piece stands. (adds-none _, stands))

pub loop-to-preserved : goal.loop-to-preserved
loop-to-preserved c =
    let here = (goal.at.loop-to-preserved c).After-next_number in
    let is : ◌≡◌ {A = Result (Option TraceLine) Refusal} c.read_at-read.result (Ok None) = c.in-Ok.is ∙ ap Ok c.in-None.is in (
      looks-first c.args.held.now c.past_line_end-end.result (omega (arith, c.past_line_end-end.ensures)),
      fits-here here None is,
      c.loop-to.invariant.2,
      λ fed piece stands. let told = tells-here here fed piece stands in (told.skips is, told.passes None is),
    )

pub returns-in-Some-found : goal.returns-in-Some-found
returns-in-Some-found c =
    let here = (goal.at.returns-in-Some-found c).After-next_number in
    let text = between c.args.held.now c.loop-to.at.from c.in-Some.to in
    let is : ◌≡◌ {A = Result (Option TraceLine) Refusal} c.read_at-read.result (Ok (Some c.in-Some-found.field-0)) = c.in-Ok.is ∙ ap Ok c.in-Some-found.is in
    let fits = fits-here here c.in-Ok.found c.in-Ok.is in
    record {
      looks = looks-first c.args.held.now c.past_line_end-end.result (omega (arith, c.past_line_end-end.ensures));
      fits = fits;
      order = c.in-Some.ensures.some.order;
      within = c.in-Some.ensures.some.within;
      small = omega (arith, fits, c.past_line_end-end.ensures, c.in-Some.ensures.some.within);
      lies = subst (λ (o : Option TraceLine). IfSome o (LiesIn text)) (sym c.in-Some-found.is)
          (reading-lies text (line_here here) c.in-Some-found.field-0 (omega arith) (sym c.read_at-read.ensures ∙ is));
      none = rw c.in-Some-found.is tt;
      refused = tt;
      tells = λ fed piece stands. let told = tells-here here fed piece stands in record {
        answers = subst (λ (r : Result (Option TraceLine) Refusal).
            AnswersLine (take (c.args.passed + c.args.start.from) fed) (take (c.args.passed + c.past_line_end-end.result) fed) (part_read c.args.ended fed) text r) c.in-Ok.is
            (told.takes c.in-Some-found.field-0 is);
        behind = told.passes c.in-Ok.found c.in-Ok.is;
      };
    }

pub returns-in-Err : goal.returns-in-Err
returns-in-Err c =
    let here = (goal.at.returns-in-Err c).After-next_number in
    let kept = c.loop-to.invariant in
    record {
      looks = kept.0;
      fits = kept.1;
      order = omega arith;
      within = omega arith;
      small = omega arith;
      lies = rw c.in-Err.is tt;
      none = rw c.in-Err.is tt;
      refused = rw c.in-Err.is refl;
      tells = λ fed piece stands. record {
        answers = (tells-here here fed piece stands).refuses c.in-Err.field-0 (between c.args.held.now 0 0) c.in-Err.is;
        behind = (kept.3 fed piece stands).1;
      };
    }

pub returns : goal.returns
returns c =
    let kept = c.loop-to.invariant in
    let looks = kept.0 in
    let left = subst (λ w. HasNoLineEnd c.args.held.now c.loop-to.at.from w) kept.2 c.in_default.ensures.none in
    record {
      looks = record { order = omega (arith, looks.order, looks.within); within = omega arith; none = left.none };
      fits = kept.1;
      order = omega arith;
      within = omega arith;
      small = omega arith;
      lies = tt;
      none = refl;
      refused = tt;
      tells = λ fed piece stands. let before = kept.3 fed piece stands in record {
        answers = record {
          adds = before.0;
          all = open-is fed c.args.held.now c.args.passed c.loop-to.at.from c.loop-to.at.number c.args.ended piece (omega (arith, looks.order, looks.within)) before.1 left;
        };
        behind = before.1;
      };
    }
