use Rattle.std.proofs.Common.{◌≡◌, ◌≤◌, ◌+◌, [], length, take, Option, Result, Ok, refl, sym, ◌∙◌, subst, arith}
use Rattle.rv_text.specs.Places.{between}
use Rattle.rv_text.specs.TextLines.{LineText, next_number}
use Rattle.rv_text.specs.declared.refusals.Refusal.{Refusal}
use Rattle.rv_trace.specs.declared.line.TraceLine.{TraceLine}
use Rattle.rv_trace.specs.Streams.{AnswersLine, part_read}
use Rattle.rv_trace.specs.Traces.{reading_of}
use Rattle.rv_trace.proofs.AddLemmas.{adds-none, reading-fits}
use Rattle.rv_trace.proofs.AnyLineLemmas.{reading-says, found-lies, takes-any}
use Rattle.rv_trace.proofs.HeldLemmas.{looks-first}
use Rattle.rv_trace.proofs.SeekLemmas.{open-is, tells}
use Rattle.rv_trace.proofs.seek_line.seek_line.Goals as goal

pub returns-in_default : goal.returns-in_default
returns-in_default c =
    let looks = c.requires.looks in
    let left = c.in_default.ensures.none in
    rw c.stay.ensures (record {
      looks = record { order = omega (arith, looks.order, looks.within); within = omega arith; none = left.none };
      fits = c.requires.fits;
      order = omega arith;
      within = omega arith;
      small = omega arith;
      read_on = tt;
      none = refl;
      refused = tt;
      tells = λ fed piece stands. record {
        answers = (
          refl,
          record {
            adds = adds-none _;
            all = open-is fed c.args.held.now c.args.passed c.args.start.from c.args.start.number c.args.ended piece (omega (arith, looks.order, looks.within)) stands left;
          },
        );
        behind = stands;
      };
    })

pub returns-in-Err : goal.returns-in-Err
returns-in-Err c =
    let looks = c.requires.looks in
    rw c.stay-in-Err.ensures (record {
      looks = looks;
      fits = c.requires.fits;
      order = omega arith;
      within = omega arith;
      small = omega arith;
      read_on = tt;
      none = tt;
      refused = refl;
      tells = λ fed piece stands.
          let before = take (c.args.passed + c.args.start.from) fed in
          let told =
          tells fed c.args.held.now c.args.passed c.args.start.from c.args.start.number c.args.ended piece (omega (arith, looks.order, looks.within)) c.in-Some.to
          c.in-Some.ensures.some before stands (adds-none before)
          c.past_line_end-end.result (next_number c.args.start.number) c.past_line_end-end.ensures refl c.read_at-read.result c.read_at-read.ensures in
          record {
            answers = (
              refl,
              subst (λ (r : Result (Option TraceLine) Refusal). AnswersLine before before (part_read c.args.ended fed) [] r) c.in-Err.is (told.refuses c.in-Err.refusal [] c.in-Err.is),
            );
            behind = stands;
          };
    })

pub returns : goal.returns
returns c =
    let looks = c.requires.looks in
    let text = between c.args.held.now c.args.start.from c.in-Some.to in
    let line : LineText = record { number = c.args.start.number; from = 0; bytes = text; end = c.args.passed + c.past_line_end-end.result } in
    let is : ◌≡◌ {A = Result (Option TraceLine) Refusal} (reading_of line) (Ok c.in-Ok.found) = sym c.read_at-read.ensures ∙ c.in-Ok.is in
    let fits = reading-fits line c.in-Ok.found is in
    let within = c.in-Some.ensures.some.within in
    let ends = c.in-Some.ensures.some in
    record {
      looks = looks-first c.args.held.now c.past_line_end-end.result (omega (arith, c.past_line_end-end.ensures));
      fits = fits;
      order = c.in-Some.ensures.some.order;
      within = within;
      small = omega (arith, fits, c.past_line_end-end.ensures, within);
      read_on = record { says = reading-says line c.in-Ok.found is; lies = found-lies text line c.in-Ok.found (omega arith) is };
      none = tt;
      refused = tt;
      tells = λ fed piece stands.
          let inside : c.args.start.from ≤ length c.args.held.now = omega (arith, looks.order, looks.within) in
          let before = take (c.args.passed + c.args.start.from) fed in
          let told =
          tells fed c.args.held.now c.args.passed c.args.start.from c.args.start.number c.args.ended piece inside c.in-Some.to ends before stands (adds-none before)
          c.past_line_end-end.result c.next_number.result c.past_line_end-end.ensures c.next_number.ensures c.read_at-read.result c.read_at-read.ensures in
          record {
            answers = takes-any fed c.args.held.now c.args.passed c.args.start.from c.args.start.number c.args.ended piece inside c.in-Some.to ends stands c.past_line_end-end.result c.past_line_end-end.ensures c.in-Ok.found is;
            behind = told.passes c.in-Ok.found c.in-Ok.is;
          };
    }
