use Rattle.std.proofs.Common.{◌≡◌, ◌+◌, ◌-◌, ◌≤◌, ◌<◌, get_or, ap, ◌∙◌, arith}
use Rattle.rv_text.specs.Places.{has_class}
use Rattle.rv_text.specs.declared.runs.ByteClass.TheVariants as kinds
use Rattle.rv_matches.proofs.TopBitLemmas.{behind_top, top_blank, top_inside}
use Rattle.rv_matches.proofs.event_facts.word_start.Goals as goal

pub returns : goal.returns
returns c =
    let text = c.args.text.now in
    let to = c.args.to in
    let top = c.highest.result in
    let wide : 16 ≤ to = c.if-to-lt-WIDTH.false in
    let inside : top < 16 = top_inside text (to - 16) c.blank_bits-blanks.result top c.blank_bits-blanks.ensures c.highest.ensures.set c.highest.ensures.above in
    record {
      high = omega (arith, wide, inside);
      each = λ place low high.
          behind_top text (to - 16) c.blank_bits-blanks.result top c.blank_bits-blanks.ensures c.highest.ensures.set c.highest.ensures.above place (omega (arith, low)) (omega (arith, wide, high));
      before = λ some.
          ap (λ k. has_class kinds.Word (get_or text k 0)) (let e : to - 16 + top + 1 - 1 ≡ to - 16 + top = omega arith in e)
          ∙ top_blank text (to - 16) c.blank_bits-blanks.result top c.blank_bits-blanks.ensures c.highest.ensures.set c.highest.ensures.above;
    }
