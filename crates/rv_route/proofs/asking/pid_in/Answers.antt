use Rattle.std.proofs.Common.{◌≡◌, ◌+◌, ◌<◌, ◌≤◌, ℕ, List, Bool, true, false, cond, refl, sym, ◌∙◌, ap, arith, Some, None, below_more}
use Rattle.std.specs.Prelude.{◌&&◌, nat_lt, if◌then◌else◌, ◌^◌, length}
use Rattle.std.proofs.lemmas.List.{take_all}
use Rattle.std.proofs.lemmas.Bool.{lt-ltb, le-ltb}
use Rattle.rv_text.specs.Decimal.{all_digits, number_of, decimal_of}
use Rattle.rv_text.proofs.DecimalLemmas.{number-more, number-front, all_digits-not, all_digits-each, decimal-some, decimal-empty, decimal-other}
use Rattle.rv_route.specs.declared.asking.Ask.TheVariants as asks
use Rattle.rv_route.specs.Asking.{pid_from}
use Rattle.rv_route.proofs.asking.pid_in.Goals as goal

-- a number that is too large is no pid
pid-large : (text : List ℕ) → 4294967295 < number_of text → asks.NoPid ≡ pid_from (decimal_of text)
unfolding decimal_of
pid-large text large = go (nat_lt 0 (length text) && all_digits text && nat_lt (number_of text) (2 ^ 64))
  where
    go : (b : Bool) → asks.NoPid ≡ pid_from (cond b (Some (number_of text)) None)
    go true = sym (ap (λ (b : Bool). if b then asks.NoPid else asks.Pid (number_of text)) (lt-ltb 4294967295 (number_of text) large))
    go false = refl

-- another one is
pid-small : (text : List ℕ) (n : ℕ) → n ≡ number_of text → n ≤ 4294967295 → Some (number_of text) ≡ decimal_of text → asks.Pid n ≡ pid_from (decimal_of text)
pid-small text n is small fits =
    ap asks.Pid is ∙ sym (ap (λ (b : Bool). if b then asks.NoPid else asks.Pid (number_of text)) (le-ltb 4294967295 (number_of text) (omega (arith, is)))) ∙ ap pid_from fits

pub returns-then-is_empty : goal.returns-then-is_empty
returns-then-is_empty c = ap pid_from (decimal-empty c.args.text.now (grind arith))

pub loop-byte-init : goal.loop-byte-init
unfolding number_of
loop-byte-init c = (refl, λ k h. absurd (omega arith))

pub returns-then-not-has : goal.returns-then-not-has
returns-then-not-has c = ap pid_from (decimal-other c.args.text.now (all_digits-not c.args.text.now c.loop-byte.byte-index (omega arith) (sym c.has.ensures ∙ c.if-not-has.true)))

pub loop-byte-preserved : goal.loop-byte-preserved
loop-byte-preserved c =
    let text = c.args.text.now in
    let i = c.loop-byte.byte-index in (
      omega (arith, number-more text i (omega arith), c.loop-byte.invariant.0),
      below_more _ _ c.loop-byte.invariant.1 (sym c.has.ensures ∙ c.if-not-has.false),
    )

pub returns-then-pid : goal.returns-then-pid
returns-then-pid c =
    let text = c.args.text.now in
    let i = c.loop-byte.byte-index in
    pid-large text (omega (arith, number-more text i (omega arith), number-front text (i + 1), c.loop-byte.invariant.0, c.if-pid.true))

pub returns-then-pid-2 : goal.returns-then-pid-2
returns-then-pid-2 c =
    let text = c.args.text.now in
    let whole : c.loop-byte.pid ≡ number_of text = c.loop-byte.invariant.0 ∙ ap number_of (take_all _ text (omega arith)) in
    pid-large text (omega (arith, whole, c.if-pid-2.true))

pub returns : goal.returns
returns c =
    let text = c.args.text.now in
    let whole : c.loop-byte.pid ≡ number_of text = c.loop-byte.invariant.0 ∙ ap number_of (take_all _ text (omega arith)) in
    let small : c.loop-byte.pid ≤ 4294967295 = omega arith in
    pid-small text c.loop-byte.pid whole small (decimal-some text (grind arith) (all_digits-each text (λ k h. c.loop-byte.invariant.1 k (omega arith))) (omega (arith, whole, small)))
