use Rattle.std.proofs.Common.{◌≡◌, ◌+◌, true, false, Some, sym, ap, ◌∙◌}
use Rattle.std.specs.Option.{option_or}
use Rattle.rv_matches.specs.LateTimes.{Stamped, latest_of}
use Rattle.rv_matches.specs.inner.LateTimes.{TimesValue, is_late, is_latest}
use Rattle.rv_matches.proofs.LateLemmas.{told_late, told_latest, told_neither}
use Rattle.rv_matches.proofs.late.Times.add.Goals as goal

pub returns-then-is_latest : goal.returns-then-is_latest
returns-then-is_latest c = λ stamps is.
    let s : Stamped = record { line = c.args.line; stamp = c.args.stamp.now } in
    let was = is in
    let latest = ap (λ (t : TimesValue). t.latest) was in
    let yes : is_latest (latest_of stamps) s ≡ true = ap (λ o. is_latest o s) (sym latest) ∙ sym c.is_latest.ensures ∙ c.if-is_latest.true in
    told_latest stamps s _ yes c.in_ok-set.ensures.ok (ap (λ (t : TimesValue). t.late) (c.self.view_is ∙ is))

pub returns-then-is_late : goal.returns-then-is_late
returns-then-is_late c = λ stamps is.
    let s : Stamped = record { line = c.args.line; stamp = c.args.stamp.now } in
    let latest = ap (λ (t : TimesValue). t.latest) is in
    let not_latest : is_latest (latest_of stamps) s ≡ false = ap (λ o. is_latest o s) (sym latest) ∙ sym c.is_latest.ensures ∙ c.if-is_latest.false in
    let late : is_late (latest_of stamps) s ≡ true = ap (λ o. is_late o s) (sym latest) ∙ sym c.is_late.ensures ∙ c.if-is_late.true in
    told_late stamps s _ not_latest late (c.in_ok-add_late.ensures.latest ∙ ap (λ (t : TimesValue). t.latest) is)
    (c.in_ok-add_late.ensures.first ∙ ap (λ (t : TimesValue). option_or t.late.first (Some (record { late = s; latest = t.latest }))) is)
    (c.in_ok-add_late.ensures.count ∙ ap (λ (t : TimesValue). t.late.count + 1) is)

pub returns : goal.returns
returns c = λ stamps is.
    let s : Stamped = record { line = c.args.line; stamp = c.args.stamp.now } in
    let was = is in
    let latest = ap (λ (t : TimesValue). t.latest) was in
    let not_latest : is_latest (latest_of stamps) s ≡ false = ap (λ o. is_latest o s) (sym latest) ∙ sym c.is_latest.ensures ∙ c.if-is_latest.false in
    let not_late : is_late (latest_of stamps) s ≡ false = ap (λ o. is_late o s) (sym latest) ∙ sym c.is_late.ensures ∙ c.if-is_late.false in
    told_neither stamps s _ not_latest not_late is
