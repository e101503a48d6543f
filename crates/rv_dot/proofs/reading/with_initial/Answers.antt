use Rattle.std.proofs.Common.{ℕ, List, map, sym, ap, ◌∙◌, subst}
use Rattle.std.specs.Prelude.{not}
use Rattle.std.specs.Cmp.Lexicographic.{slice_cmp}
use Rattle.std.specs.List.{filter}
use Rattle.std.specs.Option.{is_some}
use Rattle.std.specs.Ordering.{nat_cmp}
use Rattle.std.specs.Str.{bytes_eq}
use Rattle.rv_dot.specs.Gathered.{states_in}
use Rattle.rv_text.specs.inner.Ascending.{Ascends}
use Rattle.rv_dot.specs.inner.Held.{sayings_claims, arc, bytes_of}
use Rattle.rv_dot.specs.Sets.{stands_in}
use Rattle.rv_dot.proofs.InitialLaws.{first_refused, first_stands, states_are, none_test, some_test, events_up, others_up}
use Rattle.rv_dot.proofs.NameSets.{set_ascends}
use Rattle.rv_dot.proofs.reading.with_initial.Goals as goal

pub place_among-requires : goal.place_among-requires
place_among-requires c = subst (Ascends (slice_cmp nat_cmp)) (sym (ap (map bytes_of) c.deref.ensures.value ∙ c.in_ok-declared.ensures)) (set_ascends (states_in (sayings_claims c.args.said.now)))

pub returns-then-is_none : goal.returns-then-is_none
returns-then-is_none c =
    rw c.refused.ensures (first_refused (sayings_claims c.args.said.now) c.args.first.now
    (ap (λ (names : List (List ℕ)). stands_in names c.args.first.now) (sym (ap (map bytes_of) c.deref.ensures.value ∙ c.in_ok-declared.ensures)) ∙ sym (ap is_some c.place_among.ensures.value) ∙ none_test c.place_among.result c.is_none.result c.is_none.ensures c.if-is_none.true))

pub with_numbering-requires-clause-ascend : goal.with_numbering-requires-clause-ascend
with_numbering-requires-clause-ascend c = record {
  others = others_up (states_in (sayings_claims c.args.said.now)) c.args.first.now (map bytes_of c.deref-3.result.now) (ap (map bytes_of) c.deref-3.ensures.value ∙ c.in_ok-others.ensures ∙ ap (filter (λ s. not (bytes_eq s c.args.first.now))) (ap (map bytes_of) c.deref-2.ensures.value ∙ c.in_ok-declared.ensures));
  events = events_up (map arc c.args.arcs.now) (map bytes_of c.deref-4.result.now) (ap (map bytes_of) c.deref-4.ensures.value ∙ c.in_ok-events.ensures);
}

pub with_numbering-requires-clause-states : goal.with_numbering-requires-clause-states
with_numbering-requires-clause-states c = states_are (sayings_claims c.args.said.now) c.args.first.now (map bytes_of c.deref-3.result.now) (ap (map bytes_of) c.deref-3.ensures.value ∙ c.in_ok-others.ensures ∙ ap (filter (λ s. not (bytes_eq s c.args.first.now))) (ap (map bytes_of) c.deref-2.ensures.value ∙ c.in_ok-declared.ensures))

pub with_numbering-requires-clause-stands : goal.with_numbering-requires-clause-stands
with_numbering-requires-clause-stands c =
    first_stands (sayings_claims c.args.said.now) c.args.first.now
    (ap (λ (names : List (List ℕ)). stands_in names c.args.first.now) (sym (ap (map bytes_of) c.deref.ensures.value ∙ c.in_ok-declared.ensures)) ∙ sym (ap is_some c.place_among.ensures.value) ∙ some_test c.place_among.result c.is_none.result c.is_none.ensures c.if-is_none.false)
