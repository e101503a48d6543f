use Rattle.std.proofs.Common.{◌≡◌, ◌++◌, List, ℕ, [], codes, ap, ◌∙◌, sym, refl, get_or}
use Rattle.std.specs.Prelude.{map}
use Rattle.rv_model.specs.Machine.{Machine}
use Rattle.rv_dot.specs.Canonical.{quoted}
use Rattle.rv_header.specs.HeaderText.{tagged, list_text, function_text, marks, tables}
use Rattle.rv_header.proofs.Written.{grown, grown_two}
use Rattle.rv_header.proofs.tables.put_tables.Goals as goal

pub returns : goal.returns
returns c =
    let a : Machine = record { states = c.automaton.inside.states; events = c.automaton.inside.events; edges = c.automaton.inside.edges.items; marked = c.automaton.inside.marked } in
    let o = c.args.out.now in
    let name : List ℕ = c.args.name.now in
    let tag : List ℕ = tagged name (codes "automaton") in
    let first = grown o (codes "static const struct ") tag (o ++ codes "static const struct ") _ refl c.in_ok-put_behind.ensures in
    let second = grown_two o _ (codes " ") tag _ _ first c.in_ok-put_behind-2.ensures in
    let third = grown o _ (codes " = {\n\t.state_names = ") _ _ second c.in_ok-text.ensures.ok in
    let fourth = grown o _ (list_text (map quoted a.states)) _ _ third c.in_ok-put_names.ensures in
    let fifth = grown o _ (codes ",\n\t.event_names = ") _ _ fourth c.in_ok-text-2.ensures.ok in
    let sixth = grown o _ (list_text (map quoted a.events)) _ _ fifth c.in_ok-put_names-2.ensures in
    let seventh = grown o _ (codes ",\n\t.function = {\n") _ _ sixth c.in_ok-text-3.ensures.ok in
    let eighth = grown o _ (function_text name a) _ _ seventh (c.in_ok-put_rows.ensures ∙ ap (λ (m : Machine). c.text-3.new.self ++ function_text name m) (sym c.automaton.view_is)) in
    let initial : tagged name c.name_at.result.now ≡ tagged name (get_or a.states 0 []) = ap (tagged name) c.name_at.ensures in
    let ninth = grown_two o _ (codes "\t},\n\t.initial_state = ") (tagged name (get_or a.states 0 [])) _ _ eighth
    (c.in_ok-put_behind-3.ensures ∙ ap (λ (z : List ℕ). c.put_rows.new.out ++ codes "\t},\n\t.initial_state = " ++ z) initial) in
    let tenth = grown o _ (codes ",\n\t.final_states = ") _ _ ninth c.in_ok-text-4.ensures.ok in
    let eleventh = grown o _ (list_text (marks a)) _ _ tenth (c.in_ok-put_marks.ensures ∙ ap (λ (m : Machine). c.text-4.new.self ++ list_text (marks m)) (sym c.automaton.view_is)) in
    grown o _ (codes ",\n};\n") _ _ eleventh c.in_ok-text-5.ensures.ok ∙ ap (λ (m : Machine). o ++ tables name m) c.automaton.view_is
