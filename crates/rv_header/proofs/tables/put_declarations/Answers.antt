use Rattle.std.proofs.Common.{◌++◌, List, ℕ, [], ◌∷◌, codes, ap, ◌∙◌}
use Rattle.rv_model.specs.Machine.{Machine}
use Rattle.rv_header.specs.HeaderText.{tagged, enum_text, struct_text, declarations}
use Rattle.rv_header.proofs.Written.{grown, grown_two}
use Rattle.rv_header.proofs.tables.put_declarations.Goals as goal

pub returns : goal.returns
returns c =
    let a : Machine = record { states = c.automaton.inside.states; events = c.automaton.inside.events; edges = c.automaton.inside.edges.items; marked = c.automaton.inside.marked } in
    let o = c.args.out.now in
    let name : List ℕ = c.args.name.now in
    let states : List ℕ = enum_text name (codes "states") (a.states ++ codes "state_max" ∷ []) in
    let events : List ℕ = enum_text name (codes "events") (a.events ++ codes "event_max" ∷ []) in
    let second = grown_two o states (codes "#define INVALID_STATE ") (tagged name (codes "state_max")) _ _ c.in_ok-put_enum.ensures c.in_ok-put_behind.ensures in
    let third = grown o _ (codes "\n") _ _ second c.in_ok-text.ensures.ok in
    let fourth = grown o _ events _ _ third c.in_ok-put_enum-2.ensures in
    grown o _ (struct_text name) _ _ fourth c.in_ok-put_struct.ensures ∙ ap (λ (m : Machine). o ++ declarations name m) c.automaton.view_is
