use Rattle.std.proofs.Common.{◌≡◌, ◌++◌, List, ℕ, codes, refl}
use Rattle.rv_header.specs.HeaderText.{tagged}
use Rattle.rv_header.proofs.Written.{grown, grown_two}
use Rattle.rv_header.proofs.tables.put_struct.Goals as goal

pub returns : goal.returns
returns c =
    let o = c.args.out.now in
    let tag : List ℕ → List ℕ = tagged c.args.name.now in
    let more : (x y z p q : List ℕ) → p ≡ o ++ x → q ≡ p ++ y ++ z → q ≡ o ++ (x ++ y ++ z) = grown_two o in
    let first = grown o (codes "struct ") (tag (codes "automaton")) (o ++ codes "struct ") c.put_behind.new.out refl c.in_ok-put_behind.ensures in
    let second = more _ (codes " {\n\tchar *state_names[") (tag (codes "state_max")) _ _ first c.in_ok-put_behind-2.ensures in
    let third = more _ (codes "];\n\tchar *event_names[") (tag (codes "event_max")) _ _ second c.in_ok-put_behind-3.ensures in
    let fourth = more _ (codes "];\n\tunsigned char function[") (tag (codes "state_max")) _ _ third c.in_ok-put_behind-4.ensures in
    let fifth = more _ (codes "][") (tag (codes "event_max")) _ _ fourth c.in_ok-put_behind-5.ensures in
    let sixth = more _ (codes "];\n\tunsigned char initial_state;\n\tbool final_states[") (tag (codes "state_max")) _ _ fifth c.in_ok-put_behind-6.ensures in
    grown o _ (codes "];\n};\n") _ _ sixth c.in_ok-text.ensures.ok
