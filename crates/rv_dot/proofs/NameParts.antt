-- Names that pass the tests are names by their parts.
use Rattle.std.proofs.Common.{◌≡◌, ℕ, ◌≤◌, Bool, true, false, List, length, get_or, cond, refl, sym, ◌∙◌, subst, arith}
use Rattle.std.specs.Prelude.{not, ◌&&◌, ◌||◌, ◌==◌, nat_le, IsTrue}
use Rattle.std.specs.List.{list_all}
use Rattle.std.specs.declared.option.Option.TheVariants.{None, Some}
use Rattle.std.proofs.lemmas.Bool.Decides.{nat_tests}
use Rattle.rv_model.specs.WellFormed.{IsNameOf, IsStateName, is_event_byte, is_state_byte}
use Rattle.rv_dot.specs.Runs.{is_word_byte}
use Rattle.rv_dot.specs.Statements.{Claim, declares, leads}
use Rattle.rv_dot.specs.Names.{is_marker, is_name_by, is_state_name, is_event_name}
use Rattle.rv_dot.specs.Gathered.{state_in, fits}
use Rattle.rv_dot.proofs.MemberLaws.{and_true, list_all_member, all_members}

-- a name by the test is a name by its parts
pub name_parts : (of_kind : ℕ → Bool) (name : List ℕ) → is_name_by of_kind name ≡ true → IsNameOf of_kind name
name_parts of_kind name h =
    let parts = and_true (not (length name == 0) && nat_le (length name) 64) (list_all of_kind name) h in
    let long = and_true (not (length name == 0)) (nat_le (length name) 64) parts.0 in
    (some (length name) long.0, few (length name) long.1, all_members (λ b. IsTrue (of_kind b)) name (λ b m. list_all_member of_kind b name parts.1 m))
  where
    some : (n : ℕ) → not (n == 0) ≡ true → 1 ≤ n
    some n h = grind (arith, nat_tests)

    few : (n : ℕ) → nat_le n 64 ≡ true → n ≤ 64
    few n h = grind (arith, nat_tests)

-- a byte of a word that is no point is a byte of an event
event_byte : (e p : Bool) → ((e || p) && not p) ≡ true → e ≡ true
event_byte true p h = refl
event_byte false true h = absurd (cc)
event_byte false false h = absurd (cc)

-- a name of a wider kind
wider : (p q : ℕ → Bool) → ((b : ℕ) → p b ≡ true → q b ≡ true) → (name : List ℕ) → IsNameOf p name → IsNameOf q name
wider p q f name h = (h.0, h.1, λ k d lt. f (get_or name k d) (h.2 k d lt))

-- an event's name
pub event_named : (name : List ℕ) → is_event_name name ≡ true → IsNameOf is_event_byte name
event_named name h = wider (λ b. is_word_byte b && not (b == 46)) is_event_byte (λ b k. event_byte (is_event_byte b) (b == 46) k) name (name_parts (λ b. is_word_byte b && not (b == 46)) name h)

-- no marker's name
no_marker : (name : List ℕ) → is_marker name ≡ false → ¬ IsTrue (is_marker name)
no_marker name h = λ k. let apart : true ≡ false = sym k ∙ h in absurd (cc)

-- a declared state has a state's name
pub claim_named : (claim : Claim) (name : List ℕ) → fits claim ≡ true → state_in claim ≡ Some name → IsStateName name
claim_named (leads from to label) name h e = absurd (cc)
claim_named (declares n shape) name h e = go (is_marker n) refl h e
  where
    go : (t : Bool) → is_marker n ≡ t → (t || is_state_name n) ≡ true → cond t None (Some n) ≡ Some name → IsStateName name
    go true m h e = absurd (cc)
    go false m h e = let same : n ≡ name = cc in subst IsStateName same (name_parts is_state_byte n h, no_marker n m)
