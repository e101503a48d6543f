-- Names of states and events are read as they are.
use Rattle.std.proofs.Common.{◌≡◌, ℕ, zero, suc, ◌≤◌, Bool, true, false, List, [], ◌∷◌, length, None, refl, sym, ap, ◌∙◌, arith, get_or}
use Rattle.std.specs.Prelude.{not, ◌&&◌, ◌==◌, nat_le, IsTrue}
use Rattle.std.specs.List.{list_all}
use Rattle.std.proofs.Math.Seq.{take-length}
use Rattle.std.proofs.lemmas.Bool.Decides.{nat_tests}
use Rattle.rv_model.specs.WellFormed.{IsNameOf, IsStateName, is_event_byte, is_state_byte}
use Rattle.rv_dot.specs.Runs.{is_word_byte}
use Rattle.rv_dot.specs.Names.{is_marker, is_name_by, is_state_name, is_event_name}
use Rattle.rv_text.specs.Places.{is_blank}
use Rattle.rv_dot.specs.Runs.{pair_len}
use Rattle.rv_dot.specs.Labels.{piece_len, without_blanks, kept_len, trimmed, piece_of, pieces_within, label_events}
use Rattle.rv_dot.proofs.MemberLaws.{list_all_from, all_member}
use Rattle.rv_dot.proofs.PlainBytes.{IsPlain, other_byte}
use Rattle.rv_dot.proofs.SetOrder.{all_from_members}

-- a name by its parts is a name by the test
name_test_of : (of_kind : ℕ → Bool) (name : List ℕ) → IsNameOf of_kind name → is_name_by of_kind name ≡ true
name_test_of of_kind name h =
    let some : not (length name == 0) ≡ true = go_some (length name) h.0 in
    let few : nat_le (length name) 64 ≡ true = go_few (length name) h.1 in
    let bytes : list_all of_kind name ≡ true = list_all_from of_kind name (λ b m. all_member (λ c. IsTrue (of_kind c)) name b h.2 m) in
    rw (some, few, bytes) refl
  where
    go_some : (n : ℕ) → 1 ≤ n → not (n == 0) ≡ true
    go_some n h = grind (arith, nat_tests)

    go_few : (n : ℕ) → n ≤ 64 → nat_le n 64 ≡ true
    go_few n h = grind (arith, nat_tests)

-- a state's name passes the test, and is no marker's
pub state_name_test : (name : List ℕ) → IsStateName name → is_state_name name ≡ true
state_name_test name h = name_test_of is_word_byte name h.0

-- and is no marker
pub no_marker_test : (name : List ℕ) → IsStateName name → is_marker name ≡ false
no_marker_test name h = go (is_marker name) refl
  where
    go : (t : Bool) → is_marker name ≡ t → t ≡ false
    go true e = absurd (h.1 e)
    go false e = refl

-- a byte of an event is one of a word
event_is_word : (b : ℕ) → is_event_byte b ≡ true → is_word_byte b ≡ true
event_is_word b h = rw h refl

-- and no point
event_bytes : (b : ℕ) → is_event_byte b ≡ true → (is_word_byte b && not (b == 46)) ≡ true
event_bytes b h = go (b == 46) refl
  where
    go : (t : Bool) → (b == 46) ≡ t → (is_word_byte b && not t) ≡ true
    go true e = let same : b ≡ 46 = grind (arith, nat_tests) in let both : true ≡ false = sym h ∙ ap is_event_byte same in absurd (cc)
    go false e = rw h refl

-- an event's name passes the test
pub event_name_test : (name : List ℕ) → IsNameOf is_event_byte name → is_event_name name ≡ true
event_name_test name h = name_test_of (λ b. is_word_byte b && not (b == 46)) name (h.0, h.1, λ k d lt. event_bytes (get_or name k d) (h.2 k d lt))

-- names have bytes of words alone
pub state_plain : (name : List ℕ) → IsStateName name → IsPlain name
state_plain name h = all_from_members (λ b. is_word_byte b ≡ true) name (λ b m. all_member (λ c. IsTrue (is_state_byte c)) name b h.0.2 m)

-- an event's too
pub event_plain : (name : List ℕ) → IsNameOf is_event_byte name → IsPlain name
event_plain name h = all_from_members (λ b. is_word_byte b ≡ true) name (λ b m. event_is_word b (all_member (λ c. IsTrue (is_event_byte c)) name b h.2 m))

-- no byte of a word is a blank
no_blank : (b : ℕ) → is_word_byte b ≡ true → is_blank b ≡ false
no_blank b h = rw (other_byte b 32 h refl, other_byte b 9 h refl) refl

-- such a name has no cut
uncut : (name : List ℕ) → IsPlain name → piece_len name ≡ None
unfolding pair_len
uncut [] h = refl
uncut (b ∷ name) h = rw (other_byte b 92 h.0 refl, uncut name h.1) refl

-- and no blanks in front
unblanked : (name : List ℕ) → IsPlain name → without_blanks name ≡ name
unfolding without_blanks
unblanked [] h = refl
unblanked (b ∷ name) h = rw (no_blank b h.0) refl

-- nor behind
kept : (name : List ℕ) → IsPlain name → kept_len name ≡ length name
unfolding kept_len
kept [] h = refl
kept (b ∷ name) h = rw (no_blank b h.0, kept name h.1) (omega arith)

-- so it is trimmed as it is
trimmed_plain : (name : List ℕ) → IsPlain name → trimmed name ≡ name
trimmed_plain name h = rw (unblanked name h, kept name h) (take-length name)

-- and is one piece
one_piece : (n : ℕ) (name : List ℕ) → IsPlain name → pieces_within n name ≡ name ∷ []
unfolding pieces_within piece_of
one_piece zero name h = ap (λ (t : List ℕ). t ∷ []) (trimmed_plain name h)
one_piece (suc n) name h = rw (uncut name h) (ap (λ (t : List ℕ). t ∷ []) (trimmed_plain name h))

-- such a label is one event
pub one_event : (name : List ℕ) → IsPlain name → label_events name ≡ name ∷ []
one_event name h = one_piece (length name) name h
