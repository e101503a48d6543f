-- In ascending moves, two clash exactly where two neighbours do.
use Rattle.std.proofs.Common.{◌≡◌, ◌<◌, Bool, true, false, List, [], ◌∷◌, refl, sym, ap, ◌∙◌, ◌⊎◌, inl, inr, arith}
use Rattle.std.specs.Prelude.{◌||◌, ◌≢◌}
use Rattle.std.specs.Ordering.{nat_cmp, ordering_then}
use Rattle.std.specs.declared.cmp.Ordering.{Ordering}
use Rattle.std.specs.declared.cmp.Ordering.TheVariants.{Less, Equal, Greater}
use Rattle.std.specs.List.{AllByRecursion}
use Rattle.std.proofs.lemmas.Bool.Decides.{nat_tests}
use Rattle.rv_dot.specs.declared.moves.Move.{Move}
use Rattle.rv_dot.specs.Members.{IsMember}
use Rattle.rv_text.specs.inner.Ascending.{Ascends}
use Rattle.rv_dot.specs.Moves.{move_cmp}
use Rattle.rv_dot.specs.inner.Clashes.{same_key, has_clash}
use Rattle.rv_dot.proofs.MoveSets.{nat_less, nat_same}

-- by from, then by event, then by to
abbrev IsBelow : Move → Move → Type 0
IsBelow a b = (a.from < b.from) ⊎ ((a.from ≡ b.from) × ((a.event < b.event) ⊎ ((a.event ≡ b.event) × (a.to < b.to))))

-- two moves from one state by one event lead to different states
pub record Clashes (moves : List Move) : Type 0 where
  pub one : Move
  pub other : Move
  pub has_one : IsMember one moves
  pub has_other : IsMember other moves
  pub same_from : one.from ≡ other.from
  pub same_event : one.event ≡ other.event
  pub apart : one.to ≢ other.to

-- moves in order by their numbers
is_below : (a b : Move) → move_cmp a b ≡ Less → IsBelow a b
is_below a b h = go (nat_cmp a.from b.from) (nat_cmp a.event b.event) (nat_cmp a.to b.to) refl refl refl h
  where
    go : (o p q : Ordering) → nat_cmp a.from b.from ≡ o → nat_cmp a.event b.event ≡ p → nat_cmp a.to b.to ≡ q → ordering_then o (ordering_then p q) ≡ Less → IsBelow a b
    go Less p q e f g h = inl (nat_less a.from b.from e)
    go Equal Less q e f g h = inr (nat_same a.from b.from e, inl (nat_less a.event b.event f))
    go Equal Equal Less e f g h = inr (nat_same a.from b.from e, inr (nat_same a.event b.event f, nat_less a.to b.to g))
    go Equal Equal Equal e f g h = absurd (cc)
    go Equal Equal Greater e f g h = absurd (cc)
    go Equal Greater q e f g h = absurd (cc)
    go Greater p q e f g h = absurd (cc)

-- by from, then by event
abbrev pub KeyBelow : Move → Move → Type 0
KeyBelow a b = (a.from < b.from) ⊎ ((a.from ≡ b.from) × (a.event < b.event))

-- each is below those behind it
abbrev pub KeysAscend : List Move → Type 0
KeysAscend [] = Unit {0}
KeysAscend (a ∷ moves) = AllByRecursion (λ b. KeyBelow a b) moves × KeysAscend moves

-- without a common key
key_below : (a b : Move) → IsBelow a b → same_key a b ≡ false → KeyBelow a b
key_below a b h k = grind (arith, nat_tests)

-- the order goes on
key_trans : (a b c : Move) → KeyBelow a b → KeyBelow b c → KeyBelow a c
key_trans a b c p q = grind arith

-- below all behind
all_below : (a b : Move) (moves : List Move) → KeyBelow a b → AllByRecursion (λ c. KeyBelow b c) moves → AllByRecursion (λ c. KeyBelow a c) moves
all_below a b [] p h = tt
all_below a b (c ∷ moves) p h = (key_trans a b c p h.0, all_below a b moves p h.1)

-- neither test passes
neither : (a b : Bool) → (a || b) ≡ false → (a ≡ false) × (b ≡ false)
neither true b h = absurd (cc)
neither false b h = (refl, h)

-- moves without a clash ascend by their keys
pub keys_ascend : (moves : List Move) → Ascends move_cmp moves → has_clash moves ≡ false → KeysAscend moves
keys_ascend [] h k = tt
keys_ascend (a ∷ []) h k = (tt, tt)
keys_ascend (a ∷ b ∷ moves) h k =
    let n = neither (same_key a b) (has_clash (b ∷ moves)) k in
    let later = keys_ascend (b ∷ moves) h.1 n.1 in
    let first = key_below a b (is_below a b h.0.0) n.0 in
    ((first, all_below a b moves first later.0), later)

-- a move is below those behind it
member_below : (a x : Move) (moves : List Move) → AllByRecursion (λ b. KeyBelow a b) moves → IsMember x moves → a.from ≡ x.from → a.event ≡ x.event → ⊥
member_below a x [] h m p q = absurd m
member_below a x (b ∷ moves) h m p q =
    elim m [
      | inl e ↦ let f = ap (λ (y : Move). y.from) e in let g = ap (λ (y : Move). y.event) e in let below : KeyBelow a b = h.0 in grind arith
      | inr n ↦ member_below a x moves h.1 n p q
    ]

-- no two moves have one key
no_two : (moves : List Move) → KeysAscend moves → (x y : Move) → IsMember x moves → IsMember y moves → x.from ≡ y.from → x.event ≡ y.event → x ≡ y
no_two [] h x y m n p q = absurd m
no_two (a ∷ moves) h x y m n p q =
    elim m [
      | inl e ↦ elim n [ inl f ↦ sym e ∙ f | inr k ↦ absurd (member_below a y moves h.0 k (ap (λ (z : Move). z.from) e ∙ p) (ap (λ (z : Move). z.event) e ∙ q)) ]
      | inr k ↦ elim n [ inl f ↦ absurd (member_below a x moves h.0 k (ap (λ (z : Move). z.from) f ∙ sym p) (ap (λ (z : Move). z.event) f ∙ sym q)) | inr l ↦ no_two moves h.1 x y k l p q ]
    ]

-- the parts of a key
same_parts : (a b : Move) → same_key a b ≡ true → (a.from ≡ b.from) × (a.event ≡ b.event)
same_parts a b h = (grind (arith, nat_tests), grind (arith, nat_tests))

-- moves in order with one key are apart
apart_by_order : (a b : Move) → IsBelow a b → same_key a b ≡ true → a.to ≡ b.to → ⊥
apart_by_order a b h k e = let parts = same_parts a b k in grind arith

-- neighbours that clash are two moves that do
pub clash_found : (moves : List Move) → Ascends move_cmp moves → has_clash moves ≡ true → Clashes moves
clash_found [] h k = absurd (cc)
clash_found (a ∷ []) h k = absurd (cc)
clash_found (a ∷ b ∷ moves) h k = go (same_key a b) refl k (clash_found (b ∷ moves) h.1)
  where
    go : (t : Bool) → same_key a b ≡ t → (t || has_clash (b ∷ moves)) ≡ true → (has_clash (b ∷ moves) ≡ true → Clashes (b ∷ moves)) → Clashes (a ∷ b ∷ moves)
    go true e k later = let parts = same_parts a b e in
        record { one = a; other = b; has_one = inl refl; has_other = inr (inl refl); same_from = parts.0; same_event = parts.1; apart = apart_by_order a b (is_below a b h.0.0) e }
    go false e k later = let c = later k in
        record { one = c.one; other = c.other; has_one = inr c.has_one; has_other = inr c.has_other; same_from = c.same_from; same_event = c.same_event; apart = c.apart }

-- a clash is a conflict
pub clash_is : (moves : List Move) → Ascends move_cmp moves → Clashes moves → has_clash moves ≡ true
clash_is moves h c = go (has_clash moves) refl
  where
    go : (t : Bool) → has_clash moves ≡ t → t ≡ true
    go true e = refl
    go false e = absurd (c.apart (ap (λ (z : Move). z.to) (no_two moves (keys_ascend moves h e) c.one c.other c.has_one c.has_other c.same_from c.same_event)))
