-- Display names are pairwise different: no name has a colon, and no two names are one.
use Rattle.std.proofs.Common.{◌≡◌, ◌≢◌, ℕ, zero, suc, ◌<◌, Bool, true, false, ◌&&◌, List, [], ◌∷◌, ◌++◌, map, length, get_or, refl, sym, ap, ◌∙◌, subst, append_assoc, arith}
use Rattle.std.specs.Prelude.{IsTrue, Option, Some, None, bytes_eq, codes, slice_get, slice_index_or, position}
use Rattle.std.specs.List.{AllByRecursion, list_all, position_or_len}
use Rattle.std.proofs.lemmas.Bool.{lt-ltb}
use Rattle.std.proofs.Math.ListN.{get_or-map}
use Rattle.std.proofs.lemmas.List.{length-map}
use Rattle.std.proofs.lemmas.List.Sums.{position_or_len_is}
use Rattle.std.proofs.lemmas.Option.{get_or_from_slice_get, slice_get_within}
use Rattle.std.proofs.lemmas.Slice.Eq.{bytes_eq-Decides}
use Rattle.rv_text.proofs.AscendingLemmas.{all_at}
use Rattle.rv_model.specs.Reports.{display_name}
use Rattle.rv_bind.specs.declared.bindings.Monitor.{Monitor}
use Rattle.rv_bind.specs.Values.{BoundValue}
use Rattle.rv_bind.specs.LineWords.{is_name, is_name_byte}
use Rattle.rv_bind.specs.Bound.{monitor_named}
use Rattle.rv_bind.specs.DisplayNames.{display_name_of, display_names}
use Rattle.rv_bind.specs.WellFormed.{NamesDiffer, IsWellFormed, all_names}

-- ---- two lists of names behind one another

-- each of some names is apart from each of others
abbrev AreApart : List (List ℕ) → List (List ℕ) → Type 0
AreApart xs ys = AllByRecursion (λ x. AllByRecursion (λ y. bytes_eq x y ≡ false) ys) xs

-- what all have, those in front and those behind have
front_of : {X : Type 0} (P : X → Type 0) (xs ys : List X) → AllByRecursion P (xs ++ ys) → AllByRecursion P xs × AllByRecursion P ys
front_of P [] ys all = (tt, all)
front_of P (x ∷ xs) ys all = let both = front_of P xs ys all.1 in ((all.0, both.0), both.1)

-- and the other way round
joined_all : {X : Type 0} (P : X → Type 0) (xs ys : List X) → AllByRecursion P xs → AllByRecursion P ys → AllByRecursion P (xs ++ ys)
joined_all P [] ys front back = back
joined_all P (x ∷ xs) ys front back = (front.0, joined_all P xs ys front.1 back)

-- names that are apart are so in two parts
parted : (xs ys : List (List ℕ)) → NamesDiffer (xs ++ ys) → NamesDiffer xs × AreApart xs ys × NamesDiffer ys
parted [] ys apart = (tt, tt, apart)
parted (x ∷ xs) ys apart =
    let here = front_of (λ y. bytes_eq x y ≡ false) xs ys apart.0 in
    let later = parted xs ys apart.1 in
    ((here.0, later.0), (here.1, later.1), later.2)

-- and two such parts make such names
put_together : (xs ys : List (List ℕ)) → NamesDiffer xs → AreApart xs ys → NamesDiffer ys → NamesDiffer (xs ++ ys)
put_together [] ys first apart second = second
put_together (x ∷ xs) ys first apart second = (joined_all (λ y. bytes_eq x y ≡ false) xs ys first.0 apart.0, put_together xs ys first.1 apart.1 second)

-- ---- no name has a colon

-- the text has no colon
abbrev HasNoColon : List ℕ → Type 0
HasNoColon = AllByRecursion (λ byte. byte ≢ 58)

-- no byte of a name is a colon
byte_is_other : (byte : ℕ) → is_name_byte byte ≡ true → byte ≢ 58
byte_is_other byte is same = let colon : is_name_byte 58 ≡ true = subst (λ (b : ℕ). is_name_byte b ≡ true) same is in cc

-- of two tests that pass together each passes
both_pass : (a b : Bool) → a && b ≡ true → (a ≡ true) × (b ≡ true)
both_pass true b is = (refl, is)
both_pass false b is = cc

-- bytes of names are no colons
bytes_are_others : (bytes : List ℕ) → list_all is_name_byte bytes ≡ true → HasNoColon bytes
bytes_are_others [] all = tt
bytes_are_others (byte ∷ bytes) all = let both = both_pass (is_name_byte byte) (list_all is_name_byte bytes) all in (byte_is_other byte both.0, bytes_are_others bytes both.1)

-- nor is any in a name
name-plain : (name : List ℕ) → IsTrue (is_name name) → HasNoColon name
name-plain name is = bytes_are_others name (both_pass _ (list_all is_name_byte name) is).1

-- so each name has none
names-plain : (names : List (List ℕ)) → IsTrue (list_all is_name names) → AllByRecursion HasNoColon names
names-plain [] all = tt
names-plain (name ∷ names) all = let both = both_pass (is_name name) (list_all is_name names) all in (name-plain name both.0, names-plain names both.1)

-- nor has one of a list, or no text
one-plain : (names : List (List ℕ)) (place : ℕ) → AllByRecursion HasNoColon names → HasNoColon (slice_index_or names place [])
one-plain [] place all = tt
one-plain (name ∷ names) zero all = all.0
one-plain (name ∷ names) (suc place) all = one-plain names place all.1

-- a text with a colon is no text without
colon_apart : (front back other : List ℕ) → HasNoColon other → front ++ 58 ∷ back ≡ other → ⊥
colon_apart [] back [] plain same = cc
colon_apart [] back (byte ∷ other) plain same = plain.0 cc
colon_apart (first ∷ front) back [] plain same = cc
colon_apart (first ∷ front) back (byte ∷ other) plain same = colon_apart front back other plain.1 cc

-- what stands behind the first colon of two equal texts is equal
behind_colon : (front back start rest : List ℕ) → HasNoColon front → HasNoColon start → front ++ 58 ∷ back ≡ start ++ 58 ∷ rest → back ≡ rest
behind_colon [] back [] rest plain clear same = cc
behind_colon [] back (byte ∷ start) rest plain clear same = absurd (clear.0 cc)
behind_colon (first ∷ front) back [] rest plain clear same = absurd (plain.0 cc)
behind_colon (first ∷ front) back (byte ∷ start) rest plain clear same = behind_colon front back start rest plain.1 clear.1 cc

-- ---- display names

-- a container's name, a colon, and the monitor's name
joined : (holder name : List ℕ) → holder ++ codes ":" ++ name ≡ holder ++ 58 ∷ name
joined holder name = append_assoc holder (codes ":") name

module _ (containers : List (List ℕ)) (plain : AllByRecursion HasNoColon containers) where
  -- monitors with one display name have one name
  one_name : (place other : Option ℕ) (name called : List ℕ) → HasNoColon name → HasNoColon called → display_name containers place name ≡ display_name containers other called → name ≡ called
  one_name None None name called clear free same = same
  one_name None (Some other) name called clear free same = absurd (colon_apart (slice_index_or containers other []) called name clear (sym (joined (slice_index_or containers other []) called) ∙ sym same))
  one_name (Some place) None name called clear free same = absurd (colon_apart (slice_index_or containers place []) name called free (sym (joined (slice_index_or containers place []) name) ∙ same))
  one_name (Some place) (Some other) name called clear free same = behind_colon (slice_index_or containers place []) name (slice_index_or containers other []) called (one-plain containers place plain) (one-plain containers other plain)
      (sym (joined (slice_index_or containers place []) name) ∙ same ∙ joined (slice_index_or containers other []) called)

  -- a monitor with the display name of a text without a colon has it as its name
  its_name : (place : Option ℕ) (name other : List ℕ) → HasNoColon other → other ≡ display_name containers place name → other ≡ name
  its_name None name other clear same = same
  its_name (Some place) name other clear same = absurd (colon_apart (slice_index_or containers place []) name other clear (sym (joined (slice_index_or containers place []) name) ∙ sym same))

  -- texts that are not equal are told apart
  told_apart : (one other : List ℕ) → (one ≡ other → ⊥) → bytes_eq one other ≡ false
  told_apart one other differ = go (bytes_eq one other) refl
    where
      go : (b : Bool) → bytes_eq one other ≡ b → bytes_eq one other ≡ false
      go true is = absurd (differ ((bytes_eq-Decides one other).0 is))
      go false is = is

  -- texts that are told apart are not equal
  not_equal : (one other : List ℕ) → bytes_eq one other ≡ false → one ≡ other → ⊥
  not_equal one other apart same = let yes : bytes_eq one other ≡ true = (bytes_eq-Decides one other).1 same in cc

  -- the display name of a monitor
  abbrev shown : Monitor → List ℕ
  shown m = display_name containers m.container m.name

  -- one name is apart from those of monitors, so it is from their display names
  text_apart : (text : List ℕ) → HasNoColon text → (monitors : List Monitor) → AllByRecursion (λ y. bytes_eq text y ≡ false) (map (λ m. m.name) monitors) → AllByRecursion (λ y. bytes_eq text y ≡ false) (map shown monitors)
  text_apart text clear [] apart = tt
  text_apart text clear (m ∷ monitors) apart = (told_apart text (shown m) (λ same. not_equal text m.name apart.0 (its_name m.container m.name text clear same)), text_apart text clear monitors apart.1)

  -- so are the names of containers
  texts_apart : (texts : List (List ℕ)) → AllByRecursion HasNoColon texts → (monitors : List Monitor) → AreApart texts (map (λ m. m.name) monitors) → AreApart texts (map shown monitors)
  texts_apart [] clear monitors apart = tt
  texts_apart (text ∷ texts) clear monitors apart = (text_apart text clear.0 monitors apart.0, texts_apart texts clear.1 monitors apart.1)

  -- one monitor's display name is apart from those of others
  one_apart : (m : Monitor) → HasNoColon m.name → (monitors : List Monitor) → AllByRecursion HasNoColon (map (λ m. m.name) monitors) → AllByRecursion (λ y. bytes_eq m.name y ≡ false) (map (λ m. m.name) monitors)
      → AllByRecursion (λ y. bytes_eq (shown m) y ≡ false) (map shown monitors)
  one_apart m clear [] free apart = tt
  one_apart m clear (other ∷ monitors) free apart =
      (told_apart (shown m) (shown other) (λ same. not_equal m.name other.name apart.0 (one_name m.container other.container m.name other.name clear free.0 same)), one_apart m clear monitors free.1 apart.1)

  -- so the display names of monitors are apart
  shown_apart : (monitors : List Monitor) → AllByRecursion HasNoColon (map (λ m. m.name) monitors) → NamesDiffer (map (λ m. m.name) monitors) → NamesDiffer (map shown monitors)
  shown_apart [] free apart = tt
  shown_apart (m ∷ monitors) free apart = (one_apart m free.0 monitors free.1 apart.0, shown_apart monitors free.1 apart.1)

-- the display names of well-formed bindings are apart
pub display_apart : (b : BoundValue) → IsWellFormed b → NamesDiffer (display_names b)
display_apart b w =
    let plain = front_of HasNoColon b.containers (map (λ m. m.name) b.monitors) (names-plain (all_names b) w.named) in
    let apart = parted b.containers (map (λ m. m.name) b.monitors) w.distinct in
    put_together b.containers (map (display_name_of b) b.monitors) apart.0 (texts_apart b.containers plain.0 b.containers plain.0 b.monitors apart.1) (shown_apart b.containers plain.0 b.monitors plain.1 apart.2)

-- ---- the first of a name is the only one

-- names at two places are apart
apart_at : (names : List (List ℕ)) (i j : ℕ) (d : List ℕ) → NamesDiffer names → i < j → j < length names → bytes_eq (get_or names i d) (get_or names j d) ≡ false
apart_at [] i j d apart lt inside = absurd (omega arith)
apart_at (name ∷ names) zero zero d apart lt inside = absurd (omega arith)
apart_at (name ∷ names) zero (suc j) d apart lt inside = all_at (λ other. bytes_eq name other ≡ false) names j d apart.0 (omega arith)
apart_at (name ∷ names) (suc i) zero d apart lt inside = absurd (omega arith)
apart_at (name ∷ names) (suc i) (suc j) d apart lt inside = apart_at names i j d apart.1 (omega arith) (omega arith)

-- where names are apart, the first that has the name of an element is that element
first_is : {X : Type 0} (name_of : X → List ℕ) (xs : List X) (place : ℕ) (x : X) → NamesDiffer (map name_of xs) → slice_get xs place ≡ Some x → position (λ y. bytes_eq (name_of y) (name_of x)) xs ≡ Some place
first_is {X} name_of xs place x apart there =
    let passes : X → Bool = λ y. bytes_eq (name_of y) (name_of x) in
    let within : place < length xs = slice_get_within xs place x there in
    let at : get_or xs place x ≡ x = get_or_from_slice_get xs place x x there in
    let found : position_or_len passes xs ≡ place = position_or_len_is passes xs place x (omega arith) (λ k lt. before k lt within at) (λ lt. ap passes at ∙ (bytes_eq-Decides (name_of x) (name_of x)).1 refl) in
    rw (found, lt-ltb place (length xs) within) refl
  where
    before : (k : ℕ) → k < place → place < length xs → get_or xs place x ≡ x → bytes_eq (name_of (get_or xs k x)) (name_of x) ≡ false
    before k lt within at =
        let long : length (map name_of xs) ≡ length xs = length-map xs name_of in
        let told : bytes_eq (get_or (map name_of xs) k (name_of x)) (get_or (map name_of xs) place (name_of x)) ≡ false = apart_at (map name_of xs) k place (name_of x) apart lt (omega arith) in
        ap (bytes_eq (name_of (get_or xs k x))) (ap name_of (sym at)) ∙ ap (λ (n : List ℕ). bytes_eq n (name_of (get_or xs place x))) (sym (get_or-map name_of xs k x)) ∙ ap (bytes_eq (get_or (map name_of xs) k (name_of x))) (sym (get_or-map name_of xs place x)) ∙ told

module _ (b : BoundValue) (w : IsWellFormed b) (place : ℕ) (m : Monitor) (there : slice_get b.monitors place ≡ Some m) where
  -- so a monitor's name names it
  pub name_is_its : monitor_named b m.name ≡ Some place
  name_is_its = first_is (λ m. m.name) b.monitors place m (parted b.containers (map (λ m. m.name) b.monitors) w.distinct).2 there

  -- and so does its display name
  pub display_is_its : position (λ other. bytes_eq (display_name_of b other) (display_name_of b m)) b.monitors ≡ Some place
  display_is_its = first_is (display_name_of b) b.monitors place m (parted b.containers (map (display_name_of b) b.monitors) (display_apart b w)).2 there
