-- Texts that grow part by part.
use Rattle.std.proofs.Common.{◌≡◌, ℕ, ◌<◌, List, [], ◌∷◌, ◌++◌, length, drop, codes, refl, sym, ap, ◌∙◌, append_assoc}
use Rattle.std.specs.Prelude.{slice_get, Some}
use Rattle.std.specs.List.{flat_map}
use Rattle.std.proofs.lemmas.List.{append-nil}
use Rattle.std.proofs.lemmas.List.Concat.{flat_map-append}
use Rattle.rv_header.specs.HeaderText.{tagged, enumerators}
use Rattle.rv_header.proofs.ListSteps.{cut_at}

-- one part more
pub grown : (o x y p q : List ℕ) → p ≡ o ++ x → q ≡ p ++ y → q ≡ o ++ (x ++ y)
grown o x y p q first second = second ∙ ap (λ (z : List ℕ). z ++ y) first ∙ append_assoc o x y

-- two parts more
pub grown_two : (o x y z p q : List ℕ) → p ≡ o ++ x → q ≡ p ++ y ++ z → q ≡ o ++ (x ++ y ++ z)
grown_two o x y z p q first second =
    let two : p ++ y ≡ o ++ (x ++ y) = grown o x y p (p ++ y) first refl in
    grown o (x ++ y) z (p ++ y) q two second

-- the names of an enumeration without members
pub enumerators_one : (name most : List ℕ) (members : List (List ℕ)) (o p q : List ℕ) → members ≡ [] → p ≡ o ++ tagged name most → q ≡ p ++ codes " = 0" → q ≡ o ++ enumerators name (members ++ most ∷ [])
enumerators_one name most members o p q none first second =
    let zero : List ℕ = tagged name most ++ codes " = 0" in
    grown o (tagged name most) (codes " = 0") p q first second ∙ ap (λ (z : List ℕ). o ++ z) (sym (append-nil zero)) ∙ ap (λ (ms : List (List ℕ)). o ++ enumerators name (ms ++ most ∷ [])) (sym none)

-- the names of an enumeration with members
pub enumerators_many : (name most x : List ℕ) (members : List (List ℕ)) (o p q r s t : List ℕ) → 0 < length members → slice_get members 0 ≡ Some x
    → p ≡ o ++ tagged name x → q ≡ p ++ codes " = 0" → r ≡ q ++ flat_map (λ text. codes ",\n\t" ++ tagged name text) (drop 1 members) → s ≡ r ++ codes ",\n\t" → t ≡ s ++ tagged name most
    → t ≡ o ++ enumerators name (members ++ most ∷ [])
enumerators_many name most x members o p q r s t lt at first second third fourth fifth =
    let line : List ℕ → List ℕ = λ text. codes ",\n\t" ++ tagged name text in
    let later : List (List ℕ) = drop 1 members in
    let cut : members ≡ x ∷ later = cut_at members 0 x lt at in
    let front : List ℕ = tagged name x ++ codes " = 0" in
    let so_far : q ≡ o ++ front = grown o (tagged name x) (codes " = 0") p q first second in
    let listed : r ≡ o ++ (front ++ flat_map line later) = grown o front (flat_map line later) q r so_far third in
    let last : t ≡ r ++ line most = grown r (codes ",\n\t") (tagged name most) s t fourth fifth in
    let end : t ≡ o ++ (front ++ flat_map line later ++ line most) = grown o (front ++ flat_map line later) (line most) r t listed last in
    let joined : front ++ flat_map line later ++ line most ≡ front ++ flat_map line (later ++ most ∷ []) =
    append_assoc front (flat_map line later) (line most)
    ∙ ap (λ (z : List ℕ). front ++ z) (ap (λ (z : List ℕ). flat_map line later ++ z) (sym (append-nil (line most))) ∙ sym (flat_map-append line later (most ∷ []))) in
    end ∙ ap (λ (z : List ℕ). o ++ z) joined ∙ ap (λ (ms : List (List ℕ)). o ++ enumerators name (ms ++ most ∷ [])) (sym cut)
