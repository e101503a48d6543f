-- What is taken from the text of a list is its members.
use Rattle.std.proofs.Common.{◌≡◌, ℕ, true, List, [], ◌∷◌, ◌++◌, refl, ap, ◌∙◌, append_assoc}
use Rattle.std.specs.Prelude.{map, codes}
use Rattle.std.specs.List.{AllByRecursion, flat_map}
use Rattle.rv_dot.specs.Canonical.{quoted}
use Rattle.rv_header.specs.HeaderText.{list_text}
use Rattle.rv_header.specs.inner.Taking.{pieces, piece_from, seconds, quoted_in, member_in, members_in}
use Rattle.rv_header.proofs.Cuts.{lacks, simple, cut, uncut, both_lack, simple_lacks}

-- a comma and a blank, and the member
abbrev pub later : List ℕ → List ℕ
later text = codes ", " ++ text

-- names between quotes, behind a front
quoted_here : (front name rest : List ℕ) → lacks 34 front ≡ true → simple name ≡ true → seconds (pieces 34 (front ++ 34 ∷ (name ++ 34 ∷ rest))) ≡ name ∷ seconds (pieces 34 rest)
quoted_here front name rest h k = rw (cut 34 front (name ++ 34 ∷ rest) h, cut 34 name rest (simple_lacks 34 refl name k)) refl

-- one more quoted name, apart
apart_later : (name rest end : List ℕ) → later (quoted name) ++ rest ++ end ≡ codes ", " ++ 34 ∷ (name ++ 34 ∷ (rest ++ end))
apart_later name rest end = simp append_assoc

-- the names behind the first one
quoted_later : (names : List (List ℕ)) (end : List ℕ) → lacks 34 end ≡ true → AllByRecursion (λ n. simple n ≡ true) names → seconds (pieces 34 (flat_map later (map quoted names) ++ end)) ≡ names
quoted_later [] end h k = ap seconds (uncut 34 end h)
quoted_later (n ∷ names) end h k =
    ap (λ (t : List ℕ). seconds (pieces 34 t)) (apart_later n (flat_map later (map quoted names)) end)
    ∙ quoted_here (codes ", ") n (flat_map later (map quoted names) ++ end) refl k.0
    ∙ ap (λ (ns : List (List ℕ)). n ∷ ns) (quoted_later names end h k.1)

-- the first name, apart
apart_first : (front name rest end : List ℕ) → front ++ (codes "{ " ++ quoted name ++ rest ++ codes " }") ++ end ≡ (front ++ codes "{ ") ++ 34 ∷ (name ++ 34 ∷ (rest ++ (codes " }" ++ end)))
apart_first front name rest end = simp append_assoc

-- what stands between quotes in a list of quoted names
pub quoted_back : (front end : List ℕ) (names : List (List ℕ)) → lacks 34 front ≡ true → lacks 34 end ≡ true → AllByRecursion (λ n. simple n ≡ true) names → quoted_in (front ++ list_text (map quoted names) ++ end) ≡ names
unfolding quoted_in
quoted_back front end [] h k all = ap seconds (uncut 34 (front ++ codes "{ }" ++ end) (both_lack 34 (front ++ codes "{ }") end (both_lack 34 front (codes "{ }") h refl) k))
quoted_back front end (n ∷ names) h k all =
    ap (λ (t : List ℕ). seconds (pieces 34 t)) (apart_first front n (flat_map later (map quoted names)) end)
    ∙ quoted_here (front ++ codes "{ ") n (flat_map later (map quoted names) ++ (codes " }" ++ end)) (both_lack 34 front (codes "{ ") h refl) all.0
    ∙ ap (λ (ns : List (List ℕ)). n ∷ ns) (quoted_later names (codes " }" ++ end) k all.1)

-- the last member's piece
last_piece : (x : List ℕ) → simple x ≡ true → member_in (32 ∷ (x ++ codes " }")) ≡ x
unfolding piece_from
last_piece x h = rw (cut 32 x (codes "}") (simple_lacks 32 refl x h)) refl

-- the piece of a member that is not the last
first_piece : (x : List ℕ) → simple x ≡ true → member_in (32 ∷ x) ≡ x
unfolding piece_from
first_piece x h = rw (uncut 32 x (simple_lacks 32 refl x h)) refl

-- the last member, apart
apart_last : (x tail : List ℕ) → 32 ∷ (x ++ [] ++ (codes " }" ++ 44 ∷ tail)) ≡ (32 ∷ (x ++ codes " }")) ++ 44 ∷ tail
apart_last x tail = ap (λ (t : List ℕ). 32 ∷ t) (simp append_assoc)

-- a member that is not the last, apart
apart_member : (x y rest end : List ℕ) → 32 ∷ (x ++ (later y ++ rest) ++ end) ≡ (32 ∷ x) ++ 44 ∷ (32 ∷ (y ++ rest ++ end))
apart_member x y rest end = ap (λ (t : List ℕ). 32 ∷ t) (simp append_assoc)

-- the members, and whatever is behind them
pub members_back : (x : List ℕ) (xs : List (List ℕ)) (tail : List ℕ) → simple x ≡ true → AllByRecursion (λ n. simple n ≡ true) xs
    → (more : List (List ℕ)) × (members_in (32 ∷ (x ++ flat_map later xs ++ (codes " }" ++ 44 ∷ tail))) ≡ x ∷ xs ++ more)
unfolding members_in
members_back x [] tail h all = (
  map member_in (pieces 44 tail),
  ap (λ (t : List ℕ). map member_in (pieces 44 t)) (apart_last x tail) ∙ ap (map member_in) (cut 44 (32 ∷ (x ++ codes " }")) tail (both_lack 44 x (codes " }") (simple_lacks 44 refl x h) refl))
      ∙ ap (λ (m : List ℕ). m ∷ map member_in (pieces 44 tail)) (last_piece x h),
)
members_back x (y ∷ ys) tail h all =
    let others = members_back y ys tail all.0 all.1 in
    let end : List ℕ = codes " }" ++ 44 ∷ tail in (
      others.0,
      ap (λ (t : List ℕ). map member_in (pieces 44 t)) (apart_member x y (flat_map later ys) end)
          ∙ ap (map member_in) (cut 44 (32 ∷ x) (32 ∷ (y ++ flat_map later ys ++ end)) (simple_lacks 44 refl x h))
          ∙ ap (λ (m : List ℕ). m ∷ map member_in (pieces 44 (32 ∷ (y ++ flat_map later ys ++ end)))) (first_piece x h)
          ∙ ap (λ (ms : List (List ℕ)). x ∷ ms) others.1,
    )
