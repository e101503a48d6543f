-- A search for a name that stands twice: the names that were met, and the words that are left.
use Rattle.std.proofs.Common.{◌≡◌, ℕ, ◌≤◌, ◌-◌, Bool, true, false, List, [], ◌∷◌, length, take, drop, get_or, Bor, refl, sym, ap, ◌∙◌, arith}
use Rattle.std.specs.Prelude.{◌||◌, bytes_eq}
use Rattle.std.specs.List.{list_any}
use Rattle.std.specs.BTreeSet.{insert_key}
use Rattle.std.specs.Cmp.Lexicographic.{slice_cmp}
use Rattle.std.specs.Ordering.{nat_cmp, match_ordering, is_eq}
use Rattle.std.specs.declared.cmp.Ordering.{Ordering}
use Rattle.std.specs.declared.cmp.Ordering.TheVariants.{Less, Equal, Greater}
use Rattle.std.proofs.lemmas.List.{take_rest}
use Rattle.std.proofs.lemmas.Map.Text.{is_eq-slice_cmp}
use Rattle.std.proofs.lemmas.Map.Lookups.{exact_bytes}
use Rattle.rv_ltl.specs.inner.Texts.{texts}
use Rattle.rv_bind.specs.LineWords.{Words}
use Rattle.rv_bind.specs.Changes.{atom_in, stands_twice}

-- the order of two names by their bytes
abbrev pub name_cmp : Bor (List ℕ) → Bor (List ℕ) → Ordering
name_cmp x y = slice_cmp nat_cmp x.now y.now

-- the name is one of the keys
abbrev pub is_met : List (Bor (List ℕ)) → List ℕ → Bool
is_met keys name = list_any (λ (k : Bor (List ℕ)). is_eq (slice_cmp nat_cmp name k.now)) keys

-- a word has a name that is one of the keys
abbrev pub any_met : List (Bor (List ℕ)) → Words → Bool
any_met keys words = list_any (λ word. is_met keys (atom_in word)) words

-- a word has a name that is one of the keys, or two words have one name
abbrev pub stands_beside : List (Bor (List ℕ)) → Words → Bool
stands_beside keys words = any_met keys words || stands_twice words

-- ---- either

-- of three alternatives the first two change places
swap_or : (a b c : Bool) → (a || (b || c)) ≡ (b || (a || c))
swap_or true true c = refl
swap_or true false c = refl
swap_or false b c = refl

-- an alternative twice is the same as once
once_or : (a b : Bool) → (a || b) ≡ (a || (a || b))
once_or true b = refl
once_or false b = refl

-- of two pairs of alternatives the inner two change places
pair_or : (a b c d : Bool) → ((a || b) || (c || d)) ≡ ((a || c) || (b || d))
pair_or true b c d = refl
pair_or false true true d = refl
pair_or false true false d = refl
pair_or false false c d = refl

-- of three alternatives the second comes first
turn_or : (a b c : Bool) → ((a || b) || c) ≡ (b || (a || c))
turn_or true true c = refl
turn_or true false c = refl
turn_or false b c = refl

-- ---- one key more

-- the names that are met are the key and those before
met_more : (keys : List (Bor (List ℕ))) (k : Bor (List ℕ)) (name : List ℕ) → is_met (insert_key name_cmp keys k) name ≡ (bytes_eq name k.now || is_met keys name)
met_more [] k name = ap (λ (b : Bool). b || false) (is_eq-slice_cmp name k.now)
met_more (x ∷ keys) k name = go (slice_cmp nat_cmp k.now x.now) refl (met_more keys k name)
  where
    at : Bor (List ℕ) → Bool
    at y = is_eq (slice_cmp nat_cmp name y.now)

    go : (o : Ordering) → slice_cmp nat_cmp k.now x.now ≡ o → is_met (insert_key name_cmp keys k) name ≡ (bytes_eq name k.now || is_met keys name)
        → is_met (match_ordering o (k ∷ x ∷ keys) (x ∷ keys) (x ∷ insert_key name_cmp keys k)) name ≡ (bytes_eq name k.now || (at x || is_met keys name))
    go Less e later = ap (λ (b : Bool). b || (at x || is_met keys name)) (is_eq-slice_cmp name k.now)
    go Equal e later =
        let same : at x ≡ bytes_eq name k.now = is_eq-slice_cmp name x.now ∙ ap (bytes_eq name) (sym (exact_bytes k.now x.now e)) in
        once_or (at x) (is_met keys name) ∙ ap (λ (b : Bool). b || (at x || is_met keys name)) same
    go Greater e later = ap (λ (b : Bool). at x || b) later ∙ swap_or (at x) (bytes_eq name k.now) (is_met keys name)

-- the words that have such a name
any_more : (keys : List (Bor (List ℕ))) (k : Bor (List ℕ)) (words : Words) → any_met (insert_key name_cmp keys k) words ≡ (list_any (λ other. bytes_eq (atom_in other) k.now) words || any_met keys words)
any_more keys k [] = refl
any_more keys k (word ∷ words) =
    ap (λ (b : Bool). b || any_met (insert_key name_cmp keys k) words) (met_more keys k (atom_in word))
    ∙ ap (λ (b : Bool). (bytes_eq (atom_in word) k.now || is_met keys (atom_in word)) || b) (any_more keys k words)
    ∙ pair_or (bytes_eq (atom_in word) k.now) (is_met keys (atom_in word)) (list_any (λ other. bytes_eq (atom_in other) k.now) words) (any_met keys words)

-- ---- word by word

-- no word is met at first
none_met : (words : Words) → any_met [] words ≡ false
none_met [] = refl
none_met (word ∷ words) = none_met words

-- nothing is met at first
pub stands_beside_none : (words : Words) → stands_beside [] words ≡ stands_twice words
stands_beside_none words = ap (λ (b : Bool). b || stands_twice words) (none_met words)

-- a word whose name is new joins the keys
stands_new : (keys : List (Bor (List ℕ))) (k : Bor (List ℕ)) (word : List ℕ) (words : Words) → k.now ≡ atom_in word → is_met keys (atom_in word) ≡ false
    → stands_beside (insert_key name_cmp keys k) words ≡ stands_beside keys (word ∷ words)
stands_new keys k word words is new =
    let others : Bool = list_any (λ other. bytes_eq (atom_in other) (atom_in word)) words in
    let more : any_met (insert_key name_cmp keys k) words ≡ (others || any_met keys words) =
    any_more keys k words ∙ ap (λ (name : List ℕ). list_any (λ other. bytes_eq (atom_in other) name) words || any_met keys words) is in
    let left : stands_beside keys (word ∷ words) ≡ (any_met keys words || (others || stands_twice words)) =
    ap (λ (b : Bool). (b || any_met keys words) || (others || stands_twice words)) new in
    ap (λ (b : Bool). b || stands_twice words) more ∙ turn_or others (any_met keys words) (stands_twice words) ∙ sym left

-- the first word of those that are left joins the keys, if its name is new
pub stands_on : (keys keys' : List (Bor (List ℕ))) (k : Bor (List ℕ)) (rest : List (Bor (List ℕ))) (d : Bor (List ℕ)) → 1 ≤ length rest → k.now ≡ atom_in (get_or rest 0 d).now
    → keys' ≡ insert_key name_cmp keys k → is_met keys k.now ≡ false → stands_beside keys' (texts (take (length rest - 1) (drop 1 rest))) ≡ stands_beside keys (texts rest)
stands_on keys keys' k [] d le is inserted new = absurd (omega arith)
stands_on keys keys' k (word ∷ rest) d le is inserted new =
    ap (λ (ks : List (Bor (List ℕ))). stands_beside ks (texts (take (length (word ∷ rest) - 1) (drop 1 (word ∷ rest))))) inserted
    ∙ ap (λ (ws : List (Bor (List ℕ))). stands_beside (insert_key name_cmp keys k) (texts ws)) (take_rest (word ∷ rest) 1)
    ∙ stands_new keys k word.now (texts rest) is (ap (is_met keys) (sym is) ∙ new)
