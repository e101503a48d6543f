-- How far lines, words, comments and strings reach, in words of their bytes.
use Rattle.std.proofs.Common.{◌≡◌, ℕ, suc, ◌+◌, ◌≤◌, Bool, true, false, eqb, ltb, List, [], ◌∷◌, ◌++◌, length, Option, Some, None, cond, refl, sym, ap, ◌∙◌, arith, drop}
use Rattle.std.specs.Prelude.{not, ◌&&◌}
use Rattle.std.specs.List.{position, position_or_len, AllByRecursion}
use Rattle.std.specs.Option.{option_map, unwrap_or}
use Rattle.std.proofs.lemmas.Bool.Decides.{nat_tests}
use Rattle.std.proofs.lemmas.Option.{same_Some}
use Rattle.rv_dot.specs.Runs.{pair_len, block_len, string_len, begins_with}
use Rattle.rv_dot.specs.Pieces.{HasNoEnd, IsString}

-- the bytes before the first that passes, all where none does
abbrev pub stop : (ℕ → Bool) → List ℕ → ℕ
stop p bytes = unwrap_or (position p bytes) (length bytes)

-- a byte that passes follows, or none
abbrev pub Stops : (ℕ → Bool) → List ℕ → Type 0
Stops p [] = Unit {0}
Stops p (b ∷ rest) = p b ≡ true

-- no more than the most
within : (p : ℕ → Bool) (bytes : List ℕ) → position_or_len p bytes ≤ length bytes
within p [] = omega arith
within p (b ∷ bytes) = go (p b) (within p bytes)
  where
    go : (t : Bool) → position_or_len p bytes ≤ length bytes → cond (not t) (1 + position_or_len p bytes) 0 ≤ length (b ∷ bytes)
    go true k = omega arith
    go false k = omega arith

-- the place of the first that passes
pub stop-is : (p : ℕ → Bool) (bytes : List ℕ) → stop p bytes ≡ position_or_len p bytes
stop-is p bytes = go (ltb (position_or_len p bytes) (length bytes)) refl
  where
    go : (t : Bool) → ltb (position_or_len p bytes) (length bytes) ≡ t → unwrap_or (cond t (Some (position_or_len p bytes)) None) (length bytes) ≡ position_or_len p bytes
    go true h = refl
    go false h = let least = within p bytes in grind (arith, nat_tests)

-- what is spelled so is read so: stop
pub stop_again : (p : ℕ → Bool) (c rest : List ℕ) → AllByRecursion (λ b. p b ≡ false) c → Stops p rest → stop p (c ++ rest) ≡ length c
stop_again p c rest none stops = stop-is p (c ++ rest) ∙ go c none
  where
    start : (rest : List ℕ) → Stops p rest → position_or_len p rest ≡ 0
    start [] h = refl
    start (b ∷ rest) h = rw h refl

    go : (c : List ℕ) → AllByRecursion (λ b. p b ≡ false) c → position_or_len p (c ++ rest) ≡ length c
    go [] none = start rest stops
    go (b ∷ c) none = rw none.0 (ap (λ (n : ℕ). 1 + n) (go c none.1) ∙ omega arith)

-- where the run ends
pub record Cut (p : ℕ → Bool) (bytes : List ℕ) (c rest : List ℕ) : Type 0 where
  pub whole : bytes ≡ c ++ rest
  pub long : length c ≡ position_or_len p bytes
  pub none : AllByRecursion (λ b. p b ≡ false) c
  pub stops : Stops p rest

-- what is read so is spelled so: stop
pub stop_takes : (p : ℕ → Bool) (bytes : List ℕ) → (c : List ℕ) × (rest : List ℕ) × Cut p bytes c rest
stop_takes p [] = ([], [], record { whole = refl; long = refl; none = tt; stops = tt })
stop_takes p (b ∷ bytes) = go (p b) refl (stop_takes p bytes)
  where
    go : (t : Bool) → p b ≡ t → ((c : List ℕ) × (rest : List ℕ) × Cut p bytes c rest) → (c : List ℕ) × (rest : List ℕ) × Cut p (b ∷ bytes) c rest
    go true h k = ([], b ∷ bytes, record { whole = refl; long = rw h refl; none = tt; stops = h })
    go false h k =
        (b ∷ k.0, k.1, record { whole = ap (λ (bs : List ℕ). b ∷ bs) k.2.whole; long = rw h (omega (arith, k.2.long)); none = (h, k.2.none); stops = k.2.stops })

-- bytes that pass the test are one
pub same_byte : (b c : ℕ) → eqb b c ≡ true → b ≡ c
same_byte b c h = grind (arith, nat_tests)

-- behind a byte that is there
pub begins_with_takes : (c : ℕ) (bytes : List ℕ) → begins_with c bytes ≡ true → bytes ≡ c ∷ drop 1 bytes
begins_with_takes c [] h = absurd (cc)
begins_with_takes c (b ∷ bytes) h = ap (λ (d : ℕ). d ∷ bytes) (same_byte b c h)

-- what a map gives comes of some value
pub map_some : {A B : Type 0} (f : A → B) (o : Option A) (y : B) → option_map f o ≡ Some y → (x : A) × (o ≡ Some x) × (f x ≡ y)
map_some f None y h = absurd (cc)
map_some f (Some x) y h = (x, refl, same_Some (f x) y h)

-- no slash follows the star
no_slash : (c tail : List ℕ) → begins_with 47 c ≡ false → begins_with 47 (c ++ 42 ∷ tail) ≡ false
no_slash [] tail k = refl
no_slash (d ∷ c) tail k = k

-- nor in front of the end
no_slash_front : (c tail : List ℕ) → begins_with 47 (c ++ 42 ∷ tail) ≡ false → begins_with 47 c ≡ false
no_slash_front [] tail k = refl
no_slash_front (d ∷ c) tail k = k

-- what is spelled so is read so: block
pub block_again : (c rest : List ℕ) → HasNoEnd c → block_len (c ++ 42 ∷ 47 ∷ rest) ≡ Some (length c)
unfolding pair_len
block_again [] rest h = refl
block_again (b ∷ c) rest h = go (eqb b 42) refl (block_again c rest h.1)
  where
    go : (t : Bool) → eqb b 42 ≡ t → block_len (c ++ 42 ∷ 47 ∷ rest) ≡ Some (length c) → cond (t && begins_with 47 (c ++ 42 ∷ 47 ∷ rest)) (Some 0) (option_map (λ n. n + 1) (block_len (c ++ 42 ∷ 47 ∷ rest))) ≡ Some (length (b ∷ c))
    go true k more = rw (no_slash c (47 ∷ rest) (h.0 k), more) (ap Some (omega arith))
    go false k more = rw more (ap Some (omega arith))

-- where a comment ends
pub record Closes (bytes c rest : List ℕ) (n : ℕ) : Type 0 where
  pub whole : bytes ≡ c ++ 42 ∷ 47 ∷ rest
  pub long : length c ≡ n
  pub inside : HasNoEnd c

-- what is read so is spelled so: block
pub block_takes : (bytes : List ℕ) (n : ℕ) → block_len bytes ≡ Some n → (c : List ℕ) × (rest : List ℕ) × Closes bytes c rest n
unfolding pair_len
block_takes [] n h = absurd (cc)
block_takes (b ∷ bytes) n h = go (eqb b 42) (begins_with 47 bytes) refl refl h (block_takes bytes)
  where
    later : (eqb b 42 ≡ true → begins_with 47 bytes ≡ false) → option_map (λ n. n + 1) (block_len bytes) ≡ Some n → ((n : ℕ) → block_len bytes ≡ Some n → (c : List ℕ) × (rest : List ℕ) × Closes bytes c rest n) → (c : List ℕ) × (rest : List ℕ) × Closes (b ∷ bytes) c rest n
    later apart k more =
        let m = map_some _ (block_len bytes) n k in
        let found = more m.0 m.1 in
        let front : begins_with 47 bytes ≡ false → begins_with 47 found.0 ≡ false = λ none. no_slash_front found.0 (47 ∷ found.1) (ap (begins_with 47) (sym found.2.whole) ∙ none) in
        (b ∷ found.0, found.1, record { whole = ap (λ (bs : List ℕ). b ∷ bs) found.2.whole; long = ap suc found.2.long ∙ omega (arith, m.2); inside = (λ star. front (apart star), found.2.inside) })

    go : (t u : Bool) → eqb b 42 ≡ t → begins_with 47 bytes ≡ u → cond (t && u) (Some 0) (option_map (λ n. n + 1) (block_len bytes)) ≡ Some n → ((n : ℕ) → block_len bytes ≡ Some n → (c : List ℕ) × (rest : List ℕ) × Closes bytes c rest n) → (c : List ℕ) × (rest : List ℕ) × Closes (b ∷ bytes) c rest n
    go true true p q k more = ([], drop 1 bytes, record { whole = ap (λ (d : ℕ). d ∷ bytes) (same_byte b 42 p) ∙ ap (λ (bs : List ℕ). 42 ∷ bs) (begins_with_takes 47 bytes q); long = same_Some 0 n k; inside = tt })
    go true false p q k more = later (λ star. q) k more
    go false u p q k more = later (λ star. absurd (cc)) k more

-- what is spelled so is read so: string
pub string_again : (before : ℕ) (t rest : List ℕ) → IsString before t → string_len before (t ++ 34 ∷ rest) ≡ Some (length t)
unfolding string_len
string_again before [] rest h = rw h refl
string_again before (b ∷ t) rest h = rw h.0 (go (eqb b 34) refl (string_again b t rest h.2))
  where
    go : (q : Bool) → eqb b 34 ≡ q → string_len b (t ++ 34 ∷ rest) ≡ Some (length t) → cond (q && not (eqb before 92)) (Some 0) (option_map (λ n. n + 1) (string_len b (t ++ 34 ∷ rest))) ≡ Some (length (b ∷ t))
    go true k more = rw (h.1 k, more) (ap Some (omega arith))
    go false k more = rw more (ap Some (omega arith))

-- where a string ends
pub record Quotes (before : ℕ) (bytes t rest : List ℕ) (n : ℕ) : Type 0 where
  pub whole : bytes ≡ t ++ 34 ∷ rest
  pub long : length t ≡ n
  pub inside : IsString before t

-- what is read so is spelled so: string
pub string_takes : (before : ℕ) (bytes : List ℕ) (n : ℕ) → string_len before bytes ≡ Some n → (t : List ℕ) × (rest : List ℕ) × Quotes before bytes t rest n
unfolding string_len
string_takes before [] n h = absurd (cc)
string_takes before (b ∷ bytes) n h = go (eqb b 10) (eqb b 34) (eqb before 92) refl refl refl h (string_takes b bytes)
  where
    later : eqb b 10 ≡ false → (eqb b 34 ≡ true → eqb before 92 ≡ true) → option_map (λ n. n + 1) (string_len b bytes) ≡ Some n → ((n : ℕ) → string_len b bytes ≡ Some n → (t : List ℕ) × (rest : List ℕ) × Quotes b bytes t rest n) → (t : List ℕ) × (rest : List ℕ) × Quotes before (b ∷ bytes) t rest n
    later line quoted k more =
        let m = map_some _ (string_len b bytes) n k in
        let found = more m.0 m.1 in
        (b ∷ found.0, found.1, record { whole = ap (λ (bs : List ℕ). b ∷ bs) found.2.whole; long = ap suc found.2.long ∙ omega (arith, m.2); inside = (line, quoted, found.2.inside) })

    go : (l q e : Bool) → eqb b 10 ≡ l → eqb b 34 ≡ q → eqb before 92 ≡ e → cond l None (cond (q && not e) (Some 0) (option_map (λ n. n + 1) (string_len b bytes))) ≡ Some n → ((n : ℕ) → string_len b bytes ≡ Some n → (t : List ℕ) × (rest : List ℕ) × Quotes b bytes t rest n) → (t : List ℕ) × (rest : List ℕ) × Quotes before (b ∷ bytes) t rest n
    go true q e p r s k more = absurd (cc)
    go false true true p r s k more = later p (λ quote. s) k more
    go false true false p r s k more = ([], bytes, record { whole = ap (λ (d : ℕ). d ∷ bytes) (same_byte b 34 r); long = same_Some 0 n k; inside = s })
    go false false e p r s k more = later p (λ quote. absurd (cc)) k more
