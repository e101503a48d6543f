-- Where a text is cut at a byte.
use Rattle.std.proofs.Common.{◌≡◌, ℕ, Bool, true, false, List, [], ◌∷◌, ◌++◌, refl, sym, ap, ◌∙◌, arith}
use Rattle.std.specs.Prelude.{not, ◌==◌}
use Rattle.std.specs.List.{list_all, AllByRecursion, flat_map}
use Rattle.std.proofs.lemmas.Bool.Decides.{nat_tests}
use Rattle.std.proofs.lemmas.List.Folds.{list_all-append}
use Rattle.rv_dot.proofs.MemberLaws.{and_true}
use Rattle.rv_model.specs.WellFormed.{is_event_byte}
use Rattle.rv_header.specs.inner.Taking.{pieces}

-- the byte does not stand in the text
abbrev pub lacks : ℕ → List ℕ → Bool
lacks mark text = list_all (λ b. not (b == mark)) text

-- letters, digits and `_` alone
abbrev pub simple : List ℕ → Bool
simple text = list_all is_event_byte text

-- a byte is itself
same : (mark : ℕ) → (mark == mark) ≡ true
same mark = grind (arith, nat_tests)

-- a test that does not fail
not_true : (t : Bool) → not t ≡ true → t ≡ false
not_true true h = absurd (cc)
not_true false h = refl

-- the first piece ends at the first such byte
pub cut : (mark : ℕ) (x y : List ℕ) → lacks mark x ≡ true → pieces mark (x ++ mark ∷ y) ≡ x ∷ pieces mark y
cut mark [] y h = rw (same mark) refl
cut mark (b ∷ x) y h =
    let both = and_true (not (b == mark)) (lacks mark x) h in
    rw (not_true (b == mark) both.0, cut mark x y both.1) refl

-- a text without the byte is one piece
pub uncut : (mark : ℕ) (x : List ℕ) → lacks mark x ≡ true → pieces mark x ≡ x ∷ []
uncut mark [] h = refl
uncut mark (b ∷ x) h =
    let both = and_true (not (b == mark)) (lacks mark x) h in
    rw (not_true (b == mark) both.0, uncut mark x both.1) refl

-- two texts that lack a byte
pub both_lack : (mark : ℕ) (x y : List ℕ) → lacks mark x ≡ true → lacks mark y ≡ true → lacks mark (x ++ y) ≡ true
both_lack mark x y h k = rw (list_all-append (λ b. not (b == mark)) x y, h, k) refl

-- texts that lack a byte each
pub all_lack : {A : Type 0} (mark : ℕ) (f : A → List ℕ) (xs : List A) → AllByRecursion (λ x. lacks mark (f x) ≡ true) xs → lacks mark (flat_map f xs) ≡ true
all_lack mark f [] h = refl
all_lack mark f (x ∷ xs) h = both_lack mark (f x) (flat_map f xs) h.0 (all_lack mark f xs h.1)

-- a letter, a digit or `_` is no other byte
other : (b mark : ℕ) → is_event_byte b ≡ true → is_event_byte mark ≡ false → not (b == mark) ≡ true
other b mark h k = go (b == mark) refl
  where
    go : (t : Bool) → (b == mark) ≡ t → not t ≡ true
    go true e = let equal : b ≡ mark = grind (arith, nat_tests) in let apart : true ≡ false = sym h ∙ ap is_event_byte equal ∙ k in absurd (cc)
    go false e = refl

-- a simple text lacks each other byte
pub simple_lacks : (mark : ℕ) → is_event_byte mark ≡ false → (x : List ℕ) → simple x ≡ true → lacks mark x ≡ true
simple_lacks mark k [] h = refl
simple_lacks mark k (b ∷ x) h =
    let both = and_true (is_event_byte b) (simple x) h in
    rw (other b mark both.0 k, simple_lacks mark k x both.1) refl

-- no dot stands in the text
pub record Dotless (text : List ℕ) : Type 0 where
  pub none : lacks 46 text ≡ true

-- nor in a longer one
pub and_then : {x : List ℕ} (y : List ℕ) → lacks 46 y ≡ true → Dotless x → Dotless (x ++ y)
and_then {x} y h front = record { none = both_lack 46 x y front.none h }

-- such a text
pub dotless : (text : List ℕ) → lacks 46 text ≡ true → Dotless text
dotless text h = record { none = h }
