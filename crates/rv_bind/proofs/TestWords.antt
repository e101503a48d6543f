-- A test is read of exactly the word that it is written as.
use Rattle.std.proofs.Common.{◌≡◌, ℕ, zero, suc, ◌+◌, ◌<◌, ◌≤◌, Bool, true, false, not, ◌&&◌, ◌==◌, List, [], ◌∷◌, ◌++◌, length, get_or, take, drop, refl, sym, ap, ◌∙◌, subst, arith}
use Rattle.std.specs.Prelude.{Option, Some, None, IsTrue, nat_lt, position, if◌then◌else◌}
use Rattle.std.specs.List.{list_all, position_or_len}
use Rattle.std.proofs.Math.Seq.{drop-append_seam, take-append_seam}
use Rattle.std.proofs.lemmas.Bool.{eqb-true, lt-ltb}
use Rattle.std.proofs.lemmas.List.{length-append, take-append-drop}
use Rattle.std.proofs.lemmas.List.Quantifiers.{position-Some}
use Rattle.std.proofs.lemmas.Option.{same_Some}
use Rattle.rv_bind.specs.declared.bindings.Test.{Test}
use Rattle.rv_bind.specs.declared.bindings.Test.TheVariants.{Is, IsNot}
use Rattle.rv_bind.specs.LineWords.{is_field_byte, test_behind, test_of, test_split}
use Rattle.rv_bind.specs.Lines.{IsTest, test_word}

-- ---- from the test to its word and back

-- a field's name ends where another byte follows it
field_ends : (field : List ℕ) (sign : ℕ) (rest : List ℕ) → IsTrue (list_all is_field_byte field) → is_field_byte sign ≡ false → position_or_len (λ byte. not (is_field_byte byte)) (field ++ sign ∷ rest) ≡ length field
field_ends [] sign rest all other = rw other refl
field_ends (byte ∷ field) sign rest all other = go (is_field_byte byte) refl all (λ more. field_ends field sign rest more other)
  where
    go : (b : Bool) → is_field_byte byte ≡ b → b && list_all is_field_byte field ≡ true
        → (list_all is_field_byte field ≡ true → position_or_len (λ byte. not (is_field_byte byte)) (field ++ sign ∷ rest) ≡ length field)
        → position_or_len (λ byte. not (is_field_byte byte)) (byte ∷ field ++ sign ∷ rest) ≡ suc (length field)
    go true is all later = let ends = later all in rw (is, ends) (omega arith)
    go false is all later = absurd cc

-- so it is found there
field_found : (field : List ℕ) (sign : ℕ) (rest : List ℕ) → IsTrue (list_all is_field_byte field) → is_field_byte sign ≡ false → position (λ byte. not (is_field_byte byte)) (field ++ sign ∷ rest) ≡ Some (length field)
field_found field sign rest all other =
    let long : length (field ++ sign ∷ rest) ≡ length field + length (sign ∷ rest) = length-append field (sign ∷ rest) in
    let ends = field_ends field sign rest all other in
    rw (ends, lt-ltb (length field) (length (field ++ sign ∷ rest)) (omega arith)) refl

-- a number that is not 0
some_length : (n : ℕ) → 0 < n → (n == 0) ≡ false
some_length n some = grind arith

-- where a field's name of one byte or more ends, the test is that of what follows
split_at_field : (field : List ℕ) (sign : ℕ) (rest : List ℕ) → IsTrue (list_all is_field_byte field) → 0 < length field → is_field_byte sign ≡ false → test_of (field ++ sign ∷ rest) ≡ test_behind field (sign ∷ rest)
split_at_field field sign rest all some other =
    ap (test_split (field ++ sign ∷ rest)) (field_found field sign rest all other)
    ∙ rw (some_length (length field) some, take-append_seam field (sign ∷ rest), drop-append_seam field (sign ∷ rest)) refl

-- a test is read of its word
pub test_again : (test : Test) → IsTest test → test_of (test_word test) ≡ Some test
test_again (Is field []) is = absurd (omega (arith, is.2))
test_again (Is field (byte ∷ value)) is = split_at_field field 61 (byte ∷ value) is.0 is.1 refl
test_again (IsNot field []) is = absurd (omega (arith, is.2))
test_again (IsNot field (byte ∷ value)) is =
    split_at_field field 33 (61 ∷ byte ∷ value) is.0 is.1 refl ∙ ap (λ (b : Bool). if b then Some (IsNot field (byte ∷ value)) else None) (lt-ltb 0 (length (byte ∷ value)) (omega arith))

-- ---- from a word to its test and back

-- bytes that pass, up to a place
fields_in : (word : List ℕ) (end : ℕ) → end ≤ length word → ((k : ℕ) → k < end → not (is_field_byte (get_or word k 0)) ≡ false) → IsTrue (list_all is_field_byte (take end word))
fields_in [] zero le each = refl
fields_in [] (suc end) le each = absurd (omega arith)
fields_in (byte ∷ word) zero le each = refl
fields_in (byte ∷ word) (suc end) le each = go (is_field_byte byte) (each 0 (omega arith)) (fields_in word end (omega arith) (λ k lt. each (suc k) (omega arith)))
  where
    go : (b : Bool) → not b ≡ false → IsTrue (list_all is_field_byte (take end word)) → b && list_all is_field_byte (take end word) ≡ true
    go true is later = later
    go false is later = absurd cc

-- what is behind a field's name
test_takes_behind : (field rest : List ℕ) (test : Test) → IsTrue (list_all is_field_byte field) → 0 < length field → test_behind field rest ≡ Some test → (field ++ rest ≡ test_word test) × IsTest test
test_takes_behind field [] test all some e = absurd cc
test_takes_behind field (sign ∷ []) test all some e = absurd cc
test_takes_behind field (sign ∷ next ∷ rest) test all some e = equal (sign == 61) refl e
  where
    longer : (b : Bool) → nat_lt 0 (length rest) ≡ b → b ≡ true → 0 < length rest
    longer true is e = let t = is in grind arith
    longer false is e = absurd cc

    other : (a b : Bool) → (sign == 33) ≡ a → (next == 61) ≡ b → (if a && (b && nat_lt 0 (length rest)) then Some (IsNot field rest) else None) ≡ Some test → (field ++ sign ∷ next ∷ rest ≡ test_word test) × IsTest test
    other true true bang equals e = value (nat_lt 0 (length rest)) refl e
      where
        value : (c : Bool) → nat_lt 0 (length rest) ≡ c → (if c then Some (IsNot field rest) else None) ≡ Some test → (field ++ sign ∷ next ∷ rest ≡ test_word test) × IsTest test
        value true long e =
            subst (λ (t : Test). (field ++ sign ∷ next ∷ rest ≡ test_word t) × IsTest t) (same_Some (IsNot field rest) test e)
            (ap (λ (b : ℕ). field ++ b ∷ next ∷ rest) (eqb-true sign 33 bang) ∙ ap (λ (b : ℕ). field ++ 33 ∷ b ∷ rest) (eqb-true next 61 equals), (all, some, longer (nat_lt 0 (length rest)) refl long))
        value false short e = absurd cc
    other true false bang equals e = absurd cc
    other false b bang equals e = absurd cc

    equal : (b : Bool) → (sign == 61) ≡ b → (if b then Some (Is field (next ∷ rest)) else (if (sign == 33) && ((next == 61) && nat_lt 0 (length rest)) then Some (IsNot field rest) else None)) ≡ Some test → (field ++ sign ∷ next ∷ rest ≡ test_word test) × IsTest test
    equal true is e =
        subst (λ (t : Test). (field ++ sign ∷ next ∷ rest ≡ test_word t) × IsTest t) (same_Some (Is field (next ∷ rest)) test e)
        (ap (λ (b : ℕ). field ++ b ∷ next ∷ rest) (eqb-true sign 61 is), (all, some, omega arith))
    equal false is e = other (sign == 33) (next == 61) refl refl e

-- the word of a test that is read is how it is written
pub test_takes : (word : List ℕ) (test : Test) → test_of word ≡ Some test → (word ≡ test_word test) × IsTest test
test_takes word test e = go (position (λ byte. not (is_field_byte byte)) word) refl e
  where
    go : (place : Option ℕ) → position (λ byte. not (is_field_byte byte)) word ≡ place → test_split word place ≡ Some test → (word ≡ test_word test) × IsTest test
    go None is e = absurd cc
    go (Some zero) is e = absurd cc
    go (Some (suc end)) is e =
        let found = position-Some (λ byte. not (is_field_byte byte)) word (suc end) 0 is in
        let all : IsTrue (list_all is_field_byte (take (suc end) word)) = fields_in word (suc end) (let inside = found.0 in omega arith) (λ k lt. found.2 k lt) in
        let some : 0 < length (take (suc end) word) = (let inside = found.0 in front_some word inside) in
        let split : test_behind (take (suc end) word) (drop (suc end) word) ≡ Some test = sym (ap (λ (b : Bool). if b then None else test_behind (take (suc end) word) (drop (suc end) word)) (some_length (suc end) (omega arith))) ∙ e in
        let taken = test_takes_behind (take (suc end) word) (drop (suc end) word) test all some split in
        (sym (take-append-drop (suc end) word) ∙ taken.0, taken.1)
      where
        front_some : (word : List ℕ) → suc end < length word → 0 < length (take (suc end) word)
        front_some [] inside = absurd (omega arith)
        front_some (byte ∷ word) inside = omega arith
