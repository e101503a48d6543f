-- An instance's word in 32 bits, and a count below it.
use Rattle.std.proofs.Common.{◌≡◌, ℕ, suc, ◌+◌, ◌-◌, ◌*◌, ◌/◌, ◌%◌, ◌^◌, ◌<◌, ◌≤◌, sym, ap, ◌∙◌, subst, arith}
use Rattle.std.proofs.lemmas.Nat.{div-add-mod', div-mul-add, mod-mul-add, pow-add}
use Rattle.std.proofs.Math.Nat.{mul-le-mul_right, suc-mul}
use Rattle.rv_word.specs.Words.{packed, set_in, atoms_in}
use Rattle.rv_journal.specs.CountedWords.{FitsCountedWord}
use Rattle.rv_journal.specs.inner.CountedWords.{word_in_32, counted_word, word_in, count_in}

-- of no set and no levels nothing is left
pub word_in_32-zero : (wide : ℕ) → word_in_32 wide 0 ≡ 0
word_in_32-zero wide = omega arith

-- the levels stand above the set
word_in_32-levels : (wide word : ℕ) → FitsCountedWord wide word → word_in_32 wide word / 2 ^ wide ≡ atoms_in word
word_in_32-levels wide word is = div-mul-add (atoms_in word) (2 ^ wide) (set_in word) is.set

-- and the set below them
word_in_32-set : (wide word : ℕ) → FitsCountedWord wide word → word_in_32 wide word % 2 ^ wide ≡ set_in word
word_in_32-set wide word is = mod-mul-add (atoms_in word) (2 ^ wide) (set_in word) is.set

-- a product and less than one more is less than the next product
room : (a s p q : ℕ) → a < q → s < p → a * p + s < q * p
room a s p q below small =
    let more : suc a ≤ q = omega arith in
    let wide : suc a * p ≤ q * p = mul-le-mul_right p more in
    let one : suc a * p ≡ a * p + p = suc-mul a p in
    omega arith

-- it takes 32 bits
pub word_in_32-lt : (wide word : ℕ) → wide ≤ 32 → FitsCountedWord wide word → word_in_32 wide word < 2 ^ 32
word_in_32-lt wide word low is =
    let all : 2 ^ (32 - wide) * 2 ^ wide ≡ 2 ^ 32 = sym (pow-add 2 (32 - wide) wide) ∙ ap (λ (n : ℕ). 2 ^ n) (let e : (32 - wide) + wide ≡ 32 = omega arith in e) in
    subst (λ (n : ℕ). word_in_32 wide word < n) all (room (atoms_in word) (set_in word) (2 ^ wide) (2 ^ (32 - wide)) is.levels is.set)

-- a word is its halves
pub halves-back : (word : ℕ) → packed (set_in word) (atoms_in word) ≡ word
halves-back word = div-add-mod' word (2 ^ 32)

module _ (wide word count : ℕ) (is : FitsCountedWord wide word) (few : count < 2 ^ 32) where
  -- the word stands above the count
  high : counted_word wide word count / 2 ^ 32 ≡ word_in_32 wide word
  high = div-mul-add (word_in_32 wide word) (2 ^ 32) count few

  -- the count of a counted word
  pub count-back : count_in (counted_word wide word count) ≡ count
  count-back = mod-mul-add (word_in_32 wide word) (2 ^ 32) count few

  -- the word of a counted word
  pub word-back : word_in wide (counted_word wide word count) ≡ word
  word-back =
      (λ i. packed (high i % 2 ^ wide) (high i / 2 ^ wide))
      ∙ (λ i. packed (word_in_32-set wide word is i) (word_in_32-levels wide word is i))
      ∙ halves-back word

-- a counted word takes 64 bits
pub counted-lt : (wide word count : ℕ) → wide ≤ 32 → FitsCountedWord wide word → count < 2 ^ 32 → counted_word wide word count < 2 ^ 64
counted-lt wide word count low is few = let n = word_in_32-lt wide word low is in omega arith

-- how a counted word is put together: no bit is lost on the way
pub packs : (high low count both : ℕ) → high + low ≡ both → both < 2 ^ 32 → count < 2 ^ 32
    → (high % 18446744073709551616 + low < 18446744073709551616) × ((high % 18446744073709551616 + low) * 4294967296 % 18446744073709551616 + count ≡ both * 2 ^ 32 + count)
packs high low count both is small few = (omega arith, omega arith)
