-- The opening words are those of an empty history.
use Rattle.std.proofs.Common.{◌≡◌, ℕ, ◌+◌, ◌^◌, ◌<◌, List, [], ◌∷◌, ◌++◌, arith, refl, sym, ap, ◌∙◌, add-one, sum}
use Rattle.rv_model.specs.Numbers.{number_of, list_of, has_bit}
use Rattle.rv_model.specs.Setups.{Setup, start_of}
use Rattle.rv_model.specs.Histories.{FitsWords}
use Rattle.rv_model.proofs.CutLemmas.{at_each-nil}
use Rattle.rv_model.proofs.FoundLemmas.{length-list_of, get_or-list_of}
use Rattle.rv_model.proofs.NumberLemmas.{number_of-bits}
use Rattle.rv_core.specs.Setup.{IsSetup, judges_of}
use Rattle.rv_core.specs.Core.{IsCore}
use Rattle.rv_core.proofs.CoreLemmas.{word_of-is}

-- the opening word of a slot, by its starting levels
abbrev pub opening : Setup → ℕ → ℕ
opening s slot = 2 ^ 32 + number_of (has_bit (start_of s slot)) 32

-- the switches, and then n opening words
abbrev pub opening_words : Setup → ℕ → List ℕ
opening_words s n = s.switches ∷ list_of (opening s) n

-- no slot
pub opens-none : (s : Setup) → s.switches ∷ [] ≡ opening_words s 0
unfolding list_of
opens-none s = refl

-- one more slot
pub opens-more : (s : Setup) (slot : ℕ) (words : List ℕ) → start_of s slot < 2 ^ 32 → words ≡ opening_words s slot → words ++ (2 ^ 32 + start_of s slot) ∷ [] ≡ opening_words s (slot + 1)
unfolding list_of
opens-more s slot words fits is =
    ap (λ (xs : List ℕ). xs ++ (2 ^ 32 + start_of s slot) ∷ []) is
    ∙ ap (λ n. opening_words s slot ++ (2 ^ 32 + n) ∷ []) (sym (number_of-bits (start_of s slot) 32 fits))
    ∙ ap (opening_words s) (sym (add-one slot))

-- the machine begins so
pub core-opens : (s : Setup) → IsSetup s → IsCore s (opening_words s (sum s.shape)) []
core-opens s k = record {
  is_setup = k;
  count = let n = length-list_of (opening s) (sum s.shape) in omega arith;
  live = λ i lt. tt;
  switches_are = sym (number_of-bits s.switches 64 (let few = k.fits.known_switches in omega arith));
  words_are = λ i lt. rw (add-one i) (get_or-list_of (opening s) (sum s.shape) i 0 lt ∙ sym (word_of-is s k [] i lt));
  replays = at_each-nil (FitsWords s (judges_of s));
}
