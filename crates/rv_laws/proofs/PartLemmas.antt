-- What the whole makes on the instances that are kept is what the part makes.
use Rattle.std.proofs.Common.{◌≡◌, ℕ, ◌+◌, Bool, true, false, ◌==◌, ◌&&◌, List, [], ◌∷◌, map, arith, refl, sym, ap, ◌∙◌}
use Rattle.std.specs.Prelude.{filter}
use Rattle.rv_model.specs.Histories.{Input}
use Rattle.rv_model.specs.Setups.{slot_of}
use Rattle.rv_laws.specs.Parts.{Placed, placed_by, Numbering}
use Rattle.rv_laws.proofs.KnownLemmas.{IsKnown, KnowsPlace}
use Rattle.rv_laws.proofs.ListLemmas.{Every, filter-map}
use Rattle.rv_laws.proofs.Made.{Made, made_told}
use Rattle.rv_laws.proofs.NumberingLemmas.{made_in}
use Rattle.rv_laws.proofs.StepLemmas.{Answered}
use Rattle.rv_laws.proofs.WholeLemmas.{is_at, of_place}

-- ---- lists of what was made

-- where a delivery was made
abbrev pub place_of : Made → Placed
place_of x = x.place

-- the same deliveries with the same steps and answers
pub same-made : (xs ys : List Made) → map place_of xs ≡ map place_of ys → map made_told xs ≡ map made_told ys → xs ≡ ys
same-made [] [] places told = refl
same-made [] (y ∷ ys) places told = absurd (let no : [] ≡ y.place ∷ map place_of ys = places in cc)
same-made (x ∷ xs) [] places told = absurd (let no : x.place ∷ map place_of xs ≡ [] = places in cc)
same-made (x ∷ xs) (y ∷ ys) places told =
    let place : x.place ≡ y.place = cc in
    let one : made_told x ≡ made_told y = cc in
    let answer : x.answer ≡ y.answer = ap (λ (t : Answered). t.answer) one in
    let head : x ≡ y = λ i. record { place = place i; answer = answer i } in
    let places' : map place_of xs ≡ map place_of ys = cc in
    let told' : map made_told xs ≡ map made_told ys = cc in
    let rest = same-made xs ys places' told' in
    ap (λ (z : Made). z ∷ xs) head ∙ ap (λ (z : List Made). y ∷ z) rest

-- tests of places
pub place-filter : (test : Placed → Bool) (xs : List Made) → map place_of (filter (of_place test) xs) ≡ filter test (map place_of xs)
place-filter test xs = sym (filter-map place_of test xs)

-- what is made at each instance tells what is made
module _ (n : Numbering) (keep : ℕ → ℕ → Bool) (whole part : Input) where
  -- the place in the whole of an instance of the part
  abbrev pub slot_in : ℕ → ℕ → ℕ
  slot_in monitor instance = slot_of whole.setup.shape monitor (n.instance_of monitor instance)

  -- without the first
  tail-same : (test : Made → Bool) (x y : Made) (xs ys : List Made) → x ≡ y → filter test (x ∷ xs) ≡ filter test (y ∷ ys) → filter test xs ≡ filter test ys
  tail-same test x y xs ys same e = go (test y) refl
    where
      go : (b : Bool) → test y ≡ b → filter test xs ≡ filter test ys
      go true kept =
          let kept' : test x ≡ true = ap test same ∙ kept in
          let left : filter test (x ∷ xs) ≡ x ∷ filter test xs = rw kept' refl in
          let right : filter test (y ∷ ys) ≡ y ∷ filter test ys = rw kept refl in
          let both : x ∷ filter test xs ≡ y ∷ filter test ys = sym left ∙ e ∙ right in cc
      go false gone =
          let gone' : test x ≡ false = ap test same ∙ gone in
          let left : filter test (x ∷ xs) ≡ filter test xs = rw gone' refl in
          let right : filter test (y ∷ ys) ≡ filter test ys = rw gone refl in
          sym left ∙ e ∙ right

  -- where the places are the same, and what is made at each instance of the part, all is
  pub made-same : (xs ps : List Made) → Every (λ p. KnowsPlace n keep whole part p.place) ps → map place_of xs ≡ map place_of (map (made_in n) ps)
      → ((seat monitor instance : ℕ) → IsKnown n keep whole part monitor instance → filter (of_place (is_at seat whole.setup.shape (slot_in monitor instance))) xs ≡ filter (of_place (is_at seat whole.setup.shape (slot_in monitor instance))) (map (made_in n) ps))
      → xs ≡ map (made_in n) ps
  made-same [] [] all places each = refl
  made-same [] (p ∷ ps) all places each = absurd (let no : [] ≡ placed_by n p.place ∷ map place_of (map (made_in n) ps) = places in cc)
  made-same (x ∷ xs) [] all places each = absurd (let no : x.place ∷ map place_of xs ≡ [] = places in cc)
  made-same (x ∷ xs) (p ∷ ps) all places each =
      let y : Made = made_in n p in
      let place : x.place ≡ placed_by n p.place = cc in
      let test : Placed → Bool = is_at (2 + p.place.cpu) whole.setup.shape (slot_in p.place.delivery.monitor p.place.delivery.instance) in
      let mine : test (placed_by n p.place) ≡ true = self-at (2 + p.place.cpu) (slot_in p.place.delivery.monitor p.place.delivery.instance) in
      let mine' : test x.place ≡ true = ap test place ∙ mine in
      let left : filter (of_place test) (x ∷ xs) ≡ x ∷ filter (of_place test) xs = rw mine' refl in
      let right : filter (of_place test) (y ∷ map (made_in n) ps) ≡ y ∷ filter (of_place test) (map (made_in n) ps) = rw mine refl in
      let both : x ∷ filter (of_place test) xs ≡ y ∷ filter (of_place test) (map (made_in n) ps) = sym left ∙ each (2 + p.place.cpu) p.place.delivery.monitor p.place.delivery.instance all.0 ∙ right in
      let head : x ≡ y = cc in
      let places' : map place_of xs ≡ map place_of (map (made_in n) ps) = cc in
      let rest = made-same xs ps all.1 places' (λ seat monitor instance at. tail-same (of_place (is_at seat whole.setup.shape (slot_in monitor instance))) x y xs (map (made_in n) ps) head (each seat monitor instance at)) in
      ap (λ (z : Made). z ∷ xs) head ∙ ap (λ (z : List Made). y ∷ z) rest
    where
      self-at : (seat slot : ℕ) → ((seat == seat) && (slot == slot)) ≡ true
      self-at seat slot = let a : (seat == seat) ≡ true = grind arith in let b : (slot == slot) ≡ true = grind arith in rw (a, b) refl
