-- A pass over the definitions, and what settling ends with.
use Rattle.std.proofs.Common.{◌≡◌, ◌≢◌, ℕ, zero, suc, ◌+◌, ◌<◌, ◌≤◌, Bool, true, false, List, [], ◌∷◌, length, Option, Some, None, refl, sym, ap, subst, ◌∙◌, inl, inr, arith}
use Rattle.std.specs.Prelude.{IfSome, IfNone}
use Rattle.std.proofs.Math.ListN.{set, length-set}
use Rattle.std.proofs.lemmas.Bool.{cases_lt}
use Rattle.rv_ltl.specs.declared.weight.Weight.{Weight}
use Rattle.rv_ltl.specs.declared.weight.Weight.TheVariants.{Open, Large, Is}
use Rattle.rv_model.specs.Numbers.{one_if}
use Rattle.rv_ltl.specs.File.{Def}
use Rattle.rv_ltl.specs.Replace.{value_of, any_endless, is_none}
use Rattle.rv_ltl.specs.inner.Machine.{value}
use Rattle.rv_ltl.specs.inner.Weights.{def_at, known_at, weight_at, weights_by, weighed, IsDistinct, IsSure, IsStuck, IsSettled, open_count, known_count, Learns, Passes}
use Rattle.rv_ltl.proofs.Settling.{set_sure, sure_after, never, endless_at, none_endless}
use Rattle.rv_ltl.proofs.WeightLaws.{weighed_none}

-- when something becomes known of an open definition, one fewer is open
one_fewer : (ws : List Weight) (i : ℕ) (w : Weight) → i < length ws → known_at ws i ≡ Open → w ≢ Open → open_count (set ws i w) + 1 ≡ open_count ws
one_fewer [] i w lt h n = absurd (omega arith)
one_fewer (Open ∷ ws) zero Open lt h n = absurd (n refl)
one_fewer (Open ∷ ws) zero Large lt h n = omega arith
one_fewer (Open ∷ ws) zero (Is x) lt h n = omega arith
one_fewer (Large ∷ ws) zero w lt h n = absurd cc
one_fewer (Is x ∷ ws) zero w lt h n = absurd cc
one_fewer (Open ∷ ws) (suc i) w lt h n = let r = one_fewer ws i w (omega arith) h n in omega arith
one_fewer (Large ∷ ws) (suc i) w lt h n = one_fewer ws i w (omega arith) h n
one_fewer (Is x ∷ ws) (suc i) w lt h n = one_fewer ws i w (omega arith) h n

-- each is known or open
counts : (ws : List Weight) → known_count ws + open_count ws ≡ length ws
counts [] = refl
counts (Open ∷ ws) = let r = counts ws in omega arith
counts (Large ∷ ws) = let r = counts ws in omega arith
counts (Is x ∷ ws) = let r = counts ws in omega arith

-- it is at most one
one_if_le : (b : Bool) → one_if b ≤ 1
one_if_le true = omega arith
one_if_le false = omega arith

-- one more was learnt
pub learnt : (ds : List Def) (start ws new : List Weight) (more : Bool) (i : ℕ) → IsDistinct ds → i < length ds → Passes ds start ws more i → Learns ds ws new i true → Passes ds start new true (i + 1)
learnt ds start ws new more i distinct lt p l =
    let v = value (weights_by (weight_at ds ws)) (def_at ds i).body in
    let below : i < length ws = omega (arith, p.each) in
    let c = one_fewer ws i v below l.2 l.1 in
    let f = p.fewer in
    let k : known_count (set ws i v) ≡ suc (known_count ws) = omega (arith, c, counts ws, counts (set ws i v), length-set ws i v) in
    let P : List Weight → Type 0 = λ x. Passes ds start x true (i + 1) in
    let Q : ℕ → Type 0 = λ n. IsSure ds (set ws i v) n in
    let made : Passes ds start (set ws i v) true (i + 1) = record {
      each = length-set ws i v ∙ p.each;
      sure = subst Q (sym k) (set_sure ds ws (known_count ws) i p.each distinct p.sure lt l.1);
      fewer = omega (arith, c, f, one_if_le more);
      stuck = λ e. absurd cc;
    } in
    subst P (sym l.0) made

-- nothing was learnt
pub nothing_learnt : (ds : List Def) (start ws new : List Weight) (more : Bool) (i : ℕ) → Passes ds start ws more i → Learns ds ws new i false → Passes ds start new more (i + 1)
nothing_learnt ds start ws new more i p l =
    let P : List Weight → Type 0 = λ x. Passes ds start x more (i + 1) in
    let made : Passes ds start ws more (i + 1) = record {
      each = p.each;
      sure = p.sure;
      fewer = p.fewer;
      stuck = λ e j lt h. elim (cases_lt j i) [
        | inl below ↦ p.stuck e j below h
        | inr le ↦
            let same : j ≡ i = omega arith in
            let Q : ℕ → Type 0 = λ n. known_at ws n ≡ Open → value (weights_by (weight_at ds ws)) (def_at ds n).body ≡ Open in
            (subst Q (sym same) l.1) h
      ];
    } in
    subst P (sym l.0) made

-- what is known is the weight, and what stays open has none
pub settled : (ds : List Def) (ws : List Weight) → length ws ≡ length ds → IsDistinct ds → IsSure ds ws (known_count ws) → IsStuck ds ws (length ds) → IsSettled ds ws
settled ds ws e distinct sure stuck = record {
  each = e;
  known = λ i lt. by_weight i lt (known_at ws i) refl;
}
  where
    few : known_count ws ≤ length ds
    few = omega (arith, counts ws, e)

    right : (i : ℕ) → i < length ds → known_at ws i ≢ Open → known_at ws i ≡ weighed (value_of ds (length ds) (def_at ds i).name)
    right i lt k = sure_after ds (known_count ws) (length ds) (def_at ds i).name (known_at ws i) few k (sure i lt k)

    by_weight : (i : ℕ) → i < length ds → (w : Weight) → known_at ws i ≡ w → known_at ws i ≡ weighed (value_of ds (length ds) (def_at ds i).name)
    by_weight i lt Open o = o ∙ sym (ap weighed (never ds ws distinct stuck (length ds) i lt o))
    by_weight i lt Large o = right i lt (λ p. let q : Large ≡ Open = sym o ∙ p in absurd cc)
    by_weight i lt (Is x) o = right i lt (λ p. let q : Is x ≡ Open = sym o ∙ p in absurd cc)

-- where none stays open, none reaches itself
pub settled_ends : (ds : List Def) (ws seen : List Weight) → IsSettled ds ws → seen ≡ ws → ((i : ℕ) → i < length seen → known_at seen i ≢ Open) → any_endless ds ds ≡ false
settled_ends ds ws seen s same all =
    let P : List Weight → Type 0 = λ x. (i : ℕ) → i < length x → known_at x i ≢ Open in
    let none : (i : ℕ) → i < length ws → known_at ws i ≢ Open = subst P same all in
    none_endless ds ds (λ i lt h. none i (omega (arith, s.each, lt)) (s.known i lt ∙ ap weighed h))

-- where one stays open, it reaches itself
pub settled_endless : (ds : List Def) (ws seen : List Weight) (i : ℕ) → IsSettled ds ws → seen ≡ ws → i < length seen → known_at seen i ≡ Open → any_endless ds ds ≡ true
settled_endless ds ws seen i s same lt o =
    let below : i < length ds = omega (arith, s.each, lt, ap (λ (x : List Weight). length x) same) in
    endless_at ds ds i below (weighed_none (value_of ds (length ds) (def_at ds i).name) (sym (s.known i below) ∙ ap (λ (x : List Weight). known_at x i) (sym same) ∙ o))

-- the weights are all known, or one reaches itself
pub settled_answer : (ds : List Def) (ws seen : List Weight) (answer : Option Weight) → IsSettled ds ws → seen ≡ ws → IfSome answer (λ weight. (i : ℕ) → i < length seen → known_at seen i ≢ Open) → IfNone answer ((i : ℕ) × (i < length seen) × (known_at seen i ≡ Open))
    → any_endless ds ds ≡ is_none answer
settled_answer ds ws seen (Some weight) s same all unknown = settled_ends ds ws seen s same all
settled_answer ds ws seen None s same all unknown = settled_endless ds ws seen unknown.0 s same unknown.1 unknown.2

-- what is known at a place is the weight
pub settled_value : (ds : List Def) (ws seen : List Weight) (place : ℕ) (answer : Option Weight) → IsSettled ds ws → seen ≡ ws → place < length ds → IfSome answer (λ weight. weight ≡ known_at seen place)
    → IfSome answer (λ weight. weight ≡ weighed (value_of ds (length ds) (def_at ds place).name))
settled_value ds ws seen place (Some weight) s same below is = is ∙ ap (λ (known : List Weight). known_at known place) same ∙ s.known place below
settled_value ds ws seen place None s same below is = tt
