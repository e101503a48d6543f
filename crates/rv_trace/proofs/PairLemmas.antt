-- From the lanes of two loads to the run of pairs that pass a test.
use Rattle.std.proofs.Common.{◌≡◌, ℕ, ◌+◌, ◌%◌, ◌^◌, ◌<◌, ◌≤◌, Bool, true, false, not, cond, List, map, length, get_or, refl, sym, ap, ap₂, ◌∙◌, arith}
use Rattle.std.proofs.lemmas.Bool.{not-true, not-false}
use Rattle.std.proofs.lemmas.List.{length-map}
use Rattle.std.proofs.lemmas.List.Sums.{prefix_len-le-length, prefix_len_passes, prefix_len_stops}
use Rattle.std.proofs.lemmas.Simd.{first_set_mask_l, get_or-chunk, get_or-zip2, length-chunk, length-zip2, mask_l-mod}
use Rattle.std.specs.List.{prefix_len}
use lib.Lanes.{chunk, zip2, mask_l, top}
use Rattle.rv_trace.specs.Masks.{IsPairRun, first_set}

module _ (test : ℕ → ℕ → Bool) (one other : List ℕ) (room : 16 ≤ length one) (room' : 16 ≤ length other)
    (run : ℕ) (z : List ℕ) (found : run ≡ first_set (mask_l (map (top 7) z) % 2 ^ 64) 16)
    (g : ℕ → ℕ → ℕ) (lanes : z ≡ zip2 g (chunk 0 16 one) (chunk 0 16 other))
    (each : (k : ℕ) → top 7 (g (get_or one k 0) (get_or other k 0)) ≡ not (test (get_or one k 0) (get_or other k 0))) where
  -- there is a lane for each pair
  long : length z ≡ 16
  long = ap length lanes ∙ length-zip2 g (chunk 0 16 one) (chunk 0 16 other) (length-chunk 0 16 one room ∙ sym (length-chunk 0 16 other room')) ∙ length-chunk 0 16 one room

  -- so many lanes go on
  counted : run ≡ prefix_len (λ x. not (top 7 x)) z
  counted = found ∙ ap (λ m. first_set m 16) (mask_l-mod (map (top 7) z) 64 (omega (arith, length-map z (top 7), long))) ∙ first_set_mask_l (top 7) z 16 long (omega arith)

  -- a lane stops just where the test of its pair fails
  lane : (k : ℕ) → k < 16 → top 7 (get_or z k 0) ≡ not (test (get_or one k 0) (get_or other k 0))
  lane k inside =
      ap (λ (l : List ℕ). top 7 (get_or l k 0)) lanes
      ∙ ap (top 7) (get_or-zip2 g (chunk 0 16 one) (chunk 0 16 other) k 0 0 0 (omega (arith, length-chunk 0 16 one room)) (omega (arith, length-chunk 0 16 other room')))
      ∙ ap₂ (λ a b. top 7 (g a b)) (get_or-chunk 0 16 one k 0 inside) (get_or-chunk 0 16 other k 0 inside)
      ∙ ap (λ j. top 7 (g (get_or one j 0) (get_or other j 0))) (let e : 0 + k ≡ k = omega arith in e)
      ∙ each k

  -- so the pairs of the run pass it, and the next one does not
  pub pair_run : IsPairRun test one other 16 run
  pair_run = record {
    most = omega (arith, counted, long, prefix_len-le-length (λ x. not (top 7 x)) z);
    each = λ k before.
        let most = prefix_len-le-length (λ x. not (top 7 x)) z in
        not-false _ (sym (lane k (omega (arith, counted, long, most))) ∙ not-true _ (prefix_len_passes (λ x. not (top 7 x)) z k 0 (omega (arith, counted))));
    stop = λ short.
        not-true _ (sym (lane run short) ∙ ap (λ j. top 7 (get_or z j 0)) counted ∙ not-false _ (prefix_len_stops (λ x. not (top 7 x)) z 0 (omega (arith, counted, long))));
  }

-- ---- the same bytes

-- a lane is set where the comparison holds
pub set_lane : (b : Bool) → top 7 (cond b 255 0) ≡ b
set_lane true = refl
set_lane false = refl
