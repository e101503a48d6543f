-- The flags of what a root reaches, while they grow.
use Rattle.std.proofs.Common.{◌≡◌, ℕ, zero, suc, ◌<◌, Bool, true, false, List, [], ◌∷◌, length, None, sym, subst, ◌∙◌, inl, inr, arith, get_or-set_same}
use Rattle.std.specs.Prelude.{Vec}
use Rattle.std.specs.declared.alloc.Global.{Global}
use Rattle.std.proofs.Math.ListN.{set, length-set}
use Rattle.std.proofs.lemmas.Bool.{false≢true}
use Rattle.rv_ltl.specs.Reach.{Leads, Step}
use Rattle.rv_ltl.specs.inner.Reached.{flag_at, row_at, Flags, AreReachFlags, IsUnderWay, Joins, NextIs, undone}
use Rattle.rv_ltl.proofs.Cycle.{append_leads}
use Rattle.rv_ltl.proofs.Rows.{set_only}

-- a place that is flagged is one of the places
flag_inside : (fs : List Bool) (i : ℕ) → flag_at fs i ≡ true → i < length fs
flag_inside [] i h = absurd cc
flag_inside (f ∷ fs) zero h = omega arith
flag_inside (f ∷ fs) (suc i) h = let r = flag_inside fs i h in omega arith

-- the root alone is flagged, and nothing is done
pub way_start : (rows : List (Vec Bool Global)) (root : ℕ) (old done : List Bool) → length old ≡ length rows → length done ≡ length rows → root < length rows → ((i : ℕ) → flag_at old i ≡ false) → ((i : ℕ) → flag_at done i ≡ false)
    → IsUnderWay rows root (set old root true) done
way_start rows root old done e d lt none nothing = record {
  each = length-set old root true ∙ e;
  each_done = d;
  start = get_or-set_same old root true false (omega (arith, e));
  sound = λ i h. elim (set_only old root i h) [ inl s ↦ inl (sym s) | inr o ↦ absurd (false≢true (sym (none i) ∙ o)) ];
  followed = λ i j h. absurd (false≢true (sym (nothing i) ∙ h));
}

-- one definition was followed
pub way_on : (rows : List (Vec Bool Global)) (root : ℕ) (fs new done : List Bool) (n : ℕ) → IsUnderWay rows root fs done → flag_at fs n ≡ true → Joins fs (row_at rows n) new (length fs) → IsUnderWay rows root new (set done n true)
way_on rows root fs new done n w h m = record {
  each = m.each ∙ w.each;
  each_done = length-set done n true ∙ w.each_done;
  start = m.kept root w.start;
  sound = λ i g. elim (m.only i g) [
    | inl o ↦ w.sound i o
    | inr p ↦ inr (elim (w.sound n h) [ inl s ↦ (let F : ℕ → Type 0 = λ y. Leads (Flags rows) y i in subst F (sym s) (Step p)) | inr r ↦ append_leads r (Step p) ])
  ];
  followed = λ i j d lt p. elim (set_only done n i d) [
    | inl e ↦ (let F : ℕ → Type 0 = λ k. Flags rows k j in m.made j (omega (arith, w.each)) (subst F e p))
    | inr o ↦ m.kept j (w.followed i j o lt p)
  ];
}

-- all that is flagged is done
pub way_end : (rows : List (Vec Bool Global)) (root : ℕ) (fs done : List Bool) → IsUnderWay rows root fs done → NextIs fs done None → AreReachFlags rows root fs
way_end rows root fs done w n = record {
  each = w.each;
  start = w.start;
  sound = w.sound;
  closed = λ i j h lt p. w.followed i j (n i (omega (arith, w.each_done, w.each, flag_inside fs i h)) h) lt p;
}

-- when one that is not done becomes done, fewer are not done
pub undone-set : (done : List Bool) (i : ℕ) → i < length done → flag_at done i ≡ false → undone (set done i true) < undone done
undone-set [] i lt h = absurd (omega arith)
undone-set (true ∷ fs) zero lt h = absurd cc
undone-set (false ∷ fs) zero lt h = omega arith
undone-set (true ∷ fs) (suc i) lt h = undone-set fs i (omega arith) h
undone-set (false ∷ fs) (suc i) lt h = let r = undone-set fs i (omega arith) h in omega arith
