-- The nodes that the turns give are complete, and at most 31.
use Rattle.std.proofs.Common.{◌≡◌, ℕ, zero, suc, ◌+◌, ◌<◌, ◌≤◌, Bool, true, false, cond, List, [], ◌∷◌, ◌++◌, map, length, get_or, nat_eq, Result, Ok, refl, sym, ap, ◌∙◌, subst, ◌⊎◌, inl, inr, ⊎_elim, arith, length-append}
use Rattle.std.specs.Prelude.{nat_lt, nat_le, slice_index}
use Rattle.std.proofs.lemmas.List.{length-map}
use Rattle.std.proofs.lemmas.Bool.{false≢true, or_cases, or_left, or_right, cases_lt, leb-true, leb-false, ltb-false, eq-eqb}
use Rattle.rv_text.specs.declared.refusals.Refusal.{Refusal}
use Rattle.rv_text.specs.declared.numbers.TheConstants.{TOO_WIDE, TOO_MANY_NODES}
use Rattle.rv_text.specs.Readings.{refused_with}
use Rattle.rv_nnf.specs.Parts.{PartValue}
use Rattle.rv_nnf.proofs.Places.{firsts_kept}
use Rattle.rv_tableau.specs.declared.pairs.Pair.{Pair}
use Rattle.rv_tableau.specs.Pairs.{empty_pair, is_one_of}
use Rattle.rv_tableau.specs.Cover.{cover_of}
use Rattle.rv_tableau.specs.Branches.{branch_number}
use Rattle.rv_tableau.specs.Nodes.{whole_set, new_nodes, nodes_from, nodes_of}
use Rattle.rv_tableau.specs.Rows.{set_at, IsComplete}
use Rattle.rv_tableau.proofs.PairLists.{get_in, in_append}
use Rattle.rv_tableau.proofs.NewNodes.{new_covers}
use Rattle.rv_tableau.proofs.SetLists.{same_number, OnList, joined, joined_len, joined_get, joined_there, next_there, on_index}

-- two accepted answers that are the same have the same nodes
ok_is : {xs ys : List Pair} → ◌≡◌ {A = Result (List Pair) Refusal} (Ok xs) (Ok ys) → xs ≡ ys
ok_is e = cc

-- ---- the work

-- each pair of the set's cover is a node
abbrev IsCovered : List PartValue → List Pair → ℕ → Type 0
IsCovered ps nodes set = (p : Pair) → is_one_of p (cover_of ps set) ≡ true → is_one_of p nodes ≡ true

-- what holds between two turns: those taken are covered, and the next set of each node is on the list
record IsUnderWay (ps : List PartValue) (n i : ℕ) (sets : List ℕ) (nodes : List Pair) : Type 0 where
  first : OnList sets (whole_set ps)
  taken : (k : ℕ) → k < i → IsCovered ps nodes (slice_index sets k)
  nexts : (p : Pair) → is_one_of p nodes ≡ true → OnList sets p.next
  short : length sets ≤ 1 + length nodes
  few : length nodes ≤ 31
  turns : n + i ≡ 33

-- before the first turn
begun : (ps : List PartValue) → IsUnderWay ps 33 0 (whole_set ps ∷ []) []
begun ps = record {
  first = or_left _ _ (eq-eqb (whole_set ps) (whole_set ps) refl);
  taken = λ k h. absurd (omega arith);
  nexts = λ p h. absurd (false≢true h);
  short = omega arith;
  few = omega arith;
  turns = omega arith;
}

module _ (ps : List PartValue) (n i : ℕ) (sets : List ℕ) (nodes : List Pair) (u : IsUnderWay ps n i sets nodes) where
  -- all sets of the list are taken
  done : length sets ≤ i → IsComplete ps nodes
  done h = record { closed = closed }
    where
      covered : (s : ℕ) → OnList sets s → IsCovered ps nodes s
      covered s o = let k = on_index sets s o in subst (IsCovered ps nodes) k.2 (u.taken k.0 (omega (arith, k.1, h)))

      closed : (r : ℕ) → r ≤ length nodes → IsCovered ps nodes (set_at ps nodes r)
      closed zero l = covered (whole_set ps) u.first
      closed (suc k) l = covered (get_or nodes k empty_pair).next (u.nexts (get_or nodes k empty_pair) (get_in nodes k l))

module _ (ps : List PartValue) (n i : ℕ) (sets : List ℕ) (nodes : List Pair) (u : IsUnderWay ps (suc n) i sets nodes) (more : i < length sets) where
  -- the set that is taken
  set : ℕ
  set = slice_index sets i

  -- its new nodes
  new : List Pair
  unfolding set
  new = new_nodes nodes (cover_of ps (slice_index sets i))

  -- what was taken is covered, and so is this set
  taken_on : (k : ℕ) → (k < i) ⊎ (i ≤ k) → k < suc i → IsCovered ps (nodes ++ new) (slice_index (joined sets (map (λ (p : Pair). p.next) new)) k)
  unfolding new
  taken_on k (inl h) l p e =
      let s = joined_get sets (map (λ (p : Pair). p.next) new) k (omega (arith, h, more)) in
      in_append p nodes new ∙ or_left _ _ (u.taken k h p (ap (λ s. is_one_of p (cover_of ps s)) (sym s) ∙ e))
  taken_on k (inr h) l p e =
      let i_is : k ≡ i = omega arith in
      let s = joined_get sets (map (λ (p : Pair). p.next) new) k (omega (arith, i_is, more)) ∙ ap (slice_index sets) i_is in
      in_append p nodes new ∙ ⊎_elim (or_left _ _) (or_right _ _) (new_covers nodes (cover_of ps (slice_index sets i)) p (ap (λ s. is_one_of p (cover_of ps s)) (sym s) ∙ e))

  -- a turn keeps all this
  turn : length (nodes ++ new) ≤ 31 → IsUnderWay ps n (suc i) (joined sets (map (λ (p : Pair). p.next) new)) (nodes ++ new)
  turn h =
      let xs = map (λ (p : Pair). p.next) new in
      let l = joined_len sets xs in
      let m = length-map new (λ (p : Pair). p.next) in
      let a = length-append nodes new in
      record {
        first = firsts_kept nat_eq same_number sets xs (whole_set ps) u.first;
        taken = λ k k_lt. taken_on k (cases_lt k i) k_lt;
        nexts = λ p e. ⊎_elim (λ o. firsts_kept nat_eq same_number sets xs p.next (u.nexts p o)) (λ o. joined_there sets xs p.next (next_there new p o)) (or_cases _ _ (sym (in_append p nodes new) ∙ e));
        short = let s = u.short in omega (arith, l.1, m, a, s);
        few = h;
        turns = let t = u.turns in omega (arith, t);
      }

-- what the work gives
abbrev IsDone : List PartValue → List Pair → Type 0
IsDone ps nodes = IsComplete ps nodes × (length nodes ≤ 31)

-- what the turns give is complete
worked : (ps : List PartValue) (n i : ℕ) (sets : List ℕ) (nodes all : List Pair) → IsUnderWay ps n i sets nodes → nodes_from ps n i sets nodes ≡ Ok all → IsDone ps all
unfolding new set nodes_from
worked ps zero i sets nodes all u e =
    subst (IsDone ps) (ok_is e) (done ps zero i sets nodes u (let s = u.short in let f = u.few in let t = u.turns in omega (arith, s, f, t)), u.few)
worked ps (suc n) i sets nodes all u e = go (nat_le (length sets) i) (nat_lt 4096 (branch_number ps (slice_index sets i))) (nat_lt 31 (length (nodes ++ fresh))) refl refl e (λ h. worked ps n (suc i) (joined sets (map (λ (p : Pair). p.next) fresh)) (nodes ++ fresh) all h)
  where
    fresh : List Pair
    fresh = new_nodes nodes (cover_of ps (slice_index sets i))

    rest : Result (List Pair) Refusal
    rest = nodes_from ps n (suc i) (joined sets (map (λ (p : Pair). p.next) fresh)) (nodes ++ fresh)

    go : (a b c : Bool) → nat_le (length sets) i ≡ a → nat_lt 31 (length (nodes ++ fresh)) ≡ c → cond a (Ok nodes) (cond b (refused_with TOO_WIDE) (cond c (refused_with TOO_MANY_NODES) rest)) ≡ Ok all → (IsUnderWay ps n (suc i) (joined sets (map (λ (p : Pair). p.next) fresh)) (nodes ++ fresh) → rest ≡ Ok all → IsDone ps all) → IsDone ps all
    go true b c h k e ih = subst (IsDone ps) (ok_is e) (done ps (suc n) i sets nodes u (leb-true (length sets) i h), u.few)
    go false true c h k e ih = absurd (cc)
    go false false true h k e ih = absurd (cc)
    go false false false h k e ih = ih (turn ps n i sets nodes u (leb-false (length sets) i h) (ltb-false 31 (length (nodes ++ fresh)) k)) e

-- the nodes are complete, and at most 31
pub nodes_complete : (ps : List PartValue) (nodes : List Pair) → nodes_of ps ≡ Ok nodes → IsComplete ps nodes × (length nodes ≤ 31)
unfolding nodes_of
nodes_complete ps nodes e = worked ps 33 0 (whole_set ps ∷ []) [] nodes (begun ps) e
