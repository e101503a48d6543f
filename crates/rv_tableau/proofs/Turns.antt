-- One turn of the work, as the code makes it.
use Rattle.std.proofs.Common.{◌≡◌, ℕ, zero, suc, ◌+◌, ◌-◌, ◌<◌, ◌≤◌, min, cond, nat_eq, List, [], ◌∷◌, ◌++◌, map, length, get_or, ◌^◌, Result, Ok, refl, sym, ap, ◌∙◌, arith, length-append}
use mathlib.Core.Path.{ap₂}
use Rattle.std.specs.Prelude.{nat_lt, nat_le, slice_index}
use Rattle.std.proofs.lemmas.Bool.{le-leb, lt-leb, lt-ltb, le-ltb}
use Rattle.rv_nnf.specs.Parts.{PartValue}
use Rattle.rv_nnf.specs.Lists.{firsts}
use Rattle.rv_tableau.specs.declared.pairs.Pair.{Pair}
use Rattle.rv_tableau.specs.Cover.{cover_of}
use Rattle.rv_tableau.specs.Branches.{branch_number}
use Rattle.rv_tableau.specs.Nodes.{whole_set, new_nodes, nodes_from, nodes_of}
use Rattle.rv_text.specs.declared.refusals.Refusal.{Refusal}
use Rattle.rv_text.specs.declared.numbers.TheConstants.{TOO_WIDE, TOO_MANY_NODES}
use Rattle.rv_text.specs.Readings.{refused_with}

-- the work from place i on, where 33 - i turns are left
pub left : List PartValue → ℕ → List ℕ → List Pair → Result (List Pair) Refusal
left ps i sets nodes = nodes_from ps (33 - i) i sets nodes

module _ (ps : List PartValue) (i : ℕ) (sets : List ℕ) (nodes : List Pair) (more : i < 33) where
  -- the new nodes of the set that is taken
  abbrev fresh : List Pair
  fresh = new_nodes nodes (cover_of ps (slice_index sets i))

  -- the turns after this one
  abbrev rest : Result (List Pair) Refusal
  rest = nodes_from ps (33 - (i + 1)) (i + 1) (firsts nat_eq sets (map (λ p. p.next) fresh)) (nodes ++ fresh)

  -- what a turn does, by its three tests
  opened : left ps i sets nodes ≡ cond (nat_le (length sets) i) (Ok nodes) (cond (nat_lt 4096 (branch_number ps (slice_index sets i))) (refused_with TOO_WIDE) (cond (nat_lt 31 (length (nodes ++ fresh))) (refused_with TOO_MANY_NODES) rest))
  unfolding left nodes_from
  opened =
      let n : 33 - i ≡ suc (33 - (i + 1)) = omega arith in
      let s : suc i ≡ i + 1 = omega arith in
      ap (λ n. nodes_from ps n i sets nodes) n
      ∙ ap (λ j. cond (nat_le (length sets) i) (Ok nodes) (cond (nat_lt 4096 (branch_number ps (slice_index sets i))) (refused_with TOO_WIDE) (cond (nat_lt 31 (length (nodes ++ fresh))) (refused_with TOO_MANY_NODES) (nodes_from ps (33 - (i + 1)) j (firsts nat_eq sets (map (λ p. p.next) fresh)) (nodes ++ fresh))))) s

  -- no set is left
  pub at_end : length sets ≤ i → left ps i sets nodes ≡ Ok nodes
  at_end h = opened ∙ ap (λ b. cond b (Ok nodes) (cond (nat_lt 4096 (branch_number ps (slice_index sets i))) (refused_with TOO_WIDE) (cond (nat_lt 31 (length (nodes ++ fresh))) (refused_with TOO_MANY_NODES) rest))) (le-leb (length sets) i h)

  -- a set is left
  within : i < length sets → left ps i sets nodes ≡ cond (nat_lt 4096 (branch_number ps (slice_index sets i))) (refused_with TOO_WIDE) (cond (nat_lt 31 (length (nodes ++ fresh))) (refused_with TOO_MANY_NODES) rest)
  within h = opened ∙ ap (λ b. cond b (Ok nodes) (cond (nat_lt 4096 (branch_number ps (slice_index sets i))) (refused_with TOO_WIDE) (cond (nat_lt 31 (length (nodes ++ fresh))) (refused_with TOO_MANY_NODES) rest))) (lt-leb (length sets) i h)

  -- it is too wide
  pub at_wide : i < length sets → (b : ℕ) → b ≡ min (branch_number ps (slice_index sets i)) 4097 → 4096 < b → left ps i sets nodes ≡ refused_with TOO_WIDE
  at_wide h b e l = within h ∙ ap (λ c. cond c (refused_with TOO_WIDE) (cond (nat_lt 31 (length (nodes ++ fresh))) (refused_with TOO_MANY_NODES) rest)) (lt-ltb 4096 (branch_number ps (slice_index sets i)) (omega arith))

  -- it is not
  narrow : i < length sets → (b : ℕ) → b ≡ min (branch_number ps (slice_index sets i)) 4097 → b ≤ 4096 → left ps i sets nodes ≡ cond (nat_lt 31 (length (nodes ++ fresh))) (refused_with TOO_MANY_NODES) rest
  narrow h b e l = within h ∙ ap (λ c. cond c (refused_with TOO_WIDE) (cond (nat_lt 31 (length (nodes ++ fresh))) (refused_with TOO_MANY_NODES) rest)) (le-ltb 4096 (branch_number ps (slice_index sets i)) (omega arith))

  -- there are too many nodes then
  pub at_many : i < length sets → (b : ℕ) → b ≡ min (branch_number ps (slice_index sets i)) 4097 → b ≤ 4096 → (new : List Pair) → new ≡ fresh → 31 < length nodes + length new → left ps i sets nodes ≡ refused_with TOO_MANY_NODES
  at_many h b e l new f m =
      narrow h b e l ∙ ap (λ c. cond c (refused_with TOO_MANY_NODES) rest) (lt-ltb 31 (length (nodes ++ fresh)) (let a = length-append nodes fresh in let k = ap length f in omega arith))

  -- there are not, and the next turn comes
  pub at_turn : i < length sets → (b : ℕ) → b ≡ min (branch_number ps (slice_index sets i)) 4097 → b ≤ 4096 → (new : List Pair) → new ≡ fresh → length nodes + length new ≤ 31 → (sets' : List ℕ) → sets' ≡ firsts nat_eq sets (map (λ p. p.next) new) → (nodes' : List Pair) → nodes' ≡ nodes ++ new → left ps i sets nodes ≡ left ps (i + 1) sets' nodes'
  unfolding left
  at_turn h b e l new f m sets' s nodes' n =
      narrow h b e l ∙ ap (λ c. cond c (refused_with TOO_MANY_NODES) rest) (le-ltb 31 (length (nodes ++ fresh)) (let a = length-append nodes fresh in let k = ap length f in omega arith))
      ∙ sym (ap₂ (λ x y. nodes_from ps (33 - (i + 1)) (i + 1) x y) (s ∙ ap (λ x. firsts nat_eq sets (map (λ p. p.next) x)) f) (n ∙ ap (λ x. nodes ++ x) f))

-- before the first turn
pub begun : (ps : List PartValue) (sets : List ℕ) (nodes : List Pair) → sets ≡ whole_set ps ∷ [] → nodes ≡ [] → left ps 0 sets nodes ≡ nodes_of ps
unfolding left nodes_of
begun ps sets nodes e f = ap₂ (λ s n. nodes_from ps 33 0 s n) e f

-- after the last one
pub ended : (ps : List PartValue) (i : ℕ) (sets : List ℕ) (nodes : List Pair) → 33 ≤ i → left ps i sets nodes ≡ Ok nodes
unfolding left nodes_from
ended ps i sets nodes h = let e : 33 - i ≡ 0 = omega arith in ap (λ n. nodes_from ps n i sets nodes) e

-- the set that is read
pub read_is : (xs : List ℕ) (i s : ℕ) → s ≡ get_or xs i s → i < length xs → s ≡ slice_index xs i
read_is xs i s e h = e ∙ same xs i h
  where
    same : (xs : List ℕ) (i : ℕ) → i < length xs → get_or xs i s ≡ get_or xs i 0
    same [] i h = absurd (omega arith)
    same (x ∷ xs) zero h = refl
    same (x ∷ xs) (suc i) h = same xs i (omega arith)

-- the list begins with the set of the whole
pub first_set : (n b : ℕ) (sets olds : List ℕ) (ps : List PartValue) → length ps ≡ n → b ≡ 2 ^ (n - 1) → olds ≡ [] → sets ≡ olds ++ b ∷ [] → sets ≡ whole_set ps ∷ []
first_set n b sets olds ps l e o s = s ∙ ap₂ (λ xs x. xs ++ x ∷ []) o (e ∙ ap (λ n. 2 ^ (n - 1)) (sym l))
