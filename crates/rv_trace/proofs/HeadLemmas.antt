-- The head of the first dash that has one ends first.
use Rattle.std.proofs.Common.{◌≡◌, ℕ, zero, suc, ◌+◌, ◌-◌, ◌<◌, ◌≤◌, inl, inr, Bool, true, false, cond, eqb, List, length, get_or, Option, Some, None, refl, sym, ◌∙◌, ap, subst, arith}
use Rattle.std.proofs.lemmas.Bool.{false≢true, and_parts, and_from, and_left, and_right, ltb-true, eqb-true, eq-eqb, ne_eqb, cases_lt, cases_order}
use Rattle.std.proofs.lemmas.List.{get_or_past}
use Rattle.rv_text.specs.Places.{is_digit, is_blank, least}
use Rattle.rv_text.specs.declared.runs.ByteClass.TheVariants as kinds
use Rattle.rv_text.proofs.LeastLemmas.{run_end-each, least-before, least-at}
use Rattle.rv_trace.specs.declared.head.Head.{Head}
use Rattle.rv_trace.specs.Heads.{first_some, some_or, head_at, head_of, is_head, head_ending, IsHead}

-- nothing is given
pub first_some-none : {X : Type 0} (give : ℕ → Option X) (from count : ℕ) → ((k : ℕ) → from ≤ k → k < from + count → give k ≡ None) → first_some give from count ≡ None
unfolding first_some
first_some-none give from zero none = refl
first_some-none give from (suc count) none =
    ap (λ o. some_or o (first_some give (from + 1) count)) (none from (omega arith) (omega arith))
    ∙ first_some-none give (from + 1) count (λ k l h. none k (omega arith) (omega arith))

-- something is given first here
pub first_some-is : {X : Type 0} (give : ℕ → Option X) (from count at : ℕ) (x : X) → from ≤ at → at < from + count → ((k : ℕ) → from ≤ k → k < at → give k ≡ None) → give at ≡ Some x → first_some give from count ≡ Some x
unfolding first_some
first_some-is give from zero at x low high none here = absurd (omega arith)
first_some-is give from (suc count) at x low high none here =
    elim (cases_lt from at) [
      | inl later ↦ ap (λ o. some_or o (first_some give (from + 1) count)) (none from (omega arith) later)
          ∙ first_some-is give (from + 1) count at x (omega arith) (omega arith) (λ k l h. none k (omega arith) h) here
      | inr same ↦ ap (λ o. some_or o (first_some give (from + 1) count)) (let e : from ≡ at = omega arith in ap give e ∙ here)
    ]

-- a head by its places
pub head-places : (text : List ℕ) (dash : ℕ) → is_head text (head_at text dash) ≡ true → IsHead text (head_at text dash)
unfolding head_at
head-places text dash is =
    let six = and_parts _ _ is in
    let five = and_parts _ _ six.0 in
    let four = and_parts _ _ five.0 in
    let three = and_parts _ _ four.0 in
    let two = and_parts _ _ three.0 in
    let one = and_parts _ _ two.0 in
    record {
      dash = eqb-true _ _ one.0;
      some_digits = ltb-true _ _ one.1;
      pid = λ k l h. run_end-each kinds.Digit text _ k l h;
      some_blanks = ltb-true _ _ two.1;
      blanks = λ k l h. run_end-each kinds.Blank text _ k l h;
      bracket = eqb-true _ _ three.1;
      some_cpu = ltb-true _ _ four.1;
      cpu = λ k l h. run_end-each kinds.Digit text _ k l h;
      close = eqb-true _ _ five.1;
      blank = six.1;
    }

-- a byte that passes a test is not one that fails it
apart : (test : ℕ → Bool) (byte other : ℕ) → test byte ≡ true → test other ≡ false → byte ≡ other → ⊥
apart test byte other passes fails e = false≢true (sym fails ∙ sym (ap test e) ∙ passes)

-- no number is two numbers
differ : (a b c : ℕ) → a ≡ b → a ≡ c → eqb b c ≡ false → ⊥
differ a b c ab ac other = false≢true (sym other ∙ eq-eqb b c (sym ab ∙ ac))

-- no other dash stands in a head
pub no_dash : (text : List ℕ) (head : Head) → IsHead text head → (k : ℕ) → head.dash < k → k ≤ head.close → get_or text k 0 ≡ 45 → ⊥
no_dash text head is k after before dash =
    elim (cases_lt k head.digits) [
      | inl pid ↦ apart is_digit _ 45 (is.pid k (omega arith) pid) refl dash
      | inr past ↦ elim (cases_lt k head.bracket) [
        | inl blanks ↦ apart is_blank _ 45 (is.blanks k past blanks) refl dash
        | inr on ↦ elim (cases_order k head.bracket) [
          | inl here ↦ differ _ 91 45 is.bracket (ap (λ n. get_or text n 0) (sym here) ∙ dash) refl
          | inr sides ↦ elim (cases_lt k head.close) [
            | inl cpu ↦ elim sides [ inl less ↦ absurd (omega arith) | inr more ↦ apart is_digit _ 45 (is.cpu k (omega arith) cpu) refl dash ]
            | inr last ↦ (let same : head.close ≡ k = omega arith in differ _ 93 45 is.close (ap (λ n. get_or text n 0) same ∙ dash) refl)
          ]
        ]
      ]
    ]

-- without a dash there is no head
pub not_head : (text : List ℕ) (dash : ℕ) → (get_or text dash 0 ≡ 45 → ⊥) → is_head text (head_at text dash) ≡ false
unfolding head_at
not_head text dash other = and_left _ _ (and_left _ _ (and_left _ _ (and_left _ _ (and_left _ _ (and_left _ _ (ne_eqb _ _ other))))))

-- no dash has a head
pub head_of-none : (text : List ℕ) → ((d : ℕ) → d < length text → is_head text (head_at text d) ≡ false) → head_of text ≡ None
unfolding head_of
head_of-none text none =
    first_some-none _ 0 (length text + 1) (λ end l h. first_some-none (head_ending text end) 0 end (λ d m g.
    ap (λ b. cond b (Some (head_at text d)) None) (and_left _ _ (none d (omega arith)))))

-- it ends within the text
pub head-inside : (text : List ℕ) (head : Head) → IsHead text head → head.close + 2 ≤ length text
head-inside text head is =
    elim (cases_lt (head.close + 1) (length text)) [
      | inl inside ↦ omega arith
      | inr past ↦ absurd (apart is_blank _ 0 is.blank refl (get_or_past text (head.close + 1) 0 past))
    ]

-- it is the first dash that has a head
pub head_of-some : (text : List ℕ) (dash : ℕ) → ((d : ℕ) → d < dash → is_head text (head_at text d) ≡ false) → is_head text (head_at text dash) ≡ true → head_of text ≡ Some (head_at text dash)
unfolding head_of
head_of-some text dash none is =
    let head : Head = head_at text dash in
    let places : IsHead text (head_at text dash) = head-places text dash is in
    let start : (head_at text dash).dash ≡ dash = unfold head_at in refl in
    let inside : (head_at text dash).close + 2 ≤ length text = head-inside text (head_at text dash) places in
    let longer : dash < (head_at text dash).close = omega (arith, places.some_digits, places.some_blanks, places.some_cpu) in
    first_some-is _ 0 (length text + 1) ((head_at text dash).close + 2) (head_at text dash) (omega arith) (omega arith)
    (λ end l h. first_some-none (head_ending text end) 0 end (λ d m g.
    ap (λ b. cond b (Some (head_at text d)) None) (elim (cases_order d dash) [
      | inl same ↦ and_right _ _ (ne_eqb _ _ (λ (e : (head_at text d).close + 2 ≡ end). let again : (head_at text d).close ≡ (head_at text dash).close = ap (λ n. (head_at text n).close) same in absurd (omega arith)))
      | inr sides ↦ elim sides [
        | inl before ↦ and_left _ _ (none d before)
        | inr after ↦ and_left _ _ (not_head text d (no_dash text (head_at text dash) places d (omega arith) (omega arith)))
      ]
    ])))
    (first_some-is (head_ending text ((head_at text dash).close + 2)) 0 ((head_at text dash).close + 2) dash (head_at text dash) (omega arith) (omega arith)
    (λ d m g. ap (λ b. cond b (Some (head_at text d)) None) (and_left _ _ (none d g)))
    (ap (λ b. cond b (Some (head_at text dash)) None) (and_from _ _ is (eq-eqb _ _ refl))))

-- a test that chose something passed
pub chosen : {X : Type 0} (b : Bool) (x y : X) → Some x ≡ cond b (Some y) None → (b ≡ true) × (x ≡ y)
chosen true x y e = (refl, cc)
chosen false x y e = absurd cc

-- a test that chose nothing failed
pub not_chosen : {X : Type 0} (b : Bool) (y : X) → None ≡ cond b (Some y) None → b ≡ false
not_chosen true y e = absurd cc
not_chosen false y e = refl

-- the test that a dash stands at a place
abbrev pub is_dash : List ℕ → ℕ → Bool
is_dash text place = eqb (get_or text place 0) 45

-- there is no head before the first dash of the rest
pub before_dash : (text : List ℕ) (from count : ℕ) → ((d : ℕ) → d < from → is_head text (head_at text d) ≡ false) → (d : ℕ) → d < least (is_dash text) from count → is_head text (head_at text d) ≡ false
before_dash text from count none d below =
    elim (cases_lt d from) [
      | inl front ↦ none d front
      | inr rest ↦ not_head text d (λ dash. false≢true (sym (least-before (is_dash text) from count d rest below) ∙ eq-eqb _ _ dash))
    ]

-- what is known at the first dash of the rest
pub next_dash : (text : List ℕ) (from place : ℕ) → from ≤ length text → place ≡ least (is_dash text) from (length text - from) → place ≤ length text
    → ((d : ℕ) → d < from → is_head text (head_at text d) ≡ false)
    → (place ≤ length text) × (place < length text → get_or text place 0 ≡ 45) × ((d : ℕ) → d < place → is_head text (head_at text d) ≡ false)
next_dash text from place inside is within none = (
  within,
  λ before. subst (λ (n : ℕ). get_or text n 0 ≡ 45) (sym is) (eqb-true _ _ (least-at (is_dash text) from (length text - from) (omega arith))),
  λ d h. before_dash text from (length text - from) none d (omega arith),
)
