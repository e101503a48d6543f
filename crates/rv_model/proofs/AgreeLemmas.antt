-- Two scripts of the same turns that agree so far go on alike.
use Rattle.std.proofs.Common.{◌≡◌, ℕ, ◌+◌, ◌≤◌, ◌^◌, Bool, true, false, ◌&&◌, List, [], ◌∷◌, ◌++◌, length, inl, inr, arith, refl, sym, ◌∙◌, subst}
use Rattle.std.specs.Prelude.{filter, MatchBool}
use Rattle.rv_model.specs.declared.entry.Act.TheVariants.{Raise}
use Rattle.rv_model.specs.declared.work.Delivery.{Delivery}
use Rattle.rv_model.specs.Numbers.{has_bit}
use Rattle.rv_model.specs.Setups.{Setup, slot_of}
use Rattle.rv_model.proofs.HitLemmas.{hit-no_look}
use Rattle.rv_model.specs.Scripts.{Played, is_enabled_by, fails, Makes, Delivers, PlaysTurns}
use Rattle.rv_model.specs.Histories.{look_count, IsNoStop}

-- both end, or both go on with the same act, unless it is a stop
abbrev pub Agree : List Played → List Played → Type 0
Agree [] [] = Unit {0}
Agree [] (q ∷ qs) = ⊥
Agree (p ∷ ps) [] = ⊥
Agree (p ∷ ps) (q ∷ qs) = IsNoStop p.0.act → IsNoStop q.0.act → p.0.act ≡ q.0.act

-- lists with the fact that begin alike agree on what comes next
abbrev pub Agrees : (List Played → Type 0) → Type 0
Agrees P = (ps t u : List Played) → P (ps ++ t) → P (ps ++ u) → Agree t u

-- two entries of one delivery have the same act, where neither is a stop
makes-same : (s : Setup) (d : Delivery) (p q : Played) → Makes s d p → Makes s d q → IsNoStop p.0.act → IsNoStop q.0.act → p.0.act ≡ q.0.act
makes-same s d p q (inl a) (inl b) np nq = a ∙ sym b
makes-same s d p q (inr a) m np nq = absurd (subst IsNoStop a.1 np)
makes-same s d p q (inl a) (inr b) np nq = absurd (subst IsNoStop b.1 nq)

-- two choices by one test go the same way
pub match-both : (b : Bool) (P Q P' Q' G : Type 0) → MatchBool b P Q → MatchBool b P' Q' → (P → P' → G) → (Q → Q' → G) → G
match-both true P Q P' Q' G h g when else' = when h g
match-both false P Q P' Q' G h g when else' = else' h g

-- what follows from both sides of a choice follows from the choice
pub match-one : (b : Bool) (P Q G : Type 0) → MatchBool b P Q → (P → G) → (Q → G) → G
match-one true P Q G h when else' = when h
match-one false P Q G h when else' = else' h

-- where a whole list is empty, what stands behind its front is empty
empty_left : (ps t : List Played) → ps ++ t ≡ [] → t ≡ []
empty_left [] t e = e
empty_left (p ∷ ps) t e = cc

-- two lists that both end agree
agree-nil : (t u : List Played) → t ≡ [] → u ≡ [] → Agree t u
agree-nil t u e f = rw (e, f) tt

-- two lists of one entry each, with the same act, agree behind any front
one_left : (ps t u : List Played) (x y : Played) → ps ++ t ≡ x ∷ [] → ps ++ u ≡ y ∷ [] → x.0.act ≡ y.0.act → Agree t u
one_left [] t u x y e f same = rw (e, f) (λ _ _. same)
one_left (p ∷ ps) t u x y e f same = let e' : ps ++ t ≡ [] = cc in let f' : ps ++ u ≡ [] = cc in agree-nil t u (empty_left ps t e') (empty_left ps u f')

-- how many of the entries are looks
abbrev pub looks_in : List Played → ℕ
looks_in [] = 0
looks_in (p ∷ ps) = look_count p.0.act + looks_in ps

module _ (s : Setup) (panics : ℕ → Bool) where
  -- deliveries after one look agree, where what comes after them does
  delivers-agree : (look : ℕ) (ds : List Delivery) (after : List Played → Type 0) → Agrees after → Agrees (Delivers s panics look ds after)
  delivers-agree look [] after a ps t u h g = a ps t u h g
  delivers-agree look (d ∷ ds) after a [] [] u h g = absurd h
  delivers-agree look (d ∷ ds) after a [] (p ∷ t) [] h g = absurd g
  delivers-agree look (d ∷ ds) after a [] (p ∷ t) (q ∷ u) h g = makes-same s d p q h.0 g.0
  delivers-agree look (d ∷ ds) after a (p ∷ ps) t u h g =
      match-both (fails p.1 && (panics d.monitor && has_bit look 33)) _ _ _ _ (Agree t u) h.1 g.1
      (λ x y. one_left ps t u x.0 y.0 x.1 y.1 (x.2 ∙ sym y.2))
      (λ x y. delivers-agree look ds after a ps t u x y)

  -- scripts of the same turns agree
  pub plays-agree : (turns : List (List Delivery)) → Agrees (PlaysTurns s panics turns)
  plays-agree [] ps t u h g = agree-nil t u (empty_left ps t h) (empty_left ps u g)
  plays-agree (turn ∷ turns) [] [] u h g = absurd h
  plays-agree (turn ∷ turns) [] (p ∷ t) [] h g = absurd g
  plays-agree (turn ∷ turns) [] (p ∷ t) (q ∷ u) h g = λ _ _. h.1 ∙ sym g.1
  plays-agree (turn ∷ turns) (p ∷ ps) t u (look, is, answer, h) (look', is', answer', g) =
      let same : look' ≡ look = cc in
      let g' = subst (λ (n : ℕ). MatchBool (has_bit n 34) (ps ++ u ≡ []) (Delivers s panics n (filter (is_enabled_by n) turn) (PlaysTurns s panics turns) (ps ++ u))) same g in
      match-both (has_bit look 34) _ _ _ _ (Agree t u) h g'
      (λ x y. agree-nil t u (empty_left ps t x) (empty_left ps u y))
      (λ x y. delivers-agree look (filter (is_enabled_by look) turn) (PlaysTurns s panics turns) (plays-agree turns) ps t u x y)

  -- ---- as many looks as turns, at most
  makes-no_look : (d : Delivery) (p : Played) → Makes s d p → look_count p.0.act ≡ 0
  makes-no_look d p (inl e) = rw e (hit-no_look (slot_of s.shape d.monitor d.instance) d.hit)
  makes-no_look d p (inr e) = rw e.1 refl

  -- a raise of the halted bit alone is no look
  stop-looks : (ps : List Played) (x : Played) → ps ≡ x ∷ [] → x.0.act ≡ Raise (2 ^ 34) → looks_in ps ≡ 0
  stop-looks ps x e r = rw (e, r) refl

  -- deliveries add no look to those that come after them
  delivers-looks : (look : ℕ) (ds : List Delivery) (after : List Played → Type 0) (n : ℕ) → ((ps : List Played) → after ps → looks_in ps ≤ n) → (ps : List Played) → Delivers s panics look ds after ps → looks_in ps ≤ n
  delivers-looks look [] after n a ps h = a ps h
  delivers-looks look (d ∷ ds) after n a [] h = absurd h
  delivers-looks look (d ∷ ds) after n a (p ∷ ps) h =
      let first = makes-no_look d p h.0 in
      let rest : looks_in ps ≤ n = (match-one (fails p.1 && (panics d.monitor && has_bit look 33)) _ _ (looks_in ps ≤ n) h.1
      (λ x. let z = stop-looks ps x.0 x.1 x.2 in omega arith)
      (λ x. delivers-looks look ds after n a ps x)) in
      omega arith

  -- a script has no more looks than turns
  pub plays-looks : (turns : List (List Delivery)) (ps : List Played) → PlaysTurns s panics turns ps → looks_in ps ≤ length turns
  plays-looks [] ps h = let z : looks_in ps ≡ 0 = rw h refl in omega arith
  plays-looks (turn ∷ turns) [] h = absurd h
  plays-looks (turn ∷ turns) (p ∷ ps) (look, is, answer, h) =
      let rest : looks_in ps ≤ length turns = match-one (has_bit look 34) _ _ (looks_in ps ≤ length turns) h (λ x. let z : looks_in ps ≡ 0 = rw x refl in omega arith) (λ x. delivers-looks look (filter (is_enabled_by look) turn) (PlaysTurns s panics turns) (length turns) (plays-looks turns) ps x) in
      let first : look_count p.0.act ≡ 1 = rw is refl in
      omega arith

  -- at any entry of a script a look was made, by this entry or before it
  pub plays-begun : (turns : List (List Delivery)) (ps : List Played) (p : Played) (qs : List Played) → PlaysTurns s panics turns (ps ++ p ∷ qs) → 1 ≤ looks_in ps + look_count p.0.act
  plays-begun [] [] p qs h = absurd (let no : p ∷ qs ≡ [] = h in cc)
  plays-begun [] (x ∷ ps) p qs h = absurd (let no : x ∷ (ps ++ p ∷ qs) ≡ [] = h in cc)
  plays-begun (turn ∷ turns) [] p qs h = let first : look_count p.0.act ≡ 1 = rw h.1 refl in omega arith
  plays-begun (turn ∷ turns) (x ∷ ps) p qs h = let first : look_count x.0.act ≡ 1 = rw h.1 refl in omega arith

-- the looks of two lists add up
pub looks_in-append : (ps qs : List Played) → looks_in (ps ++ qs) ≡ looks_in ps + looks_in qs
looks_in-append [] qs = omega arith
looks_in-append (p ∷ ps) qs = let r = looks_in-append ps qs in omega arith
