-- The entries of one turn: their seat, how many looks are before them, and their line.
use Rattle.std.proofs.Common.{◌≡◌, ◌≢◌, ℕ, ◌+◌, ◌≤◌, Bool, true, false, ◌==◌, List, [], ◌∷◌, ◌++◌, arith, refl, sym, ap, ◌∙◌, subst, append_assoc}
use Rattle.std.specs.Prelude.{if◌then◌else◌}
use Rattle.rv_model.specs.declared.entry.Entry.{Entry}
use Rattle.rv_model.specs.Cuts.{AtEach}
use Rattle.rv_model.specs.Scripts.{Played}
use Rattle.rv_model.specs.Histories.{IsNoStop, IsPermittedTo, look_count, looks_of, NoneOf, IsInOrder, line_at}
use Rattle.rv_model.specs.Works.{Work}
use Rattle.rv_model.proofs.CutLemmas.{at_each-append, at_each-front, at_each-weaker}
use Rattle.rv_feed.specs.Turns.{entries_played, AllBy}
use Rattle.rv_feed.specs.inner.Turns.{NoLooks, IsOneTurn}

-- no entry is another seat's
pub none-by : (seat other : ℕ) (ps : List Played) → AllBy seat ps → seat ≢ other → NoneOf other (entries_played ps)
none-by seat other [] by n = tt
none-by seat other (p ∷ ps) by n = (let at : p.0.seat ≡ seat = by.0.0 in let no : p.0.seat ≢ other = (λ e. n (sym at ∙ e)) in grind arith, none-by seat other ps by.1 n)

-- the entry is the seat's, is no stop, and the seat may do it
abbrev pub IsIn : ℕ → Entry → Type 0
IsIn seat e = (e.seat ≡ seat) × IsNoStop e.act × IsPermittedTo e.act seat

-- so is each of them
pub by-at : (seat : ℕ) (ps : List Played) → AllBy seat ps → (b : List Entry) (e : Entry) (a : List Entry) → entries_played ps ≡ b ++ e ∷ a → IsIn seat e
by-at seat [] by [] e a eq = absurd (let no : [] ≡ e ∷ a = eq in cc)
by-at seat [] by (x ∷ b) e a eq = absurd (let no : [] ≡ x ∷ (b ++ e ∷ a) = eq in cc)
by-at seat (p ∷ ps) by [] e a eq = let same : p.0 ≡ e = cc in subst (IsIn seat) same by.0
by-at seat (p ∷ ps) by (x ∷ b) e a eq = let rest : entries_played ps ≡ b ++ e ∷ a = cc in by-at seat ps by.1 b e a rest

-- among entries without a look, no look is before one or is it
quiet-at : (seat : ℕ) (ps : List Played) → NoLooks ps → (b : List Entry) (e : Entry) (a : List Entry) → entries_played ps ≡ b ++ e ∷ a → looks_of seat b + look_count e.act ≡ 0
quiet-at seat [] q [] e a eq = absurd (let no : [] ≡ e ∷ a = eq in cc)
quiet-at seat [] q (x ∷ b) e a eq = absurd (let no : [] ≡ x ∷ (b ++ e ∷ a) = eq in cc)
quiet-at seat (p ∷ ps) q [] e a eq = let same : p.0 ≡ e = cc in let z : look_count e.act ≡ 0 = subst (λ (x : Entry). look_count x.act ≡ 0) same q.0 in omega arith
quiet-at seat (p ∷ ps) q (x ∷ b) e a eq =
    let same : p.0 ≡ x = cc in
    let rest : entries_played ps ≡ b ++ e ∷ a = cc in
    let z : look_count x.act ≡ 0 = subst (λ (x : Entry). look_count x.act ≡ 0) same q.0 in
    let r = quiet-at seat ps q.1 b e a rest in
    let here : (if x.seat == seat then look_count x.act else 0) ≡ 0 = rw z (both (x.seat == seat)) in
    omega arith
  where
    both : (b : Bool) → let z : ℕ = 0 in (if b then z else z) ≡ z
    both true = refl
    both false = refl

-- in a turn one look is before an entry or is it
pub one-at : (seat : ℕ) (ps : List Played) → AllBy seat ps → IsOneTurn ps → (b : List Entry) (e : Entry) (a : List Entry) → entries_played ps ≡ b ++ e ∷ a → looks_of seat b + look_count e.act ≡ 1
one-at seat [] by one b e a eq = absurd one
one-at seat (p ∷ ps) by one [] e a eq = let same : p.0 ≡ e = cc in let z : look_count e.act ≡ 1 = subst (λ (x : Entry). look_count x.act ≡ 1) same (rw one.0 refl) in omega arith
one-at seat (p ∷ ps) by one (x ∷ b) e a eq =
    let same : p.0 ≡ x = cc in
    let rest : entries_played ps ≡ b ++ e ∷ a = cc in
    let z : look_count x.act ≡ 1 = subst (λ (x : Entry). look_count x.act ≡ 1) same (rw one.0 refl) in
    let at : x.seat ≡ seat = subst (λ (x : Entry). x.seat ≡ seat) same by.0.0 in
    let yes : (x.seat == seat) ≡ true = grind arith in
    let here : (if x.seat == seat then look_count x.act else 0) ≡ 1 = rw (yes, z) refl in
    let r = quiet-at seat ps one.1 b e a rest in
    omega arith

-- a turn has one look of its seat
pub one-looks : (seat : ℕ) (ps : List Played) → AllBy seat ps → IsOneTurn ps → looks_of seat (entries_played ps) ≡ 1
one-looks seat [] by one = absurd one
one-looks seat (p ∷ ps) by one =
    let at : p.0.seat ≡ seat = by.0.0 in
    let yes : (p.0.seat == seat) ≡ true = grind arith in
    let z : look_count p.0.act ≡ 1 = rw one.0 refl in
    let here : (if p.0.seat == seat then look_count p.0.act else 0) ≡ 1 = rw (yes, z) refl in
    let r = quiet ps one.1 in
    omega arith
  where
    both : (b : Bool) → let z : ℕ = 0 in (if b then z else z) ≡ z
    both true = refl
    both false = refl

    quiet : (ps : List Played) → NoLooks ps → looks_of seat (entries_played ps) ≡ 0
    quiet [] q = refl
    quiet (p ∷ ps) q =
        let z : look_count p.0.act ≡ 0 = q.0 in
        let here : (if p.0.seat == seat then look_count p.0.act else 0) ≡ 0 = rw z (both (p.0.seat == seat)) in
        let r = quiet ps q.1 in
        omega arith

-- ---- lines in order

module _ (works : List Work) (line : ℕ) (more es : List Entry) (in_order : IsInOrder works more) (below : AtEach (λ b e. line_at works b e ≤ line) more)
    (here : (b : List Entry) (e : Entry) (a : List Entry) → es ≡ b ++ e ∷ a → line_at works (more ++ b) e ≡ line) where
  -- no line is above the turn's
  pub below-more : AtEach (λ b e. line_at works b e ≤ line) (more ++ es)
  below-more = at_each-append (λ b e. line_at works b e ≤ line) es more below (λ b e a eq. let h = here b e a eq in omega arith)

  -- the lines still never descend
  pub order-more : IsInOrder works (more ++ es)
  order-more = at_each-append (λ before f. AtEach (λ earlier e. line_at works earlier e ≤ line_at works before f) before) es more in_order
      (λ b f a eq.
      let front : AtEach (λ x y. line_at works x y ≤ line) (more ++ b) = at_each-front (λ x y. line_at works x y ≤ line) (more ++ b) (f ∷ a) (subst (AtEach (λ x y. line_at works x y ≤ line)) (ap (λ (z : List Entry). more ++ z) eq ∙ sym (append_assoc more b (f ∷ a))) below-more) in
      at_each-weaker (λ x y. line_at works x y ≤ line) (λ x y. line_at works x y ≤ line_at works (more ++ b) f) (λ x y le. let h = here b f a eq in omega arith) (more ++ b) front)
