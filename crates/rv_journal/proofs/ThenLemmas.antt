-- One reading after another.
use Rattle.std.proofs.Common.{◌≡◌, ℕ, List, [], ◌∷◌, Option, Some, None, refl, sym, ap, ◌∙◌, subst}
use Rattle.std.specs.Option.{option_map}
use Rattle.rv_journal.specs.inner.PieceReadings.{Reading, ReadsWords, then_read, first_by}

-- what is read first goes into what is read next
pub then-some : {X Y : Type 0} (next : X → List (List ℕ) → Option Y) {r : Reading X} {x : X} {words : List (List ℕ)} → r ≡ Some (x, words) → then_read r next ≡ next x words
then-some next is = ap (λ r. then_read r next) is

-- where nothing is read first, nothing is read
pub then-none : {X Y : Type 0} (next : X → List (List ℕ) → Option Y) {r : Reading X} → r ≡ None → then_read r next ≡ None
then-none next is = ap (λ r. then_read r next) is

-- the answer where nothing is read
pub gives-none : {Y : Type 0} (reads : List (List ℕ) → Reading Y) (old new : List (List ℕ)) (result : Option Y) → result ≡ None → reads old ≡ None → ReadsWords reads old new result
gives-none reads old new result none is = subst (ReadsWords reads old new) (sym none) is

-- the answer where no word is left
pub first-none : {X : Type 0} (read : List ℕ → Option X) (old new : List (List ℕ)) (result : Option X) → result ≡ None → old ≡ [] → ReadsWords (first_by read) old new result
first-none read old new result none empty = subst (ReadsWords (first_by read) old new) (sym none) (ap (first_by read) empty)

-- the answer by the first word
pub first-reads : {X : Type 0} (read : List ℕ → Option X) (old new : List (List ℕ)) (word : List ℕ) (result : Option X) → old ≡ word ∷ new → result ≡ read word → ReadsWords (first_by read) old new result
first-reads {X} read old new word None is gives = ap (first_by read) is ∙ ap (option_map {U = X × List (List ℕ)} (λ x. (x, new))) (sym gives)
first-reads {X} read old new word (Some x) is gives = ap (first_by read) is ∙ ap (option_map {U = X × List (List ℕ)} (λ x. (x, new))) (sym gives)

-- the answer where a first thing was read
pub reads-then : {X Y : Type 0} (reads : List (List ℕ) → Reading X) (next : X → List (List ℕ) → Reading Y) (old mid new : List (List ℕ)) (x : X) (result : Option Y) → reads old ≡ Some (x, mid) → ReadsWords (next x) mid new result → ReadsWords (λ words. then_read (reads words) next) old new result
reads-then reads next old mid new x None first second = then-some next first ∙ second
reads-then reads next old mid new x (Some y) first second = then-some next first ∙ second

-- what was read first, and then
pub record Then (X Y : Type 0) (r : Reading X) (next : X → List (List ℕ) → Option Y) (y : Y) : Type 0 where
  pub x : X
  pub words : List (List ℕ)
  pub first : r ≡ Some (x, words)
  pub second : next x words ≡ Some y

-- what was read was read in two steps
pub then-parts : {X Y : Type 0} (r : Reading X) (next : X → List (List ℕ) → Option Y) (y : Y) → then_read r next ≡ Some y → Then X Y r next y
then-parts None next y is = absurd (cc)
then-parts (Some read) next y is = record { x = read.0; words = read.1; first = refl; second = is }

-- of two readings that are one
pub same-read : {X : Type 0} (a b : X) (xs ys : List (List ℕ)) → ◌≡◌ {A = Reading X} (Some (a, xs)) (Some (b, ys)) → (a ≡ b) × (xs ≡ ys)
same-read {X} a b xs ys is = let p : ◌≡◌ {A = X × List (List ℕ)} (a, xs) (b, ys) = cc in (ap (λ (q : X × List (List ℕ)). q.0) p, ap (λ (q : X × List (List ℕ)). q.1) p)

-- nothing is something
pub no-read : {Y : Type 0} (y : Y) → None ≡ Some y → ⊥
no-read y is = cc

-- the first word, which was read
pub first-some : {X : Type 0} (read : List ℕ → Option X) (words : List (List ℕ)) (x : X) (rest : List (List ℕ)) → first_by read words ≡ Some (x, rest) → (word : List ℕ) × (words ≡ word ∷ rest) × (read word ≡ Some x)
first-some read [] x rest is = absurd (no-read _ is)
first-some {X} read (word ∷ words) x rest is = on (read word) refl is
  where
    on : (found : Option X) → read word ≡ found → option_map {U = X × List (List ℕ)} (λ x. (x, words)) found ≡ Some (x, rest) → (w : List ℕ) × (word ∷ words ≡ w ∷ rest) × (read w ≡ Some x)
    on None e f = absurd (no-read _ f)
    on (Some y) e f = let s = same-read y x words rest f in (word, ap (λ (l : List (List ℕ)). word ∷ l) s.1, e ∙ ap Some s.0)
