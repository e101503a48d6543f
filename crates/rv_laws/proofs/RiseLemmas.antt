-- Records whose orders rise, and what is picked from them and sorted.
use Rattle.std.proofs.Common.{◌≡◌, ◌≢◌, ℕ, ◌+◌, ◌<◌, ◌≤◌, Bool, true, false, List, [], ◌∷◌, ◌++◌, arith, refl, sym, ap, ◌∙◌, subst, append_assoc}
use Rattle.std.specs.Prelude.{filter, flat_map, count_by, nat_le, All, if◌then◌else◌}
use Rattle.std.proofs.lemmas.List.Elements.{All-head, All-tail}
use Rattle.std.proofs.lemmas.List.Sums.{sum_by-cons}
use Rattle.rv_model.specs.declared.record.Record.{Record}
use Rattle.rv_model.specs.Records.{sort_records}
use Rattle.rv_model.specs.inner.Sorting.{insert_record}
use Rattle.rv_model.proofs.OrderLemmas.{Above, Ascends}
use Rattle.rv_model.proofs.SortLemmas.{Ascends-sort, sort_records-nil, sort_records-cons}
use Rattle.rv_laws.proofs.ListLemmas.{Every, every-append, every-filter}

-- ---- lists

module _ {X : Type 0} (P : X → Type 0) where
  -- a fact of all at their places is one of each
  pub every-from-all : (xs : List X) → All P xs → Every P xs
  every-from-all [] all = tt
  every-from-all (x ∷ xs) all = (All-head P x xs all, every-from-all xs (All-tail P x xs all))

  -- of the front of a list
  pub every-front : (xs ys : List X) → Every P (xs ++ ys) → Every P xs
  every-front [] ys all = tt
  every-front (x ∷ xs) ys all = (all.0, every-front xs ys all.1)

  -- of the back
  pub every-back : (xs ys : List X) → Every P (xs ++ ys) → Every P ys
  every-back [] ys all = all
  every-back (x ∷ xs) ys all = every-back xs ys all.1

-- one element more, as it passes or not
pub count-cons : {X : Type 0} (test : X → Bool) (x : X) (xs : List X) → count_by test (x ∷ xs) ≡ (if test x then 1 else 0) + count_by test xs
count-cons test x xs = sum_by-cons (λ y. if test y then 1 else 0) x xs

-- ---- sorted records
module _ (P : Record → Type 0) where
  -- of a record that is put in its place
  every-insert : (r : Record) (rs : List Record) → P r → Every P rs → Every P (insert_record r rs)
  every-insert r [] is all = (is, tt)
  every-insert r (x ∷ rs) is all = go (nat_le r.order x.order) refl (every-insert r rs is all.1)
    where
      go : (b : Bool) → nat_le r.order x.order ≡ b → Every P (insert_record r rs) → Every P (insert_record r (x ∷ rs))
      go true le rest = rw le (is, all)
      go false gt rest = rw gt (all.0, rest)

  -- of all that are sorted
  pub every-sort : (rs : List Record) → Every P rs → Every P (sort_records rs)
  every-sort [] all = subst (Every P) (sym sort_records-nil) tt
  every-sort (r ∷ rs) all = subst (Every P) (sym (sort_records-cons r rs)) (every-insert r (sort_records rs) all.0 (every-sort rs all.1))

-- no two records have one order
abbrev pub RecordsApart : List Record → Type 0
RecordsApart [] = Unit {0}
RecordsApart (r ∷ rs) = Every (λ x. r.order ≢ x.order) rs × RecordsApart rs

-- each order is above those before it
abbrev pub Rises : List Record → Type 0
Rises [] = Unit {0}
Rises (r ∷ rs) = Every (λ x. r.order < x.order) rs × Rises rs

-- one more record of another order
apart-insert : (r : Record) (rs : List Record) → Every (λ x. r.order ≢ x.order) rs → RecordsApart rs → RecordsApart (insert_record r rs)
apart-insert r [] other apart = (tt, tt)
apart-insert r (x ∷ rs) other apart = go (nat_le r.order x.order) refl (apart-insert r rs other.1 apart.1)
  where
    go : (b : Bool) → nat_le r.order x.order ≡ b → RecordsApart (insert_record r rs) → RecordsApart (insert_record r (x ∷ rs))
    go true le rest = rw le (other, apart)
    go false gt rest = rw gt (every-insert (λ y. x.order ≢ y.order) r rs (λ same. other.0 (sym same)) apart.0, rest)

-- sorted records have the orders that they had
apart-sort : (rs : List Record) → RecordsApart rs → RecordsApart (sort_records rs)
apart-sort [] apart = subst RecordsApart (sym sort_records-nil) tt
apart-sort (r ∷ rs) apart = subst RecordsApart (sym (sort_records-cons r rs)) (apart-insert r (sort_records rs) (every-sort (λ x. r.order ≢ x.order) rs apart.0) (apart-sort rs apart.1))

-- what is above and differs is above strictly
above-apart : (k : ℕ) (rs : List Record) → Above k rs → Every (λ x. k ≢ x.order) rs → Every (λ x. k < x.order) rs
above-apart k [] above other = tt
above-apart k (x ∷ rs) above other = (strict k x.order above.0 other.0, above-apart k rs above.1 other.1)
  where
    strict : (a b : ℕ) → a ≤ b → a ≢ b → a < b
    strict a b le differ = grind arith

-- records that ascend and differ rise
rises-apart : (rs : List Record) → Ascends rs → RecordsApart rs → Rises rs
rises-apart [] up apart = tt
rises-apart (r ∷ rs) up apart = (above-apart r.order rs up.0 apart.0, rises-apart rs up.1 apart.1)

-- sorted records of different orders rise
pub rises-sort : (rs : List Record) → RecordsApart rs → Rises (sort_records rs)
rises-sort rs apart = rises-apart (sort_records rs) (Ascends-sort rs) (apart-sort rs apart)

-- the lowest record goes first
insert-lowest : (r : Record) (rs : List Record) → Every (λ x. r.order < x.order) rs → insert_record r rs ≡ r ∷ rs
insert-lowest r [] low = refl
insert-lowest r (x ∷ rs) low = let lt = low.0 in let le : nat_le r.order x.order ≡ true = grind arith in rw le refl

-- so it does wherever it stands
sort-lowest : (r : Record) (a b : List Record) → Every (λ x. r.order < x.order) a → Every (λ x. r.order < x.order) b → sort_records (a ++ r ∷ b) ≡ r ∷ sort_records (a ++ b)
sort-lowest r [] b low low' = sort_records-cons r b ∙ insert-lowest r (sort_records b) (every-sort (λ x. r.order < x.order) b low')
sort-lowest r (x ∷ a) b low low' =
    let lt = low.0 in
    let gt : nat_le x.order r.order ≡ false = grind arith in
    let behind : insert_record x (r ∷ sort_records (a ++ b)) ≡ r ∷ insert_record x (sort_records (a ++ b)) = rw gt refl in
    sort_records-cons x (a ++ r ∷ b) ∙ ap (insert_record x) (sort-lowest r a b low.1 low') ∙ behind ∙ ap (λ (z : List Record). r ∷ z) (sym (sort_records-cons x (a ++ b)))

-- ---- records that are picked
module _ {X : Type 0} (keep : X → Record → Bool) where
  -- what each keeps of the records
  abbrev pub picks : List X → List Record → List Record
  picks ps rs = flat_map (λ p. filter (keep p) rs) ps

  -- nothing is picked from nothing
  picks-nil : (ps : List X) → picks ps [] ≡ []
  picks-nil [] = refl
  picks-nil (p ∷ ps) = picks-nil ps

  -- a record that nobody keeps
  pub pick-none : (r : Record) (rs : List Record) (ps : List X) → count_by (λ p. keep p r) ps ≡ 0 → picks ps (r ∷ rs) ≡ picks ps rs
  pick-none r rs [] none = refl
  pick-none r rs (p ∷ ps) none = go (keep p r) refl (pick-none r rs ps)
    where
      go : (b : Bool) → keep p r ≡ b → (count_by (λ p. keep p r) ps ≡ 0 → picks ps (r ∷ rs) ≡ picks ps rs) → picks (p ∷ ps) (r ∷ rs) ≡ picks (p ∷ ps) rs
      go true kept rest = let more : count_by (λ q. keep q r) (p ∷ ps) ≡ (if keep p r then 1 else 0) + count_by (λ q. keep q r) ps = count-cons (λ q. keep q r) p ps in let one_is : ◌≡◌ {A = ℕ} (if keep p r then 1 else 0) 1 = rw kept refl in absurd (omega arith)
      go false gone rest =
          let more : count_by (λ q. keep q r) (p ∷ ps) ≡ (if keep p r then 1 else 0) + count_by (λ q. keep q r) ps = count-cons (λ q. keep q r) p ps in
          let zero_is : ◌≡◌ {A = ℕ} (if keep p r then 1 else 0) 0 = rw gone refl in
          let left : filter (keep p) (r ∷ rs) ≡ filter (keep p) rs = rw gone refl in
          ap (λ (z : List Record). z ++ picks ps (r ∷ rs)) left ∙ ap (λ (z : List Record). filter (keep p) rs ++ z) (rest (omega arith))

  -- where a record stands in what is picked
  record Stands (r : Record) (rs : List Record) (ps : List X) : Type 0 where
    front : List Record
    back : List Record
    whole_is : picks ps (r ∷ rs) ≡ front ++ r ∷ back
    rest_is : picks ps rs ≡ front ++ back

  -- a record that one keeps
  pick-one : (r : Record) (rs : List Record) (ps : List X) → count_by (λ p. keep p r) ps ≡ 1 → Stands r rs ps
  pick-one r rs [] one = absurd (let no : 0 ≡ 1 = one in omega arith)
  pick-one r rs (p ∷ ps) one = go (keep p r) refl (pick-one r rs ps)
    where
      go : (b : Bool) → keep p r ≡ b → (count_by (λ p. keep p r) ps ≡ 1 → Stands r rs ps) → Stands r rs (p ∷ ps)
      go true kept rest =
          let more : count_by (λ q. keep q r) (p ∷ ps) ≡ (if keep p r then 1 else 0) + count_by (λ q. keep q r) ps = count-cons (λ q. keep q r) p ps in
          let one_is : ◌≡◌ {A = ℕ} (if keep p r then 1 else 0) 1 = rw kept refl in
          let left : filter (keep p) (r ∷ rs) ≡ r ∷ filter (keep p) rs = rw kept refl in
          record {
            front = [];
            back = filter (keep p) rs ++ picks ps rs;
            whole_is = ap (λ (z : List Record). z ++ picks ps (r ∷ rs)) left ∙ ap (λ (z : List Record). (r ∷ filter (keep p) rs) ++ z) (pick-none r rs ps (omega arith));
            rest_is = refl;
          }
      go false gone rest =
          let more : count_by (λ q. keep q r) (p ∷ ps) ≡ (if keep p r then 1 else 0) + count_by (λ q. keep q r) ps = count-cons (λ q. keep q r) p ps in
          let zero_is : ◌≡◌ {A = ℕ} (if keep p r then 1 else 0) 0 = rw gone refl in
          let left : filter (keep p) (r ∷ rs) ≡ filter (keep p) rs = rw gone refl in
          let s = rest (omega arith) in
          record {
            front = filter (keep p) rs ++ s.front;
            back = s.back;
            whole_is = ap (λ (z : List Record). z ++ picks ps (r ∷ rs)) left ∙ ap (λ (z : List Record). filter (keep p) rs ++ z) s.whole_is ∙ sym (append_assoc (filter (keep p) rs) s.front (r ∷ s.back));
            rest_is = ap (λ (z : List Record). filter (keep p) rs ++ z) s.rest_is ∙ sym (append_assoc (filter (keep p) rs) s.front s.back);
          }

  -- what is picked from high records is high
  high-picks : (k : ℕ) (ps : List X) (rs : List Record) → Every (λ x. k < x.order) rs → Every (λ x. k < x.order) (picks ps rs)
  high-picks k [] rs high = tt
  high-picks k (p ∷ ps) rs high = every-append (λ x. k < x.order) (filter (keep p) rs) (picks ps rs) (every-filter (λ x. k < x.order) (keep p) rs high) (high-picks k ps rs high)

  -- where one and no other keeps each record, the sorted picks are the records
  pub picks-all : (ps : List X) (rs : List Record) → Rises rs → Every (λ r. count_by (λ p. keep p r) ps ≡ 1) rs → sort_records (picks ps rs) ≡ rs
  picks-all ps [] up once = ap sort_records (picks-nil ps) ∙ sort_records-nil
  picks-all ps (r ∷ rs) up once =
      let s = pick-one r rs ps once.0 in
      let high : Every (λ x. r.order < x.order) (s.front ++ s.back) = subst (Every (λ x. r.order < x.order)) s.rest_is (high-picks r.order ps rs up.0) in
      ap sort_records s.whole_is
      ∙ sort-lowest r s.front s.back (every-front (λ x. r.order < x.order) s.front s.back high) (every-back (λ x. r.order < x.order) s.front s.back high)
      ∙ ap (λ (z : List Record). r ∷ sort_records z) (sym s.rest_is) ∙ ap (λ (z : List Record). r ∷ z) (picks-all ps rs up.1 once.1)
