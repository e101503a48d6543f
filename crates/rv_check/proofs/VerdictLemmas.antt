-- No text has two verdicts.
use Rattle.std.proofs.Common.{◌≡◌, ◌≢◌, ◌⊎◌, inl, inr, ℕ, suc, List, [], ◌∷◌, ◌++◌, length, refl, sym, ap, ◌∙◌, subst, append_assoc, append-nil, All}
use Rattle.std.proofs.lemmas.List.Elements.{All-head, All-tail}
use Rattle.rv_model.specs.declared.entry.Entry.{Entry}
use Rattle.rv_model.specs.declared.formula.Spec.{Spec}
use Rattle.rv_model.specs.Numbers.{has_bit}
use Rattle.rv_core.specs.Setup.{judges_of}
use Rattle.rv_journal.specs.EntryTexts.{entry_text, journal_of, IsEntry}
use Rattle.rv_check.specs.declared.reading.Verdict.TheVariants.{Yes, No}
use Rattle.rv_check.specs.Verdicts.{Journal, Begins, Legal, IsYes, IsStuck, IsNo, OneVerdict}
use Rattle.rv_check.proofs.BeginningLemmas.{begins-before, legal-begins}
use Rattle.rv_check.proofs.LineEndLemmas.{one-line}
use Rattle.rv_check.proofs.TextLemmas.{entry-unended, entry-one}

-- a journal of one more entry at its head
journal-cons : (e : Entry) (h : List Entry) (x : List ℕ) → journal_of (e ∷ h) ++ x ≡ entry_text e ++ 10 ∷ (journal_of h ++ x)
journal-cons e h x =
    append_assoc (entry_text e ++ 10 ∷ []) (journal_of h) x
    ∙ append_assoc (entry_text e) (10 ∷ []) (journal_of h ++ x)

-- a text that has a line is not empty
line-some : (a b : List ℕ) → [] ≡ a ++ 10 ∷ b → ⊥
line-some [] b is = (let same : [] ≡ 10 ∷ b = is in cc)
line-some (c ∷ a) b is = (let same : [] ≡ c ∷ (a ++ 10 ∷ b) = is in cc)

-- the second is the first and more entries, which begin what stands behind the first
record Ahead (a b : List Entry) (x y : List ℕ) : Type 0 where
  more : List Entry
  entries : All IsEntry more
  is : b ≡ a ++ more
  behind : x ≡ journal_of more ++ y

-- of two fronts of one text, one is a front of the other
fronts : (a b : List Entry) (x y : List ℕ) → All IsEntry a → All IsEntry b → journal_of a ++ x ≡ journal_of b ++ y → Ahead a b x y ⊎ Ahead b a y x
fronts [] b x y in_a in_b is = inl (record { more = b; entries = in_b; is = refl; behind = is })
fronts (e ∷ a) [] x y in_a in_b is = inr (record { more = e ∷ a; entries = in_a; is = refl; behind = sym is })
fronts (e ∷ a) (f ∷ b) x y in_a in_b is =
    let is_e = All-head IsEntry e a in_a in
    let is_f = All-head IsEntry f b in_b in
    let lines = one-line (entry_text e) (entry_text f) (journal_of a ++ x) (journal_of b ++ y) (entry-unended e is_e) (entry-unended f is_f) (sym (journal-cons e a x) ∙ is ∙ journal-cons f b y) in
    let same : e ≡ f = entry-one e f is_e is_f lines.0 in
    elim (fronts a b x y (All-tail IsEntry e a in_a) (All-tail IsEntry f b in_b) lines.1) [
      | inl l ↦ inl (record { more = l.more; entries = l.entries; is = ap (λ (z : List Entry). f ∷ z) l.is ∙ ap (λ (g : Entry). g ∷ (a ++ l.more)) (sym same); behind = l.behind })
      | inr r ↦ inr (record { more = r.more; entries = r.entries; is = ap (λ (z : List Entry). e ∷ z) r.is ∙ ap (λ (g : Entry). g ∷ (b ++ r.more)) same; behind = r.behind })
    ]

module _ (j : Journal) where
  -- a front of a beginning is one
  begins-one : (front : List Entry) (e : Entry) (more : List Entry) → Begins j (front ++ e ∷ more) → Begins j (front ++ e ∷ [])
  begins-one front e more b = begins-before j.setup (judges_of j.setup) (has_bit j.panics) j.works more (front ++ e ∷ []) (subst (Begins j) (sym (append_assoc front (e ∷ []) more)) b)

  -- it is over and not legal, or it is stuck
  abbrev Why : List Spec → List Entry → List ℕ → Type 0
  Why specs front back = ((back ≡ []) × (Legal j specs front → ⊥)) ⊎ ((back ≢ []) × IsStuck j front back)

  -- where a history goes no further, no beginning does
  no-further : (specs : List Spec) (front : List Entry) (back : List ℕ) → Why specs front back → (b : List Entry) (y : List ℕ) → Begins j b → (l : Ahead front b back y) → l.more ≡ []
  no-further specs front back why b y begins l = go l.more l.entries l.is l.behind
    where
      go : (more : List Entry) → All IsEntry more → b ≡ front ++ more → back ≡ journal_of more ++ y → more ≡ []
      go [] entries is behind = refl
      go (e ∷ more) entries is behind =
          let line : back ≡ entry_text e ++ 10 ∷ (journal_of more ++ y) = behind ∙ journal-cons e more y in
          absurd (elim why [
            | inl over ↦ line-some (entry_text e) (journal_of more ++ y) (sym over.0 ∙ line)
            | inr stuck ↦ stuck.1 e (journal_of more ++ y) (All-head IsEntry e more entries) line (begins-one front e more (subst (Begins j) is begins))
          ])

  -- the same history then
  same-front : (specs : List Spec) (front : List Entry) (back : List ℕ) → Why specs front back → (b : List Entry) (y : List ℕ) → Begins j b → Ahead front b back y → (b ≡ front) × (back ≡ y)
  same-front specs front back why b y begins l =
      let none = no-further specs front back why b y begins l in (
        l.is ∙ ap (λ (z : List Entry). front ++ z) none ∙ append-nil front,
        l.behind ∙ ap (λ (z : List Entry). journal_of z ++ y) none,
      )

  -- a text that is stuck is no legal history's
  not-both : (specs : List Spec) (line : ℕ) → IsYes j specs → IsNo j specs line → ⊥
  not-both specs line good bad = elim (fronts bad.front good.history bad.back [] bad.up_to.entries good.entries (sym bad.up_to.text ∙ good.text ∙ sym (append-nil (journal_of good.history)))) [
    | inl l ↦ wrong (same-front specs bad.front bad.back bad.why good.history [] begins l)
    | inr r ↦ wrong (ends r)
  ]
    where
      begins : Begins j good.history
      begins = legal-begins j.setup (judges_of j.setup) (has_bit j.panics) j.works specs good.history good.legal

      wrong : (good.history ≡ bad.front) × (bad.back ≡ []) → ⊥
      wrong (same, none) = elim bad.why [
        | inl over ↦ over.1 (subst (Legal j specs) same good.legal)
        | inr stuck ↦ stuck.0 none
      ]

      ends : Ahead good.history bad.front [] bad.back → (good.history ≡ bad.front) × (bad.back ≡ [])
      ends r = go r.more r.is r.behind
        where
          go : (more : List Entry) → bad.front ≡ good.history ++ more → [] ≡ journal_of more ++ bad.back → (good.history ≡ bad.front) × (bad.back ≡ [])
          go [] is behind = (sym (append-nil good.history) ∙ sym is, sym behind)
          go (e ∷ more) is behind = absurd (line-some (entry_text e) (journal_of more ++ bad.back) (behind ∙ journal-cons e more bad.back))

  -- it is stuck at one line
  one-place : (specs : List Spec) (v w : ℕ) → IsNo j specs v → IsNo j specs w → v ≡ w
  one-place specs v w a b =
      let same : a.front ≡ b.front = elim (fronts a.front b.front a.back b.back a.up_to.entries b.up_to.entries (sym a.up_to.text ∙ b.up_to.text)) [
        | inl l ↦ sym (same-front specs a.front a.back a.why b.front b.back b.up_to.begins l).0
        | inr r ↦ (same-front specs b.front b.back b.why a.front a.back a.up_to.begins r).0
      ] in
      a.up_to.count ∙ ap (λ (h : List Entry). suc (length h)) same ∙ sym b.up_to.count

-- no text has two verdicts
pub one-verdict : OneVerdict
one-verdict j specs Yes Yes a b = refl
one-verdict j specs Yes (No w) a b = absurd (not-both j specs w a b)
one-verdict j specs (No v) Yes a b = absurd (not-both j specs v b a)
one-verdict j specs (No v) (No w) a b = ap No (one-place j specs v w a b)
