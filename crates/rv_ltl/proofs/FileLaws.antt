-- A file that is read is of the grammar, and a file of the grammar is read.
use Rattle.std.proofs.Common.{◌≡◌, ◌≢◌, ℕ, zero, suc, ◌-◌, List, [], ◌∷◌, ◌++◌, length, drop, Option, Some, None, refl, sym, ap, subst, ◌∙◌, append_assoc, arith}
use Rattle.std.proofs.lemmas.List.{append-nil}
use Rattle.rv_ltl.specs.declared.token.Token.{Token}
use Rattle.rv_ltl.specs.declared.token.Token.TheVariants as token
use Rattle.rv_text.specs.declared.unread.Unread.{Unread}
use Rattle.rv_text.specs.declared.unread.Unread.TheVariants.{Memory, Syntax}
use Rattle.rv_text.specs.inner.Unreads.{Fails}
use Rattle.rv_ltl.specs.Grammar.{Expr, spell}
use Rattle.rv_ltl.specs.Parse.{operator, term_at, expr_by, ◌>>=◌}
use Rattle.rv_ltl.specs.File.{Def, spell_file, IsFile, head_name, defs_at}
use Rattle.rv_ltl.proofs.Sound.{whole_sound}
use Rattle.rv_ltl.proofs.OperatorLaws.{bind_some}
use Rattle.rv_ltl.proofs.Complete.{whole_reads}

-- ---- the loop

-- the definitions before, and those that are read
abbrev pub with_front : List Def → Option (List Def) → Option (List Def)
with_front front read = read >>= λ ds. Some (front ++ ds)

-- a definition before those that are read is the last of those before
regroup : (front : List Def) (d : Def) (read : Option (List Def)) → with_front front (read >>= λ ds. Some (d ∷ ds)) ≡ with_front (front ++ d ∷ []) read
regroup front d (Some ds) = ap (λ (x : List Def). Some x) (simp append_assoc)
regroup front d None = refl

-- the first of the definitions, if one can be read
step : (depth m : ℕ) (rest : List Token) (x : ℕ) → head_name rest ≡ Some x
    → defs_at depth (suc m) rest ≡ (expr_by (term_at depth) (drop 2 rest) >>= λ y. defs_at depth m y.1 >>= λ ds. Some (record { name = x; body = y.0 } ∷ ds))
unfolding defs_at
step depth m [] x h = absurd cc
step depth m (mark ∷ rest) x h =
    ap (λ (o : Option ℕ). o >>= λ x. expr_by (term_at depth) (drop 2 (mark ∷ rest)) >>= λ y. defs_at depth m y.1 >>= λ ds. Some (record { name = x; body = y.0 } ∷ ds)) h

-- the same where the number of definitions that may be read is not zero
step_at : (depth n : ℕ) (rest : List Token) (x : ℕ) → head_name rest ≡ Some x → n ≢ 0
    → defs_at depth n rest ≡ (expr_by (term_at depth) (drop 2 rest) >>= λ y. defs_at depth (n - 1) y.1 >>= λ ds. Some (record { name = x; body = y.0 } ∷ ds))
step_at depth n rest x h ne =
    let k : n ≡ suc (n - 1) = omega arith in
    ap (λ (m : ℕ). defs_at depth m rest) k ∙ step depth (n - 1) rest x h

-- a step that reads one more definition keeps the total
pub goes_on : (depth n : ℕ) (front : List Def) (rest body others : List Token) (x : ℕ) (e : Expr) (total : Option (List Def)) → head_name rest ≡ Some x → n ≢ 0 → body ≡ drop 2 rest
    → expr_by (term_at depth) body ≡ Some (e, others) → with_front front (defs_at depth n rest) ≡ total → with_front (front ++ record { name = x; body = e } ∷ []) (defs_at depth (n - 1) others) ≡ total
goes_on depth n front rest body others x e total h ne b r t =
    let r' : expr_by (term_at depth) (drop 2 rest) ≡ Some (e, others) = rw b at r in
    let s : defs_at depth n rest ≡ (defs_at depth (n - 1) others >>= λ ds. Some (record { name = x; body = e } ∷ ds)) = step_at depth n rest x h ne ∙ rw r' refl in
    sym (regroup front (record { name = x; body = e }) (defs_at depth (n - 1) others)) ∙ ap (λ (o : Option (List Def)). with_front front o) (sym s) ∙ t

-- what keeps a definition's formula from being read keeps the file from being read
pub ends : (err : Unread) (depth n : ℕ) (front : List Def) (rest body : List Token) (x : ℕ) (total : Option (List Def)) → head_name rest ≡ Some x → n ≢ 0 → body ≡ drop 2 rest
    → Fails err (expr_by (term_at depth) body) → with_front front (defs_at depth n rest) ≡ total → Fails err total
ends Memory depth n front rest body x total h ne b r t = tt
ends Syntax depth n front rest body x total h ne b r t =
    let r' : expr_by (term_at depth) (drop 2 rest) ≡ None = rw b at r in
    let s : defs_at depth n rest ≡ None = step_at depth n rest x h ne ∙ rw r' refl in
    sym t ∙ ap (λ (o : Option (List Def)). with_front front o) s

-- where tokens are left and no more definitions may be read, the file is not read
pub full : (depth n : ℕ) (front : List Def) (rest : List Token) (total : Option (List Def)) → n ≡ 0 → length rest ≢ 0 → with_front front (defs_at depth n rest) ≡ total → total ≡ None
unfolding defs_at
full depth n front [] total z ne t = absurd (ne refl)
full depth zero front (mark ∷ rest) total z ne t = sym t
full depth (suc n) front (mark ∷ rest) total z ne t = absurd (omega arith)

-- where tokens are left that do not begin with a name and an equals sign, the file is not read
pub headless : (depth n : ℕ) (front : List Def) (rest : List Token) (total : Option (List Def)) → head_name rest ≡ None → length rest ≢ 0 → with_front front (defs_at depth n rest) ≡ total → total ≡ None
unfolding defs_at
headless depth n front [] total h ne t = absurd (ne refl)
headless depth zero front (mark ∷ rest) total h ne t = sym t
headless depth (suc n) front (mark ∷ rest) total h ne t =
    let s : defs_at depth (suc n) (mark ∷ rest) ≡ None = rw (h, defs_at) refl in
    sym t ∙ ap (λ (o : Option (List Def)). with_front front o) s

-- where no tokens are left, the definitions before are all
pub done : (depth n : ℕ) (front : List Def) (rest : List Token) (total : Option (List Def)) → length rest ≡ 0 → with_front front (defs_at depth n rest) ≡ total → total ≡ Some front
unfolding defs_at
done depth n front (mark ∷ rest) total z t = absurd (omega arith)
done depth zero front [] total z t = sym t ∙ ap (λ (x : List Def). Some x) (append-nil front)
done depth (suc n) front [] total z t = sym t ∙ ap (λ (x : List Def). Some x) (append-nil front)

-- ---- the law

-- tokens with the name of a definition in front are that name, an equals sign and those after it
head_is : (marks : List Token) (x : ℕ) → head_name marks ≡ Some x → marks ≡ token.Name x ∷ (token.Equals ∷ drop 2 marks)
head_is (token.Name y ∷ (token.Equals ∷ rest)) x h = ap (λ (z : ℕ). token.Name z ∷ (token.Equals ∷ rest)) cc
head_is marks x h = absurd cc

-- no operator is in front of a file's tokens
ends_file : (ds : List Def) → operator (spell_file ds) ≡ None
ends_file [] = refl
ends_file (d ∷ ds) = refl

-- the definitions, as what was read
abbrev read_defs : List Def → Option (List Def)
read_defs ds = Some ds

-- a file that is read is of the grammar, and its tokens spell it
pub file_sound : (depth n : ℕ) (toks : List Token) (ds : List Def) → defs_at depth n toks ≡ Some ds → IsFile depth n ds × (toks ≡ spell_file ds)
unfolding defs_at
file_sound depth zero [] ds h = let e : [] ≡ ds = cc in subst (λ (x : List Def). IsFile depth 0 x × ([] ≡ spell_file x)) e ((omega arith, tt), refl)
file_sound depth zero (mark ∷ rest) ds h = absurd cc
file_sound depth (suc n) [] ds h = let e : [] ≡ ds = cc in subst (λ (x : List Def). IsFile depth (suc n) x × ([] ≡ spell_file x)) e ((omega arith, tt), refl)
file_sound depth (suc n) (mark ∷ rest) ds h =
    let a = bind_some (head_name (mark ∷ rest)) (λ (x : ℕ). expr_by (term_at depth) (drop 2 (mark ∷ rest)) >>= λ y. defs_at depth n y.1 >>= λ es. Some (record { name = x; body = y.0 } ∷ es)) ds h in
    let b = bind_some (expr_by (term_at depth) (drop 2 (mark ∷ rest))) (λ (y : Expr × List Token). defs_at depth n y.1 >>= λ es. Some (record { name = a.0; body = y.0 } ∷ es)) ds a.2 in
    let c = bind_some (defs_at depth n b.0.1) (λ (es : List Def). Some (record { name = a.0; body = b.0.0 } ∷ es)) ds b.2 in
    let t = whole_sound depth (drop 2 (mark ∷ rest)) b.0.0 b.0.1 b.1 in
    let ih = file_sound depth n b.0.1 c.0 c.1 in
    let e : (record { name = a.0; body = b.0.0 } ∷ c.0) ≡ ds = cc in
    subst (λ (x : List Def). IsFile depth (suc n) x × (mark ∷ rest ≡ spell_file x)) e
    ((omega (arith, ih.0.0), (t.fits, ih.0.1)), head_is (mark ∷ rest) a.0 a.1 ∙ ap (λ (m : List Token). token.Name a.0 ∷ (token.Equals ∷ m)) (t.text ∙ ap (λ (m : List Token). spell b.0.0 ++ m) ih.1))

-- the tokens of a file of the grammar are read as that file
reads_back : (depth n : ℕ) (ds : List Def) → IsFile depth n ds → defs_at depth n (spell_file ds) ≡ Some ds
unfolding defs_at
reads_back depth zero [] h = refl
reads_back depth (suc n) [] h = refl
reads_back depth zero (d ∷ ds) h = absurd (omega (arith, h.0))
reads_back depth (suc n) (d ∷ ds) h =
    let r = whole_reads depth d.body (spell_file ds) h.1.0 (ends_file ds) in
    let ih = reads_back depth n ds (omega (arith, h.0), h.1.1) in
    rw (r, ih) refl

-- tokens that spell a file of the grammar are read as that file
pub file_reads : (depth n : ℕ) (toks : List Token) (ds : List Def) → IsFile depth n ds → toks ≡ spell_file ds → defs_at depth n toks ≡ Some ds
file_reads depth n toks ds h e = ap (λ (m : List Token). defs_at depth n m) e ∙ reads_back depth n ds h

-- without the first token, and then again without the first, two tokens are gone
pub two_drops : (rest one two : List Token) → one ≡ drop 1 rest → two ≡ drop 1 one → two ≡ drop 2 rest
two_drops rest one two e h = h ∙ ap (λ (m : List Token). drop 1 m) e ∙ both rest
  where
    both : (m : List Token) → drop 1 (drop 1 m) ≡ drop 2 m
    both [] = refl
    both (a ∷ []) = refl
    both (a ∷ (b ∷ m)) = refl
