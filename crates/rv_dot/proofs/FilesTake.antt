-- What is read of all tokens is spelled so.
use Rattle.std.proofs.Common.{◌≡◌, ℕ, Bool, true, false, eqb, List, [], ◌∷◌, ◌++◌, length, Some, refl, ap, ◌∙◌, arith, inl, inr}
use Rattle.std.specs.Prelude.{codes, ◌&&◌, Result, Ok, Err, IfOk}
use Rattle.std.proofs.Common.{Vec, Global}
use Rattle.rv_dot.specs.declared.fact.Fact.{Fact}
use Rattle.rv_text.specs.declared.unread.Unread.{Unread}
use Rattle.std.specs.List.{flat_map}
use Rattle.std.specs.Str.{bytes_eq}
use Rattle.std.proofs.lemmas.Option.{same_Some}
use Rattle.std.specs.Cmp.Lexicographic.{bytes_decides}
use Rattle.std.proofs.lemmas.Bool.Decides.{nat_tests}
use Rattle.rv_dot.specs.declared.token.Mark.TheVariants.{OpenBrace, CloseBrace}
use Rattle.rv_text.specs.inner.Unreads.{IsReadAs}
use Rattle.rv_dot.specs.Tokens.{Lexeme, sign, word}
use Rattle.rv_dot.specs.Marks.{expects}
use Rattle.rv_dot.specs.Lists.{front_word}
use Rattle.rv_dot.specs.Statements.{Claim, statements_at, claims_of}
use Rattle.rv_dot.specs.inner.Held.{claims}
use Rattle.rv_dot.specs.Grammar.{with_semicolon, File, file, IsFile, file_says}
use Rattle.rv_dot.proofs.MarkLaws.{bind_some, chosen, expects_takes}
use Rattle.rv_dot.proofs.ListsTake.{word_takes}
use Rattle.rv_dot.proofs.StatementsTake.{statements_take}

-- a list of no length is empty
nil_from_length : {A : Type 0} (xs : List A) → eqb (length xs) 0 ≡ true → xs ≡ []
nil_from_length [] h = refl
nil_from_length (x ∷ xs) h = absurd (grind (arith, nat_tests))

-- both tests pass
both : (a b : Bool) → (a && b) ≡ true → (a ≡ true) × (b ≡ true)
both true b h = (refl, h)
both false b h = absurd (cc)

-- what is read is spelled so
pub file_takes : (tokens : List Lexeme) (said : List Claim) → claims_of tokens ≡ Some said → (f : File) × IsFile f × (tokens ≡ file f) × (file_says f ≡ said)
unfolding claims_of
file_takes tokens said h =
    let head = bind_some (front_word tokens) _ said h in
    let title = bind_some (front_word head.0.1) _ said head.2 in
    let behind = bind_some (expects OpenBrace title.0.1) _ said title.2 in
    let ss = bind_some (statements_at behind.0) _ said behind.2 in
    elim (chosen (bytes_eq head.0.0 (codes "digraph") && eqb (length ss.0.1) 0) _ _ (Some said) ss.2) [
      | inl p ↦
          let tests = both _ _ p.0 in
          let is_digraph = (bytes_decides head.0.0 (codes "digraph")).0 tests.0 in
          let is_end = nil_from_length ss.0.1 tests.1 in
          let took = statements_take behind.0 ss.0 ss.1 in (
            record { title = title.0.0; statements = took.0 },
            took.1,
            word_takes tokens head.0 head.1 ∙ ap (λ (k : List ℕ). word k ∷ head.0.1) is_digraph ∙ ap (λ (ts : List Lexeme). word (codes "digraph") ∷ ts)
                (word_takes head.0.1 title.0 title.1 ∙ ap (λ (ts : List Lexeme). word title.0.0 ∷ ts) (expects_takes OpenBrace title.0.1 behind.0 behind.1 ∙ ap (λ (ts : List Lexeme). sign OpenBrace ∷ ts)
                (took.2 ∙ ap (λ (ts : List Lexeme). flat_map with_semicolon took.0 ++ sign CloseBrace ∷ ts) is_end))),
            took.3 ∙ same_Some ss.0.0 said p.1,
          )
      | inr p ↦ absurd (cc)
    ]

-- what the code reads is spelled so
pub is_found : (tokens : List Lexeme) (r : Result (Vec Fact Global) Unread) → IsReadAs (λ v. claims v.items) r (claims_of tokens) → IfOk r (λ v. (f : File) × IsFile f × (tokens ≡ file f) × (file_says f ≡ claims v.items))
is_found tokens (Ok v) h = file_takes tokens (claims v.items) h
is_found tokens (Err e) h = tt
