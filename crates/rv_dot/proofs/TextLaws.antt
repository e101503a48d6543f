-- Texts, both ways.
use Rattle.std.proofs.Common.{◌≡◌, ℕ, List, length, arith, ap, ◌∙◌, Some, true, Vec, Global}
use Rattle.std.specs.Prelude.{Result, Ok, Err, IfOk}
use Rattle.rv_dot.specs.declared.token.DotToken.{DotToken}
use Rattle.rv_text.specs.declared.unread.Unread.{Unread}
use Rattle.rv_text.specs.inner.Unreads.{IsReadAs}
use Rattle.rv_dot.specs.Tokens.{tokens_of}
use Rattle.rv_dot.specs.inner.Held.{lexemes}
use Rattle.rv_dot.specs.Pieces.{Piece, SplitsInto, tokens_in}
use Rattle.rv_dot.specs.Statements.{Claim, claims_of}
use Rattle.rv_dot.specs.Grammar.{File, file_says}
use Rattle.rv_dot.specs.Text.{IsTextOf, said_by}
use Rattle.rv_dot.proofs.MarkLaws.{bind_some}
use Rattle.rv_dot.proofs.FrontTakes.{tokens_take}
use Rattle.rv_dot.proofs.FrontLaws.{tokens_again}
use Rattle.rv_dot.proofs.StatementsAgain.{file_again}
use Rattle.rv_dot.proofs.FilesTake.{file_takes}

-- tokens that are read are those of pieces
pub tokens_are_found : (bytes : List ℕ) (r : Result (Vec DotToken Global) Unread) → IsReadAs (λ v. lexemes v.items) r (tokens_of bytes) → IfOk r (λ v. (ps : List Piece) × SplitsInto true bytes ps × (tokens_in ps ≡ lexemes v.items))
tokens_are_found bytes (Ok v) h = tokens_take (length bytes) true bytes (lexemes v.items) h
tokens_are_found bytes (Err e) h = tt

-- the tokens of pieces are read
pub tokens_are_read : (bytes : List ℕ) (ps : List Piece) → SplitsInto true bytes ps → tokens_of bytes ≡ Some (tokens_in ps)
tokens_are_read bytes ps h = tokens_again ps (length bytes) true bytes h (omega arith)

-- a text of the grammar says what its file says
pub text_again : (bytes : List ℕ) (f : File) → IsTextOf bytes f → said_by bytes ≡ Some (file_says f)
text_again bytes f h =
    rw (tokens_are_read bytes h.1 h.2) (ap claims_of h.3 ∙ file_again f h.0)

-- a text that is read is one of the grammar
pub text_is_found : (bytes : List ℕ) (claims : List Claim) → said_by bytes ≡ Some claims → (f : File) × IsTextOf bytes f × (file_says f ≡ claims)
text_is_found bytes claims h =
    let ts = bind_some (tokens_of bytes) claims_of claims h in
    let ps = tokens_take (length bytes) true bytes ts.0 ts.1 in
    let f = file_takes ts.0 claims ts.2 in
    (f.0, (f.1, ps.0, ps.1, ps.2 ∙ f.2), f.3)
