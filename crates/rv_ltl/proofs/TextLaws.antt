-- Rule files from their bytes, both ways.
use Rattle.std.proofs.Common.{◌≡◌, ℕ, List, map, Some, false, refl, sym, ap, subst}
use Rattle.std.proofs.lemmas.Option.{same_Some}
use Rattle.rv_ltl.specs.declared.token.Token.{Token}
use Rattle.rv_ltl.specs.Cuts.{pieces_in}
use Rattle.rv_ltl.specs.File.{Def, defs_at, spell_file}
use Rattle.rv_ltl.specs.Names.{names_of}
use Rattle.rv_ltl.specs.Parse.{◌>>=◌}
use Rattle.rv_ltl.specs.Pieces.{pieces_of}
use Rattle.rv_ltl.specs.Replace.{plain_def}
use Rattle.rv_ltl.specs.RuleFile.{definitions_of}
use Rattle.rv_ltl.specs.Spelling.{AreSpelled, IsTextOf, spelled_by}
use Rattle.rv_ltl.specs.Tokens.{tokens_of}
use Rattle.rv_ltl.proofs.CutLaws.{cut_parts, parts_cut}
use Rattle.rv_ltl.proofs.FileLaws.{file_reads, file_sound}
use Rattle.rv_ltl.proofs.OperatorLaws.{bind_some}
use Rattle.rv_ltl.proofs.TokenLaws.{spelled_are_read, tokens_spelled}

-- a text of definitions spells them
pub text_again : (bytes : List ℕ) (ds said : List Def) → IsTextOf bytes ds → map plain_def ds ≡ said → spelled_by bytes ≡ Some said
text_again bytes ds said (is_file, (parts, splits, are)) same =
    rw (parts_cut parts bytes splits, spelled_are_read (pieces_in parts) (spell_file ds) are, file_reads 256 256 (spell_file ds) ds is_file refl) (ap (λ (x : List Def). Some x) same)

-- what spells definitions is a text of them
pub text_is_found : (bytes : List ℕ) (said : List Def) → spelled_by bytes ≡ Some said → (ds : List Def) × IsTextOf bytes ds × (map plain_def ds ≡ said)
text_is_found bytes said h =
    let cut = bind_some (pieces_of false bytes) definitions_of said h in
    let read = bind_some (tokens_of (names_of cut.0) cut.0) (λ (tokens : List Token). defs_at 256 256 tokens >>= λ ds. Some (map plain_def ds)) said cut.2 in
    let made = bind_some (defs_at 256 256 read.0) (λ (ds : List Def). Some (map plain_def ds)) said read.2 in
    let file = file_sound 256 256 read.0 made.0 made.1 in
    let parts = cut_parts bytes cut.0 cut.1 in
    let are : AreSpelled (names_of cut.0) (spell_file made.0) cut.0 = subst (λ (ts : List Token). AreSpelled (names_of cut.0) ts cut.0) file.1 (tokens_spelled (names_of cut.0) cut.0 read.0 read.1) in
    (made.0, (file.0, (parts.0, parts.1, subst (λ (ps : List (List ℕ)). AreSpelled (names_of ps) (spell_file made.0) ps) (sym parts.2) are)), same_Some _ said made.2)
