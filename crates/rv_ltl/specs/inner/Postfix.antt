-- Formulas as postfix code: the operands first, then the operator. Parentheses leave nothing.
use Rattle.std.specs.Prelude.{◌≡◌, ℕ, List, [], ◌∷◌, ◌++◌, map, Option, Some, Result, Ok, Err, Vec}
use Rattle.std.specs.Borrow.{Bor}
use Rattle.std.specs.declared.alloc.Global.{Global}
use Rattle.rv_text.specs.declared.unread.Unread.{Unread}
use Rattle.rv_text.specs.declared.unread.Unread.TheVariants.{Memory}
use Rattle.rv_ltl.specs.declared.token.Token.{Token}
use Rattle.rv_ltl.specs.declared.token.CodeStep.{CodeStep}
use Rattle.rv_ltl.specs.declared.token.CodeStep.TheVariants as step
use Rattle.rv_ltl.specs.declared.definitions.Definition.{Definition}
use Rattle.rv_text.specs.inner.Unreads.{Fails}
use Rattle.rv_ltl.specs.Grammar.{Expr, Paren, One, Two}
use Rattle.rv_ltl.specs.Parse.{◌>>=◌}
use Rattle.rv_ltl.specs.File.{Def}

-- the postfix code of a formula
abbrev pub code : Expr → List CodeStep
code Expr.True = step.True ∷ []
code Expr.False = step.False ∷ []
code (Expr.Name x) = step.Name x ∷ []
code (Paren e) = code e
code (One op e) = code e ++ step.Unary op ∷ []
code (Two op a b) = code a ++ (code b ++ step.Binary op ∷ [])

-- what is read, as code behind what is there
abbrev pub coded : List CodeStep → Option (Expr × List Token) → Option (List CodeStep × List Token)
coded old read = read >>= λ x. Some (old ++ code x.0, x.1)

-- the code became longer by what the definition reads, and the tokens after it are left
abbrev pub Appends : List CodeStep → List CodeStep → Option (Expr × List Token) → Result (Bor (List Token)) Unread → Type 0
Appends old new read (Ok rest) = coded old read ≡ Some (new, rest.now)
Appends old new read (Err unread) = Fails unread read

-- the step went behind the code, and the tokens are left
abbrev pub PutsStep : List CodeStep → List CodeStep → CodeStep → List Token → Result (Bor (List Token)) Unread → Type 0
PutsStep old new step marks (Ok rest) = (new ≡ old ++ step ∷ []) × (rest.now ≡ marks)
PutsStep old new step marks (Err unread) = unread ≡ Memory

-- a name and the code of its formula
pub record Coded : Type 0 where
  pub name : ℕ
  pub code : List CodeStep

-- a definition's name and code
abbrev pub coded_def : Def → Coded
coded_def d = record { name = d.name; code = code d.body }

-- the same of the program's definition
abbrev pub seen : Definition → Coded
seen d = record { name = d.name; code = d.code.items }

-- the program has the code of the definitions that were read
abbrev pub AreCodes : List Def → List Definition → Type 0
AreCodes ds definitions = map seen definitions ≡ map coded_def ds

-- the definitions of a file were read, as code
abbrev pub ReadsCode : Option (List Def) → Result (Vec Definition Global) Unread → Type 0
ReadsCode read (Ok v) = (ds : List Def) × (read ≡ Some ds) × AreCodes ds v.items
ReadsCode read (Err unread) = Fails unread read
