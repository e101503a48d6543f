-- Fronts decide: texts and files that are the same up to one byte past the limit come to the same.
use Rattle.std.proofs.Common.{◌≡◌, ℕ, zero, suc, ◌+◌, ◌≤◌, List, [], ◌∷◌, take, refl, sym, ap, ◌∙◌, arith}
use Rattle.std.specs.Prelude.{Option, Some, None, option_map}
use Rattle.rv_text.specs.TextLines.{LineText, lines_of}
use Rattle.rv_io.specs.Files.{Files, front_read}
use Rattle.rv_io.specs.declared.store.TheConstants.{READ_LIMIT}
use Rattle.rv_model.specs.declared.kind.SpecKind.{SpecKind}
use Rattle.rv_bind.specs.declared.limits.TheConstants.{TEXT_LIMIT}
use Rattle.rv_bind.specs.Values.{BoundValue}
use Rattle.rv_bind.specs.Compiling.{compiled_of}
use Rattle.rv_bind.specs.Forms.{FormValue, skipped, container, monitor, on, react, off, begin}
use Rattle.rv_bind.specs.Bound.{bound_of, compiled_in, form_bound, form_in, line_bound, lines_bound, nothing_bound, place_for, with_monitor}
use Rattle.rv_bind.specs.Fronts.{FrontDecides, HaveSameFronts}
use Rattle.rv_bind.specs.Outcomes.{Outcome, accepted, reading, of_file, of_line, of_name, of_text, text_front}
use Rattle.rv_bind.proofs.FrontLemmas.{LooksAtFront, front_named-reading, lines-looks, reading-same, spec-looks}

-- who looks at the front alone is decided by it
pub looks_decides : {X : Type 0} (read : List ℕ → X) → LooksAtFront read → FrontDecides read
looks_decides read looks text other same = looks text ∙ ap read same ∙ sym (looks other)

-- ---- files

-- a front is that of any longer front
take-take : (n m : ℕ) (l : List ℕ) → n ≤ m → take n (take m l) ≡ take n l
take-take zero m l le = refl
take-take (suc n) zero l le = absurd (omega arith)
take-take (suc n) (suc m) [] le = refl
take-take (suc n) (suc m) (x ∷ l) le = ap (λ t. x ∷ t) (take-take n m l (omega arith))

-- what one read gives has the text's front
front_read-front : (text : List ℕ) → text_front (front_read text) ≡ text_front text
unfolding text_front front_read
front_read-front text = take-take (TEXT_LIMIT + 1) READ_LIMIT text (omega arith)

-- the front of a file is that of its text
front_named-is : (file : List ℕ) (text : Option (List ℕ)) → of_text file (option_map front_read text) (λ t. accepted (text_front t)) ≡ of_text file (option_map text_front text) accepted
front_named-is file None = refl
front_named-is file (Some text) = ap (λ (t : List ℕ). accepted t) (front_read-front text)

module _ (files others : Files) (same : HaveSameFronts files others) where
  -- files with the same fronts are read as the same
  pub of_name-same : {X : Type 0} (read : List ℕ → Outcome X) → LooksAtFront read → (file : List ℕ) → of_name files file read ≡ of_name others file read
  of_name-same read looks file =
      front_named-reading read looks files file
      ∙ ap (λ o. reading o read) (front_named-is file (files file) ∙ ap (λ t. of_text file t accepted) (same file) ∙ sym (front_named-is file (others file)))
      ∙ sym (front_named-reading read looks others file)

  -- so are specifications
  compiled-same : (kind : SpecKind) (file : List ℕ) → compiled_in files kind file ≡ compiled_in others kind file
  compiled-same kind file = of_name-same (λ text. of_file file (compiled_of kind text)) (spec-looks kind file) file

  module _ (here : List ℕ) where
    -- the forms of lines
    form-same : (line : ℕ) (bound : BoundValue) (form : FormValue) → form_bound files here line bound form ≡ form_bound others here line bound form
    form-same line bound skipped = refl
    form-same line bound (container name) = refl
    form-same line bound (monitor name scope kind file holder) =
        reading-same (of_line here line (place_for bound name holder)) _ _ (λ place. ap (λ o. reading o (λ compiled. accepted (with_monitor bound name place scope file compiled))) (compiled-same kind file))
    form-same line bound (on name event by tests mode words) = refl
    form-same line bound (react name reactor) = refl
    form-same line bound (off name) = refl
    form-same line bound (begin name atom) = refl

    -- lines
    lines-same : (lines : List LineText) (bound : BoundValue) → lines_bound files here bound lines ≡ lines_bound others here bound lines
    lines-same [] bound = refl
    lines-same (line ∷ lines) bound =
        ap (λ o. reading o (λ next. lines_bound files here next lines)) (reading-same (of_line here line.number (form_in line)) _ _ (form-same line.number bound))
        ∙ reading-same (line_bound others here bound line) _ _ (λ next. lines-same lines next)

    -- and all bindings
    pub bound-same : bound_of files here ≡ bound_of others here
    bound-same =
        of_name-same (λ text. lines_bound files here nothing_bound (lines_of text)) (lines-looks files here) here
        ∙ go (option_map front_read (others here))
      where
        go : (text : Option (List ℕ)) → of_text here text (λ t. lines_bound files here nothing_bound (lines_of t)) ≡ of_text here text (λ t. lines_bound others here nothing_bound (lines_of t))
        go None = refl
        go (Some text) = lines-same (lines_of text) nothing_bound
