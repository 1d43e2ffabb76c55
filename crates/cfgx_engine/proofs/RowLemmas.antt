-- Rows of targets over any allocator.
use Rattle.std.proofs.Common.{◌≡◌, arith, ℕ, Bool, List, [], ◌∷◌, Option, map, find, option_map}
use Rattle.std.proofs.Common.{bytes_eq, refl, ap, sym, ◌∙◌}
use Rattle.std.{proofs.Math.Path.fun_ext, specs.declared.alloc.Global.Global}
use Rattle.cfgx_targets.specs.Builtins.{builtin_rows}
use Rattle.cfgx_targets.specs.{Table.row_with, declared.info.TargetInfo.TargetInfo}
use Rattle.cfgx_fields.specs.declared.text_key.TextKey.TheVariants as keys
use Rattle.cfgx_grammar.specs.Question.{TargetQuestion}
use Rattle.cfg_expr.specs.Matching.{meets}
use Rattle.cfgx_engine.specs.{Output.answer_on, Verdicts.answer_by}

-- the same target over `Global`
abbrev pub same_row : {A : Type 0} → TargetInfo A → TargetInfo Global
same_row row = record {
  triple = row.triple;
  os = row.os;
  abi = row.abi;
  arch = row.arch;
  env = row.env;
  vendor = row.vendor;
  families = row.families;
  pointer_width = row.pointer_width;
  endian = row.endian;
  has_atomics = row.has_atomics;
  panic = row.panic;
}

-- `find` in a mapped list
find-map : {X Y : Type 0} (f : X → Y) (test : Y → Bool) (xs : List X)
    → find test (map f xs) ≡ option_map f (find (λ x. test (f x)) xs)
find-map f test [] = refl
find-map f test (x ∷ xs) = let rest = find-map f test xs in grind arith

-- the row that is found is the built-in one with this triple, over `Global`
pub builtin-same : {A : Type 0} (triple : List ℕ) (found : Option (TargetInfo A))
    → found ≡ row_with triple builtin_rows
    → row_with {A = Global} triple builtin_rows ≡ option_map (same_row {A = A}) found
builtin-same {A} triple found is =
    find-map (same_row {A = A}) (λ row. bytes_eq row.triple triple) builtin_rows
    ∙ ap (option_map (same_row {A = A})) (sym is)

-- a row answers as the same row over `Global`
meets-same : {A : Type 0} (row : TargetInfo A) (question : TargetQuestion)
    → meets row question ≡ meets (same_row {A = A} row) question
meets-same row (TargetQuestion.text keys.Abi text) = refl
meets-same row _ = refl

pub answer_on-same : {A : Type 0} (row : TargetInfo A)
    → answer_on row ≡ answer_on (same_row {A = A} row)
answer_on-same row = ap answer_by (fun_ext (meets-same row))
