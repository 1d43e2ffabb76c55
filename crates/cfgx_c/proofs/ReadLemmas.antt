-- The predicates and the steps of a text that was read.
use Rattle.std.proofs.Common.{◌≡◌, ◌∙◌, ◌+◌, ◌≤◌, ℕ, List, ap, arith, length, map, refl, sym}
use Rattle.std.proofs.lemmas.List.{length-map}
use Rattle.std.proofs.lemmas.List.Sums.{count_by-le-length}
use Rattle.std.proofs.lemmas.Slice.Zip.{AllZip-long}
use Rattle.cfgx_syntax.proofs.Wrapping.{strip-stands}
use Rattle.cfgx_syntax.specs.Stripping.{strip, strip_offset}
use Rattle.cfgx_grammar.proofs.Answering.{only_tree}
use Rattle.cfgx_grammar.specs.Answer.{HasOneTree}
use Rattle.cfgx_grammar.specs.Tree.{asked}
use Rattle.cfgx_parser.specs.declared.located.LocatedPredicate.{LocatedPredicate}
use Rattle.cfg_expr.proofs.stepped.Numbers.{AreCounted-steps}
use Rattle.cfg_expr.specs.Located.{AreLocated, Locates}
use Rattle.cfg_expr.specs.Steps.{is_ask, steps_of}
use Rattle.cfgx_c.specs.Buffer.{FillsBoth}
use Rattle.cfgx_c.specs.Predicates.{ListsPredicates, c_predicate}
use Rattle.cfgx_c.specs.Steps.{Compiles, c_step}
use Rattle.cfgx_c.specs.declared.{predicates.CfgxPredicate.CfgxPredicate, steps.CfgxStep.CfgxStep}

-- what is left of the text, and what was stripped before it, are no longer than the text
pub stripped_fits : (text : List ℕ) → length (strip text) + strip_offset text ≤ length text
stripped_fits text = let (stands, within) = strip-stands text in within

-- the predicates as C sees them
pub Lists-read : (text : List ℕ) (predicates : List LocatedPredicate)
    → AreLocated (strip text) predicates
    → ListsPredicates text (map (c_predicate (strip_offset text)) predicates)
Lists-read text predicates located =
    record { located = predicates; are_located = located; listed = refl }

-- there is a step that asks for each predicate
few_located : (text : List ℕ) (predicates : List LocatedPredicate) → AreLocated text predicates
    → (one : HasOneTree text) → length predicates ≤ length (steps_of one.tree)
few_located text predicates located one =
    let same = only_tree one located.one.tree located.one.reads.has in
    let many : length predicates ≡ length (asked one.tree) =
    AllZip-long (Locates text) (asked located.one.tree) predicates located.each
    ∙ ap (λ tree. length (asked tree)) same in
    omega (
      arith,
      AreCounted-steps one.tree predicates many,
      count_by-le-length is_ask (steps_of one.tree),
    )

-- what `cfgx_compile` promises if both buffers are filled, or neither
pub Compiles-read : (text : List ℕ) (predicates : List LocatedPredicate)
    → AreLocated (strip text) predicates
    → (one : HasOneTree (strip text)) (step_count : ℕ) → step_count ≡ length (steps_of one.tree)
    → step_count ≤ length (strip text)
    → (old_steps new_steps : List CfgxStep) (old new : List CfgxPredicate)
    → FillsBoth (map c_step (steps_of one.tree)) old_steps new_steps
    (map (c_predicate (strip_offset text)) predicates) old new
    → Compiles text old_steps new_steps step_count old new (length predicates)
Compiles-read text predicates located one step_count counted few old_steps new_steps old new
    fills =
    record {
      one = one;
      predicates = map (c_predicate (strip_offset text)) predicates;
      lists = Lists-read text predicates located;
      fills = fills;
      steps_needed_is = counted;
      few = omega (arith, few, stripped_fits text);
      predicates_needed_is = sym (length-map predicates (c_predicate (strip_offset text)));
      few_predicates = omega (arith, counted, few_located _ predicates located one);
    }
