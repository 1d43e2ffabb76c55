use Rattle.std.proofs.Common.{[], ℕ, ◌==◌, ◌∙◌, ap, append-nil, arith, length, refl, sym, Ok}
use Rattle.std.proofs.{lemmas.Iterator.Consumers.YieldsList-at, lemmas.List.Sums.count_by-le-length}
use Rattle.std.{proofs.lemmas.Iterator.Splits.YieldsList-from_str_split, specs.List.slice_split}
use Rattle.std.proofs.{lemmas.List.Splits.length-slice_split, lemmas.Result.err_from_is_err_and}
use Rattle.cfgx_engine.proofs.SectionLemmas.{PrintsLines-rest, PrintsRest-more, PrintsRest-fault}
use Rattle.cfgx_engine.proofs.SectionLemmas.{IfMessage-weaker, yields-none, yields-some}
use Rattle.cfgx_engine.proofs.engine.sections.print_lines.Goals as goal
use Rattle.cfgx_engine.specs.{Sections.line_of, Output.faulty_output}

-- all lines are still to come
pub loop-line-init : goal.loop-line-init
loop-line-init g c =
    let text = c.args.text.now in
    record {
      same = sym c.new-printer.ensures.target;
      left = record {
        pieces = slice_split (λ byte. byte == 10) text;
        yields = YieldsList-at c.into_iter-line-iterator.ensures.into_iter_gives
            (YieldsList-from_str_split 10 text (omega arith) c.split-line-items.ensures.text
            c.split-line-items.ensures.has_more c.split-line-items.ensures.pattern);
        few = omega (arith, length-slice_split {X = ℕ}, count_by-le-length {X = ℕ});
        prints = λ shown rest.
            PrintsLines-rest _ _ shown (rw c.new-printer.ensures.printed at rest);
      };
    }

-- each line before the faulty one is printed
pub returns-in_err-push_line-clause-err : goal.returns-in_err-push_line-clause-err
returns-in_err-push_line-clause-err g c =
    let p = err_from_is_err_and c.from_residual.result c.from_residual.ensures.1 in
    let left = c.loop-line.invariant.left in
    let next = yields-some left.pieces left.yields c.in-Some.line c.next.new.self
    c.in-Some.ensures.steps in
    rw (c.loop-line.invariant.same, p.1, p.2)
    (IfMessage-weaker {A = g.row.A.Denot} _ _ _ (λ message prints.
    left.prints (faulty_output message) (PrintsRest-fault _ _ _ _ next.0 next.1
    (c.split_line.ensures ∙ ap line_of c.strip_carriage_return.ensures) _ message _ prints refl))
    c.in_err-push_line.ensures.err)

-- the next line is printed
pub loop-line-preserved : goal.loop-line-preserved
loop-line-preserved g c =
    let left = c.loop-line.invariant.left in
    let next = yields-some left.pieces left.yields c.in-Some.line c.next.new.self
    c.in-Some.ensures.steps in
    let adds = c.in_ok-push_line.ensures.ok in
    let kept = c.in_ok-push_line.ensures.target in
    record {
      same = c.loop-line.invariant.same ∙ sym kept;
      left = record {
        pieces = next.0;
        yields = next.2;
        few = omega (arith, left.few, ap length next.1);
        prints = λ shown rest. rw kept (left.prints shown (PrintsRest-more _ _ _ _ next.0 next.1
            (c.split_line.ensures ∙ ap line_of c.strip_carriage_return.ensures) _ adds.0 shown
            adds.1 (rw (kept, adds.2) at rest)));
      };
    }

-- no line is left
pub returns-clause-ok : goal.returns-clause-ok
returns-clause-ok g c =
    let left = c.loop-line.invariant.left in
    let none = yields-none left.pieces left.yields c.next.new.self c.in-None.ensures.steps in
    rw (c.into_printed.ensures, c.loop-line.invariant.same)
    (left.prints _ (rw none (Ok [], tt, rw append-nil refl)))
