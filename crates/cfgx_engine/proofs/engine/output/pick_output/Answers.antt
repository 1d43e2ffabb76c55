use Rattle.std.proofs.Common.{◌∙◌, refl, sym}
use Rattle.cfgx_engine.specs.{internal.Shows.output_view, Output.answer_on, Request.Request}
use Rattle.cfgx_engine.proofs.PickLemmas.{PicksInput-read, PrintsInput-any, ReadsFront-read}
use Rattle.cfgx_engine.proofs.RowLemmas.{answer_on-same, builtin-same}
use Rattle.cfgx_engine.proofs.engine.output.pick_output.Goals as goal

-- there is no such target
pub returns-in_default-clause-right : goal.returns-in_default-clause-right
returns-in_default-clause-right g c =
    PrintsInput-any (Request.pick c.args.triple.now) _ _ refl (λ input.
    rw (builtin-same _ _ (sym c.in_default.is ∙ c.in_ok-target.ensures)) c.constant.ensures)

-- the row that was found is the built-in one, so the request reads its input
pub returns-in_err-input-clause-others : goal.returns-in_err-input-clause-others
returns-in_err-input-clause-others g c =
    λ none. absurd (none (rw (builtin-same _ _ (sym c.in-Some.is ∙ c.in_ok-target.ensures))))

pub returns-in_err-input_output-clause-others : goal.returns-in_err-input_output-clause-others
returns-in_err-input_output-clause-others g c =
    λ none. absurd (none (rw (builtin-same _ _ (sym c.in-Some.is ∙ c.in_ok-target.ensures))))

pub returns-in_err-input_output-clause-front : goal.returns-in_err-input_output-clause-front
returns-in_err-input_output-clause-front g c =
    ReadsFront-read {A = g.row.A.Denot} _ _ c.in_ok-input.input c.in_ok-input.ensures.bytes

pub returns-clause-right : goal.returns-clause-right
returns-clause-right g c =
    let answer = answer_on {A = g.row.A.Denot} c.in-Some.target in
    rw (
      builtin-same _ _ (sym c.in-Some.is ∙ c.in_ok-target.ensures),
      ← answer_on-same {A = g.row.A.Denot} c.in-Some.target,
    ) (PicksInput-read {A = g.row.A.Denot} answer _ _
    (output_view c.in_ok-input_output.field-0) c.in_ok-input.input c.in_ok-input.ensures.bytes
    c.in_ok-input_output.ensures)

pub returns-clause-others : goal.returns-clause-others
returns-clause-others g c =
    λ none. absurd (none (rw (builtin-same _ _ (sym c.in-Some.is ∙ c.in_ok-target.ensures))))

pub returns-clause-front : goal.returns-clause-front
returns-clause-front g c =
    ReadsFront-read {A = g.row.A.Denot} _ _ c.in_ok-input.input c.in_ok-input.ensures.bytes
