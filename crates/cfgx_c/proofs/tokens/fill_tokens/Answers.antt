-- The tokens that were written are those that were counted.
use Rattle.std.proofs.Common.{arith}
use Rattle.std.proofs.lemmas.Grind.{common_steps}
use Rattle.cfgx_c.proofs.TokenLemmas.{same_tokens}
use Rattle.cfgx_c.proofs.tokens.fill_tokens.Goals as goal
use Rattle.cfgx_c.proofs.tokens.fill_tokens.Goals.{else-count-buffer, then-count-buffer}

pub returns-clause-ok : goal.returns-clause-ok
returns-clause-ok c =
    let (tokens, has, counted) = c.in_ok-count.ensures.ok in (
      tokens,
      has,
      (
        counted,
        elim c.if-count-buffer.branch [
          | then-count-buffer w ↦
              let same = same_tokens c.args.stripped.text.now c.args.stripped.offset tokens _
              c.in_ok-count.error has w.write_tokens.ensures in
              let is = w.buffer-is in grind (arith, common_steps)
          | else-count-buffer w ↦ let is = w.buffer-is in grind (arith, common_steps)
        ],
      ),
    )
