-- Each token of the lexer is the next one of the text, and the error is its lexical fault.
use Rattle.std.proofs.Common.{◌∷◌, ◌++◌, [], arith, refl}
use Rattle.std.proofs.lemmas.List.{length-append}
use Rattle.cfgx_syntax.specs.{Lexer.item_of}
use Rattle.cfgx_c.specs.Tokens.{c_token}
use Rattle.cfgx_c.proofs.TokenLemmas.{HasLexicalFault-next, HasTokens-end, HasTokens-fault}
use Rattle.cfgx_c.proofs.TokenLemmas.{Reads-start, Reads-token, place_rises}
use Rattle.cfgx_c.proofs.tokens.count_tokens.Goals as goal

pub loop-lexed-init : goal.loop-lexed-init
loop-lexed-init c = (
  [],
  rw (c.into_iter-lexed-iterator.ensures.into_iter_gives, c.of_stripped-lexed-items.ensures.starts)
      (Reads-start c.args.stripped.text.now c.args.stripped.offset),
  refl,
  omega arith,
)

pub loop-lexed-preserved : goal.loop-lexed-preserved
loop-lexed-preserved c =
    let (tokens, reads, count, few) = c.loop-lexed.invariant in
    let gives = rw c.in-Ok.is at c.in-Some.ensures.steps in
    let token = c_token c.args.stripped.offset (item_of c.in-Ok.field-0) in (
      tokens ++ token ∷ [],
      Reads-token reads c.in-Ok.field-0 c.next.new.self gives,
      omega (arith, count, length-append tokens (token ∷ [])),
      omega (arith, few, place_rises reads c.in-Ok.field-0 c.next.new.self gives),
    )

pub returns-in-Err-Parse-clause-ok : goal.returns-in-Err-Parse-clause-ok
returns-in-Err-Parse-clause-ok c =
    let (tokens, reads, count, few) = c.loop-lexed.invariant in
    let gives = rw (c.in-Err-Parse.is, c.in-Err-Parse.field-0-is) at c.in-Some.ensures.steps in (
      tokens,
      rw c.in-Err-Parse.error-is
          (HasTokens-fault reads c.in-Err-Parse.error c.next.new.self gives),
      count,
    )

pub returns-in-Err-Memory-clause-err : goal.returns-in-Err-Memory-clause-err
returns-in-Err-Memory-clause-err c =
    let (tokens, reads, count, few) = c.loop-lexed.invariant in
    let gives = rw c.in-Err-Memory.is at c.in-Some.ensures.steps in
    HasLexicalFault-next reads c.in-Err-Memory.field-0 c.next.new.self gives

pub returns-clause-ok : goal.returns-clause-ok
returns-clause-ok c =
    let (tokens, reads, count, few) = c.loop-lexed.invariant in
    (tokens, HasTokens-end reads c.in-None.ensures.steps.0, count)
