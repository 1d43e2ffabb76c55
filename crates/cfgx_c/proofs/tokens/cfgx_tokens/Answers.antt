-- The buffer was filled with the tokens, and the status says how they end.
use Rattle.std.proofs.Common.{◌≡◌, None, Some, arith, refl, rules}
use Rattle.cfgx_c.specs.Faults.{no_fault}
use Rattle.cfgx_c.proofs.ReadLemmas.{stripped_fits}
use Rattle.cfgx_c.proofs.TokenLemmas.{ListsTokens-read}
use Rattle.cfgx_c.proofs.tokens.cfgx_tokens.Goals as goal

-- the spans of tokens fit in a number
pub fill_tokens-requires : goal.fill_tokens-requires
fill_tokens-requires c =
    let stripped = c.in-Ok.ensures.ok.0 in
    rw (stripped.text_is, stripped.offset_is) (omega (arith, stripped_fits c.args.text.now))

-- there is no lexical fault
pub returns-in_default-error-clause-lists : goal.returns-in_default-error-clause-lists
returns-in_default-error-clause-lists c few =
    let none : c.default.result ≡ no_fault = search rules in
    let stripped = c.in-Ok.ensures.ok.0 in
    let found = rw (stripped.text_is, stripped.offset_is, c.in_default-error.is) at
    c.in-Ok-fill_tokens.ensures.ok in
    rw none (ListsTokens-read c.args.text.now found.0 c.args.tokens.now c.fill_tokens.new.buffer
    _ _ _ None found.2 found.1 (refl, refl))

-- there is one
pub returns-clause-lists : goal.returns-clause-lists
returns-clause-lists c few =
    let stripped = c.in-Ok.ensures.ok.0 in
    let found = rw (stripped.text_is, stripped.offset_is, c.in-Some.is) at
    c.in-Ok-fill_tokens.ensures.ok in
    rw (c.of.ensures, stripped.offset_is)
    (ListsTokens-read c.args.text.now found.0 c.args.tokens.now c.fill_tokens.new.buffer
    _ _ _ (Some c.in-Some.error) found.2 found.1 (refl, refl))
