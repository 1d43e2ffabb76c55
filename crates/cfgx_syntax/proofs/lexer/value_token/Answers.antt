-- A value ends at the next quote. Without one it is unclosed.
use Rattle.std.proofs.Common.{◌≡◌, ℕ, ◌<◌, List, ◌∷◌, length, drop, get_or, refl, inr, arith}
use Rattle.std.proofs.lemmas.{List.drop_more, Str.IsCharBoundary-after_ascii}
use Rattle.std.proofs.{lemmas.Str.IsCharBoundary-before_ascii, Math.Nat.sub-zero}
use Rattle.cfgx_syntax.proofs.Values.{BeginsWith-first, HasNoQuote-from}
use Rattle.cfgx_syntax.proofs.lexer.value_token.Goals as goal

-- the text is a quote and what the code cuts off after it
after_quote : (text rest : List ℕ) → 0 < length text → get_or text 0 0 ≡ 34 → rest ≡ drop 1 text
    → text ≡ 34 ∷ rest
after_quote text rest some first is = rw (first, ← is) at (drop_more text 0 0 some)

pub range_from-rest-requires : goal.range_from-rest-requires
range_from-rest-requires c = λ _.
    IsCharBoundary-after_ascii c.args.text.now 0 c.utf8.text c.requires.some (omega arith)

pub range-requires-clause-end_boundary : goal.range-requires-clause-end_boundary
range-requires-clause-end_boundary c =
    let found = rw c.in-Some.is at c.quote_in.ensures in
    IsCharBoundary-before_ascii c.range_from-rest.result.now c.in-Some.len found.0
    (omega (arith, found.1))

pub returns-in-Some : goal.returns-in-Some
returns-in-Some c =
    let whole = after_quote c.args.text.now _ c.requires.some c.requires.quote
    c.range_from-rest.ensures.value in
    rw (c.range.ensures.value, sub-zero) (BeginsWith-first c.args.text.now
    c.range_from-rest.result.now c.in-Some.len c.utf8.text whole
    (rw c.in-Some.is at c.quote_in.ensures))

pub returns-in-None : goal.returns-in-None
returns-in-None c =
    let rest = c.range_from-rest.result.now in
    let whole =
    after_quote c.args.text.now rest c.requires.some c.requires.quote
    c.range_from-rest.ensures.value in
    inr (record {
      unclosed = (rest, whole, HasNoQuote-from rest c.in-None.ensures);
      why = refl;
      all = refl;
    })
