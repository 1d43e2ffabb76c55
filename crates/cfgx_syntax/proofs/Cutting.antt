-- Where the text of a token can be cut out.
use Rattle.std.proofs.lemmas.Grind.{common_steps}
use Rattle.std.proofs.Common.{ℕ, ◌+◌, ◌<◌, ◌≤◌, List, length, drop, arith}
use Rattle.cfgx_syntax.specs.{Cut.CanBeCut, Token.Token}

module _ (text : List ℕ) (place : ℕ) (within : place ≤ length text) where
  -- a token that the rest of a text begins with can be cut out of the text
  pub CanBeCut-from_rest : (token : Token) (len : ℕ) → 0 < len
      → CanBeCut (drop place text) token 0 len → CanBeCut text token place (place + len)
  CanBeCut-from_rest token len some cut = grind (arith, common_steps)
