-- The result for the rest of a text is that for the whole, one token after another.
use Rattle.std.proofs.Common.{arith, ◌≡◌, ℕ, List, Option, Some, None, Result}
use Rattle.cfgx_syntax.specs.{Error.Fault, Token.Token}
use Rattle.cfgx_syntax.specs.Items.{Item, Ending, Stands, EndsAs, ItemsFrom, lexical}
use Rattle.cfgx_syntax.proofs.TokenList.{Follows-stands, no_more_items}
use Rattle.cfgx_grammar.specs.parsing.State.{Builder, State}
use Rattle.cfgx_grammar.specs.parsing.Step.{and_then, step, step_each, ended_as, answer_from}

-- the result from one place and state on is that from another place and state on, after the last
-- token
pub record Continues {W M L : Type 0} {builder : Builder W M L} (text : List ℕ) (from : ℕ)
    (s : State builder) (place : ℕ) (last : Option Token) (t : State builder) : Type 0 where
  pub rest_of : (items : List Item) (ending : Ending) → ItemsFrom text from items ending
      → (rest : List Item) × ItemsFrom text place rest ending
      × (answer_from None s text items ending ≡ answer_from last t text rest ending)

module _ {W M L : Type 0} {builder : Builder W M L} {text : List ℕ} {from place : ℕ}
    {s t : State builder} {last : Option Token} (c : Continues text from s place last t) where
  -- the result at the next token is what the step of it leads to
  pub Continues-token : (item : Item) (r : Result (State builder) Fault)
      → Stands text place item → step last t item ≡ r
      → (items : List Item) (ending : Ending) → ItemsFrom text from items ending
      → (rest : List Item) × ItemsFrom text item.end rest ending
      × (answer_from None s text items ending ≡ and_then (ended_as text (lexical text ending))
      (and_then (λ u. step_each (Some item.token) u rest) r))
  Continues-token item r stands steps items ending come =
      let so_far = c.rest_of items ending come in
      let f = Follows-stands text place item so_far.0 ending stands so_far.1 in grind arith

  -- no token is left
  pub Continues-ended : (end : Ending) → EndsAs text place end
      → (items : List Item) (ending : Ending) → ItemsFrom text from items ending
      → answer_from None s text items ending ≡ ended_as text (lexical text end) (last, t)
  Continues-ended end ends items ending come = grind (arith, no_more_items)
