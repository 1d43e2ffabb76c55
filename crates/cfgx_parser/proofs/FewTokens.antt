-- Tokens that a lexer yields are the first ones of its text.
use Rattle.std.proofs.Common.{◌≡◌, ℕ, ◌≤◌, List, [], ◌∷◌, ◌++◌, length, map, drop, refl, ◌∙◌, sym}
use Rattle.std.proofs.Common.{◌↔◌, Option, Err, Some, None}
use Rattle.std.proofs.Common.{arith, rules, length-append, ap, ◌+◌, append-nil}
use Rattle.std.proofs.lemmas.List.{append_assoc, length-map, map-append}
use Rattle.cfgx_syntax.specs.Items.{Item, Ending, EndsAs, ItemsFrom, IsBlank, lexical}
use Rattle.cfgx_syntax.specs.Items.{HasOneTokenList}
use Rattle.cfgx_syntax.specs.{LexerState.LexerState, declared.lexer.LexerToken.LexerToken}
use Rattle.cfgx_syntax.specs.declared.error.Failure.{Failure}
use Rattle.cfgx_syntax.specs.declared.error.Failure.TheVariants as failure
use Rattle.cfgx_syntax.specs.Error.{Fault}
use Rattle.cfgx_syntax.specs.Lexer.{GivesItem, GivesFault, item_of, token_of}
use Rattle.cfgx_syntax.specs.declared.lexer.Token.{Token}
use Rattle.cfgx_syntax.proofs.TokenList.{Follows-stands, no_more_items}
use Rattle.cfgx_syntax.specs.LexerState.{starting}
use Rattle.cfgx_grammar.specs.{Grammar.leaf_tokens, Unaskable.IsUnaskable}
use Rattle.cfgx_parser.specs.Unaskable.{AreMany, HasFaultyKey, YieldsFew, tokens_of}

-- a lexer has come to this place and yielded these tokens, and others are left
pub record Reads (lexer now : LexerState) (read : List Token) : Type 0 where
  pub left : (items : List Item) (ending : Ending)
      → ItemsFrom lexer.text lexer.place items ending
      → (rest : List Item) × ItemsFrom now.text now.place rest ending
      × (tokens_of items ≡ map token_of read ++ tokens_of rest)

module _ {lexer now : LexerState} {read : List Token} (reads : Reads lexer now read) where
  pub Reads-token : (found : LexerToken) (next : LexerState) → GivesItem now (item_of found) next
      → Reads lexer next (read ++ found.token ∷ [])
  Reads-token found next gives = record {
    left = λ items ending come.
        let (rest, comes, is) = reads.left items ending come in
        let follows = Follows-stands now.text now.place (item_of found) rest ending gives.stands
        comes in (
          follows.rest,
          rw gives.goes_on follows.come,
          grind (arith, map-append, append_assoc, is, follows.items_are),
        );
  }

  pub Reads-many : (found : LexerToken) (next : LexerState) → GivesItem now (item_of found) next
      → 3 ≤ length read → AreMany lexer
  Reads-many found next gives many items come =
      let (rest, comes, is) = reads.left items Ending.blank come in
      let follows = Follows-stands now.text now.place (item_of found) rest Ending.blank
      gives.stands comes in
      let count : length (tokens_of items) ≡ length read + length rest =
      rw is (rw length-append (rw length-map (rw length-map refl))) in
      omega (
        arith,
        many,
        count,
        length-map items (λ item. item.token),
        ap length follows.items_are,
      )

  lexical_fault : (place : Ending) (fault : Fault) → EndsAs now.text now.place place
      → lexical now.text place ≡ Some fault → AreMany lexer
  lexical_fault place fault ends refused items come =
      let (rest, comes, is) = reads.left items Ending.blank come in
      let none = no_more_items now.text now.place rest Ending.blank place ends comes in
      absurd (let wrong = rw (sym none.1) at refused in cc)

  pub Reads-fault : {A : Type 0} (failure : Failure A) (next : LexerState)
      → GivesFault {A = A} now failure next → YieldsFew {A = A} lexer (Err failure)
  Reads-fault (failure.Memory error) next gives = tt
  Reads-fault (failure.Parse error) next gives =
      lexical_fault gives.ending gives.fault gives.ends gives.refused

  pub Reads-end : IsBlank (drop now.place now.text) → (items : List Item) (ending : Ending)
      → ItemsFrom lexer.text lexer.place items ending
      → (ending ≡ Ending.blank) × (tokens_of items ≡ map token_of read)
  Reads-end blank items ending come =
      let (rest, comes, is) = reads.left items ending come in
      let none = no_more_items now.text now.place rest ending Ending.blank blank comes in
      (none.1, is ∙ rw none.0 (append-nil _))

-- a text of few tokens is unaskable exactly if these have a faulty key
pub IsUnaskable-few : (text : List ℕ) (few : List Token) → HasOneTokenList text
    → ((items : List Item) (ending : Ending) → ItemsFrom text 0 items ending
    → (ending ≡ Ending.blank) × (tokens_of items ≡ map token_of few))
    → HasFaultyKey (map token_of few) ↔ IsUnaskable text
IsUnaskable-few text few one yields = (
  λ (key, value, is, (cause, faulty)). let found = yields one.items one.ending one.are in (
    record {
      key = key;
      value = value;
      items = one.items;
      are_items = rw found.0 at one.are;
      spelled = found.1 ∙ is;
    },
    cause,
    faulty,
  ),
  λ (leaf, cause, faulty). (
    leaf.key,
    leaf.value,
    sym (yields leaf.items Ending.blank leaf.are_items).1 ∙ leaf.spelled,
    (cause, faulty),
  ),
)

leaf_is_short : (key : List ℕ) (value : Option (List ℕ)) → length (leaf_tokens key value) ≤ 3
leaf_is_short key None = search rules
leaf_is_short key (Some value) = search rules

-- a text of many tokens is not
pub IsUnaskable-many : (text : List ℕ) → AreMany (starting text) → IsUnaskable text → ⊥
IsUnaskable-many text many (leaf, cause, faulty) = absurd (omega (
  arith,
  many leaf.items leaf.are_items,
  leaf_is_short leaf.key leaf.value,
  length-map leaf.items (λ item. item.token),
  ap length leaf.spelled,
))
