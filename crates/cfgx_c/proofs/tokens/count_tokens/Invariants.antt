-- The tokens so far are the first ones of the text, and each takes a byte at least.
use Rattle.std.proofs.Common.{◌≡◌, ◌≤◌, List, length}
use Rattle.cfgx_c.specs.declared.tokens.CfgxToken.{CfgxToken}
use Rattle.cfgx_c.proofs.TokenLemmas.{Reads}
use Rattle.cfgx_c.proofs.tokens.count_tokens.Given as goal

abbrev pub invariant-loop-lexed : goal.invariant-loop-lexed
invariant-loop-lexed l = (tokens : List CfgxToken)
    × Reads l.stripped.text.now l.stripped.offset tokens l.lexed-iterator
    × (l.count ≡ length tokens) × (l.count ≤ l.lexed-iterator.place)
