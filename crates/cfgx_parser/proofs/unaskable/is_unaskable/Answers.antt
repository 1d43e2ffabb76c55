use Rattle.cfgx_syntax.specs.Stripping.{strip}
use Rattle.cfgx_parser.proofs.FewTokens.{IsUnaskable-few, IsUnaskable-many}
use Rattle.cfgx_parser.proofs.unaskable.is_unaskable.Goals as goal

pub returns-in-Ok-Some : goal.returns-in-Ok-Some
returns-in-Ok-Some g c =
    let yields = rw (c.in-Ok-Some.field-0-is, c.new.ensures.starts) at c.in-Ok-Some.ensures in
    let says = IsUnaskable-few (strip c.args.text.now) c.in-Ok-Some.tokens.items c.new.ensures.one
    yields in
    let has = rw c.deref.ensures.value at c.has_faulty_key.ensures in
    (λ is. says.0 (has.0 is), λ is. has.1 (says.1 is))

pub returns-in-Ok-None : goal.returns-in-Ok-None
returns-in-Ok-None g c =
    let many = rw (c.in-Ok-None.field-0-is, c.new.ensures.starts) at c.in-Ok-None.ensures in
    (λ wrong. absurd (cc wrong), λ is. absurd (IsUnaskable-many _ many is))

pub returns-in-Err-Parse : goal.returns-in-Err-Parse
returns-in-Err-Parse g c =
    let many = rw (c.in-Err-Parse.field-0-is, c.new.ensures.starts) at c.in-Err-Parse.ensures in
    (λ wrong. absurd (cc wrong), λ is. absurd (IsUnaskable-many _ many is))
