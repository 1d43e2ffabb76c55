use Rattle.std.proofs.Common.{arith, length, refl, rules}
use Rattle.cfgx_engine.specs.declared.resolve.named.NamedPredicate.{NamedPredicate}
use Rattle.cfgx_engine.proofs.NamedLemmas.{codes_at-push}
use Rattle.cfgx_engine.proofs.resolve.named.NamedPredicates.push.Goals as goal

pub returns : goal.returns
returns g c =
    let texts = c.asked_texts-kind.result in
    let named : NamedPredicate = record {
      kind = texts.kind;
      number = texts.number;
      start = c.len-start.result;
      key_len = length texts.key.now;
      value_len = length texts.value.now;
    } in
    rw (
      ← c.self.view_is,
      ← c.asked_texts-kind.ensures,
      c.in_ok-push.ensures.items,
      c.in_ok-extend_from_slice-2.ensures.items,
      c.in_ok-extend_from_slice.ensures.items,
    )
    (codes_at-push c.self.inside.buffer.items texts.key.now texts.value.now
    c.self.inside.named.items named (search (rules, arith)) refl refl
    c.self.invariant)
