-- One token more, and in the end all.
use Rattle.std.proofs.Common.{◌≡◌, None, Option, Some, arith}
use Rattle.std.proofs.lemmas.Grind.{common_steps}
use Rattle.cfgx_c.proofs.TokenLemmas.{Writes-all, Writes-next, Writes-start, Writes-token}
use Rattle.cfgx_c.proofs.tokens.write_tokens.Goals as goal
use Rattle.cfgx_c.proofs.tokens.write_tokens.Goals.{in_default-via-in-Some+in_default}
use Rattle.cfgx_c.proofs.tokens.write_tokens.Goals.{in_default-via-in_default}

-- nothing is yielded, or something
not_both : {T : Type 0} {given : Option T} {x : T} → given ≡ None → given ≡ Some x → ⊥
not_both none some = cc

pub loop-i-init : goal.loop-i-init
loop-i-init c = rw c.of_stripped-lexer.ensures.starts
    (Writes-start c.args.stripped.text.now c.args.stripped.offset c.args.buffer.now
    c.requires.counted)

pub unreachable-requires : goal.unreachable-requires
unreachable-requires c =
    let found = Writes-next c.loop-i.invariant c.loop-i-test.true c.next.result c.next.new.self
    c.next.ensures.steps in
    elim c.in_default.branch [
      | in_default-via-in-Some+in_default w ↦
          absurd (let is = found.1 in grind (arith, common_steps))
      | in_default-via-in_default w ↦ absurd (not_both w.in_default.is found.1)
    ]

pub loop-i-preserved : goal.loop-i-preserved
loop-i-preserved c =
    let gives = rw c.in-Some-Ok.field-0-is at c.in-Some-Ok.ensures.steps in
    rw c.c_token.ensures (Writes-token c.loop-i.invariant
    c.loop-i-test.true c.in-Some-Ok.lexed c.next.new.self gives)

pub returns : goal.returns
returns c = Writes-all c.loop-i.invariant
    (omega (arith, c.loop-i-test.false, c.loop-i.auto.i-end))
