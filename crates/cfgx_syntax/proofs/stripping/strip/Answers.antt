-- The prefix and the suffix are both found exactly if the text is wrapped.
use Rattle.cfgx_syntax.proofs.Wrapping.{strip-bare, strip-wrapped, strip-prefixed, strip-promises}
use Rattle.cfgx_syntax.proofs.stripping.strip.Goals as goal

pub returns-in_default : goal.returns-in_default
returns-in_default c =
    let bare = strip-bare c.args.text.now c.in_default.ensures.cases in
    let (text, offset, stands) = strip-promises _ _ _ bare in
    record { text = text; offset = offset; stands = stands }

pub returns-in-Some-strip_suffix : goal.returns-in-Some-strip_suffix
returns-in-Some-strip_suffix c =
    let prefixed = c.in-Some.ensures.cases in
    let found = c.in-Some-strip_suffix.ensures.cases in
    let wrapped = strip-wrapped c.args.text.now c.in-Some.inner.now c.in-Some-strip_suffix.kept.now
    (rw (← prefixed.2) at prefixed.1.1) (rw (← found.2) at found.1.1) in
    let (text, offset, stands) = strip-promises _ _ _ wrapped in
    record { text = text; offset = offset; stands = stands }

pub returns-in-None : goal.returns-in-None
returns-in-None c =
    let prefixed = c.in-Some.ensures.cases in
    let bare = strip-prefixed c.args.text.now c.in-Some.inner.now
    (rw (← prefixed.2) at prefixed.1.1) c.in-None.ensures.cases in
    let (text, offset, stands) = strip-promises _ _ _ bare in
    record { text = text; offset = offset; stands = stands }
