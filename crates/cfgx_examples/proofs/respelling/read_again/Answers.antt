-- The bytes that were written are the spelling.
use Rattle.std.proofs.Common.{◌++◌, ◌∙◌, ap, subst, sym}
use Rattle.cfgx_grammar.specs.{WellFormed.IsAlone, Spelling.spelling}
use Rattle.cfg_expr.specs.Predicate.{question_of}
use Rattle.cfgx_examples.proofs.respelling.read_again.Goals as goal

pub read_alone-requires : goal.read_alone-requires
read_alone-requires c =
    let question = question_of c.args.predicate.now in
    subst (λ bytes. IsAlone bytes question)
    (sym (c.in-Ok-from_utf8.ensures.cases.0 ∙ c.as_slice.ensures.value ∙ c.in-Ok.ensures.written
    ∙ ap (λ before. before ++ spelling question) c.new-bytes.ensures.items))
    (c.spell.ensures.alone c.requires)
