-- The text has one tree, so it has no fault.
use Rattle.cfg_expr.specs.Predicate.{question_of}
use Rattle.cfgx_examples.proofs.Respelt.{read-alone}
use Rattle.cfgx_examples.proofs.respelling.read_alone.Goals as goal

pub returns : goal.returns
returns c =
    read-alone c.args.text.now (question_of c.args.predicate.now) c.parse.result c.requires
    c.parse.ensures
