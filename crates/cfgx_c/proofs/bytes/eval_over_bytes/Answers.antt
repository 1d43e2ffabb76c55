-- The answers come one after another from the bytes.
use Rattle.std.proofs.Common.{◌∙◌, List, Option, rules, map}
use Rattle.std.proofs.lemmas.Iterator.{YieldsList, YieldsList-from_map, YieldsList-from_slice}
use Rattle.std.proofs.lemmas.Iterator.Consumers.{YieldsList-at}
use Rattle.std.proofs.lemmas.List.{length-map}
use Rattle.std.proofs.lemmas.Result.{IfOk-weaker}
use Rattle.std.specs.Iterator.{AlwaysYields}
use Rattle.cfgx_c.specs.Value.{answer_of}
use Rattle.cfgx_c.proofs.bytes.eval_over_bytes.Goals as goal

runs_of : {S A B : Type 0} {steps : S → Option A → S → Type 0} {v : A → B} {s : S} {ys : List B}
    → YieldsList steps v s ys → AlwaysYields steps v s ys
runs_of yields = yields.runs

pub eval_over-requires-clause-given : goal.eval_over-requires-clause-given
eval_over-requires-clause-given c =
    let bytes = c.args.answers.now in (
      map answer_of bytes,
      runs_of (YieldsList-from_map _ answer_of
          (YieldsList-at c.map.ensures.source (YieldsList-from_slice bytes c.iter.ensures.rest))
          c.map.ensures.closure (λ x r q k. search rules)),
      (c.requires.0, c.requires.1, length-map bytes answer_of ∙ c.requires.2),
    )

pub returns : goal.returns
returns c =
    let bytes = c.args.answers.now in
    IfOk-weaker c.eval_over.result _ _ (λ value found. found (map answer_of bytes)
    (runs_of (YieldsList-from_map _ answer_of
    (YieldsList-at c.map.ensures.source (YieldsList-from_slice bytes c.iter.ensures.rest))
    c.map.ensures.closure (λ x r q k. search rules)))
    (c.requires.0, c.requires.1, length-map bytes answer_of ∙ c.requires.2))
    c.eval_over.ensures.value
