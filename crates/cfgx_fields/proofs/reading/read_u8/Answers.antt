use Rattle.std.proofs.Common.{◌∙◌}
use Rattle.cfgx_fields.proofs.NumberLemmas.{result_ok-parse}
use Rattle.cfgx_fields.proofs.reading.read_u8.Goals as goal

pub returns : goal.returns
returns c = c.ok.ensures.value ∙ result_ok-parse 8 c.args.text.now _ c.parse.ensures.value.0
