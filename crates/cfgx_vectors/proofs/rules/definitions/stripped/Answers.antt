use Rattle.std.proofs.Common.{refl}
use Rattle.cfgx_syntax.specs.Stripping.{strip}
use Rattle.cfgx_vectors.proofs.rules.definitions.stripped.Goals as goal

pub returns : goal.returns
unfolding strip
returns c = record { wrapped = refl; empty = refl; once = refl; with_space = refl; half = refl }
