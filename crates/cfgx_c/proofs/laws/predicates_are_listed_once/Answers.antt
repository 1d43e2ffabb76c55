use Rattle.std.proofs.Common.{◌∙◌, ap, map, sym}
use Rattle.cfgx_syntax.specs.Stripping.{strip, strip_offset}
use Rattle.cfg_expr.proofs.LocatedOnce.{located_once}
use Rattle.cfgx_c.specs.Predicates.{c_predicate}
use Rattle.cfgx_c.proofs.laws.predicates_are_listed_once.Goals as goal

pub returns : goal.returns
returns c text list others this that =
    let same = located_once (strip text) this.located that.located this.are_located
    that.are_located in
    this.listed ∙ ap (map (c_predicate (strip_offset text))) same ∙ sym that.listed
