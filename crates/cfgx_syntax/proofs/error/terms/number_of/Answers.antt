use Rattle.std.proofs.Common.{◌+◌, ◌∙◌, ap, sym}
use Rattle.std.specs.Option.{option_map_or}
use Rattle.cfgx_syntax.proofs.error.terms.number_of.Goals as goal

pub returns-in-Some : goal.returns-in-Some
returns-in-Some c =
    ap (λ found. option_map_or (λ place. place + 1) found 0) (sym c.in-Some.is ∙ c.place_in.ensures)

pub returns-in-None : goal.returns-in-None
returns-in-None c =
    ap (λ found. option_map_or (λ place. place + 1) found 0) (sym c.in-None.is ∙ c.place_in.ensures)
