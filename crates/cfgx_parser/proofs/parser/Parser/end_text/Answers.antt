-- No function is open, so the innermost list is the root.
use Rattle.std.proofs.Common.{◌≡◌, false, List, [], ◌∷◌, length, sym, refl, ap, ◌∙◌, arith}
use Rattle.std.proofs.{Math.Dec.ltb, lemmas.Bool.ltb-false, lemmas.Grind.common_steps}
use Rattle.cfgx_parser.specs.declared.parser.OpenFunc.{OpenFunc}
use Rattle.cfgx_grammar.specs.parsing.Step.{one_root}
use Rattle.cfgx_parser.specs.parsing.Parser.{concluded, state_of}
use Rattle.cfgx_parser.proofs.NeededRoom.{concluded-root, room-predicate_ended, Gives-later}
use Rattle.cfgx_parser.proofs.parser.Parser.end_text.Goals as goal

none : (functions seen : List OpenFunc) → seen ≡ functions → false ≡ ltb 0 (length seen)
    → functions ≡ []
none [] seen is few = refl
none (top ∷ rest) seen is few = absurd (omega (arith, ap length is, ltb-false _ _ (sym few)))

pub end_roots-requires : goal.end_roots-requires
end_roots-requires g c =
    c.in_ok-end_predicate.ensures.functions
    ∙ none c.args.self.now.func_stack.items _ c.deref.ensures c.in_default.ensures.item.0

pub returns : goal.returns
returns g c =
    let closed = none c.args.self.now.func_stack.items _ c.deref.ensures c.in_default.ensures.item.0
    in
    let ended = c.in_ok-end_predicate.ensures.answer in
    let from = state_of {A = g.row.A.Denot} c.args.self.now in
    let between = state_of {A = g.row.A.Denot} c.end_predicate.new.self in
    Gives-later {A = g.row.A.Denot} c.end_roots.result c.args.self.now c.end_predicate.new.self
    c.end_roots.new.self (concluded from c.args.len) (one_root c.args.len between)
    (omega (arith, room-predicate_ended from between ended))
    (concluded-root from between c.args.len (rw closed refl) ended) c.end_roots.ensures

pub returns-in-Some : goal.returns-in-Some
returns-in-Some g c = grind (arith, common_steps)

pub returns-in_err-end_predicate : goal.returns-in_err-end_predicate
returns-in_err-end_predicate g c = grind (arith, common_steps)
