use Rattle.std.proofs.Common.{◌≡◌, ◌≢◌, ℕ, ◌-◌, ◌+◌, ◌==◌, List, [], ◌∷◌, ◌++◌, length, take}
use Rattle.std.proofs.Common.{slice_index, refl, ap, sym, ◌∙◌, arith, eqb-true}
use Rattle.std.{proofs.lemmas.Bool.false_from_ne_true, specs.Str.Lines.strip_carriage_return}
use Rattle.std.proofs.lemmas.List.{take_all, take_more}
use Rattle.cfgx_engine.proofs.engine.sections.strip_carriage_return.Goals as goal

-- a text without a carriage return at its end stays the same
keep-return : (text : List ℕ) → ((front : List ℕ) → text ≢ front ++ 13 ∷ [])
    → strip_carriage_return text ≡ text
keep-return [] lacks = refl
keep-return (byte ∷ rest) lacks =
    let text = byte ∷ rest in
    let last = length text - 1 in
    rw (false_from_ne_true (slice_index text last == 13) (λ is. lacks (take last text)
    (sym (take_all (last + 1) text (omega arith)) ∙ take_more text last 0 (omega arith)
    ∙ ap (λ (b : ℕ). take last text ++ b ∷ []) (eqb-true _ _ is))))

pub returns-in-None : goal.returns-in-None
returns-in-None c = sym (keep-return c.args.line.now c.in-None.ensures.cases)
