-- The tests of causes and of faults are equivalences, since the tests of their parts are.
use Rattle.std.specs.Cmp.{IsEquivalence, and_equiv, nat_eq_equiv, on_equiv}
use Rattle.std.specs.Cmp.Lexicographic.{lists_equiv, nat_list_eq_equiv, on_texts_equal}
use Rattle.cfgx_syntax.specs.Error.{cause_eq, cause_members, cause_number, cause_terms, fault_eq}

pub cause_eq-equiv : IsEquivalence cause_eq
cause_eq-equiv =
    and_equiv (on_equiv cause_number nat_eq_equiv)
    (and_equiv (on_equiv cause_members nat_eq_equiv)
    (on_equiv cause_terms (lists_equiv nat_list_eq_equiv)))

pub fault_eq-equiv : IsEquivalence fault_eq
fault_eq-equiv =
    and_equiv (on_texts_equal (λ f. f.original))
    (and_equiv
    (and_equiv (on_equiv (λ f. f.start) nat_eq_equiv) (on_equiv (λ f. f.end) nat_eq_equiv))
    (on_equiv (λ f. f.cause) cause_eq-equiv))
