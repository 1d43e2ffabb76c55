-- Faults of keys.
use Rattle.std.proofs.Common.{◌≡◌, ◌↔◌, IsTrue, ℕ, List, [], ◌∷◌, Option, Some, None, Err}
use Rattle.std.proofs.Common.{arith, rules, nat_eq, option_map, is_err, Result, Ok, refl, ap, sym}
use Rattle.std.specs.List.{AllByRecursion}
use Rattle.cfgx_syntax.specs.Error.{Cause, Fault}
use Rattle.cfgx_grammar.specs.Classification.{Class, FaultyPart, Rule, by_name, class, key_rules}
use Rattle.cfgx_grammar.specs.LastPredicate.{located_text}
use Rattle.cfgx_grammar.specs.parsing.State.{Pending}
use Rattle.cfgx_parser.specs.parsing.NodeState.{classified, located_class}
use Rattle.cfgx_parser.specs.parsing.Fields.{class_result}
use Rattle.cfgx_parser.specs.declared.nodes.ExprNode.{ExprNode}
use Rattle.cfgx_parser.specs.declared.classification.Fault.{Fault as CodeFault}
use Rattle.cfgx_parser.specs.Unaskable.{IsFaultyKey}

-- a class that has no fault of the value
abbrev SparesValue : Class → Type 0
SparesValue (Class.is leaf) = Unit {0}
SparesValue (Class.faulty cause part) = part ≡ FaultyPart.in_key

spares_by_name : {V : Type 0} (name : List ℕ) (value : V) (otherwise : Class)
    (rules : List (Rule V)) → AllByRecursion (λ rule. SparesValue (rule.read value)) rules
    → SparesValue otherwise → SparesValue (by_name rules name value otherwise)
spares_by_name name value otherwise [] each last = last
spares_by_name name value otherwise (first ∷ rest) each last =
    let others = spares_by_name name value otherwise rest each.1 last in grind arith

-- a key without a value has no fault of the value
spares_value : (key : List ℕ) → SparesValue (class key None)
unfolding class
spares_value key = spares_by_name key None _ key_rules (search rules) (grind arith)

-- a key at 0, and its value at 1
abbrev pub placed : List ℕ → Option (List ℕ) → Pending
placed key value = record {
  key = located_text key 0 0;
  value = option_map (λ text. located_text text 1 1) value;
}

-- a fault at 0 is that of the key
fault_at_key : (found : Class) (key value : List ℕ) (fault : Fault)
    → located_class (placed key (Some value)) found ≡ Err fault
    → IsTrue (nat_eq fault.start 0)
    ↔ ((cause : Cause) × (found ≡ Class.faulty cause FaultyPart.in_key))
fault_at_key (Class.is leaf) key value fault is = absurd (cc is)
fault_at_key (Class.faulty cause FaultyPart.in_key) key value fault is =
    (λ _. (cause, refl), λ _. grind (arith, is))
fault_at_key (Class.faulty cause FaultyPart.in_value) key value fault is =
    (λ zero. absurd (grind (arith, is, zero)), λ (_, wrong). absurd (cc wrong))

-- without a value every fault is that of the key
fault_of_key : (found : Class) (key : List ℕ) (fault : Fault) → SparesValue found
    → located_class (placed key None) found ≡ Err fault
    → (cause : Cause) × (found ≡ Class.faulty cause FaultyPart.in_key)
fault_of_key (Class.is leaf) key fault spares is = absurd (cc is)
fault_of_key (Class.faulty cause part) key fault spares is =
    (cause, ap (Class.faulty cause) spares)

pub IsFaultyKey-bare : (key : List ℕ) (result : Result ExprNode CodeFault)
    → class_result result ≡ classified (placed key None)
    → IsTrue (is_err result) ↔ IsFaultyKey key None
IsFaultyKey-bare key (Ok leaf) is =
    (λ wrong. absurd (cc wrong), λ (cause, faulty). absurd (cc (is, faulty)))
IsFaultyKey-bare key (Err fault) is =
    (λ _. fault_of_key (class key None) key _ (spares_value key) (sym is), λ _. refl)

pub IsFaultyKey-valued : (key value : List ℕ) (fault : Fault)
    → Err fault ≡ classified (placed key (Some value))
    → IsTrue (nat_eq fault.start 0) ↔ IsFaultyKey key (Some value)
IsFaultyKey-valued key value fault is =
    fault_at_key (class key (Some value)) key value fault (sym is)
