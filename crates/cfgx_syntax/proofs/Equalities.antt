-- The tests of causes, faults and failures decide whether two of them are the same.
use Rattle.std.proofs.Common.{arith, ◌≡◌, ℕ, Bool, ◌&&◌, List, [], ◌∷◌, Bor, map, nat_eq, refl, ap}
use Rattle.std.specs.{Bool.Decides, Cmp.unsigned_Decides}
use Rattle.std.specs.{Prelude.Option, Option.option_eq}
use Rattle.std.specs.Cmp.Lexicographic.{pointwise, pointwise_decides, bytes_decides}
use Rattle.std.specs.Prelude.{◌↔◌, IsTrue, Some}
use Rattle.cfgx_syntax.specs.Error.{Cause, TextFault, cause_eq, failure_of, fault_eq, fault_of}
use Rattle.cfgx_syntax.specs.Error.{texts_eq}
use Rattle.cfgx_syntax.specs.declared.error.{Failure.Failure, ParseError.ParseError}
use Rattle.cfgx_syntax.specs.declared.error.Failure.TheVariants.{Parse}

pub texts-decide : (one other : List (List ℕ)) → Decides (texts_eq one other) (one ≡ other)
texts-decide = pointwise_decides bytes_decides

pub cause_eq-Decides : (one other : Cause) → Decides (cause_eq one other) (one ≡ other)
cause_eq-Decides one other = grind (arith, texts-decide)

-- faults are the same exactly if the tests of all parts are true
parts-decide : (one other : TextFault) {original start end cause : Bool}
    → Decides original (one.original ≡ other.original) → Decides start (one.start ≡ other.start)
    → Decides end (one.end ≡ other.end) → Decides cause (one.cause ≡ other.cause)
    → Decides (original && ((start && end) && cause)) (one ≡ other)
parts-decide one other a b c d = grind arith

pub fault_eq-Decides : (one other : TextFault) → Decides (fault_eq one other) (one ≡ other)
fault_eq-Decides one other =
    parts-decide one other (bytes_decides _ _) (unsigned_Decides _ _) (unsigned_Decides _ _)
    (cause_eq-Decides one.cause other.cause)

pub failure_eq-Decides : (one other : Option TextFault)
    → Decides (option_eq fault_eq one other) (one ≡ other)
failure_eq-Decides one other = grind (arith, fault_eq-Decides)

-- texts behind references are compared by their bytes
pub pointwise-now : (one other : List (Bor (List ℕ)))
    → pointwise (λ x y. pointwise nat_eq x.now y.now) one other
    ≡ texts_eq (map (λ t. t.now) one) (map (λ t. t.now) other)
pointwise-now [] [] = refl
pointwise-now [] (y ∷ ys) = refl
pointwise-now (x ∷ xs) [] = refl
pointwise-now (x ∷ xs) (y ∷ ys) = rw (pointwise-now xs ys) refl

-- two failures with faults are equal exactly if the faults are
pub failures-parse : {A : Type 0} (x y : Failure A) (one other : ParseError A) (result : Bool)
    → x ≡ Parse one → y ≡ Parse other → (IsTrue result ↔ (fault_of one ≡ fault_of other))
    → IsTrue result ↔ (failure_of x ≡ failure_of y)
failures-parse x y one other result p q tells =
    rw (p, q) (λ t. ap Some (tells.0 t), λ e. tells.1 cc)

pub ruleset texts = (pointwise-now, texts-decide)

pub ruleset equalities = (cause_eq-Decides, fault_eq-Decides, failure_eq-Decides)
