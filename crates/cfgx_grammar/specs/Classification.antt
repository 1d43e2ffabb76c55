-- What a key and its value say. The tables are those of the crate cfg-expr, for the keys that the
-- Rust Reference lists under conditional compilation. The Reference's literals come first.
use Rattle.std.specs.Prelude.{ℕ, true, false, List, [], ◌∷◌, ◌^◌, codes, drop, nat_eq, Option, Some}
use Rattle.std.specs.Prelude.{None, if◌then◌else◌}
use Rattle.std.specs.{Str.bytes_eq, List.starts_with}
use Rattle.cfgx_syntax.specs.Error.{Cause, unexpected, invalid_integer, invalid_has_atomic}
use Rattle.cfgx_syntax.specs.Terms.{target_keys}
use Rattle.cfgx_fields.specs.{Endian.endian_named, HasAtomic.atomic_named, Number.read_below}
use Rattle.cfgx_fields.specs.declared.text_key.TextKey.{TextKey}
use Rattle.cfgx_fields.specs.declared.text_key.TextKey.TheVariants as key
use Rattle.cfgx_grammar.specs.Question.{Leaf, Question, TargetQuestion}

-- which part of a predicate is at fault
pub data FaultyPart : Type 0 where
  in_key : FaultyPart
  in_value : FaultyPart

-- what a key and its value say: a predicate or a literal; or why they are neither, and which part
-- is at fault
pub data Class : Type 0 where
  is : Leaf → Class
  faulty : Cause → FaultyPart → Class

abbrev pub predicate : Question → Class
predicate question = Class.is (Leaf.predicate question)

-- a key that takes no value
abbrev pub bare : Leaf → Option (List ℕ) → Class
bare leaf None = Class.is leaf
bare leaf (Some value) = Class.faulty (unexpected []) FaultyPart.in_value

-- a key that needs a value; without one, `missing` was expected
abbrev pub valued : (List ℕ → Class) → List ℕ → Option (List ℕ) → Class
valued with missing None = Class.faulty (unexpected (missing ∷ [])) FaultyPart.in_key
valued with missing (Some value) = with value

-- a value that was read, or a fault of the value
abbrev pub if_read : {X : Type 0} → (X → TargetQuestion) → Cause → Option X → Class
if_read ask cause None = Class.faulty cause FaultyPart.in_value
if_read ask cause (Some x) = predicate (Question.target (ask x))

abbrev pub target_feature : List ℕ → Class
target_feature [] = Class.faulty (unexpected (codes "<feature>" ∷ [])) FaultyPart.in_value
target_feature (byte ∷ bytes) = predicate (Question.target_feature (byte ∷ bytes))

-- the text that the target has for the key is asked for
abbrev pub asks_for : TextKey → List ℕ → Class
asks_for key value = predicate (Question.target (TargetQuestion.text key value))

-- a rule of a table: a name, and what a value says with it
pub record Rule (Value : Type 0) : Type 0 where
  pub name : List ℕ
  pub read : Value → Class

abbrev pub rule : {Value : Type 0} → List ℕ → (Value → Class) → Rule Value
rule name read = record { name = name; read = read }

-- what the value says by the first rule of that name, or `otherwise` if no rule has the name
abbrev pub by_name : {Value : Type 0} → List (Rule Value) → List ℕ → Value → Class → Class
by_name [] name value otherwise = otherwise
by_name (first ∷ rest) name value otherwise = if bytes_eq name first.name then first.read value
    else by_name rest name value otherwise

-- the rules of keys that begin with `target_`, by the rest of the key
abbrev pub target_rules : List (Rule (List ℕ))
target_rules = rule (codes "abi") (asks_for key.Abi)
    ∷ rule (codes "arch") (asks_for key.Arch)
    ∷ rule (codes "os") (asks_for key.Os)
    ∷ rule (codes "family") (asks_for key.Family)
    ∷ rule (codes "env") (asks_for key.Env)
    ∷ rule (codes "vendor") (asks_for key.Vendor)
    ∷ rule (codes "feature") target_feature
    ∷ rule (codes "endian") (λ value. if_read TargetQuestion.endian invalid_integer
    (endian_named value))
    ∷ rule (codes "has_atomic") (λ value. if_read TargetQuestion.has_atomic invalid_has_atomic
    (atomic_named value))
    ∷ rule (codes "pointer_width") (λ value. if_read TargetQuestion.pointer_width invalid_integer
    (read_below (2 ^ 8) value))
    ∷ []

abbrev pub target_class : List ℕ → List ℕ → Class
target_class name value = by_name target_rules name value
    (Class.faulty (unexpected target_keys) FaultyPart.in_key)

abbrev pub family : List ℕ → Leaf
family name = Leaf.predicate (Question.target (TargetQuestion.text key.Family name))

-- the rules of the other keys
abbrev pub key_rules : List (Rule (Option (List ℕ)))
key_rules = rule (codes "true") (bare (Leaf.literal true))
    ∷ rule (codes "false") (bare (Leaf.literal false))
    ∷ rule (codes "unix") (bare (family (codes "unix")))
    ∷ rule (codes "windows") (bare (family (codes "windows")))
    ∷ rule (codes "test") (bare (Leaf.predicate Question.test))
    ∷ rule (codes "debug_assertions") (bare (Leaf.predicate Question.debug_assertions))
    ∷ rule (codes "proc_macro") (bare (Leaf.predicate Question.proc_macro))
    ∷ rule (codes "feature") (valued (λ value. predicate (Question.feature value))
    (codes "= \"<feature_name>\""))
    ∷ rule (codes "panic") (valued (asks_for key.Panic)
    (codes "= \"<panic_strategy>\""))
    ∷ []

-- a key without a meaning of its own
abbrev pub plain : List ℕ → Option (List ℕ) → Class
plain key None = predicate (Question.flag key)
plain key (Some value) = predicate (Question.key_value key value)

-- a key that begins with `target_`, which needs a value
abbrev pub target_key : List ℕ → Option (List ℕ) → Class
target_key key value = valued (target_class (drop 7 key)) (codes "= \"<target_cfg_value>\"") value

-- a key that has no rule
abbrev pub other_class : List ℕ → Option (List ℕ) → Class
other_class key value =
    if starts_with nat_eq key (codes "target_") then target_key key value else plain key value

unfoldable pub class : List ℕ → Option (List ℕ) → Class
class key value = by_name key_rules key value (other_class key value)
