-- A predicate as it is asked: what it says, without the addresses of its texts. The cases are those
-- of `Predicate` and `TargetPredicate` in the crate cfg-expr, where those with a text of a target
-- are one case with its key.
use Rattle.std.specs.Prelude.{ℕ, Bool, List}
use Rattle.cfgx_fields.specs.{declared.endian.Endian.Endian, declared.atomic.HasAtomic.HasAtomic}
use Rattle.cfgx_fields.specs.declared.text_key.TextKey.{TextKey}

-- what a predicate asks of a target
pub data TargetQuestion : Type 0 where
  text : TextKey → List ℕ → TargetQuestion
  endian : Endian → TargetQuestion
  has_atomic : HasAtomic → TargetQuestion
  pointer_width : ℕ → TargetQuestion

pub data Question : Type 0 where
  target : TargetQuestion → Question
  test : Question
  debug_assertions : Question
  proc_macro : Question
  feature : List ℕ → Question
  target_feature : List ℕ → Question
  flag : List ℕ → Question
  key_value : List ℕ → List ℕ → Question

-- A predicate, or one of the literals `true` and `false` of the Rust Reference's conditional
-- compilation, which ask nothing.
pub data Leaf : Type 0 where
  predicate : Question → Leaf
  literal : Bool → Leaf
