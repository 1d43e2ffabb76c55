-- The number of the kind and the number, if there is one, tell what a predicate asks.
use Rattle.std.proofs.Common.{◌≡◌, ◌∙◌, ℕ, ap, refl, sym}
use Rattle.cfgx_fields.specs.declared.atomic.HasAtomic.TheVariants.{IntegerSize, Pointer}
use Rattle.cfgx_fields.specs.declared.endian.Endian.TheVariants.{big, little}
use Rattle.cfgx_fields.specs.declared.text_key.TextKey.TheVariants as key
use Rattle.cfgx_parser.specs.Asked.{asked_number, asked_numbered, kind_number}
use Rattle.cfgx_parser.specs.declared.asked.Asked.{Asked}
use Rattle.cfgx_parser.specs.declared.asked.Asked.TheVariants as asked
use Rattle.cfgx_parser.specs.declared.asked.AskedTarget.TheVariants as target

pub numbered-same : (one : Asked) → asked_numbered (kind_number one) (asked_number one) ≡ one
numbered-same asked.Flag = refl
numbered-same asked.KeyValue = refl
numbered-same asked.Test = refl
numbered-same asked.DebugAssertions = refl
numbered-same asked.ProcMacro = refl
numbered-same asked.Feature = refl
numbered-same asked.TargetFeature = refl
numbered-same (asked.Target (target.Text key.Abi)) = refl
numbered-same (asked.Target (target.Text key.Arch)) = refl
numbered-same (asked.Target (target.Endian big)) = refl
numbered-same (asked.Target (target.Endian little)) = refl
numbered-same (asked.Target (target.Text key.Env)) = refl
numbered-same (asked.Target (target.Text key.Family)) = refl
numbered-same (asked.Target (target.HasAtomic (IntegerSize bits))) = refl
numbered-same (asked.Target (target.HasAtomic Pointer)) = refl
numbered-same (asked.Target (target.Text key.Os)) = refl
numbered-same (asked.Target (target.Text key.Panic)) = refl
numbered-same (asked.Target (target.PointerWidth bits)) = refl
numbered-same (asked.Target (target.Text key.Vendor)) = refl

pub same_asked : (one other : Asked) → kind_number one ≡ kind_number other
    → asked_number one ≡ asked_number other → one ≡ other
same_asked one other kind_is number_is =
    sym (numbered-same one) ∙ ap (λ (kind : ℕ). asked_numbered kind (asked_number one)) kind_is
    ∙ ap (asked_numbered (kind_number other)) number_is ∙ numbered-same other
