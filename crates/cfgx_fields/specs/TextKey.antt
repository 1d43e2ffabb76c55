-- The keys of a target whose value is any text.
-- Source: the Rust Reference, conditional compilation; `impl TargetMatcher for TargetInfo` in the
-- documentation of `cfg-expr` 0.20.10 for a target without a key.
use Rattle.std.specs.Prelude.{ℕ, List, codes, Option, Some, None}
use Rattle.cfgx_fields.specs.declared.text_key.TextKey.{TextKey}
use Rattle.cfgx_fields.specs.declared.text_key.TextKey.TheVariants as key

abbrev pub key_name : TextKey → List ℕ
key_name key.Abi = codes "target_abi"
key_name key.Arch = codes "target_arch"
key_name key.Env = codes "target_env"
key_name key.Family = codes "target_family"
key_name key.Os = codes "target_os"
key_name key.Panic = codes "panic"
key_name key.Vendor = codes "target_vendor"

-- the text of a target without this key, if a target may be without it
abbrev pub text_if_missing : TextKey → Option (List ℕ)
text_if_missing key.Abi = Some (codes "")
text_if_missing key.Env = Some (codes "")
text_if_missing key.Os = Some (codes "none")
text_if_missing key.Vendor = Some (codes "unknown")
text_if_missing _ = None
