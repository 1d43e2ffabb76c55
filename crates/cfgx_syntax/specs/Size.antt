-- The size of a type in memory, in bytes.
use Rattle.std.specs.{Prelude.◌^◌, Prelude.◌≤◌, Mem.type_size, Align.type_align}
use denote.RattleType.{RattleType}

-- the size and the alignment of the type are at most 2 ^ 32 bytes
abbrev pub IsSmall : RattleType → Type 0
IsSmall R = (type_size R ≤ 2 ^ 32) × (type_align R ≤ 2 ^ 32)
